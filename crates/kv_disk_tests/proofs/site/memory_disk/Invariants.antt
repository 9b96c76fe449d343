use Rattle.std.proofs.Common.{◌≡◌, vec_len}
use Rattle.kv_disk_tests.proofs.site.memory_disk.Given as goal

abbrev pub invariant-loop-number : goal.invariant-loop-number
invariant-loop-number l = vec_len l.files ≡ l.number
