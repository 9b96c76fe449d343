use Rattle.std.proofs.Common.{◌≡◌, ◌+◌, replicate, vec_len}
use Rattle.kv_site.specs.FilePages.{just_opened}
use Rattle.kv_site.proofs.folder.open_files.Given as goal

abbrev pub invariant-loop-number : goal.invariant-loop-number
invariant-loop-number l = record {
  opened : l.files.items ≡ replicate l.number-counter just_opened;
  length : vec_len l.files ≡ vec_len l.fn.files + l.number-counter;
}
