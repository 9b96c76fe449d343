-- What is left and what is read so far are those after the calls so far.
use Rattle.std.proofs.Common.{◌≡◌, ◌<◌, take, vec_len}
use Rattle.kv_disk.specs.Replay.{left_in}
use Rattle.kv_disk.proofs.replay.left_after.Given as goal

abbrev pub invariant-loop-call : goal.invariant-loop-call
invariant-loop-call l = record {
  contents : l.left.items ≡ (left_in l.start (take l.call-index l.log) l.file l.page).contents;
  seen : l.seen ≡ (left_in l.start (take l.call-index l.log) l.file l.page).seen;
  some : 0 < vec_len l.left;
}
