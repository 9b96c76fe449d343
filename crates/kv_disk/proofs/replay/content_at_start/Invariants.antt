-- The pages that are left give the content.
use Rattle.std.proofs.Common.{◌≡◌, drop}
use Rattle.kv_disk.specs.Replay.{start_of}
use Rattle.kv_disk.proofs.replay.content_at_start.Given as goal

abbrev pub invariant-loop-held : goal.invariant-loop-held
invariant-loop-held l = start_of (drop l.held-index l.start) l.file l.page ≡ start_of l.start l.file
    l.page
