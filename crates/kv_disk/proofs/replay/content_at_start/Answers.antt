-- Past the last page there are zeros.
use Rattle.std.proofs.Common.{sym, ◌∙◌, arith}
use Rattle.std.proofs.lemmas.List.{at_drop_all}
use Rattle.kv_base.specs.Image.{zero_page}
use Rattle.kv_disk.specs.Replay.{start_of}
use Rattle.kv_disk.proofs.replay.content_at_start.Goals as goal

pub returns : goal.returns
unfolding zero_page
returns c =
    sym (at_drop_all (λ xs. start_of xs c.args.file c.args.page) c.args.start.now
    c.loop-held.held-index (omega arith)) ∙ c.loop-held.invariant
