use Rattle.std.proofs.Common.{sym, ◌∙◌}
use Rattle.kv_frames.proofs.StreamLemmas.{split_once}
use Rattle.kv_frames.proofs.laws.one_split.Goals as goal

pub returns : goal.returns
returns c = λ bytes requests others rest behind p q.
    split_once requests others rest behind p.0.each q.0.each (sym p.0.parts ∙ q.0.parts) p.1 q.1
