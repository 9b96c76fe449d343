-- Both readings split the same bytes.
use Rattle.std.proofs.Common.{[], sym, ◌∙◌}
use Rattle.kv_frames.proofs.StreamLemmas.{split_once, pieces_split, nothing_begins_none}
use Rattle.kv_frames.proofs.laws.one_reading.Goals as goal

pub returns : goal.returns
returns c = λ pieces others requests alike rest behind same p q.
    let first = pieces_split pieces [] requests rest nothing_begins_none p in
    let second = pieces_split others [] alike behind nothing_begins_none q in
    split_once requests alike rest behind first.0.each second.0.each (sym first.0.parts ∙ same
    ∙ second.0.parts) first.1 second.1
