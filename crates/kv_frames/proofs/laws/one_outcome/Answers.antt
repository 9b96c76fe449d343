use Rattle.kv_frames.proofs.TranscriptLemmas.{outcomes_same}
use Rattle.kv_frames.proofs.laws.one_outcome.Goals as goal

pub returns : goal.returns
returns c = outcomes_same
