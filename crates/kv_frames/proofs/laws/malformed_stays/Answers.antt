use Rattle.kv_frames.proofs.StreamLemmas.{malformed_append}
use Rattle.kv_frames.proofs.laws.malformed_stays.Goals as goal

pub returns : goal.returns
returns c = malformed_append
