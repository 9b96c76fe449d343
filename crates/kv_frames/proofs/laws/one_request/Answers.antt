use Rattle.kv_frames.proofs.RequestLemmas.{request_once}
use Rattle.kv_frames.proofs.laws.one_request.Goals as goal

pub returns : goal.returns
returns c = request_once
