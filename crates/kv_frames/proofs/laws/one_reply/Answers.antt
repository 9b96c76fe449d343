use Rattle.kv_frames.proofs.ReplyLemmas.{reply_once}
use Rattle.kv_frames.proofs.laws.one_reply.Goals as goal

pub returns : goal.returns
returns c = reply_once
