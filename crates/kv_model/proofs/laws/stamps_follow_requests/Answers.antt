-- by induction over the batch
use Rattle.std.proofs.Common.{[]}
use Rattle.kv_model.proofs.AnswersLemmas.{length-answers, AreStamped-answers}
use Rattle.kv_model.proofs.laws.stamps_follow_requests.Goals as goal

pub returns : goal.returns
returns c = λ start base requests. (
  length-answers requests start [] base,
  AreStamped-answers requests start [] base,
)
