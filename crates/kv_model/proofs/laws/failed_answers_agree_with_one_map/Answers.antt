-- the replies acknowledge nothing, and are ones that the map may give
use Rattle.std.proofs.Common.{[], ◌++◌, sym, subst, List}
use Rattle.kv_base.specs.declared.reply.Reply.{Reply}
use Rattle.kv_model.specs.Pairs.{writes}
use Rattle.kv_model.specs.Batch.{answers, failed_replies}
use Rattle.kv_model.specs.BatchLaws.{pairs_of}
use Rattle.kv_model.proofs.ReadingLemmas.{AllFrom}
use Rattle.kv_model.proofs.AnswersLemmas.{AreStamped-answers}
use Rattle.kv_model.proofs.WholeLemmas.{agrees-with-replies}
use Rattle.kv_model.proofs.FailedLemmas.{AreStamped-failed, writes-failed, failed-agree}
use Rattle.kv_model.proofs.laws.failed_answers_agree_with_one_map.Goals as goal

pub returns : goal.returns
returns c = λ told layout before floor pairs base start requests agrees same above below earlier
    ends good.
    let given : List Reply = answers start [] base requests in
    let failed : List Reply = failed_replies base requests given in
    agrees-with-replies told layout before floor pairs base requests failed agrees above below
    earlier ends
    (AreStamped-failed requests given base (AreStamped-answers requests start [] base))
    (subst (AllFrom base) (sym (writes-failed requests given base)) tt)
    (failed-agree requests told layout start []
    ((before ++ writes pairs) ++ writes (pairs_of requests failed)) base same good)
