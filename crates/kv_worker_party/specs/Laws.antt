-- The laws that a party's promise stands on.
use Rattle.kv_model.specs.BatchLaws.{StampsFollowRequests, StoreFollowsHistory, ToldAnswersAgree}
use Rattle.kv_model.specs.BatchLaws.{FailedAnswersAgree, FailedAreUnsure}
use Rattle.kv_model.specs.RunLaws.{RefusalsAgree, RefusalsAreSilent, PrefixesStay}

-- what the definitions have of a batch behind others, whatever these are
pub record PartyLaws : Type 0 where
  pub stamps : StampsFollowRequests
  pub follows : StoreFollowsHistory
  pub agree : ToldAnswersAgree
  pub failed_agree : FailedAnswersAgree
  pub failed : FailedAreUnsure
  pub refusals_agree : RefusalsAgree
  pub refusals : RefusalsAreSilent
  pub prefixes : PrefixesStay
