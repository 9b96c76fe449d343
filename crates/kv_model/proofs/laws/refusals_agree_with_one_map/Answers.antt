-- refusals are the map's whatever its history is
use Rattle.std.proofs.Common.{sym}
use Rattle.kv_model.specs.Pairs.{acknowledged, stamp_of}
use Rattle.kv_model.proofs.ToldLemmas.{agrees-as}
use Rattle.kv_model.proofs.RefusalLemmas.{kept-gives, refusals-answer, stampless-acknowledges}
use Rattle.kv_model.proofs.laws.refusals_agree_with_one_map.Goals as goal

pub returns : goal.returns
returns c = λ told layout before floor pairs kept group among agrees.
    agrees-as told layout before floor pairs kept group
    (sym (kept-gives (λ pair. stamp_of pair.reply) told layout (λ pair none. none) group kept
    among))
    (sym (kept-gives acknowledged told layout
    (λ pair none. stampless-acknowledges pair.request pair.reply none) group kept among))
    (λ history all. refusals-answer told layout history group kept among all) agrees
