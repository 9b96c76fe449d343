-- a reply without a stamp stands for no write
use Rattle.kv_model.specs.Pairs.{acknowledged, unsure_by, stamp_of}
use Rattle.kv_model.proofs.RefusalLemmas.{kept-gives, stampless-acknowledges, stampless-unsure}
use Rattle.kv_model.proofs.laws.refusals_are_silent.Goals as goal

pub returns : goal.returns
returns c = record {
  stamped = λ told layout kept group among. kept-gives (λ pair. stamp_of pair.reply) told layout
      (λ pair none. none) group kept among;
  acknowledged = λ told layout kept group among. kept-gives acknowledged told layout
      (λ pair none. stampless-acknowledges pair.request pair.reply none) group kept among;
  unsure = λ told layout kept group among.
      kept-gives (λ pair. unsure_by pair.request pair.reply) told layout
      (λ pair none. stampless-unsure pair.request pair.reply none) group kept among;
}
