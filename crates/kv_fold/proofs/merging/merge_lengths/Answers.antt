use Rattle.std.proofs.Common.{refl}
use Rattle.kv_fold.proofs.KindLemmas.{other_kind}
use Rattle.kv_fold.proofs.KindLemmas.{not_lengths}
use Rattle.kv_fold.proofs.merging.merge_lengths.Goals as goal

pub returns-in_default : goal.returns-in_default
returns-in_default c = record {
  sure = refl;
  kept = λ _. refl;
  ok = other_kind _ _ _
      (not_lengths c.args.other c.in_default.not-ValueLengths);
}
