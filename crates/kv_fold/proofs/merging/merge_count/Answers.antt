use Rattle.std.proofs.Common.{refl}
use Rattle.kv_fold.proofs.KindLemmas.{other_kind}
use Rattle.kv_fold.proofs.KindLemmas.{not_count}
use Rattle.kv_fold.proofs.merging.merge_count.Goals as goal

pub returns-in_default : goal.returns-in_default
returns-in_default c = record {
  sure = refl;
  kept = λ _. refl;
  ok = other_kind _ _ _
      (not_count c.args.other c.in_default.not-Count);
}
