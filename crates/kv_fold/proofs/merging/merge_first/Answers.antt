use Rattle.std.proofs.Common.{refl}
use Rattle.kv_fold.proofs.KindLemmas.{other_kind}
use Rattle.kv_fold.proofs.KindLemmas.{not_first}
use Rattle.kv_fold.proofs.merging.merge_first.Goals as goal

pub returns-in_default : goal.returns-in_default
returns-in_default c = record {
  most = refl;
  other_kind = λ _. refl;
  kept =
      λ _. refl;
  ok = other_kind _ _ _
      (not_first c.args.fold.now.most c.args.other c.in_default.not-First);
}
