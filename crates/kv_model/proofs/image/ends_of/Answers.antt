-- One more class has its end.
use Rattle.std.proofs.Common.{ℕ, ◌≡◌, ◌≢◌, ◌<◌, ◌≤◌, inl, inr, arith, subst, sym, length, ap, ◌∙◌}
use Rattle.std.proofs.Common.{get_or-set_same, get_or-set_other}
use Rattle.std.proofs.lemmas.Bool.{cases_eq}
use Rattle.std.proofs.lemmas.List.{length-set}
use Rattle.kv_model.specs.Plain.{image_of, IsEnd}
use Rattle.kv_model.proofs.image.ends_of.Goals as goal

pub loop-class-preserved : goal.loop-class-preserved
loop-class-preserved c =
    let ends = c.loop-class.ends in
    let end = c.in_ok-ends.field-0 in
    let room : c.loop-class.class < length ends = omega arith in
    record {
      size = length-set ends c.loop-class.class end ∙ c.loop-class.invariant.size;
      ends = λ class low below. elim (cases_eq class c.loop-class.class) [
        | inl same ↦ subst (λ (k : ℕ). IsEnd (image_of c.args.pages.now) k
            (Rattle.std.proofs.Common.get_or (Rattle.std.proofs.Common.set ends c.loop-class.class
            end) k 0)) (sym same) (subst (IsEnd (image_of c.args.pages.now) c.loop-class.class)
            (sym (get_or-set_same ends c.loop-class.class end 0 room)) c.in_ok-ends.ensures.end)
        | inr other ↦ subst (IsEnd (image_of c.args.pages.now) class)
            (sym (get_or-set_other ends c.loop-class.class class end 0 other))
            (c.loop-class.invariant.ends class low (omega arith))
      ];
      range = λ class. elim (cases_eq class c.loop-class.class) [
        | inl same ↦ subst (λ (k : ℕ). Rattle.std.proofs.Common.get_or
            (Rattle.std.proofs.Common.set ends c.loop-class.class end) k 0 ≤ 4194304) (sym same)
            (subst (λ (n : ℕ). n ≤ 4194304) (sym (get_or-set_same ends c.loop-class.class end 0
            room)) c.in_ok-ends.ensures.range)
        | inr other ↦ subst (λ (n : ℕ). n ≤ 4194304)
            (sym (get_or-set_other ends c.loop-class.class class end 0 other))
            (c.loop-class.invariant.range class)
      ];
    }
