-- All slots behind the last page are zeros.
use Rattle.std.proofs.Common.{ℕ, ◌*◌, ◌≤◌, inl, inr, arith, subst}
use Rattle.std.proofs.lemmas.Bool.{cases_lt}
use Rattle.kv_model.specs.Plain.{image_of}
use Rattle.kv_model.proofs.PlainLemmas.{past-zeros}
use Rattle.kv_model.proofs.image.end_of.Goals as goal

pub returns-clause-end : goal.returns-clause-end
returns-clause-end c = record {
  rest = λ slot from. elim (cases_lt slot c.loop-slot.slot) [
    | inl below ↦ c.loop-slot.invariant.rest slot from below
    | inr past ↦ past-zeros (image_of c.args.pages.now) c.args.class c.count_pages.result slot
        c.count_pages.ensures.rest (subst (λ (n : ℕ). c.count_pages.result * n ≤ slot)
        c.slots_in_page.ensures.value (omega arith))
  ];
  last = c.loop-slot.invariant.last;
}
