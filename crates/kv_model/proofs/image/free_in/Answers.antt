-- One more slot may be free.
use Rattle.std.proofs.Common.{ℕ, ap, sym, ◌∙◌, not, filter, [], ◌∷◌, ◌++◌}
use Rattle.std.specs.List.{list_any}
use Rattle.kv_model.specs.Plain.{is_at}
use Rattle.kv_model.proofs.ListedLemmas.{filter-range-more}
use Rattle.kv_model.proofs.image.free_in.Goals as goal

pub loop-slot-preserved : goal.loop-slot-preserved
loop-slot-preserved c =
    let free = λ (slot : ℕ). not (list_any (is_at c.args.class slot) c.args.kept.now) in
    c.in_ok-push_free.ensures
    ∙ ap (λ slots. slots ++ filter free (c.loop-slot.slot ∷ [])) c.loop-slot.invariant
    ∙ sym (filter-range-more free c.loop-slot.slot)
