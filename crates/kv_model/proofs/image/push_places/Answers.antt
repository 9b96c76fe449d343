-- One more slot.
use Rattle.std.proofs.Common.{ap, sym, ◌∙◌, arith, append_assoc, [], ◌∷◌, ◌++◌, map}
use Rattle.std.specs.List.{range_with_len}
use Rattle.std.proofs.lemmas.List.FromFn.{map-range_with_len_more}
use Rattle.kv_model.specs.Plain.{place_at}
use Rattle.kv_model.proofs.image.push_places.Goals as goal

pub loop-slot-preserved : goal.loop-slot-preserved
loop-slot-preserved c =
    let n = c.loop-slot.slot in
    let before = c.args.places.now.items in
    c.in_ok-push.ensures.items
    ∙ ap (λ places. places ++ place_at c.args.class n ∷ []) c.loop-slot.invariant
    ∙ append_assoc before (map (place_at c.args.class) (range_with_len 0 n)) _
    ∙ ap (λ places. before ++ places)
    (sym (map-range_with_len_more (place_at c.args.class) 0 n n (omega arith)))
