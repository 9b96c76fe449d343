-- The slots of one more class.
use Rattle.std.proofs.Common.{◌≡◌, ℕ, ◌+◌, ◌-◌, ap, sym, ◌∙◌, arith, subst, ◌^◌, ◌++◌, List}
use Rattle.std.specs.List.{flat_map, range_with_len}
use Rattle.kv_base.specs.declared.place.Place.{Place}
use Rattle.kv_model.specs.Plain.{places_in, places_of, AreBelow}
use Rattle.kv_model.proofs.ListedLemmas.{range-more, flat_map-more}
use Rattle.kv_model.proofs.ReaderLemmas.{places-below}
use Rattle.kv_model.proofs.image.places_of.Goals as goal

pub loop-class-preserved : goal.loop-class-preserved
loop-class-preserved c =
    let class = c.loop-class.class in
    let f = places_in c.args.ends.now in
    let one : (class - 1) + 1 ≡ class + 1 - 1 = omega arith in
    c.in_ok-push_places.ensures
    ∙ ap (λ (places : List Place). places ++ f class) c.loop-class.invariant
    ∙ sym (flat_map-more f (range_with_len 1 (class - 1)) class)
    ∙ ap (flat_map f) (sym (range-more 1 (class - 1) class (omega arith)))
    ∙ ap (λ (n : ℕ). flat_map f (range_with_len 1 n)) one

pub returns : goal.returns
returns c =
    let last : c.loop-class.class ≡ 12 = omega arith in
    let all : c.loop-class.places.items ≡ places_of c.args.ends.now =
    c.loop-class.invariant ∙ ap (λ (n : ℕ). flat_map (places_in c.args.ends.now)
    (range_with_len 1 (n - 1))) last in
    record {
      places = all;
      below = subst (AreBelow (2 ^ 24)) (sym all) (places-below c.args.ends.now c.requires);
    }
