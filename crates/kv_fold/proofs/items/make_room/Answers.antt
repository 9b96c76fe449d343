use Rattle.std.proofs.Common.{◌≡◌, ◌+◌, ◌≤◌, ℕ, length, ap, ◌∙◌, arith}
use Rattle.std.specs.List.{sum_by}
use Rattle.kv_model.specs.Fold.{item_size, most_bytes}
use Rattle.kv_fold.specs.Bags.{order}
use Rattle.kv_fold.specs.States.{prefix}
use Rattle.kv_fold.specs.Prefixes.{trim}
use Rattle.kv_fold.specs.Places.{IsGap}
use Rattle.std.specs.FinMap.Entries.{put}
use Rattle.std.proofs.Common.{subst, ◌∷◌, [], length-append}
use Rattle.std.proofs.lemmas.List.Sums.{sum_by-append, sum_by-cons}
use Rattle.kv_fold.proofs.PlaceLemmas.{gap_pop, room_pop, room_none, room_fits, first_pop}
use Rattle.kv_fold.proofs.items.make_room.Goals as goal
use Rattle.kv_fold.proofs.items.make_room.Goals.{
  then-len-most,
  else-len-most+then-bytes-size-gt-MOST_BYTES,
}

pub returns-then-len-place-clause-value : goal.returns-then-len-place-clause-value
returns-then-len-place-clause-value c key value is gap =
    let inv = c.loop-items.invariant in
    let whole = c.loop-items.items.ok.0 in
    let large : length c.loop-items.items.items + 1 ≤ c.args.most
    → sum_by item_size c.loop-items.items.items + item_size (key, value) ≤ most_bytes → ⊥ =
    λ few small. elim c.if-len-most.branch [
      | then-len-most w ↦ omega arith
      | else-len-most+then-bytes-size-gt-MOST_BYTES w ↦ omega (arith, inv.first.counted)
    ] in
    inv.value key value is gap
    ∙ room_none key value c.loop-items.items.items c.args.place c.loop-items.cut c.args.most
    (inv.gap key gap)
    (omega arith) inv.first.few (omega (arith, inv.first.counted, inv.first.small)) large

pub loop-items-preserved : goal.loop-items-preserved
loop-items-preserved c =
    let inv = c.loop-items.invariant in
    let whole = c.loop-items.items.ok.0 in
    let rest = c.pop.new.self.ok.0 in
    let is = c.in-Some.ensures.items in
    let len = ap length is
    ∙ length-append c.pop.new.self.items ((c.in-Some.key, c.in-Some.value) ∷ []) in
    let sizes = ap (sum_by item_size) is
    ∙ sum_by-append item_size c.pop.new.self.items ((c.in-Some.key, c.in-Some.value) ∷ []) in
    let last = sum_by-cons item_size (c.in-Some.key, c.in-Some.value) [] in
    let le : c.args.place ≤ length c.pop.new.self.items = omega (arith, len) in
    let large : (size : ℕ) → size ≡ c.args.size → length c.pop.new.self.items + 2 ≤ c.args.most
    → sum_by item_size c.pop.new.self.items + item_size
    (c.in-Some.key, c.in-Some.value) + size ≤ most_bytes → ⊥ =
    λ size same few small. elim c.if-len-most.branch [
      | then-len-most w ↦ omega (arith, len)
      | else-len-most+then-bytes-size-gt-MOST_BYTES w ↦ omega
          (arith, inv.first.counted, sizes, last)
    ] in
    record {
      first =
          first_pop c.args.most c.loop-items.bytes _ c.loop-items.items.items _ _ is
          (omega arith) inv.first;
      place = omega arith;
      gap = λ key gap. gap_pop key _ _ _
          (subst (λ l. IsGap key l c.args.place) is (inv.gap key gap)) le;
      value =
          λ key value same gap.
          inv.value key value same gap
          ∙ ap (λ l. trim c.args.most most_bytes
          (prefix (put order key value l) c.loop-items.cut)) is
          ∙ room_pop key value c.pop.new.self.items (c.in-Some.key, c.in-Some.value) c.args.place
          c.loop-items.cut c.args.most
          (subst (λ l. IsGap key l c.args.place) is (inv.gap key gap)) le (large _ same);
    }

pub returns-clause-value : goal.returns-clause-value
returns-clause-value c key value is gap =
    let inv = c.loop-items.invariant in
    let whole = c.loop-items.items.ok.0 in
    inv.value key value is gap
    ∙ room_fits key value c.loop-items.items.items c.args.place c.loop-items.cut c.args.most
    (inv.gap key gap)
    (omega arith) (omega arith) (omega (arith, inv.first.counted))
