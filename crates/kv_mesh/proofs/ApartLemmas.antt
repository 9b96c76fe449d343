-- Ranges that the workers drew.
use Rattle.std.proofs.Common.{◌≡◌, ◌≢◌, ◌⊎◌, ⊎_elim, inl, ℕ, zero, suc, ◌+◌, ◌^◌, ◌<◌, ◌≤◌, List}
use Rattle.std.proofs.Common.{[], ◌∷◌, ◌++◌, length, set, refl, sym, ap, ◌∙◌, arith}
use Rattle.std.proofs.lemmas.Bool.Decides.{nat_tests}
use Rattle.std.proofs.lemmas.List.{length-set}
use Rattle.std.proofs.lemmas.List.Sums.{sum_by-append, sum_by-cons}
use Rattle.kv_disk.specs.declared.disk.Disk as disks
use Rattle.kv_index.specs.declared.index.Index as indexes
use Rattle.kv_parties.specs.Rows.{sum_below}
use Rattle.kv_stamps.specs.Ranges.{range, within, among, below}
use Rattle.kv_stamps.specs.declared.view.Range.{Range}
use Rattle.kv_worker_party.specs.declared.party.WorkerParty.{WorkerParty}
use Rattle.kv_mesh.specs.Linked.{drawn_by, AreApart}
use Rattle.kv_mesh.specs.Moves.{DrawsBetween}
use Rattle.kv_mesh.specs.Places.{IsAt}
use Rattle.kv_mesh.proofs.PlaceLemmas.{pick, given-is, at-set-there, set-here}

-- sums of functions that give the same below the bound
pub sum-same : (n : ℕ) (f g : ℕ → ℕ) → ((k : ℕ) → k < n → g k ≡ f k)
    → sum_below n g ≡ sum_below n f
sum-same zero f g same = refl
sum-same (suc n) f g same =
    omega (arith, sum-same n f g (λ k lt. same k (omega (arith, lt))), same n (omega arith))

-- sums of functions that give the same but at one place
sum-one : (n i : ℕ) (f g : ℕ → ℕ) → i < n → ((k : ℕ) → k < n → i ≢ k → g k ≡ f k)
    → sum_below n g + f i ≡ sum_below n f + g i
sum-one zero i f g lt same = absurd (omega arith)
sum-one (suc n) i f g lt same = ⊎_elim
    (λ (e : i ≡ n).
    let fi : f i ≡ f n = ap f e in
    let gi : g i ≡ g n = ap g e in
    let rest = sum-same n f g (λ k less. same k (omega (arith, less))
    (λ is. absurd (omega (arith, e, is, less)))) in
    omega (arith, fi, gi, rest))
    (λ (ne : i ≢ n).
    let last = same n (omega arith) ne in
    let rest = sum-one n i f g (omega (arith, lt, ne))
    (λ k less. same k (omega (arith, less))) in
    omega (arith, last, rest))
    (let e : (i ≡ n) ⊎ (i ≢ n) = grind arith in e)

-- one more range, above all so far
among-more : (number base count : ℕ) (ranges : List Range)
    → among number (ranges ++ range base count ∷ [])
    ≡ among number ranges + within number (range base count)
among-more number base count ranges = omega (
  arith,
  sum_by-append (within number) ranges (range base count ∷ []),
  sum_by-cons (within number) (range base count) [],
)

below-grows : (number low high : ℕ) → low ≤ high → below number low ≤ below number high
below-grows number low high le = grind (arith, nat_tests)

below-fits : (number low base count high : ℕ) → low ≤ base → base + count ≤ high
    → below number low + within number (range base count) ≤ below number high
below-fits number low base count high le most = grind (arith, nat_tests)

pub below-once : (number high : ℕ) → below number high ≤ 1
below-once number high = grind (arith, nat_tests)

module _ {D I F : Type 0} {d : disks.Ghosts D} {i : indexes.Ghosts I} where
  pub drawn-is : (workers : List (WorkerParty D I F d i)) (k : ℕ) (party : WorkerParty D I F d i)
      → IsAt workers k party → drawn_by workers k ≡ party.seat.view.drawn
  drawn-is workers k party at =
      given-is (λ (p : WorkerParty D I F d i). p.seat.view.drawn) [] workers k party at

  -- the worker at one place was set to one that drew between the two numbers
  pub apart-set : (workers : List (WorkerParty D I F d i)) (start kept later k : ℕ)
      (old new : WorkerParty D I F d i) → IsAt workers k old
      → DrawsBetween kept later old.seat.view new.seat.view → AreApart workers start kept
      → AreApart (set workers k new) start later
  apart-set workers start kept later k old new at draws apart number =
      let f : ℕ → ℕ = λ w. among number (drawn_by workers w) in
      let g : ℕ → ℕ = λ w. among number (drawn_by (set workers k new) w) in
      let others : (w : ℕ) → w < length workers → k ≢ w → g w ≡ f w = λ w lt ne.
      let p = pick (set workers k new) w (omega (arith, length-set workers k new, lt)) in
      ap (among number) (drawn-is (set workers k new) w p.0 p.1
      ∙ sym (drawn-is workers w p.0 (at-set-there workers k w new p.0 ne p.1))) in
      let sums = sum-one (length workers) k f g at.0 others in
      let was : f k ≡ among number old.seat.view.drawn =
      ap (among number) (drawn-is workers k old at) in
      let now : g k ≡ among number new.seat.view.drawn =
      ap (among number) (drawn-is (set workers k new) k new (set-here workers k new at.0)) in
      let long : sum_below (length (set workers k new)) g ≡ sum_below (length workers) g =
      ap (λ n. sum_below n g) (length-set workers k new) in
      let before : sum_below (length workers) f + below number start ≤ below number kept =
      apart number in
      ⊎_elim
      (λ (same : new.seat.view.drawn ≡ old.seat.view.drawn).
      let drawn = ap (among number) same in
      let up = below-grows number kept later draws.up in
      omega (arith, sums, was, now, long, before, drawn, up))
      (λ (drew : (base : ℕ) × (count : ℕ) × (kept ≤ base) × (base + count ≤ later)
      × (new.seat.view.drawn ≡ old.seat.view.drawn ++ range base count ∷ [])).
      let drawn = ap (among number) drew.4
      ∙ among-more number drew.0 drew.1 old.seat.view.drawn in
      let up = below-fits number kept drew.0 drew.1 later drew.2 drew.3 in
      omega (arith, sums, was, now, long, before, drawn, up))
      draws.drawn

  -- the same where it drew nothing more
  pub apart-same : (workers : List (WorkerParty D I F d i)) (start kept k : ℕ)
      (old new : WorkerParty D I F d i) → IsAt workers k old
      → new.seat ≡ old.seat → kept ≤ 2 ^ 62 → AreApart workers start kept
      → AreApart (set workers k new) start kept
  apart-same workers start kept k old new at same limit apart =
      apart-set workers start kept kept k old new at (record {
        start = ap (λ seat. seat.view.start) same;
        up = omega arith;
        limit = limit;
        drawn = inl (ap (λ seat. seat.view.drawn) same);
      }) apart
