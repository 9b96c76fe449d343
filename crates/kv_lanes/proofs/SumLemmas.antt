-- Sums of bytes by lanes.
use Rattle.std.proofs.Common.{◌≡◌, ℕ, ◌+◌, ◌-◌, ◌*◌, ◌<◌, ◌≤◌, List, [], ◌∷◌, length, get_or, take}
use Rattle.std.proofs.Common.{drop, replicate, sum, refl, sym, ap, ◌∙◌, subst, arith}
use Rattle.kv_lanes.proofs.LaneLemmas.{rest_is}
use Rattle.std.specs.Simd.Lanes.{zip2, chunk, dots, sum_l}
use Rattle.std.proofs.Math.Seq.{take-add}
use Rattle.std.proofs.lemmas.List.Sums.{sum_by-append, sum_by-take-drop, sum_by-cons}
use Rattle.std.proofs.lemmas.Simd.{length-chunk, length-zip2, sum-zip2, sum_dots, sum_by-ones}
use Rattle.std.proofs.lemmas.Simd.{sum_bound, Each1-from_get_or}

sum_is : (xs : List ℕ) → sum_l xs ≡ sum xs
sum_is [] = refl
sum_is (x ∷ xs) = ap (λ n. x + n) (sum_is xs) ∙ sym (sum_by-cons (λ y. y) x xs)

-- a sum of bytes is at most 255 for each
pub sum_le : (bytes : List ℕ) → ((k : ℕ) → get_or bytes k 0 < 256) → sum bytes ≤ 255 * length bytes
sum_le bytes below =
    omega (
      arith,
      sum_is bytes,
      sum_bound 255 bytes
          (Each1-from_get_or (λ a. a ≤ 255) bytes 0 (λ k lt. omega (arith, below k))),
    )

-- the front of a list adds up to no more than all of it
pub sum_front : (xs : List ℕ) (at : ℕ) → sum (take at xs) ≤ sum xs
sum_front xs at = omega (arith, sum_by-take-drop (λ x. x) xs at)

-- the front and a slice from there on are all
pub sum_parts : (xs : List ℕ) (at : ℕ)
    → sum (take at xs) + sum (take (length xs - at) (drop at xs)) ≡ sum xs
sum_parts xs at =
    ap (λ rest. sum (take at xs) + sum rest) (rest_is at xs) ∙ sum_by-take-drop (λ x. x) xs at

-- one more block of 64 bytes, by fours
pub one_more_sum : (lanes bytes : List ℕ) (at : ℕ) → at + 64 ≤ length bytes → length lanes ≡ 16
    → sum_l lanes ≡ sum (take at bytes)
    → let fours = dots (chunk at 64 bytes) (replicate 64 1) in
    (length (zip2 (λ a b. a + b) lanes fours) ≡ 16)
    × (sum_l (zip2 (λ a b. a + b) lanes fours) ≡ sum (take (at + 64) bytes))
    × (sum_l lanes + sum_l fours ≡ sum (take (at + 64) bytes))
one_more_sum lanes bytes at within long same =
    let block = chunk at 64 bytes in
    let fours = dots block (replicate 64 1) in
    let size : length block ≡ 64 = length-chunk at 64 bytes within in
    let by_fours = sum_dots 16 block (replicate 64 1) size refl in
    let ones : sum_l fours ≡ sum_l block =
    by_fours.0
    ∙ subst (λ n. sum_l (zip2 (λ x y. x * y) block (replicate n 1)) ≡ sum_l block) size
    (sum_by-ones block) in
    let sums : sum_l lanes + sum_l fours ≡ sum (take (at + 64) bytes) =
    omega (
      arith,
      ones,
      sum_is block,
      ap sum (take-add at 64 bytes),
      sum_by-append (λ x. x)
          (take at bytes) block,
    ) in
    let even : length lanes ≡ length fours = long ∙ sym by_fours.1 in
    (length-zip2 (λ a b. a + b) lanes fours even ∙ long, sum-zip2 lanes fours even ∙ sums, sums)
