-- Choices for each number below a bound.
use Rattle.std.proofs.Common.{◌≡◌, ◌⊎◌, inl, inr, ⊎_elim, ℕ, zero, suc, ◌<◌, ◌≤◌, subst, arith}
use Rattle.std.proofs.Math.Logic.{∥∥₁_map, ∥∥₁_elim, ∥∥₁_prop}
use Rattle.std.proofs.lemmas.Grind.{merely}

-- where each of so many merely holds, all merely hold
choose : (n : ℕ) (P : ℕ → Type 0) → ((k : ℕ) → k < n → ∥ P k ∥₁)
    → ∥ ((k : ℕ) → k < n → P k) ∥₁
choose zero P each = merely (λ k lt. absurd (omega arith))
choose (suc n) P each =
    ∥∥₁_elim (choose n P (λ k lt. each k (omega (arith, lt)))) ∥∥₁_prop
    (λ (all : (k : ℕ) → k < n → P k). ∥∥₁_map (each n (omega arith)) (λ (last : P n) k lt.
    ⊎_elim (λ (less : k < n). all k less) (λ (e : n ≡ k). subst P e last)
    (let e : (k < n) ⊎ (n ≡ k) = grind arith in e)))

module _ {X : Type 0} (n : ℕ) (P : ℕ → X → Type 0) (some : 1 ≤ n)
    (all : (k : ℕ) → k < n → (x : X) × P k x) where
  abbrev by : (k : ℕ) → (k < n) ⊎ (n ≤ k) → X
  by k (inl lt) = (all k lt).0
  by k (inr le) = (all 0 some).0

  by-is : (k : ℕ) (o : (k < n) ⊎ (n ≤ k)) → k < n → P k (by k o)
  by-is k (inl lt) less = (all k lt).1
  by-is k (inr le) less = absurd (omega (arith, le, less))

  decide : (k : ℕ) → (k < n) ⊎ (n ≤ k)
  decide k = grind arith

  pub chosen : (f : ℕ → X) × ((k : ℕ) → k < n → P k (f k))
  chosen = (λ k. by k (decide k), λ k lt. by-is k (decide k) lt)

-- for each of so many there is one, and so there is one for each number
pub choose-each : {X : Type 0} (n : ℕ) (P : ℕ → X → Type 0) → 1 ≤ n
    → ((k : ℕ) → k < n → ∥ ((x : X) × P k x) ∥₁)
    → ∥ ((f : ℕ → X) × ((k : ℕ) → k < n → P k (f k))) ∥₁
choose-each {X = X} n P some each =
    ∥∥₁_map (choose n (λ k. (x : X) × P k x) each) (λ all. chosen n P some all)
