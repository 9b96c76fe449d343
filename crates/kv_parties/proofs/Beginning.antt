-- The items that all disks keep.
use Rattle.std.proofs.Common.{◌≡◌, ◌≢◌, ℕ, zero, suc, ◌<◌, ◌≤◌, List, [], ◌∷◌, ◌++◌, ⊎_elim, inl}
use Rattle.std.proofs.Common.{inr, refl, sym, ◌∙◌, ap, arith}
use Rattle.std.specs.List.{AllByRecursion}
use Rattle.kv_base.specs.Image.{Image}
use Rattle.kv_base.specs.Partition.{owner_of}
use Rattle.kv_model.specs.History.{Write}
use Rattle.kv_model.specs.Pairwise.{Pairwise}
use Rattle.kv_model.specs.Recovery.{AreKept}
use Rattle.kv_model.proofs.ContainsLemmas.{All-members}
use Rattle.kv_parties.specs.Rows.{row}
use Rattle.kv_parties.specs.Setting.{Setting}
use Rattle.kv_parties.specs.Begun.{IsBefore}
use Rattle.kv_parties.proofs.Lists.{In, All-In, In-All, In-append, In-row-back}

module _ {X : Type 0} (R : X → X → Type 0) where
  pairwise-append : (xs ys : List X) → Pairwise R xs → Pairwise R ys
      → ((x y : X) → In x xs → In y ys → R x y) → Pairwise R (xs ++ ys)
  pairwise-append [] ys first second across = second
  pairwise-append (x ∷ xs) ys first second across = (
    In-All (R x) (xs ++ ys) (λ y i. ⊎_elim (λ a. All-In (R x) y xs first.0 a)
        (λ b. across x y (inl refl) b) (In-append y xs ys i)),
    pairwise-append xs ys first.1 second (λ z y i j. across z y (inr i) j),
  )

  pairwise-each : (Q : X → X → Type 0) → ((x y : X) → Q x y → R x y) → (xs : List X)
      → Pairwise Q xs → Pairwise R xs
  pairwise-each Q f [] all = tt
  pairwise-each Q f (x ∷ xs) all =
      (In-All (R x) xs (λ y i. f x y (All-In (Q x) y xs all.0 i)), pairwise-each Q f xs all.1)

abbrev Differs : Write → Write → Type 0
Differs write other = write.key ≡ other.key → write.stamp ≢ other.stamp

module _ (setting : Setting) (before : ℕ → List Write) (images : ℕ → Image)
    (some : 1 ≤ setting.workers)
    (kept : (worker : ℕ) → worker < setting.workers
    → AreKept setting.layout (images worker) worker setting.workers (before worker)
    × AllByRecursion (λ write. write.stamp ≤ setting.floor) (before worker)) where
  owned : (w : ℕ) → w < setting.workers
      → AllByRecursion (λ write. owner_of write.key setting.workers ≡ w) (before w)
  owned w lt = All-members _ (before w) (λ write has. ((kept w lt).0.each write
      has).1.found.owned)

  distinct : (n : ℕ) → n ≤ setting.workers → Pairwise Differs (row n before)
  distinct zero le = tt
  distinct (suc n) le = pairwise-append Differs (row n before) (before n)
      (distinct n (omega (arith, le)))
      (pairwise-each Differs (λ write other. write.key ≢ other.key) (λ x y ne e. absurd (ne e))
      (before n) (kept n (omega (arith, le))).0.distinct)
      (λ x y i j same.
      let r = In-row-back x n before i in
      let lt : r.0 < setting.workers = omega (arith, r.1, le) in
      let his : owner_of x.key setting.workers ≡ r.0 =
      All-In (λ (z : Write). owner_of z.key setting.workers ≡ r.0) x (before r.0) (owned r.0
      lt) r.2 in
      let hers : owner_of y.key setting.workers ≡ n =
      All-In (λ (z : Write). owner_of z.key setting.workers ≡ n) y (before n)
      (owned n (omega (arith, le))) j in
      let one : r.0 ≡ n = sym his ∙ (ap (λ k. owner_of k setting.workers) same ∙ hers) in
      absurd (omega (arith, r.1, one)))

  pub begins : IsBefore setting before
  begins = record {
    history = distinct setting.workers (omega arith);
    low = In-All _ (row setting.workers before) (λ x i.
        let r = In-row-back x setting.workers before i in
        All-In (λ (z : Write). z.stamp ≤ setting.floor) x (before r.0) (kept r.0 r.1).1 r.2);
    owned = owned;
    some_worker = some;
  }
