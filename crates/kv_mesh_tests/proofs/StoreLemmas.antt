-- A store more is opened.
use Rattle.std.proofs.Common.{◌≡◌, ◌⊎◌, inl, inr, ℕ, zero, suc, List, [], ◌∷◌, ◌++◌}
use Rattle.std.proofs.Common.{length, refl, sym, ap, ◌∙◌, subst, subst₂, arith}
use Rattle.kv_disk.specs.declared.disk.Disk as disks
use Rattle.kv_index.specs.declared.index.Index as indexes
use Rattle.kv_mesh.specs.Places.{IsAt}
use Rattle.kv_mesh.specs.Started.{AreStores, IsStoreOf}
use Rattle.kv_recover.specs.declared.opening.Opened.{Opened}
use Rattle.kv_mesh_tests.specs.Stores.{EachIsStore}

-- an element of a list with one more at its end stands before, or is that one
at-more : {X : Type 0} (xs : List X) (x y : X) (i : ℕ) → IsAt (xs ++ x ∷ []) i y
    → IsAt xs i y ⊎ ((i ≡ length xs) × (x ≡ y))
at-more [] x y zero at = inr (refl, sym at.1)
at-more [] x y (suc i) at = absurd (omega (arith, at.0))
at-more (z ∷ zs) x y zero at = inl (omega arith, at.1)
at-more (z ∷ zs) x y (suc i) at = elim (at-more zs x y i (omega (arith, at.0), at.1)) [
  | inl here ↦ inl (omega (arith, here.0), here.1)
  | inr last ↦ inr (ap suc last.0, last.1)
]

module _ {D I : Type 0} {d : disks.Ghosts D} {i : indexes.Ghosts I} where
  -- one store more
  pub each-more : {workers last : ℕ} (stores news : List (Opened D I)) (opened : Opened D I)
      → news ≡ stores ++ opened ∷ [] → last ≡ length stores
      → IsStoreOf d i workers 64 last opened → EachIsStore d i workers stores
      → EachIsStore d i workers news
  each-more {workers} stores news opened is last_is one each =
      subst (EachIsStore d i workers) (sym is)
      (λ worker store at. elim (at-more stores opened store worker at) [
        | inl here ↦ each worker store here
        | inr end ↦ subst₂ (IsStoreOf d i workers 64) (last_is ∙ sym end.0) end.1 one
      ])

  -- no store yet
  pub each-none : {workers : ℕ} (stores : List (Opened D I)) → stores ≡ []
      → EachIsStore d i workers stores
  each-none stores none worker opened at = absurd (omega (arith, at.0, ap length none))

  -- all stores
  pub are-stores : {workers : ℕ} (stores : List (Opened D I)) → length stores ≡ workers
      → EachIsStore d i workers stores → AreStores d i stores
  are-stores stores many each = record {
    slots = 64;
    each = λ worker opened at. subst (λ n. IsStoreOf d i n 64 worker opened) (sym many)
        (each worker opened at);
  }
