-- The lines of a mesh: a row for each session, and a column for each worker.
use Rattle.std.specs.Prelude.{◌≡◌, ℕ, List, [], ◌∷◌, ◌++◌, map, Option, Some, All, ◌<◌, length}
use Rattle.std.specs.Prelude.{slice_index_or}
use Rattle.kv_ring.specs.Lines.{Line, line_of, other_side, IsNew}
use Rattle.kv_ring.specs.Ends.{refusals, AreBetween}
use Rattle.kv_ring.specs.declared.ends.Ends.{Ends}

-- each list with the item at its place behind it
abbrev pub beside : {X : Type 0} → List (List X) → List X → List (List X)
beside [] ys = []
beside (xs ∷ lists) [] = xs ∷ lists
beside (xs ∷ lists) (y ∷ ys) = (xs ++ y ∷ []) ∷ beside lists ys

module _ {S R : Type 0} {most : ℕ} where
  -- the rings of these ends, as the other parties have them
  abbrev pub turned_lines : Ends S R most → List (Option Line)
  turned_lines ends = map (λ end. Some (other_side (line_of end))) ends.ends.items

  -- nothing was sent, received or handed back
  pub record HasNew (ends : Ends S R most) : Type 0 where
    pub all : All IsNew ends.ends.items
    pub refusals : refusals ends ≡ 0

module _ {S R : Type 0} {most limit : ℕ} where
  -- these are the rings between each session and each worker, by their numbers
  abbrev pub AreMesh : List (Ends S R most) → List (Ends R S limit) → Type 0
  AreMesh sessions workers = (session worker : ℕ) (near : Ends S R most) (far : Ends R S limit)
      → session < length sessions → worker < length workers
      → AreBetween (slice_index_or sessions session near) session
      (slice_index_or workers worker far) worker
