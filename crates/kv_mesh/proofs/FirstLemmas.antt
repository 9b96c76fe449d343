-- The first stamp lies above all stores.
use Rattle.std.proofs.Common.{◌≡◌, ℕ, zero, suc, ◌+◌, ◌-◌, ◌^◌, ◌<◌, ◌≤◌, List, [], ◌∷◌, length}
use Rattle.std.proofs.Common.{get_or, All, arith}
use Rattle.std.proofs.lemmas.List.{get_or_default}
use Rattle.kv_disk.specs.declared.disk.Disk as disks
use Rattle.kv_groups.specs.Gathering.{greatest}
use Rattle.kv_index.specs.declared.index.Index as indexes
use Rattle.kv_recover.specs.declared.opening.Opened.{Opened}
use Rattle.kv_mesh.specs.Started.{AreStores, IsReady, IsStoreOf, floors}

module _ {D I : Type 0} where
  -- the greatest floor is below what all floors are below
  pub greatest-below : (stores : List (Opened D I)) (bound : ℕ) → 0 < bound
      → All (λ opened. opened.floor < bound) stores → greatest (floors stores) < bound
  greatest-below [] bound some h = some
  greatest-below (opened ∷ stores) bound some h =
      let head : opened.floor < bound = h zero opened (omega arith) in
      let tail = greatest-below stores bound some (λ k d lt. h (suc k) d (omega (arith, lt))) in
      omega (arith, head, tail)

  -- each floor is at most the greatest
  pub greatest-above : (stores : List (Opened D I)) (k : ℕ) (d : Opened D I) → k < length stores
      → (get_or stores k d).floor ≤ greatest (floors stores)
  greatest-above [] k d lt = absurd (omega (arith, lt))
  greatest-above (opened ∷ stores) zero d lt = omega arith
  greatest-above (opened ∷ stores) (suc k) d lt =
      let rest = greatest-above stores k d (omega (arith, lt)) in omega (arith, rest)

  module _ (d : disks.Ghosts D) (i : indexes.Ghosts I) (stores : List (Opened D I))
      (are : AreStores d i stores) where
    store-at : (k : ℕ) (o : Opened D I) → k < length stores
        → IsStoreOf d i (length stores) are.slots k (get_or stores k o)
    store-at k o lt = are.each k (get_or stores k o)
        (lt, get_or_default stores k o (get_or stores k o) lt)

    -- a stamp is left above each floor
    pub all-spare : All (λ opened. opened.floor < 2 ^ 62 - 1) stores
    all-spare = λ k o lt. (store-at k o lt).is_opened.spare

    -- the stores are ready for a first stamp above all floors
    pub all-ready : (start : ℕ) → All (λ opened. opened.floor < start) stores
        → All (IsReady d i start) stores
    all-ready start above = λ k o lt. record {
      is_opened = (store-at k o lt).is_opened;
      below = above k o lt;
    }

-- the first stamp is one
pub starts-within : (start first floor : ℕ) → start ≡ first → first ≡ floor + 1 → first < 2 ^ 62
    → (1 ≤ start) × (start ≤ 2 ^ 62)
starts-within start first floor e is limit = (omega (arith, e, is), omega (arith, e, limit))
