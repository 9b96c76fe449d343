-- What all parties serve, and who owns what of it.
use Rattle.std.specs.Prelude.{◌≡◌, ℕ, Bool, false, Option, None, Some, List, nat_eq, IsSomeAnd}
use Rattle.std.specs.Prelude.{filter}
use Rattle.kv_base.specs.Partition.{owner_of}
use Rattle.kv_base.specs.declared.request.Request.{Request}
use Rattle.kv_model.specs.History.{Write}
use Rattle.kv_model.specs.Layout.{Layout}
use Rattle.kv_model.specs.Pairs.{Pair, key_of}

-- the store: whether its disks tell their content, the layout, how many slots a class has at most,
-- the greatest floor of all disks, and how many sessions and workers there are
pub record Setting : Type 0 where
  pub told : Bool
  pub layout : Layout
  pub slots : ℕ
  pub floor : ℕ
  pub sessions : ℕ
  pub workers : ℕ

-- the request is about a key that the worker, of so many, owns
abbrev pub IsOwned : ℕ → ℕ → Request → Type 0
IsOwned workers worker request = IsSomeAnd (key_of request) (λ key. owner_of key workers ≡ worker)

-- the worker, of so many, owns the key, if there is one
abbrev pub owns : ℕ → ℕ → Option (List ℕ) → Bool
owns workers worker None = false
owns workers worker (Some key) = nat_eq (owner_of key workers) worker

-- the pairs about a key that the worker, of so many, owns
abbrev pub owned_pairs : ℕ → ℕ → List Pair → List Pair
owned_pairs workers worker pairs = filter (λ pair. owns workers worker (key_of pair.request)) pairs

-- the writes of a key that the worker, of so many, owns
abbrev pub owned_writes : ℕ → ℕ → List Write → List Write
owned_writes workers worker writes =
    filter (λ write. nat_eq (owner_of write.key workers) worker) writes
