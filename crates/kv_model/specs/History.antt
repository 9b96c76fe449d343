-- The history of a store: a list of stamped writes in any order, and what a key has at a stamp.
use Rattle.std.specs.Prelude.{◌≡◌, ◌≢◌, ℕ, List, [], ◌∷◌, Option, None, Some, nat_le, ◌&&◌}
use Rattle.std.specs.Prelude.{if◌then◌else◌}
use Rattle.std.specs.Option.{option_and_then}
use Rattle.std.specs.Str.{bytes_eq}
use Rattle.kv_model.specs.Pairwise.{Pairwise}

-- at this stamp the key got this value, or was deleted
pub record Write : Type 0 where
  pub stamp : ℕ
  pub key : List ℕ
  pub value : Option (List ℕ)

-- the write with the greater stamp, and of equal stamps the first
abbrev pub later : Write → Write → Write
later write other = if nat_le other.stamp write.stamp then write else other

-- the write with the greater stamp, where there is a second
abbrev pub later_of : Write → Option Write → Write
later_of write None = write
later_of write (Some other) = later write other

-- the key's write with the greatest stamp not above the given one
abbrev pub latest : List Write → ℕ → List ℕ → Option Write
latest [] stamp key = None
latest (write ∷ writes) stamp key = if bytes_eq write.key key && nat_le write.stamp stamp
    then Some (later_of write (latest writes stamp key)) else latest writes stamp key

-- what the key has at the stamp
abbrev pub value_at : List Write → ℕ → List ℕ → Option (List ℕ)
value_at writes stamp key = option_and_then (λ write. write.value) (latest writes stamp key)

-- no two writes of one key have one stamp
abbrev pub IsHistory : List Write → Type 0
IsHistory writes = Pairwise (λ write other. write.key ≡ other.key
    → write.stamp ≢ other.stamp) writes
