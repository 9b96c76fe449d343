-- How the oracle looks for the next item of a range.
use Rattle.std.specs.Prelude.{◌≡◌, ◌↔◌, ℕ, List, Option, None, Some, Bool, true, false, IsTrue}
use Rattle.std.specs.Prelude.{IsSome}
use Rattle.std.specs.Prelude.{Contains, MatchOption}
use Rattle.std.specs.List.{AllByRecursion}
use Rattle.std.specs.Ordering.{nat_cmp, is_le, is_lt}
use Rattle.std.specs.Cmp.Lexicographic.{slice_cmp}
use Rattle.kv_model.specs.Pairwise.{Pairwise}
use Rattle.kv_model.specs.History.{Write, value_at}
use Rattle.kv_model.specs.Items.{KeyValue, IsLess, is_in_range}

-- what is looked for: an item of the history at the stamp, in the range, with a key behind the last
-- one that was found
pub record Lookup : Type 0 where
  pub history : List Write
  pub stamp : ℕ
  pub low : List ℕ
  pub high : List ℕ
  pub last : Option (List ℕ)

-- the key is behind the last one
abbrev pub is_behind : Option (List ℕ) → List ℕ → Bool
is_behind None key = true
is_behind (Some last) key = is_lt (slice_cmp nat_cmp last key)

-- there is an item, with this key or a lesser one
abbrev pub is_up_to : Option KeyValue → List ℕ → Bool
is_up_to None key = false
is_up_to (Some item) key = is_le (slice_cmp nat_cmp item.0 key)

-- the first key is at or before the second
abbrev pub IsAtMost : List ℕ → List ℕ → Type 0
IsAtMost key other = IsTrue (is_le (slice_cmp nat_cmp key other))

-- the key is looked for
pub record IsWanted (lookup : Lookup) (key : List ℕ) : Type 0 where
  pub inside : IsTrue (is_in_range lookup.low lookup.high key)
  pub behind : IsTrue (is_behind lookup.last key)
  pub has : IsSome (value_at lookup.history lookup.stamp key)

-- the item has the least key that is looked for among those of the writes
pub record IsLeastOf (lookup : Lookup) (writes : List Write) (item : KeyValue) : Type 0 where
  pub wanted : IsWanted lookup item.0
  pub value : value_at lookup.history lookup.stamp item.0 ≡ Some item.1
  pub least : AllByRecursion (λ write. IsWanted lookup write.key → IsAtMost item.0 write.key) writes

-- the next item as far as these writes tell, or none
abbrev pub IsNext : Lookup → List Write → Option KeyValue → Type 0
IsNext lookup writes next = MatchOption next
    (AllByRecursion (λ write. IsWanted lookup write.key → ⊥) writes) (IsLeastOf lookup writes)

-- the key isn't behind the last one that was found
abbrev pub IsPassed : Option (List ℕ) → List ℕ → Type 0
IsPassed None key = ⊥
IsPassed (Some last) key = IsAtMost key last

-- the items of the range up to the last key, by rising key
pub record AreItemsSoFar (lookup : Lookup) (items : List KeyValue) : Type 0 where
  pub rising : Pairwise (λ item next. IsLess item.0 next.0) items
  pub each : (item : KeyValue) → Contains items item ↔ (IsTrue (is_in_range lookup.low lookup.high
      item.0) × (value_at lookup.history lookup.stamp item.0 ≡ Some item.1)
      × IsPassed lookup.last item.0)
