-- Laws of folds: any order gives one state, a result is the fold of the plain list, sums of what a
-- store can hold don't wrap, and the first items are the longest prefix.
use Rattle.std.specs.Prelude.{◌≡◌, ℕ, ◌+◌, ◌^◌, ◌<◌, ◌≤◌, ◌↔◌, List, [], ◌∷◌, ◌++◌, length, ⊤}
use Rattle.std.specs.Prelude.{Contains, None}
use Rattle.std.specs.List.{sum_by}
use Rattle.std.specs.FinMap.{entries, find, from_entries}
use Rattle.kv_model.specs.Fold.{KeyValue, FoldKind, total_of, item_size, longest_prefix}
use Rattle.kv_fold.specs.Bags.{Bag, order, IsGood}
use Rattle.kv_fold.specs.States.{State, state_of, state_result, IsResult}

-- each key stands once
abbrev pub HasDistinctKeys : List KeyValue → Type 0
HasDistinctKeys [] = ⊤
HasDistinctKeys (item ∷ items) = (find order item.0 items ≡ None) × HasDistinctKeys items

-- lists of the same items with distinct keys are one bag, whatever the order in which the items are
-- added, and so have one state
abbrev pub OrderIsFree : Type 0
OrderIsFree = (kind : FoldKind) (items more : List KeyValue) → HasDistinctKeys items
    → HasDistinctKeys more → ((item : KeyValue) → Contains items item ↔ Contains more item)
    → state_of kind (from_entries items) ≡ state_of kind (from_entries more)

-- what a state answers is the fold of the plain list of any bag that it stands for
abbrev pub ResultsAreFolds : Type 0
ResultsAreFolds = (state : State) → IsResult state (state_result state)

-- no sum over a good bag wraps
abbrev pub TotalsFit : Type 0
TotalsFit = (kind : FoldKind) (bag : Bag) → IsGood bag → total_of kind (entries bag) < 2 ^ 64

-- the front is the longest prefix of at most so many items that have at most so many bytes
pub record IsLongest (most room : ℕ) (items front : List KeyValue) : Type 0 where
  pub tail : List KeyValue
  pub parts : items ≡ front ++ tail
  pub few : length front ≤ most
  pub small : sum_by item_size front ≤ room
  pub longest : (item : KeyValue) (later : List KeyValue) → items ≡ front ++ item ∷ later
      → length front + 1 ≤ most → sum_by item_size front + item_size item ≤ room → ⊥

-- the prefix that is taken is the longest one that fits
abbrev pub TakesLongest : Type 0
TakesLongest = (most room : ℕ) (items : List KeyValue)
    → IsLongest most room items (longest_prefix most room items)
