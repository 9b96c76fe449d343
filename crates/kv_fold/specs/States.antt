-- What a fold keeps of a bag, how one more item or another bag changes it, and what it answers.
use Rattle.std.specs.Prelude.{◌≡◌, ℕ, zero, suc, ◌-◌, ◌%◌, ◌^◌, List, [], ◌∷◌, Option, None, Some}
use Rattle.std.specs.Prelude.{Bool, true, false, nat_le, if◌then◌else◌}
use Rattle.std.specs.Int.{w64, to_le_bytes}
use Rattle.std.specs.FinMap.{get, insert, entries}
use Rattle.kv_model.specs.Fold.{KeyValue, FoldKind, Counting, AddingLengths, AddingBytes}
use Rattle.kv_model.specs.Fold.{TakingFirst, total_of, item_size, most_bytes, items_bytes}
use Rattle.kv_model.specs.Fold.{result_of}
use Rattle.kv_fold.specs.Bags.{Bag, AreApart, IsUnion}

-- the first items of a list that fit, and the key of the first that doesn't
pub record Prefix : Type 0 where
  pub items : List KeyValue
  pub cut : Option (List ℕ)

-- these items, cut at this key
abbrev pub prefix : List KeyValue → Option (List ℕ) → Prefix
prefix items cut = record { items = items; cut = cut }

-- no item, and none that doesn't fit
abbrev pub nothing : Prefix
nothing = prefix [] None

-- no item, as the one of this key doesn't fit
abbrev pub cut_at : List ℕ → Prefix
cut_at key = prefix [] (Some key)

-- the prefix with one more item in front
abbrev pub led_by : KeyValue → Prefix → Prefix
led_by item rest = record { items = item ∷ rest.items; cut = rest.cut }

-- the longest prefix of at most so many items that have at most so many bytes
abbrev pub prefix_of : ℕ → ℕ → List KeyValue → Prefix
prefix_of most room [] = nothing
prefix_of zero room (item ∷ items) = cut_at item.0
prefix_of (suc most) room (item ∷ items) = if nat_le (item_size item) room
    then led_by item (prefix_of most (room - item_size item) items) else cut_at item.0

-- the first items, where the fold is of the kind that takes them
abbrev pub first_of : FoldKind → List KeyValue → Prefix
first_of Counting items = nothing
first_of AddingLengths items = nothing
first_of AddingBytes items = nothing
first_of (TakingFirst most) items = prefix_of most most_bytes items

-- what a fold keeps: its kind, a sum modulo 2^64, and the first items with the least key that no
-- longer fitted
pub record State : Type 0 where
  pub kind : FoldKind
  pub total : ℕ
  pub first : Prefix

-- the state of a fold that keeps a sum alone
abbrev pub sum_state : FoldKind → ℕ → State
sum_state kind total = record { kind = kind; total = total; first = nothing }

-- the state of a fold that keeps the first items alone
abbrev pub first_state : ℕ → Prefix → State
first_state most first = record { kind = TakingFirst most; total = 0; first = first }

-- the state of a fold of this kind over the bag
unfoldable pub state_of : FoldKind → Bag → State
state_of kind bag = record {
  kind = kind;
  total = total_of kind (entries bag) % 2 ^ 64;
  first = first_of kind (entries bag);
}

-- where the state was that of a bag without the key, it is now that of the bag with this item
abbrev pub Adds : List ℕ → List ℕ → State → State → Type 0
Adds key value old new = (bag : Bag) → old ≡ state_of old.kind bag → get bag key ≡ None
    → new ≡ state_of old.kind (insert bag key value)

-- where the states were those of two bags that share no key, this is that of their union
abbrev pub Merges : State → State → State → Type 0
Merges old other new = (bag more all : Bag) → old ≡ state_of old.kind bag
    → other ≡ state_of old.kind more → AreApart bag more → IsUnion bag more all
    → new ≡ state_of old.kind all

-- the fold copies items, and so takes memory
abbrev pub takes_memory : FoldKind → Bool
takes_memory Counting = false
takes_memory AddingLengths = false
takes_memory AddingBytes = false
takes_memory (TakingFirst most) = true

-- the bytes that a fold of this kind answers from its sum and its first items
abbrev pub state_result_by : FoldKind → State → List ℕ
state_result_by Counting state = to_le_bytes w64 state.total
state_result_by AddingLengths state = to_le_bytes w64 state.total
state_result_by AddingBytes state = to_le_bytes w64 state.total
state_result_by (TakingFirst most) state = items_bytes state.first.items

-- the bytes that a fold with this state answers
abbrev pub state_result : State → List ℕ
state_result state = state_result_by state.kind state

-- where the state is that of a bag, the bytes are the fold of the list of its items by rising key
abbrev pub IsResult : State → List ℕ → Type 0
IsResult state bytes = (bag : Bag) → state ≡ state_of state.kind bag
    → bytes ≡ result_of state.kind (entries bag)
