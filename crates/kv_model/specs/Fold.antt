-- What a scan answers: its fold over the items in its range, listed by rising key.
use Rattle.std.specs.Prelude.{ℕ, zero, suc, ◌+◌, ◌-◌, List, [], ◌∷◌, ◌++◌, length, sum, nat_le}
use Rattle.std.specs.Prelude.{if◌then◌else◌}
use Rattle.std.specs.List.{sum_by, flat_map}
use Rattle.std.specs.Int.{w16, w32, w64, to_le_bytes}
pub use Rattle.kv_model.specs.Items.{KeyValue}

-- which fold: the number of items, the sum of the value lengths, the sum of all value bytes, or the
-- first items, at most so many
pub data FoldKind : Type 0 where
  Counting : FoldKind
  AddingLengths : FoldKind
  AddingBytes : FoldKind
  TakingFirst : (most : ℕ) → FoldKind

-- the number or the sum that the fold answers; the fold that takes the first items has none
abbrev pub total_of : FoldKind → List KeyValue → ℕ
total_of Counting items = length items
total_of AddingLengths items = sum_by (λ item. length item.1) items
total_of AddingBytes items = sum_by (λ item. sum item.1) items
total_of (TakingFirst most) items = 0

-- the bytes that one item has in a result
abbrev pub item_size : KeyValue → ℕ
item_size item = 5 + length item.0 + length item.1

-- the most bytes that all items of one result have
abbrev pub most_bytes : ℕ
most_bytes = 60000

-- the longest prefix of at most so many items that have at most so many bytes
abbrev pub longest_prefix : ℕ → ℕ → List KeyValue → List KeyValue
longest_prefix most room [] = []
longest_prefix zero room (item ∷ items) = []
longest_prefix (suc most) room (item ∷ items) = if nat_le (item_size item) room
    then item ∷ longest_prefix most (room - item_size item) items else []

-- an item in a result: its key's length, its key, its value's length and its value
abbrev pub item_bytes : KeyValue → List ℕ
item_bytes item = length item.0 ∷ item.0 ++ to_le_bytes w32 (length item.1) ++ item.1

-- items in a result: how many they are, and each of them
abbrev pub items_bytes : List KeyValue → List ℕ
items_bytes items = to_le_bytes w16 (length items) ++ flat_map item_bytes items

-- the bytes that the fold answers for these items
abbrev pub result_of : FoldKind → List KeyValue → List ℕ
result_of Counting items = to_le_bytes w64 (total_of Counting items)
result_of AddingLengths items = to_le_bytes w64 (total_of AddingLengths items)
result_of AddingBytes items = to_le_bytes w64 (total_of AddingBytes items)
result_of (TakingFirst most) items = items_bytes (longest_prefix most most_bytes items)
