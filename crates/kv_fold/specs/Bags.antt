-- Bags of items with distinct keys. A bag is a finite map from key to value, so it has no order.
use Rattle.std.specs.Prelude.{◌≡◌, ℕ, ◌+◌, ◌^◌, ◌<◌, ◌≤◌, List, length, Option, None, Some, All}
use Rattle.std.specs.declared.cmp.Ordering.{Ordering}
use Rattle.std.specs.Ordering.{nat_cmp}
use Rattle.std.specs.Cmp.Lexicographic.{slice_cmp}
use Rattle.std.specs.FinMap.{FinMap, get, entries}
use Rattle.kv_model.specs.Fold.{KeyValue}

-- keys are compared byte by byte, and a prefix is less
abbrev pub order : List ℕ → List ℕ → Ordering
order = slice_cmp nat_cmp

-- items with distinct keys; its entries are the list of them by rising key
abbrev pub Bag : Type 0
Bag = FinMap order (List ℕ)

-- the sizes of an item: a key of 1 to 255 bytes, and at most 65,400 bytes of key and value
pub record IsItem (key value : List ℕ) : Type 0 where
  pub some : 1 ≤ length key
  pub short : length key ≤ 255
  pub small : length key + length value ≤ 65400

-- the item has such sizes, and its value is one of bytes
pub record IsStored (item : KeyValue) : Type 0 where
  pub sizes : IsItem item.0 item.1
  pub bytes : All (λ byte. byte ≤ 255) item.1

-- fewer than 2^32 items, each of which can be stored
pub record IsGood (bag : Bag) : Type 0 where
  pub few : length (entries bag) < 2 ^ 32
  pub each : All IsStored (entries bag)

-- the first, or else the second
abbrev pub or_else : Option (List ℕ) → Option (List ℕ) → Option (List ℕ)
or_else None other = other
or_else (Some value) other = Some value

-- no key is in both
abbrev pub AreApart : Bag → Bag → Type 0
AreApart bag other = (key value : List ℕ) → get other key ≡ Some value → get bag key ≡ None

-- the third has the items of the first two
abbrev pub IsUnion : Bag → Bag → Bag → Type 0
IsUnion bag other all = (key : List ℕ) → get all key ≡ or_else (get bag key) (get other key)
