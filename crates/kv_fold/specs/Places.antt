-- Where an item goes in a list of items whose keys rise.
use Rattle.std.specs.Prelude.{◌≡◌, ℕ, zero, suc, ◌+◌, ◌<◌, ◌≤◌, List, [], ◌∷◌, length, IsTrue}
use Rattle.std.specs.Prelude.{Bool, true, false, Option, None, Some, is_some}
use Rattle.std.specs.declared.cmp.Ordering.TheVariants.{Less, Greater}
use Rattle.std.specs.List.{insert, sum_by}
use Rattle.std.specs.FinMap.{is_sorted, find}
use Rattle.std.specs.FinMap.Entries.{put}
use Rattle.kv_model.specs.Fold.{KeyValue, item_size, most_bytes}
use Rattle.kv_fold.specs.Bags.{order}
use Rattle.kv_fold.specs.States.{Prefix, prefix}
use Rattle.kv_fold.specs.Prefixes.{trim, accept}

-- the keys strictly rise
abbrev pub HasRisingKeys : List KeyValue → Type 0
HasRisingKeys items = IsTrue (is_sorted order items)

-- the key isn't there, and goes to this place: behind the lesser keys, before the greater ones
abbrev pub IsGap : List ℕ → List KeyValue → ℕ → Type 0
IsGap key [] place = place ≡ 0
IsGap key (item ∷ items) zero = order key item.0 ≡ Less
IsGap key (item ∷ items) (suc place) = (order key item.0 ≡ Greater) × IsGap key items place

-- the place of the key, or none where it is there already
abbrev pub IsGapOrFound : List ℕ → List KeyValue → Option ℕ → Type 0
IsGapOrFound key items None = is_some (find order key items) ≡ true
IsGapOrFound key items (Some place) = IsGap key items place

-- the item with its key and value stands in the place now, or the key is the cut
abbrev pub placed : Bool → ℕ → List ℕ → List ℕ → Prefix → Prefix
placed true place key value old = prefix (insert old.items place (key, value)) old.cut
placed false place key value old = prefix old.items (Some key)

-- each key that went to this place of the old items goes to it in the new ones
abbrev pub KeepsGap : ℕ → List KeyValue → List KeyValue → Type 0
KeepsGap place old new = (key : List ℕ) → IsGap key old place → IsGap key new place

-- room was made for any item of this size that goes to this place, as far as it fits
abbrev pub MakesRoom : ℕ → ℕ → ℕ → Prefix → Prefix → Bool → Type 0
MakesRoom most place size old new fits = (key value : List ℕ) → item_size (key, value) ≡ size
    → IsGap key old.items place
    → trim most most_bytes (prefix (put order key value old.items) old.cut)
    ≡ placed fits place key value new

-- an item of this key and size can be inserted at this place
pub record HasPlace (most place size : ℕ) (key : List ℕ) (items : List KeyValue) : Type 0 where
  pub bound : place ≤ length items
  pub few : length items < most
  pub small : sum_by item_size items + size ≤ most_bytes
  pub gap : IsGap key items place

-- the place was made for an item of this key and size, and with the item in it that is taken in
pub record IsPlace (most place size : ℕ) (key : List ℕ) (old new : Prefix) : Type 0 where
  pub has : HasPlace most place size key new.items
  pub taken : (value : List ℕ) → item_size (key, value) ≡ size
      → placed true place key value new ≡ accept most most_bytes key value old

-- an item of this key and size is taken in already, as far as it fits
abbrev pub IsLeftOut : ℕ → ℕ → List ℕ → Prefix → Prefix → Type 0
IsLeftOut most size key old new = (value : List ℕ) → item_size (key, value) ≡ size
    → new ≡ accept most most_bytes key value old
