-- The entries of an index, and the items that are kept in an image, as a list by rising key.
use Rattle.std.specs.Prelude.{◌≡◌, ◌⊎◌, ℕ, ◌<◌, ◌≤◌, ◌^◌, List, [], ◌∷◌, ◌++◌, Bool, true, false}
use Rattle.std.specs.Prelude.{Option, None, Some, slice_get}
use Rattle.std.specs.FinMap as finite
use Rattle.std.specs.Ordering.{nat_cmp}
use Rattle.std.specs.Cmp.Lexicographic.{slice_cmp}
use Rattle.std.specs.declared.cmp.Ordering.TheVariants.{Less}
use Rattle.kv_base.specs.Image.{Image}
use Rattle.kv_base.specs.declared.place.Place.{Place}
use Rattle.kv_index.specs.declared.entry.Entry.{Entry}
use Rattle.kv_index.specs.Entries.{Entries, HasNoneFrom, IsNext}
use Rattle.kv_model.specs.Layout.{all_classes}
use Rattle.kv_model.specs.Reading.{Copy, IsKept, slot_at}
use Rattle.kv_recover.specs.declared.entries.Kept.{Kept}

-- the first key is before the second
abbrev pub IsBelow : List ℕ → List ℕ → Type 0
IsBelow a b = slice_cmp nat_cmp a b ≡ Less

-- the entry of a kept item
abbrev pub entry_of : Kept → Entry
entry_of kept = record { stamp = kept.stamp; place = kept.place }

-- the kept item with its value
abbrev pub copy_with : Kept → List ℕ → Copy
copy_with kept value = record {
  class = kept.place.class;
  slot = kept.place.slot;
  stamp = kept.stamp;
  value = value;
}

-- the entry with the least key, or there is none
abbrev pub IsLeast : Entries → Option Kept → Type 0
IsLeast entries None = HasNoneFrom entries []
IsLeast entries (Some kept) = IsNext entries [] kept.key (entry_of kept)

-- the entry with the least key went from the index to the list
pub record TakesLeast (old new : Entries) (before after : List Kept) : Type 0 where
  pub kept : Kept
  pub least : IsNext old [] kept.key (entry_of kept)
  pub rest : new ≡ finite.remove old kept.key
  pub list : after ≡ before ++ kept ∷ []

-- it did, or there was none
abbrev pub MayTakeLeast : Bool → Entries → Entries → List Kept → List Kept → Type 0
MayTakeLeast true old new before after = TakesLeast old new before after
MayTakeLeast false old new before after = HasNoneFrom old [] × (new ≡ old) × (after ≡ before)

-- keys strictly rise
abbrev pub KeysRise : List Kept → Type 0
KeysRise list = (i j : ℕ) (a b : Kept) → i < j → slice_get list i ≡ Some a
    → slice_get list j ≡ Some b → IsBelow a.key b.key

-- the list has this key
abbrev pub Lists : List Kept → List ℕ → Type 0
Lists list key = (i : ℕ) × (kept : Kept) × (slice_get list i ≡ Some kept) × (kept.key ≡ key)

-- the list has the entries that are in the first index and no longer in the second, which are before
-- those that still are
pub record IsListing (all now : Entries) (list : List Kept) : Type 0 where
  pub each : (i : ℕ) (kept : Kept) → slice_get list i ≡ Some kept
      → finite.get all kept.key ≡ Some (entry_of kept)
  pub still : (key : List ℕ) (entry : Entry) → finite.get now key ≡ Some entry
      → finite.get all key ≡ Some entry
  pub every : (key : List ℕ) (entry : Entry) → finite.get all key ≡ Some entry
      → (finite.get now key ≡ Some entry) ⊎ Lists list key
  pub order : (i : ℕ) (kept : Kept) (key : List ℕ) (entry : Entry) → slice_get list i ≡ Some kept
      → finite.get now key ≡ Some entry → IsBelow kept.key key
  pub rising : KeysRise list

-- the list has the entries of the index
pub record AreListed (all : Entries) (list : List Kept) : Type 0 where
  pub each : (i : ℕ) (kept : Kept) → slice_get list i ≡ Some kept
      → finite.get all kept.key ≡ Some (entry_of kept)
  pub every : (key : List ℕ) (entry : Entry) → finite.get all key ≡ Some entry → Lists list key
  pub rising : KeysRise list

-- the list has the items that are kept in the image, by rising key
pub record AreKept (image : Image) (worker workers : ℕ) (list : List Kept) : Type 0 where
  pub each : (i : ℕ) (kept : Kept) → slice_get list i ≡ Some kept → (value : List ℕ)
      × IsKept (slot_at all_classes image) worker workers kept.key (copy_with kept value)
  pub every : (key : List ℕ) (copy : Copy) → IsKept (slot_at all_classes image) worker workers key copy
      → Lists list key
  pub rising : KeysRise list

-- a slot that a slab may have
pub record IsSlabPlace (place : Place) : Type 0 where
  pub low : 1 ≤ place.class
  pub high : place.class ≤ 11
  pub slot : place.slot < 2 ^ 24
