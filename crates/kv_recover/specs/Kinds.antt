-- The kinds of slots that a survey counts.
use Rattle.std.specs.Prelude.{◌≡◌, ℕ, ◌+◌, ◌-◌, ◌≤◌, List, Some, slice_get, ◌==◌, Bool, true, false}
use Rattle.std.specs.Prelude.{if◌then◌else◌}
use Rattle.std.specs.FinMap as finite
use Rattle.kv_base.specs.Image.{Image}
use Rattle.kv_base.specs.Partition.{owner_of}
use Rattle.kv_index.specs.Entries.{Entries}
use Rattle.kv_model.specs.Head.{head_page}
use Rattle.kv_model.specs.Layout.{all_classes}
use Rattle.kv_model.specs.Reading.{slot_at, heads_at, IsFloor}
use Rattle.kv_model.specs.Recovery.{IsNew}
use Rattle.kv_model.specs.Slots as slots
use Rattle.kv_recover.specs.Survey.{CountsTo, AreClassCounts}
use Rattle.kv_recover.specs.declared.kind.Kind.{Kind}
use Rattle.kv_recover.specs.declared.kind.Kind.TheVariants.{Kept, Stale, Foreign, Tomb, Never, Torn, Bad}
use Rattle.kv_recover.specs.declared.kind.ClassCount.{ClassCount}
use Rattle.kv_recover.specs.Free.{is_place}
use Rattle.kv_recover.specs.Opened.{IsEndOf}

-- the kind of a slot in which this stands, by the entries of the kept items
abbrev pub kind_at : Entries → ℕ → ℕ → ℕ → ℕ → slots.Slot → Kind
kind_at entries worker workers class slot (slots.Never stamp) = Never
kind_at entries worker workers class slot (slots.Item stamp key value) =
    if owner_of key workers == worker
    then (if is_place (finite.get entries key) class slot then Kept else Stale)
    else Foreign
kind_at entries worker workers class slot (slots.Tombstone stamp link) = Tomb
kind_at entries worker workers class slot (slots.Bad stamp) = Bad
kind_at entries worker workers class slot (slots.Torn stamp) = Torn

-- one slot more of this kind
abbrev pub with_one : Kind → ClassCount → ClassCount
with_one Kept count = record count { kept = count.kept + 1 }
with_one Stale count = record count { stale = count.stale + 1 }
with_one Foreign count = record count { foreign = count.foreign + 1 }
with_one Tomb count = record count { tomb = count.tomb + 1 }
with_one Never count = record count { never = count.never + 1 }
with_one Torn count = record count { torn = count.torn + 1 }
with_one Bad count = record count { bad = count.bad + 1 }

-- all kinds together
abbrev pub sum_of : ClassCount → ℕ
sum_of count = count.kept + count.stale + count.foreign + count.tomb + count.never + count.torn
    + count.bad

-- the numbers are those of the slots of each kind below this one
pub record HasTally (kinds : ℕ → Kind) (n : ℕ) (count : ClassCount) : Type 0 where
  pub kept_are : CountsTo (λ s. kinds s ≡ Kept) n count.kept
  pub stale_are : CountsTo (λ s. kinds s ≡ Stale) n count.stale
  pub foreign_are : CountsTo (λ s. kinds s ≡ Foreign) n count.foreign
  pub tomb_are : CountsTo (λ s. kinds s ≡ Tomb) n count.tomb
  pub never_are : CountsTo (λ s. kinds s ≡ Never) n count.never
  pub torn_are : CountsTo (λ s. kinds s ≡ Torn) n count.torn
  pub bad_are : CountsTo (λ s. kinds s ≡ Bad) n count.bad

-- what a survey says of a class
pub record IsClassCount (image : Image) (worker workers class : ℕ) (count : ClassCount) : Type
    0 where
  pub end_is : IsEndOf image class count.end
  pub counts : AreClassCounts (slot_at all_classes image) worker workers class count.end count.kept
      count.stale count.foreign count.tomb count.never count.torn count.bad

-- what a survey says of a disk
pub record IsSurvey (image : Image) (worker workers : ℕ) (fresh : Bool) (floor : ℕ)
    (classes : List ClassCount) : Type 0 where
  pub fresh_is : fresh ≡ true → IsNew image
  pub old_is : fresh ≡ false → image 0 0 ≡ head_page worker workers
  pub floor_is : IsFloor (heads_at all_classes image) floor
  pub each : (class : ℕ) (count : ClassCount) → 1 ≤ class
      → slice_get classes (class - 1) ≡ Some count → IsClassCount image worker workers class count
