-- Stamps on a disk.
use Rattle.std.specs.Prelude.{ℕ, ◌<◌, ◌≤◌}
use Rattle.std.specs.List.{AllByRecursion}
use Rattle.kv_base.specs.Image.{Image}
use Rattle.kv_model.specs.Layout.{all_classes}
use Rattle.kv_model.specs.Reading.{heads_at}

-- no number at the head of any page of a slot is above this one: the floor is at most this
abbrev pub HasFloorUpTo : ℕ → Image → Type 0
HasFloorUpTo bound image = (class slot : ℕ)
    → AllByRecursion (λ head. head ≤ bound) (heads_at all_classes image class slot)

-- each is below this one
abbrev pub HasFloorBelow : ℕ → Image → Type 0
HasFloorBelow stamp image = (class slot : ℕ)
    → AllByRecursion (λ head. head < stamp) (heads_at all_classes image class slot)
