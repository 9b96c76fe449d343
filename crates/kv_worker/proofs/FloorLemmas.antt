-- Bounds of the stamps on a disk.
use Rattle.std.proofs.Common.{ℕ, ◌+◌, ◌≤◌, ◌<◌, List, arith}
use Rattle.std.specs.List.{AllByRecursion}
use Rattle.kv_base.specs.Image.{Image}
use Rattle.kv_model.specs.Layout.{all_classes}
use Rattle.kv_model.specs.Reading.{heads_at}
use Rattle.kv_model.proofs.PairwiseLemmas.{All-map}
use Rattle.kv_slab.specs.Floor.{HasFloorBelow, HasFloorUpTo}

-- no head is above the number: each is below a greater one
pub below-up : (high bound : ℕ) (image : Image) → high < bound → HasFloorUpTo high image
    → HasFloorBelow bound image
below-up high bound image lt floor = λ class slot. All-map (λ head. head ≤ high)
    (λ head. head < bound) (heads_at all_classes image class slot) (λ head le. omega (arith, le, lt))
    (floor class slot)

-- each head is below the number behind it: none is above it
pub up-below : (high bound : ℕ) (image : Image) → bound ≤ high + 1 → HasFloorBelow bound image
    → HasFloorUpTo high image
up-below high bound image le floor = λ class slot. All-map (λ head. head < bound)
    (λ head. head ≤ high) (heads_at all_classes image class slot) (λ head lt. omega (arith, lt, le))
    (floor class slot)

-- stamps below one bound are below a greater one
pub floor-raised : (low high : ℕ) (image : Image) → low ≤ high → HasFloorBelow low image
    → HasFloorBelow high image
floor-raised low high image le floor = λ class slot. All-map (λ head. head < low)
    (λ head. head < high) (heads_at all_classes image class slot)
    (λ head lt. omega (arith, lt, le)) (floor class slot)
