-- Worked examples of recovery: a disk with the class 7 alone, where slot 0 has an item of a.
use Rattle.std.specs.Prelude.{◌==◌, ◌&&◌, List, [], ◌∷◌, None, Some, if◌then◌else◌}
use Rattle.kv_base.specs.Image.{Image, zero_page}
use Rattle.kv_model.specs.History.{Write}
use Rattle.kv_model.specs.Layout.{Layout, only_class}
use Rattle.kv_model.specs.SlotBytes.{item_bytes}
use Rattle.kv_model.specs.Head.{head_page}
use Rattle.kv_model.specs.Reading.{Reading, Gives, IsFloor, slot_at, heads_at}
use Rattle.kv_model.specs.Recovery.{RecoversPrefix}
use Rattle.kv_model.specs.Examples.{key_a, value_1}
use Rattle.kv_model.specs.BatchExamples.{key_b, value_2, wrote}

-- the disk of worker 0 of 1 where a has the value 1 at stamp 1
abbrev pub disk_with_a : Image
disk_with_a file page = if (7 == file) && (page == 0) then item_bytes 7 1 key_a value_1
    else (if (0 == file) && (page == 0) then head_page 0 1 else zero_page)

-- its layout
abbrev pub layout_7 : Layout
layout_7 = only_class 7

-- what stands in its slots
abbrev pub reading_with_a : Reading
reading_with_a = slot_at layout_7 disk_with_a

-- a was put at stamp 1
abbrev pub first_put : List Write
first_put = wrote 1 key_a value_1 ∷ []

-- and again at stamp 2
abbrev pub two_puts : List Write
two_puts = wrote 1 key_a value_1 ∷ wrote 2 key_a value_2 ∷ []

-- the disk gives a its item, and b none; the greatest stamp is 1
pub record GivesTheItem : Type 0 where
  pub found : Gives reading_with_a 0 1 key_a (Some (1, value_1))
  pub missing : Gives reading_with_a 0 1 key_b None
  pub floor : IsFloor (heads_at layout_7 disk_with_a) 1

-- where the first put alone was acknowledged, the disk recovers a prefix of both
abbrev pub RecoversTheFirst : Type 0
RecoversTheFirst = RecoversPrefix layout_7 two_puts first_put disk_with_a 0 1

-- where both were, it is stale, and recovers none
abbrev pub StaleRecoversNone : Type 0
StaleRecoversNone = RecoversPrefix layout_7 two_puts two_puts disk_with_a 0 1 → ⊥
