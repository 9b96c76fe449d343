-- Which slots of a class are free, which ones a batch takes, and which are free behind it.
use Rattle.std.specs.Prelude.{◌↔◌, ℕ, ◌+◌, ◌-◌, ◌<◌, ◌&&◌, List, ◌++◌, Bool, not}
use Rattle.std.specs.Prelude.{length}
use Rattle.std.specs.Prelude.{take, map, reverse, filter, count_by, nat_lt, Contains, Option}
use Rattle.std.specs.Prelude.{None}
use Rattle.std.specs.Prelude.{if◌then◌else◌}
use Rattle.std.specs.List.{range_with_len, slice_get}
use Rattle.kv_model.specs.Pairwise.{Pairwise}
use Rattle.kv_model.specs.History.{Write}
use Rattle.kv_model.specs.Layout.{is_small}
use Rattle.kv_model.specs.Slots.{is_class}
use Rattle.kv_model.specs.Batch.{Start, class_written, takes_slot}

-- a class's free slots, of which the last is taken first, and the end of its slab
pub record Free : Type 0 where
  pub list : List ℕ
  pub end : ℕ

-- the free slots at opening: by rising number, those below the end where nothing is kept
pub record AreFree (kept : ℕ → Type 0) (free : Free) : Type 0 where
  pub rising : Pairwise (λ slot next. slot < next) free.list
  pub each : (slot : ℕ) → Contains free.list slot ↔ ((slot < free.end) × (kept slot → ⊥))

-- the slots that so many new items take, in the order of their stamps
abbrev pub new_slots : Free → ℕ → List ℕ
new_slots free needed = take needed (reverse free.list ++ range_with_len free.end
    (needed - length free.list))

-- so many slots were taken: the last free ones, and then those at the end
abbrev pub taken : Free → ℕ → Free
taken free needed = record {
  list = take (length free.list - needed) free.list;
  end = free.end + (needed - length free.list);
}

-- the write leaves the key's place in the class: the item is deleted, or goes to a new slot
abbrev pub leaves_slot : Start → ℕ → Write → Bool
leaves_slot start class write = is_class (start.class write.key) class
    && not (is_small class && is_class (class_written start.layout write) class)

-- the slots of the class that the changes leave, in the order of their stamps
abbrev pub left_slots : Start → (List ℕ → ℕ) → ℕ → List Write → List ℕ
left_slots start slot_of_key class changes = map (λ write. slot_of_key write.key)
    (filter (leaves_slot start class) changes)

-- these slots are free too, and taken before the others
abbrev pub given : Free → List ℕ → Free
given free slots = record { list = free.list ++ slots; end = free.end }

-- the free slots of the class behind these changes: all new slots are taken before the left ones
-- are given
abbrev pub free_after : Start → (List ℕ → ℕ) → ℕ → Free → List Write → Free
free_after start slot_of_key class free changes =
    given (taken free (count_by (takes_slot start class) changes))
    (left_slots start slot_of_key class changes)

-- how many places before a free slot the one stands that its tombstone links to
abbrev pub link_distance : ℕ
link_distance = 64

-- the slot that the tombstone of the free slot at this place of the list links to, if there is one
abbrev pub link_at : List ℕ → ℕ → Option ℕ
link_at list place = if nat_lt place link_distance then None
    else slice_get list (place - link_distance)
