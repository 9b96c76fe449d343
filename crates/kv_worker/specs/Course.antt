-- What one pass over a batch keeps of the writes that it accepted so far.
use Rattle.std.specs.Prelude.{◌≡◌, ℕ, ◌+◌, ◌-◌, ◌≤◌, ◌<◌, ◌^◌, List, [], ◌∷◌, ◌++◌, count_by, map}
use Rattle.std.specs.Prelude.{Option, None, Some, Bool, is_some, IfSome, ⊤, if◌then◌else◌}
use Rattle.std.specs.Prelude.{option_and_then, slice_get, slice_index}
use Rattle.kv_base.specs.declared.request.Request.{Request}
use Rattle.kv_model.specs.Batch.{Start, needs_slot, class_written, takes_slot, last_write}
use Rattle.kv_model.specs.Batch.{last_writes, taken_by_others}
use Rattle.kv_model.specs.History.{Write}
use Rattle.kv_model.specs.Pairs.{written}
use Rattle.kv_model.specs.Slots.{is_class}
use Rattle.kv_worker.specs.declared.overlay.Last.{Last}
use Rattle.kv_worker.specs.declared.pass.Pass.{Pass}
use Rattle.kv_worker.specs.Overlay.{last_of}

-- the class of a slab
abbrev pub IsSlab : ℕ → Type 0
IsSlab class = (1 ≤ class) × (class ≤ 11)

-- a batch, what it found, and its first stamp
pub record Course : Type 0 where
  pub start : Start
  pub requests : List Request
  pub base : ℕ

-- the batch and what it found, from this stamp on
abbrev pub course_of : Start → List Request → ℕ → Course
course_of start requests base = record { start = start; requests = requests; base = base }

-- the class of the new slot that the write takes
abbrev pub slot_of : Start → Write → Option ℕ
slot_of start write = option_and_then (λ class. if needs_slot start write.key class then Some class
    else None) (class_written start.layout write)

-- the write of the request with this number
abbrev pub write_at : Course → ℕ → Option Write
write_at course task = option_and_then (λ request. written request (course.base + task))
    (slice_get course.requests task)

-- what the overlay has is this write
pub record IsLastWrite (course : Course) (last : Last) (write : Write) : Type 0 where
  pub is : write_at course last.task ≡ Some write
  pub slot : last.slot ≡ slot_of course.start write
  pub slab : IfSome last.slot IsSlab

-- the overlay has a last write where there is one, and it is that one
abbrev pub IsSameLast : Course → Option Last → Option Write → Type 0
IsSameLast course None None = ⊤
IsSameLast course None (Some write) = ⊥
IsSameLast course (Some last) None = ⊥
IsSameLast course (Some last) (Some write) = IsLastWrite course last write

-- a key is kept in a class exactly where it has a value
abbrev pub AreClassed : Start → Type 0
AreClassed start = (key : List ℕ) → is_some (start.class key) ≡ is_some (start.value key)

-- the pass knows each key's last write, and how many new slots of each class they take
pub record Follows (course : Course) (writes : List Write) (pass : Pass) : Type 0 where
  pub lasts : (key : List ℕ) → IsSameLast course (last_of pass.overlay key)
      (last_write writes key)
  pub taken : (class : ℕ) → class < 12 → slice_index pass.taken class
      ≡ count_by (takes_slot course.start class) (last_writes writes)
  pub room : (class : ℕ) → class < 12 → slice_index pass.taken class
      ≤ course.start.limit - course.start.items class
  pub few : course.start.limit ≤ 2 ^ 24
  pub kept : AreClassed course.start

-- how many new slots of the class the overlay's entry takes
abbrev pub slots_of : Option Last → ℕ → ℕ
slots_of None class = 0
slots_of (Some last) class = if is_class last.slot class then 1 else 0

-- the write comes next, behind this last one of its key, its entry is this, and there is room for it
pub record Accepts (course : Course) (writes : List Write) (pass : Pass) (key : List ℕ)
    (before : Option Last) (last : Last) (write : Write) : Type 0 where
  pub follows : Follows course writes pass
  pub before_is : IsSameLast course before (last_write writes key)
  pub here : IsLastWrite course last write
  pub is_key : write.key ≡ key
  pub room : (class : ℕ) → class < 12 → taken_by_others course.start writes key class
      + slots_of (Some last) class ≤ course.start.limit - course.start.items class

-- there is a write that comes next
abbrev pub CanAccept : Pass → List ℕ → Option Last → Last → Type 0
CanAccept pass key before last = (course : Course) × ((writes : List Write) × ((write : Write)
    × Accepts course writes pass key before last write))

-- behind the write the pass goes on
abbrev pub GoesOn : Pass → Pass → List ℕ → Option Last → Last → Type 0
GoesOn pass next key before last = (course : Course) (writes : List Write) (write : Write)
    → Accepts course writes pass key before last write → Follows course (writes ++ write ∷ []) next
