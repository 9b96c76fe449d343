-- Worked batches.
use Rattle.std.specs.Prelude.{◌≡◌, ℕ, ◌==◌, List, [], ◌∷◌, None, Some, if◌then◌else◌}
use Rattle.std.specs.Prelude.{Bool, ◌||◌}
use Rattle.std.specs.List.{range_with_len}
use Rattle.std.specs.Str.{bytes_eq}
use Rattle.kv_base.specs.declared.request.Request.{Request}
use Rattle.kv_base.specs.declared.request.Request.TheVariants.{Put, Delete}
use Rattle.kv_base.specs.declared.reply.Reply.{Reply}
use Rattle.kv_base.specs.declared.reply.Reply.TheVariants.{Stored, Found, Missing, Removed, Absent}
use Rattle.kv_base.specs.declared.reply.Reply.TheVariants.{Full}
use Rattle.kv_model.specs.History.{Write}
use Rattle.kv_model.specs.Layout.{all_classes}
use Rattle.kv_model.specs.Batch.{Start, answers, accepted_writes, net}
use Rattle.kv_model.specs.FreeSlots.{Free, new_slots, taken, given, link_at}
use Rattle.kv_model.specs.Examples.{key_a, value_1, put_a, get_a}

-- the key b
abbrev pub key_b : List ℕ
key_b = 0x62 ∷ []

-- the key c
abbrev pub key_c : List ℕ
key_c = 0x63 ∷ []

-- the value 2, as text
abbrev pub value_2 : List ℕ
value_2 = 0x32 ∷ []

-- the key has this value from the stamp on
abbrev pub wrote : ℕ → List ℕ → List ℕ → Write
wrote stamp key value = record { stamp = stamp; key = key; value = Some value }

-- the key has no value from the stamp on
abbrev pub erased : ℕ → List ℕ → Write
erased stamp key = record { stamp = stamp; key = key; value = None }

-- a store with nothing in it, and room for two items of each class
abbrev pub empty_start : Start
empty_start = record {
  layout = all_classes;
  limit = 2;
  value = λ key. None;
  class = λ key. None;
  items = λ class. 0;
}

-- the key is a or b
abbrev pub is_a_or_b : List ℕ → Bool
is_a_or_b key = bytes_eq key key_a || bytes_eq key key_b

-- a store with a and b in class 1, and room for two items of each class
abbrev pub full_start : Start
full_start = record {
  layout = all_classes;
  limit = 2;
  value = λ key. if is_a_or_b key then Some value_1 else None;
  class = λ key. if is_a_or_b key then Some 1 else None;
  items = λ class. if class == 1 then 2 else 0;
}

-- a store with b alone, whose batch begins where a was removed
abbrev pub start_with_b : Start
start_with_b = record {
  layout = all_classes;
  limit = 2;
  value = λ key. if bytes_eq key key_b then Some value_1 else None;
  class = λ key. if bytes_eq key key_b then Some 1 else None;
  items = λ class. if class == 1 then 1 else 0;
}

-- a batch from this stamp has these answers, and these net changes
pub record Answers (start : Start) (base : ℕ) (requests : List Request) (replies : List Reply)
    (changes : List Write) : Type 0 where
  pub replies_are : answers start [] base requests ≡ replies
  pub net_is : net start (accepted_writes start [] base requests) ≡ changes

-- Delete, Put, Delete and Get of one key that begins and ends without a value: nothing changes
abbrev pub NoNetChange : Type 0
NoNetChange = Answers empty_start 1 (Delete key_a ∷ put_a ∷ Delete key_a ∷ get_a ∷ [])
    (Absent 1 ∷ Stored 2 ∷ Removed 3 ∷ Missing 4 ∷ []) []

-- Put, Get and Put of one key: the get sees the first, and the second is the change
abbrev pub LastPut : Type 0
LastPut = Answers empty_start 1 (put_a ∷ get_a ∷ Put key_a value_2 ∷ [])
    (Stored 1 ∷ Found 2 value_1 ∷ Stored 3 ∷ []) (wrote 3 key_a value_2 ∷ [])

-- with room for two items the third put is full
abbrev pub ThirdIsFull : Type 0
ThirdIsFull = Answers empty_start 1
    (put_a ∷ Put key_b value_1 ∷ Put key_c value_1 ∷ [])
    (Stored 1 ∷ Stored 2 ∷ Full 1 ∷ []) (wrote 1 key_a value_1 ∷ wrote 2 key_b value_1 ∷ [])

-- where there is no room, a put of a key that is kept in its class is stored
abbrev pub UpdatesWhereFull : Type 0
UpdatesWhereFull = Answers full_start 3 (Put key_a value_2 ∷ []) (Stored 3 ∷ [])
    (wrote 3 key_a value_2 ∷ [])

-- a delete makes no room in its own batch
abbrev pub NoRoomYet : Type 0
NoRoomYet = Answers full_start 3 (Delete key_a ∷ Put key_c value_1 ∷ [])
    (Removed 3 ∷ Full 1 ∷ []) (erased 3 key_a ∷ [])

-- but in the next
abbrev pub RoomThen : Type 0
RoomThen = Answers start_with_b 5 (Put key_c value_1 ∷ []) (Stored 5 ∷ [])
    (wrote 5 key_c value_1 ∷ [])

-- of two deletes of one key the first removes, and the second gives the stamp
abbrev pub DeletedTwice : Type 0
DeletedTwice = Answers full_start 3 (Delete key_a ∷ Delete key_a ∷ []) (Removed 3 ∷ Absent 4 ∷ [])
    (erased 4 key_a ∷ [])

-- two free slots and an end at 9
abbrev pub two_free : Free
two_free = record { list = 3 ∷ 5 ∷ []; end = 9 }

-- three new items take the last free slot, the one before it and the end; slots that are left come
-- behind
pub record LastIsTakenFirst : Type 0 where
  pub new : new_slots two_free 3 ≡ 5 ∷ 3 ∷ 9 ∷ []
  pub behind : given (taken two_free 3) (7 ∷ []) ≡ record { list = 7 ∷ []; end = 10 }
  pub one : given (taken two_free 1) (7 ∷ []) ≡ record { list = 3 ∷ 7 ∷ []; end = 9 }
  pub linked : link_at (range_with_len 100 66) 65 ≡ Some 101
  pub unlinked : link_at (range_with_len 100 66) 63 ≡ None
