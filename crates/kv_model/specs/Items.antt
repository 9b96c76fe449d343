-- The items that a history has at a stamp, and what a batch finds there.
use Rattle.std.specs.Prelude.{◌≡◌, ℕ, ◌-◌, ◌==◌, List, [], length, filter, count_by, Contains}
use Rattle.std.specs.Prelude.{Option, None, Some, Bool, true, IsTrue, ◌↔◌, ◌&&◌, ◌||◌, ◌++◌, ⊤}
use Rattle.std.specs.Prelude.{option_and_then}
use Rattle.std.specs.Ordering.{nat_cmp, is_le, is_lt}
use Rattle.std.specs.Cmp.Lexicographic.{slice_cmp}
use Rattle.kv_base.specs.declared.request.Request.{Request}
use Rattle.kv_base.specs.declared.reply.Reply.{Reply}
use Rattle.kv_base.specs.Partition.{owner_of}
use Rattle.kv_model.specs.Pairwise.{Pairwise}
use Rattle.kv_model.specs.History.{Write, value_at}
use Rattle.kv_model.specs.Layout.{Layout, class_of, all_classes}
use Rattle.kv_model.specs.Slots.{is_class}
use Rattle.kv_model.specs.Batch.{Start, last_write, class_written, value_after, answers}
use Rattle.kv_model.specs.Batch.{accepted_writes, net}

-- a key and its value
abbrev pub KeyValue : Type 0
KeyValue = List ℕ × List ℕ

-- the first key is less, byte by byte; a prefix is less
abbrev pub IsLess : List ℕ → List ℕ → Type 0
IsLess key other = IsTrue (is_lt (slice_cmp nat_cmp key other))

-- the key is at or after `low` and below `high`; an empty `high` is no end
abbrev pub is_in_range : List ℕ → List ℕ → List ℕ → Bool
is_in_range low high key = is_le (slice_cmp nat_cmp low key)
    && (length high == 0 || is_lt (slice_cmp nat_cmp key high))

-- by rising key, the items that the history has in the range at the stamp
pub record AreItems (history : List Write) (stamp : ℕ) (low high : List ℕ)
    (items : List KeyValue) : Type 0 where
  pub rising : Pairwise (λ item next. IsLess item.0 next.0) items
  pub each : (item : KeyValue) → Contains items item ↔ (IsTrue (is_in_range low high item.0)
      × (value_at history stamp item.0 ≡ Some item.1))

-- the items whose keys this worker of so many owns
abbrev pub share_of : ℕ → ℕ → List KeyValue → List KeyValue
share_of worker workers items = filter (λ item. owner_of item.0 workers == worker) items

-- the class of the key with this value
abbrev pub class_with : Layout → List ℕ → Option (List ℕ) → Option ℕ
class_with layout key value = option_and_then (λ bytes. class_of layout (length key)
    (length bytes)) value

-- how many of the items have the class
abbrev pub count_of_class : Layout → ℕ → List KeyValue → ℕ
count_of_class layout class items =
    count_by (λ item. is_class (class_of layout (length item.0) (length item.1)) class) items

-- so many items of the history at the stamp have the class
pub record HasItems (layout : Layout) (history : List Write)
    (stamp class count : ℕ) : Type 0 where
  pub items : List KeyValue
  pub are : AreItems history stamp [] [] items
  pub counted : count ≡ count_of_class layout class items

-- either both or none has a value, and it is one value where the disk tells its content
abbrev pub SameValue : Bool → Option (List ℕ) → Option (List ℕ) → Type 0
SameValue told None None = ⊤
SameValue told None (Some kept) = ⊥
SameValue told (Some value) None = ⊥
SameValue told (Some value) (Some kept) = IsTrue told → value ≡ kept

-- the store has what the history has at the stamp
pub record FollowsHistory (told : Bool) (history : List Write) (stamp : ℕ)
    (store : Start) : Type 0 where
  pub value : (key : List ℕ) → SameValue told (store.value key) (value_at history stamp key)
  pub class : IsTrue told → (key : List ℕ) → store.class key
      ≡ class_with store.layout key (value_at history stamp key)

-- what the batch finds is what the history has just below the batch's first stamp
pub record BeginsAt (told : Bool) (history : List Write) (base : ℕ) (start : Start) : Type 0 where
  pub follows : FollowsHistory told history (base - 1) start
  pub items : (class : ℕ) → HasItems start.layout history (base - 1) class (start.items class)

-- the class of what was written, or else the one that was there
abbrev pub class_or : Layout → Option Write → Option ℕ → Option ℕ
class_or layout None before = before
class_or layout (Some write) before = class_written layout write

-- the class where a key is kept behind these writes of the batch
abbrev pub class_after : Start → List Write → List ℕ → Option ℕ
class_after start writes key = class_or start.layout (last_write writes key) (start.class key)

-- these changes are all that changed
pub record HasChanges (told : Bool) (start after : Start) (changes : List Write) : Type 0 where
  pub layout : after.layout ≡ start.layout
  pub limit : after.limit ≡ start.limit
  pub value : (key : List ℕ) → SameValue told (after.value key) (value_after start changes key)
  pub class : (key : List ℕ) → after.class key ≡ class_after start changes key

-- a batch was answered from its first stamp on, and its net changes came behind the writes
pub record AnswersBatch (before after : List Write) (base limit : ℕ) (requests : List Request)
    (replies : List Reply) : Type 0 where
  pub start : Start
  pub begins : BeginsAt true before base start
  pub layout : start.layout ≡ all_classes
  pub limit_is : start.limit ≡ limit
  pub replies_are : replies ≡ answers start [] base requests
  pub taken : after ≡ before ++ net start (accepted_writes start [] base requests)

-- a history has one list of items in a range at a stamp
abbrev pub ItemsAreOne : Type 0
ItemsAreOne = (history : List Write) (stamp : ℕ) (low high : List ℕ) (items others : List KeyValue)
    → AreItems history stamp low high items → AreItems history stamp low high others
    → items ≡ others

-- a batch has one list of replies, and one list of writes behind it
abbrev pub OneAnswer : Type 0
OneAnswer = (before after also : List Write) (base limit : ℕ) (requests : List Request)
    (replies others : List Reply) → AnswersBatch before after base limit requests replies
    → AnswersBatch before also base limit requests others → (replies ≡ others) × (after ≡ also)
