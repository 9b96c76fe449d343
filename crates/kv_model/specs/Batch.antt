-- A batch of requests on a plain map: what each is answered, which writes it accepts, and what of
-- them goes to disk.
use Rattle.std.specs.Prelude.{◌≡◌, ℕ, ◌+◌, List, [], ◌∷◌, ◌++◌, length, filter, count_by, Option}
use Rattle.std.specs.Prelude.{None, Some, IsSome, Bool, not, ◌&&◌, ◌||◌, nat_le, is_some}
use Rattle.std.specs.Prelude.{if◌then◌else◌, option_and_then, option_to_list}
use Rattle.std.specs.Option.{option_or}
use Rattle.std.specs.Str.{bytes_eq}
use Rattle.kv_base.specs.declared.request.Request.{Request}
use Rattle.kv_base.specs.declared.request.Request.TheVariants.{Put, Get, Delete, Flush, After}
use Rattle.kv_base.specs.declared.reply.Reply.{Reply}
use Rattle.kv_base.specs.declared.reply.Reply.TheVariants.{Stored, Found, Missing, Removed, Absent}
use Rattle.kv_base.specs.declared.reply.Reply.TheVariants.{Full, BadKey, DiskFault, Unsure}
use Rattle.kv_model.specs.History.{Write}
use Rattle.kv_model.specs.Layout.{Layout, is_small, class_of}
use Rattle.kv_model.specs.Slots.{is_class}
use Rattle.kv_model.specs.Pairs.{written, key_of}
use Rattle.kv_model.specs.Agreement.{refusal_of}

-- a batch may have the request: it is about a key, and its sizes are good
pub record IsTask (layout : Layout) (request : Request) : Type 0 where
  pub keyed : IsSome (key_of request)
  pub good : refusal_of layout request ≡ None

-- what a batch finds: the layout, the most items of a class, each key's value and the class where
-- that is kept, and how many items each class has
pub record Start : Type 0 where
  pub layout : Layout
  pub limit : ℕ
  pub value : List ℕ → Option (List ℕ)
  pub class : List ℕ → Option ℕ
  pub items : ℕ → ℕ

-- the last write of the key
abbrev pub last_write : List Write → List ℕ → Option Write
last_write [] key = None
last_write (write ∷ writes) key = option_or (last_write writes key)
    (if bytes_eq write.key key then Some write else None)

-- of each key its last write, in their order
abbrev pub last_writes : List Write → List Write
last_writes [] = []
last_writes (write ∷ writes) = if is_some (last_write writes write.key) then last_writes writes
    else write ∷ last_writes writes

-- the value that was written, or else the one that was there
abbrev pub value_or : Option Write → Option (List ℕ) → Option (List ℕ)
value_or None before = before
value_or (Some write) before = write.value

-- what the key has behind these writes of the batch
abbrev pub value_after : Start → List Write → List ℕ → Option (List ℕ)
value_after start writes key = value_or (last_write writes key) (start.value key)

-- an item of the key in this class takes a slot that isn't its own yet: the key isn't kept in the
-- class, or a slot of the class is larger than a page
abbrev pub needs_slot : Start → List ℕ → ℕ → Bool
needs_slot start key class = not (is_small class) || not (is_class (start.class key) class)

-- the class of the item that is written
abbrev pub class_written : Layout → Write → Option ℕ
class_written layout write = option_and_then (λ value. class_of layout (length write.key)
    (length value)) write.value

-- the write puts an item into a new slot of the class
abbrev pub takes_slot : Start → ℕ → Write → Bool
takes_slot start class write = is_class (class_written start.layout write) class
    && needs_slot start write.key class

-- how many keys other than this one have a last write that takes a new slot of the class
abbrev pub taken_by_others : Start → List Write → List ℕ → ℕ → ℕ
taken_by_others start writes key class = count_by (λ write. not (bytes_eq write.key key)
    && takes_slot start class write) (last_writes writes)

-- an item of the key in this class needs a new slot, and there is none left
abbrev pub is_full : Start → List Write → List ℕ → ℕ → Bool
is_full start writes key class = needs_slot start key class
    && nat_le start.limit (start.items class + taken_by_others start writes key class)

-- the class that has no slot left for this put
abbrev pub full_class : Start → List Write → List ℕ → List ℕ → Option ℕ
full_class start writes key value = option_and_then (λ class. if is_full start writes key class
    then Some class else None) (class_of start.layout (length key) (length value))

-- the reply to a put, by the class that has no slot left for it
abbrev pub put_reply : ℕ → Option ℕ → Reply
put_reply stamp None = Stored stamp
put_reply stamp (Some class) = Full class

-- the reply to a get, by the value
abbrev pub get_reply : ℕ → Option (List ℕ) → Reply
get_reply stamp None = Missing stamp
get_reply stamp (Some value) = Found stamp value

-- the reply to a delete, by the value
abbrev pub delete_reply : ℕ → Option (List ℕ) → Reply
delete_reply stamp None = Absent stamp
delete_reply stamp (Some value) = Removed stamp

-- the plain map's reply behind these writes of the batch; of a request without a key, which a batch
-- has not, nothing is meant
abbrev pub reply_of : Start → List Write → ℕ → Request → Reply
reply_of start writes stamp (Put key value) = put_reply stamp (full_class start writes key value)
reply_of start writes stamp (Get key) = get_reply stamp (value_after start writes key)
reply_of start writes stamp (Delete key) = delete_reply stamp (value_after start writes key)
reply_of start writes stamp Flush = BadKey
reply_of start writes stamp (After told) = BadKey

-- the write of the request, unless it is refused
abbrev pub accepted : Start → List Write → ℕ → Request → Option Write
accepted start writes stamp (Put key value) = if is_some (full_class start writes key value)
    then None else written (Put key value) stamp
accepted start writes stamp (Get key) = written (Get key) stamp
accepted start writes stamp (Delete key) = written (Delete key) stamp
accepted start writes stamp Flush = written Flush stamp
accepted start writes stamp (After told) = written (After told) stamp

-- these writes and then that of the request
abbrev pub behind : Start → List Write → ℕ → Request → List Write
behind start writes stamp request = writes ++ option_to_list (accepted start writes stamp request)

-- the replies to the batch, each request with the next stamp and behind the writes before it
abbrev pub answers : Start → List Write → ℕ → List Request → List Reply
answers start writes stamp [] = []
answers start writes stamp (request ∷ requests) = reply_of start writes stamp request
    ∷ answers start (behind start writes stamp request) (stamp + 1) requests

-- these writes and then those that the batch accepts
abbrev pub accepted_writes : Start → List Write → ℕ → List Request → List Write
accepted_writes start writes stamp [] = writes
accepted_writes start writes stamp (request ∷ requests) =
    accepted_writes start (behind start writes stamp request) (stamp + 1) requests

-- the write changes whether the key has a value, or which
abbrev pub changes_something : Start → Write → Bool
changes_something start write = is_some write.value || is_some (start.value write.key)

-- what goes to disk: of each key its last write, but none for a key without a value before and
-- after
abbrev pub net : Start → List Write → List Write
net start writes = filter (changes_something start) (last_writes writes)

-- the reply in place of this one where a write failed: a write that was accepted may be on disk or
-- not, and nothing is read any more
abbrev pub failed_reply : Request → ℕ → Reply → Reply
failed_reply (Put key value) stamp (Full class) = Full class
failed_reply (Put key value) stamp reply = Unsure stamp
failed_reply (Get key) stamp reply = DiskFault
failed_reply (Delete key) stamp reply = Unsure stamp
failed_reply Flush stamp reply = reply
failed_reply (After told) stamp reply = reply

-- the replies in place of these where a write failed, the first request with this stamp
abbrev pub failed_replies : ℕ → List Request → List Reply → List Reply
failed_replies stamp [] replies = []
failed_replies stamp (request ∷ requests) [] = []
failed_replies stamp (request ∷ requests) (reply ∷ replies) = failed_reply request stamp reply
    ∷ failed_replies (stamp + 1) requests replies
