-- How one request of a batch is answered, and how the pass goes on behind it.
use Rattle.std.specs.Prelude.{◌≡◌, ℕ, ◌+◌, List, [], map, Option, None, Some, Bool, false}
use Rattle.std.specs.Prelude.{if◌then◌else◌, nat_le, option_and_then, slice_get}
use Rattle.std.specs.List.{AllByRecursion}
use Rattle.kv_base.specs.declared.reply.Reply.{Reply}
use Rattle.kv_base.specs.declared.request.Request.{Request}
use Rattle.kv_base.specs.declared.request.Request.TheVariants.{Put, Get, Delete, Flush, After}
use Rattle.kv_model.specs.Agreement.{refusal_of, told_of}
use Rattle.kv_model.specs.Batch.{Start, accepted_writes, answers, behind, last_write, needs_slot}
use Rattle.kv_model.specs.Batch.{reply_of, taken_by_others}
use Rattle.kv_model.specs.History.{Write}
use Rattle.kv_model.specs.Layout.{all_classes}
use Rattle.kv_worker.specs.declared.overlay.Last.{Last}
use Rattle.kv_worker.specs.declared.pass.Pass.{Pass}
use Rattle.kv_worker.specs.Course.{Course, AreClassed, Follows, IsSameLast, course_of}

-- the class, where an item of the key in it takes a new slot
abbrev pub slot_for : Start → List ℕ → ℕ → Option ℕ
slot_for start key class = if needs_slot start key class then Some class else None

-- a new slot is needed, and none is left
abbrev pub is_full_slot : Start → List Write → List ℕ → Option ℕ → Bool
is_full_slot start writes key None = false
is_full_slot start writes key (Some class) = nat_le start.limit (start.items class
    + taken_by_others start writes key class)

-- the value that the request writes
abbrev pub value_of_request : Request → Option (List ℕ)
value_of_request (Put key value) = Some value
value_of_request (Get key) = None
value_of_request (Delete key) = None
value_of_request Flush = None
value_of_request (After stamp) = None

-- the value that the request with this number writes
abbrev pub value_written : List Request → ℕ → Option (List ℕ)
value_written requests task = option_and_then value_of_request (slice_get requests task)

-- this is the key's last write in a batch of these requests that found this
pub record KnowsLast (course : Course) (writes : List Write) (now : Start) (asked : List Request)
    (key : List ℕ) (last : Option Last) : Type 0 where
  pub last_is : IsSameLast course last (last_write writes key)
  pub found : course.start ≡ now
  pub requests : course.requests ≡ asked
  pub kept : AreClassed course.start

-- the pass follows the batch, and this is the key's last write
pub record StandsAt (course : Course) (writes : List Write) (pass : Pass) (now : Start)
    (key : List ℕ) (last : Option Last) : Type 0 where
  pub follows : Follows course writes pass
  pub found : course.start ≡ now
  pub last_is : IsSameLast course last (last_write writes key)

-- the pass stands before this request of a batch that found this
pub record Stands (course : Course) (writes : List Write) (pass : Pass) (now : Start)
    (request : Request) (task stamp : ℕ) : Type 0 where
  pub follows : Follows course writes pass
  pub found : course.start ≡ now
  pub asked : slice_get course.requests task ≡ Some request
  pub stamped : stamp ≡ course.base + task

-- there is a batch before whose request it stands
abbrev pub CanAnswer : Pass → Start → Request → ℕ → ℕ → Type 0
CanAnswer pass now request task stamp = (course : Course) × ((writes : List Write)
    × Stands course writes pass now request task stamp)

-- the reply is the request's, and the pass goes on behind it
pub record IsAnswered (told : Bool) (course : Course) (writes : List Write) (request : Request)
    (stamp : ℕ) (reply : Reply) (next : Pass) : Type 0 where
  pub answer : told_of told reply ≡ told_of told (reply_of course.start writes stamp request)
  pub follows : Follows course (behind course.start writes stamp request) next

-- the request is answered, in whatever batch the pass stands before it
abbrev pub Answers : Bool → Pass → Start → Request → ℕ → ℕ → Reply → Pass → Type 0
Answers told pass now request task stamp reply next = (course : Course) (writes : List Write)
    → Stands course writes pass now request task stamp
    → IsAnswered told course writes request stamp reply next

-- the pass stands before this request in a batch of these requests
abbrev pub CanAnswerIn : Pass → Start → List Request → Request → ℕ → ℕ → Type 0
CanAnswerIn pass now asked request task stamp = (course : Course) × ((writes : List Write)
    × (Stands course writes pass now request task stamp × (course.requests ≡ asked)))

-- the request is answered, in whatever batch of these requests
abbrev pub AnswersIn : Bool → Pass → Start → List Request → Request → ℕ → ℕ → Reply → Pass
    → Type 0
AnswersIn told pass now asked request task stamp reply next = (course : Course)
    (writes : List Write) → Stands course writes pass now request task stamp
    → course.requests ≡ asked → IsAnswered told course writes request stamp reply next

-- the request has good sizes
abbrev pub HasGoodSizes : Request → Type 0
HasGoodSizes request = refusal_of all_classes request ≡ None

-- the first requests of a batch are answered, and the pass stands behind them
pub record AreAnsweredSo (told : Bool) (start : Start) (requests done : List Request) (base : ℕ)
    (replies : List Reply) (pass : Pass) : Type 0 where
  pub answers_are : map (told_of told) replies
      ≡ map (told_of told) (answers start [] base done)
  pub follows : Follows (course_of start requests base) (accepted_writes start [] base done) pass
