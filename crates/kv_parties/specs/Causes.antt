-- Refusals and unsure replies, and what causes them.
use Rattle.std.specs.Prelude.{◌≡◌, ◌≢◌, ℕ, ◌+◌, ◌-◌, ◌*◌, ◌^◌, ◌<◌, ◌≤◌, List, [], ◌∷◌, ◌++◌, length}
use Rattle.std.specs.Prelude.{Bool, true, false, ◌||◌, Some, IsTrue, Contains, MatchOption, ⊤}
use Rattle.std.specs.Prelude.{count_by, if◌then◌else◌}
use Rattle.std.specs.List.{AllByRecursion, list_any}
use Rattle.kv_base.specs.Calls.{next_count}
use Rattle.kv_base.specs.declared.request.Request.{Request}
use Rattle.kv_base.specs.declared.request.Request.TheVariants.{Put, Get, Delete, Flush, After}
use Rattle.kv_base.specs.declared.reply.Reply.{Reply}
use Rattle.kv_base.specs.declared.reply.Reply.TheVariants.{Stored, Found, Missing, Removed, Absent}
use Rattle.kv_base.specs.declared.reply.Reply.TheVariants.{BadKey, TooLarge, Full, NoMemory}
use Rattle.kv_base.specs.declared.reply.Reply.TheVariants.{DiskFault, Unsure, Closed, StampsSpent}
use Rattle.kv_base.specs.declared.reply.Reply.TheVariants.{Malformed, Noted, Ahead}
use Rattle.kv_model.specs.Agreement.{refusal_of, IsCounterAnswer}
use Rattle.kv_model.specs.Batch.{class_written}
use Rattle.kv_model.specs.History.{Write}
use Rattle.kv_model.specs.Layout.{Layout, is_small}
use Rattle.kv_model.specs.Pairs.{Pair, pairs_in, writes, unsure_writes}
use Rattle.kv_model.specs.Pairwise.{Pairwise}
use Rattle.kv_stamps.specs.Seats.{first_spent}
use Rattle.kv_stamps.specs.declared.view.Range.{Range}
use Rattle.kv_parties.specs.Setting.{Setting, owned_pairs, owned_writes}

-- whether the reply says that a write may be on disk or not
abbrev pub is_unsure : Reply → Bool
is_unsure (Stored stamp) = false
is_unsure (Found stamp value) = false
is_unsure (Missing stamp) = false
is_unsure (Removed stamp) = false
is_unsure (Absent stamp) = false
is_unsure BadKey = false
is_unsure TooLarge = false
is_unsure (Full class) = false
is_unsure NoMemory = false
is_unsure DiskFault = false
is_unsure (Unsure stamp) = true
is_unsure Closed = false
is_unsure (StampsSpent number) = false
is_unsure (Malformed offset) = false
is_unsure Noted = false
is_unsure (Ahead number) = false

-- whether the reply tells of a fault of the disk
abbrev pub is_fault : Reply → Bool
is_fault (Stored stamp) = false
is_fault (Found stamp value) = false
is_fault (Missing stamp) = false
is_fault (Removed stamp) = false
is_fault (Absent stamp) = false
is_fault BadKey = false
is_fault TooLarge = false
is_fault (Full class) = false
is_fault NoMemory = false
is_fault DiskFault = true
is_fault (Unsure stamp) = true
is_fault Closed = false
is_fault (StampsSpent number) = false
is_fault (Malformed offset) = false
is_fault Noted = false
is_fault (Ahead number) = false

-- whether a reply says that a write may be on disk or not
abbrev pub any_unsure : List Pair → Bool
any_unsure pairs = list_any (λ pair. is_unsure pair.reply) pairs

-- whether a reply tells of a fault of the disk
abbrev pub any_fault : List Pair → Bool
any_fault pairs = list_any (λ pair. is_fault pair.reply) pairs

-- how many replies say that a write may be on disk or not
abbrev pub count_unsure : List Pair → ℕ
count_unsure pairs = count_by (λ pair. is_unsure pair.reply) pairs

-- how many replies tell of a fault of the disk
abbrev pub count_faults : List Pair → ℕ
count_faults pairs = count_by (λ pair. is_fault pair.reply) pairs

-- a session answers the request itself: by the refusal that its sizes demand, or for want of memory
-- for a copy
abbrev pub IsOwn : Layout → Pair → Type 0
IsOwn layout pair = MatchOption (refusal_of layout pair.request) (pair.reply ≡ NoMemory)
    (λ refusal. pair.reply ≡ refusal)

-- the reply is the counter's, to an After
abbrev pub IsCounterReply : Request → Reply → Type 0
IsCounterReply (Put key value) reply = ⊥
IsCounterReply (Get key) reply = ⊥
IsCounterReply (Delete key) reply = ⊥
IsCounterReply Flush reply = ⊥
IsCounterReply (After stamp) reply = IsCounterAnswer stamp reply

-- a session answers the request itself, by the counter
abbrev pub IsLooked : Pair → Type 0
IsLooked pair = IsCounterReply pair.request pair.reply

-- the count of a disk's faults behind these batches: one more for each that tells of one
abbrev pub faults_behind : List (List Pair) → ℕ → ℕ
faults_behind [] count = count
faults_behind (batch ∷ batches) count =
    faults_behind batches (if any_fault batch then next_count count else count)

-- the reply is Closed at a closed store, and only there
abbrev pub IsClosedAt : Bool → Pair → Type 0
IsClosedAt false pair = pair.reply ≢ Closed
IsClosedAt true pair = pair.reply ≡ Closed

-- the replies of a batch are Closed exactly behind one with an unsure write
abbrev pub AreClosedBehind : Bool → List (List Pair) → Type 0
AreClosedBehind closed [] = ⊤
AreClosedBehind closed (batch ∷ batches) = AllByRecursion (IsClosedAt closed) batch
    × AreClosedBehind (closed || any_unsure batch) batches

-- where the reply is StampsSpent it has the number that was met first without stamps left
abbrev pub IsSpentAt : List Range → Pair → Type 0
IsSpentAt runs pair = (number : ℕ) → pair.reply ≡ StampsSpent number
    → first_spent runs ≡ Some number

-- so many keys have a write with a value of the class
pub record HasKeysOf (layout : Layout) (class : ℕ) (history : List Write) (count : ℕ) :
    Type 0 where
  pub keys : List (List ℕ)
  pub apart : Pairwise (λ key other. key ≢ other) keys
  pub many : count ≡ length keys
  pub each : AllByRecursion (λ key. (write : Write) × Contains history write × (write.key ≡ key)
      × (class_written layout write ≡ Some class)) keys

-- the class has no slot left: as many keys as it has slots had an item of it, and in a class of
-- slots larger than a page half as many
pub record HasNoSlot (layout : Layout) (slots : ℕ) (history : List Write) (class : ℕ) :
    Type 0 where
  pub count : ℕ
  pub keys : HasKeysOf layout class history count
  pub full : slots ≤ (if is_small class then count else 2 * count)

-- the reply is Full only where the class has no slot left
abbrev pub IsFullAt : Layout → ℕ → List Write → Pair → Type 0
IsFullAt layout slots history pair = (class : ℕ) → pair.reply ≡ Full class
    → ∥ HasNoSlot layout slots history class ∥₁

-- the earlier writes, then those that the pairs acknowledge, and then those that may be on disk or
-- not
abbrev pub all_writes : List Write → List Pair → List Write
all_writes before pairs = before ++ writes pairs ++ unsure_writes pairs

-- the most requests of a batch
abbrev pub most_tasks : ℕ
most_tasks = 512

-- a worker's batches, from these writes on: each refusal has its cause, the disk's count of faults
-- rose once for each batch that tells of a fault, and the worker is closed behind an unsure write
pub record KeepsCauses (setting : Setting) (before : List Write) (runs : List Range)
    (faults faults' : ℕ) (closed : Bool) (batches : List (List Pair)) : Type 0 where
  pub few : AllByRecursion (λ batch. length batch ≤ most_tasks) batches
  pub closes : AreClosedBehind false batches
  pub closed_is : closed ≡ any_unsure (pairs_in batches)
  pub counted : faults' ≡ faults_behind batches faults
  pub spent : AllByRecursion (IsSpentAt runs) (pairs_in batches)
  pub full : IsTrue setting.told → AllByRecursion (IsFullAt setting.layout setting.slots
      (all_writes before (pairs_in batches))) (pairs_in batches)

-- of the pairs about keys that the worker owns: each refusal has its cause, at most so many tell of
-- one rise of the disk's count of faults, which rises by no more than tell of one, and at most so
-- many are unsure
pub record HasCauses (setting : Setting) (worker : ℕ) (before : List Write) (runs : List Range)
    (faults faults' : ℕ) (closed : Bool) (pairs : List Pair) : Type 0 where
  pub faulty : faults' < 2 ^ 64 - 1
      → count_faults (owned_pairs setting.workers worker pairs) ≤ most_tasks * (faults' - faults)
  pub rose : faults' ≤ faults + count_faults (owned_pairs setting.workers worker pairs)
  pub unsure : count_unsure (owned_pairs setting.workers worker pairs) ≤ most_tasks
  pub closed_is : closed ≡ any_unsure (owned_pairs setting.workers worker pairs)
  pub closes : AllByRecursion (λ pair. pair.reply ≡ Closed
      → any_unsure (owned_pairs setting.workers worker pairs) ≡ true)
      (owned_pairs setting.workers worker pairs)
  pub spent : AllByRecursion (IsSpentAt runs) (owned_pairs setting.workers worker pairs)
  pub full : IsTrue setting.told → AllByRecursion (IsFullAt setting.layout setting.slots
      (owned_writes setting.workers worker (all_writes before pairs)))
      (owned_pairs setting.workers worker pairs)
