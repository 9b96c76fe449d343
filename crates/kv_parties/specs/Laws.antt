-- The laws on the promises of all parties.
use Rattle.std.specs.Prelude.{◌≡◌, ◌≤◌, ◌<◌, ◌+◌, ◌^◌, ℕ, List, [], ◌∷◌, ◌++◌, length, Some}
use Rattle.std.specs.Prelude.{true, false}
use mathlib.Core.List.{IsPrefix}
use Rattle.kv_base.specs.Crash.{MayLeave}
use Rattle.kv_base.specs.Image.{Image}
use Rattle.kv_disk.specs.declared.disk.Disk as disks
use Rattle.kv_model.specs.History.{Write}
use Rattle.kv_model.specs.Pairs.{Pair}
use Rattle.kv_model.specs.Recovery.{RecoversPrefix}
use Rattle.kv_ring.specs.declared.message.Ask.{Ask}
use Rattle.kv_ring.specs.declared.message.Answer.{Answer}
use Rattle.kv_stamps.specs.Ranges.{between}
use Rattle.kv_stamps.specs.Rule.{times_in}
use Rattle.kv_stamps.specs.Seats.{first_spent}
use Rattle.kv_stamps.specs.declared.view.View.{View}
use Rattle.kv_parties.specs.Begun.{IsBefore, all_before}
use Rattle.kv_parties.specs.Joined.{Parties, AllKeep, NonePassed, NoneWaits, Stands}
use Rattle.kv_parties.specs.Joined.{all_answered, all_pairs, all_noted}
use Rattle.kv_parties.specs.Messages.{all_asking, takes_message}
use Rattle.kv_parties.specs.Promises.{WorkerData, KeepsMap, WorkerPromise, SessionPromise}
use Rattle.kv_parties.specs.Recovered.{Recovers}
use Rattle.kv_parties.specs.Rows.{sum_below}
use Rattle.kv_parties.specs.Sessions.{greatest}
use Rattle.kv_parties.specs.Setting.{Setting}
use Rattle.kv_parties.specs.Stamps.{size_of, HasDrawnNone}
use Rattle.kv_parties.specs.Workers.{done_pairs}

-- where all parties keep their promises and no message was passed over, this stands of all pairs
-- that workers answered, and where no session waits, of those that the sessions answered
abbrev pub PromisesJoin : (F D : Type 0) → disks.Ghosts D → Type 0
PromisesJoin F D d = (setting : Setting) (parties : Parties F D)
    → IsBefore setting parties.before → AllKeep d setting parties → NonePassed setting parties
    → Stands d setting parties (all_answered setting parties)
    × (NoneWaits setting parties → Stands d setting parties (all_pairs setting parties))

-- where no session waits any more, no message was passed over
abbrev pub PromisesEnd : (F D : Type 0) → disks.Ghosts D → Type 0
PromisesEnd F D d = (setting : Setting) (parties : Parties F D)
    → AllKeep d setting parties → NoneWaits setting parties → NonePassed setting parties

-- where all parties keep their promises and no message was passed over, and one more comes that has
-- an answer, no answer to its session waits to be sent, and the worker takes the message
abbrev pub OwesNone : (F D : Type 0) → disks.Ghosts D → Type 0
OwesNone F D d = (setting : Setting) (parties : Parties F D) (session worker : ℕ) (message : Ask F)
    (pushed waiting : List (Answer F)) → AllKeep d setting parties → NonePassed setting parties
    → session < setting.sessions → worker < setting.workers
    → IsPrefix (parties.asks_received worker session ++ message ∷ [])
    (parties.asks_sent session worker)
    → all_asking (message ∷ []) ≡ message ∷ []
    → parties.answers_sent worker session ≡ pushed ++ waiting
    → IsPrefix (parties.answers_received session worker) pushed
    → (waiting ≡ []) × (takes_message setting.layout worker setting.workers message ≡ true)

-- an image that recovers a prefix of what its worker has answered, and holds what it had answered
-- earlier, does so of what all workers have
abbrev pub RecoveryJoins : (F D : Type 0) → disks.Ghosts D → Type 0
RecoveryJoins F D d = (setting : Setting) (earlier parties : Parties F D)
    → earlier.before ≡ parties.before → IsBefore setting parties.before
    → (kept : AllKeep d setting earlier) → NonePassed setting earlier
    → (keep : AllKeep d setting parties) → NonePassed setting parties
    → (worker : ℕ) (image : Image) → worker < setting.workers
    → ((lt : worker < setting.workers) → Recovers setting worker image (parties.before worker)
    (done_pairs (kept.workers worker lt).groups.history)
    (done_pairs (keep.workers worker lt).groups.history))
    → Recovers setting worker image (all_before setting parties.before)
    (all_answered setting earlier) (all_answered setting parties)

-- each number from the first stamp up to the counter's next one is just once in a range, a gap or a
-- run of a party's seat, and no other number is
abbrev pub CountsAll : {F D : Type 0} → Setting → Parties F D → ℕ → Type 0
CountsAll setting parties next = (number : ℕ)
    → sum_below setting.workers (λ worker. times_in number (parties.workers worker).view)
    + sum_below setting.sessions (λ session. times_in number (parties.views session))
    ≡ between number (setting.floor + 1) next

-- all workers together drew and met no more numbers than there are answered requests
abbrev pub NumbersAreFew : (F D : Type 0) → disks.Ghosts D → Type 0
NumbersAreFew F D d = (setting : Setting) (parties : Parties F D)
    → IsBefore setting parties.before → AllKeep d setting parties → NonePassed setting parties
    → sum_below setting.workers (λ worker. size_of (parties.workers worker).view.drawn
    + size_of (parties.workers worker).view.spent) ≤ length (all_answered setting parties)

-- where all numbers that the counter gave are the parties', one met no stamps left only where the
-- greatest of the floor and the stamps that were noted, and the number of answered requests, pass
-- the last stamp
abbrev pub SpentHasCause : (F D : Type 0) → disks.Ghosts D → Type 0
SpentHasCause F D d = (setting : Setting) (parties : Parties F D) (next : ℕ)
    → IsBefore setting parties.before → AllKeep d setting parties → NonePassed setting parties
    → CountsAll setting parties next → (worker number : ℕ) → worker < setting.workers
    → first_spent (parties.workers worker).view.spent ≡ Some number
    → (2 ^ 62 ≤ greatest setting.floor (all_noted setting parties)
    + length (all_answered setting parties)) × (2 ^ 62 < number + 512)

-- a worker that received and sent nothing, drew no stamps and has its disk as it was keeps its
-- promise from the writes on that its store has and its disk leaves
abbrev pub WorkerBegins : (F D : Type 0) → disks.Ghosts D → Type 0
WorkerBegins F D d = (setting : Setting) (worker : ℕ) (before : List Write)
    (received : ℕ → List (Ask F)) (sent : ℕ → List (Answer F)) (own : WorkerData D)
    → ((session : ℕ) → session < setting.sessions → (received session ≡ []) × (sent session ≡ []))
    → HasDrawnNone own.view → own.now ≡ own.first → own.closed ≡ false
    → KeepsMap setting before own.view own.closed own.store
    → ((image : Image) → MayLeave (d.leaves own.first (d.calls own.first)) image
    → RecoversPrefix setting.layout before before image worker setting.workers)
    → WorkerPromise d setting worker before received sent own

-- a session that sent and received nothing and drew no stamps keeps its promise
abbrev pub SessionBegins : Type 0 → Type 0
SessionBegins F = (setting : Setting) (sent : ℕ → List (Ask F)) (received : ℕ → List (Answer F))
    (view : View)
    → ((worker : ℕ) → worker < setting.workers → (sent worker ≡ []) × (received worker ≡ []))
    → HasDrawnNone view → SessionPromise setting sent received [] [] false view

-- what stands is one fact, however it is shown
abbrev pub StandsOnce : (F D : Type 0) → disks.Ghosts D → Type 0
StandsOnce F D d = (setting : Setting) (parties : Parties F D) (pairs : List Pair)
    → IsProp (Stands d setting parties pairs)
