-- What a turn of a worker's party does.
use Rattle.std.specs.Prelude.{◌≡◌, ℕ, ◌<◌, ◌≤◌, List, [], ◌∷◌, ◌++◌, length, Option, None, Some}
use Rattle.std.specs.Prelude.{false, ◌||◌, option_to_list}
use Rattle.std.specs.List.{AllByRecursion}
use Rattle.kv_base.specs.Reserved.{Reserved}
use Rattle.kv_base.specs.declared.reply.Reply.{Reply}
use Rattle.kv_disk.specs.declared.disk.Disk as disks
use Rattle.kv_index.specs.declared.index.Index as indexes
use Rattle.kv_model.specs.Frames.{HasReplyFrame}
use Rattle.kv_ring.specs.Ends.{peers, SameRings}
use Rattle.kv_ring.specs.declared.ends.Ends.{Ends}
use Rattle.kv_ring.specs.declared.message.Answer.{Answer}
use Rattle.kv_ring.specs.declared.message.Answer.TheVariants.{Group}
use Rattle.kv_ring.specs.declared.message.Ask.{Ask}
use Rattle.kv_ring.specs.Turn.{turn_of}
use Rattle.kv_ring.specs.declared.task.Task.{Task}
use Rattle.kv_ring.specs.declared.turn.Turn.{Turn}
use Rattle.kv_stamps.specs.declared.view.View.{View}
use Rattle.kv_groups.specs.declared.connection.Connection.{Connection}
use Rattle.kv_groups.specs.Batched.{in_hand, AreReplied}
use Rattle.kv_worker.specs.Batches.{AreAnswered, requests_in}
use Rattle.kv_groups.specs.Delivering.{tasks_of, all_ended}
use Rattle.kv_groups.specs.Gathering.{Intake, all_tasks, intake_of, taken_by, any_moved, greatest}
use Rattle.kv_worker_party.specs.Serving.{HasServed}
use Rattle.kv_groups.specs.Taking.{connection_of, is_bye}
use Rattle.kv_groups.specs.Traffic.{Traffic, traffic_with, WaitsForPlace}
use Rattle.kv_worker.specs.Worker.{WorkerView}

-- the tasks of the group that is taken, if one is
abbrev pub asked_tasks : Option (ℕ × Reserved Task) → List Task
asked_tasks None = []
asked_tasks (Some group) = group.1.items

-- what its session had seen, 0 where none is taken
abbrev pub asked_seen : Option (ℕ × Reserved Task) → ℕ
asked_seen None = 0
asked_seen (Some group) = group.0

module _ {F : Type 0} where
  -- what each session had seen whose group is taken
  abbrev pub asked_seens : ℕ → ℕ → List (Intake F) → List ℕ
  asked_seens worker workers [] = []
  asked_seens worker workers (intake ∷ intakes) =
      asked_seen (taken_by worker workers intake) ∷ asked_seens worker workers intakes

  -- the answer to the group that is taken, with these tasks
  abbrev pub answer_to : Option (ℕ × Reserved Task) → List Task → List (Answer F)
  answer_to None tasks = []
  answer_to (Some group) tasks = Group (record { items = tasks; spare = group.1.spare }) ∷ []

  -- of one session: the answer that waited is sent or waits on, the next message is taken or passed
  -- over, and a group that is taken has its answer, sent or waiting; one waits only for want of a place
  pub record Exchanges (worker workers : ℕ) (traffic new : Traffic F) (old now : Connection F)
      (intake : Intake F) (answered : List Task) : Type 0 where
    pub received : new.received ≡ traffic.received ++ option_to_list intake.came
    pub none : intake.came ≡ None → new.known ≡ []
    pub waited : old.waiting ≡ None → intake.waits ≡ false
    pub tasks : intake.tasks ≡ asked_tasks (taken_by worker workers intake)
    pub sent : new.sent ++ option_to_list now.waiting
        ≡ (traffic.sent ++ option_to_list old.waiting)
        ++ answer_to (taken_by worker workers intake) answered
    pub full : WaitsForPlace now.waiting new
    pub replied : AreReplied intake.tasks answered
    pub gone : now.gone ≡ (old.gone || is_bye intake.came)

-- the tasks of all sessions make one batch, which is answered, and each session gets its part
pub record Turns {D I F : Type 0} (d : disks.Ghosts D) (i : indexes.Ghosts I)
    (old now : WorkerView D I) (ends new : Ends (Answer F) (Ask F) 8)
    (connections after : List (Connection F)) (view later : View) (turn : Turn) : Type 0 where
  pub intakes : List (Intake F)
  pub answered : List (List Task)
  pub replies : List Reply
  pub seen : ℕ
  pub many : (length intakes ≡ peers ends) × (length answered ≡ peers ends)
  pub each : (session : ℕ) → session < peers ends → Exchanges old.store.worker old.store.workers
      (traffic_with ends session) (traffic_with new session) (connection_of connections session)
      (connection_of after session) (intake_of intakes session) (tasks_of answered session)
  pub seen_is : seen ≡ greatest (asked_seens old.store.worker old.store.workers intakes)
  pub batch : AreAnswered (in_hand 0 (all_tasks intakes))
      (in_hand 0 answered) replies
  pub few : length (in_hand 0 (all_tasks intakes)) ≤ 512
  pub framed : AllByRecursion HasReplyFrame replies
  pub served : HasServed d i old now view later seen
      (requests_in (in_hand 0 (all_tasks intakes))) replies
  pub turn_is : turn ≡ turn_of (all_ended after) (any_moved connections intakes)
  pub rings : SameRings ends new

-- the worker is the same one of as many, its seat has the same share of the counter, and as long as
-- the worker is open, its stamps are below what its seat has seen, which is no less than before
pub record StaysAhead {D I : Type 0} (old now : WorkerView D I) (view later : View) : Type 0 where
  pub worker : now.store.worker ≡ old.store.worker
  pub workers : now.store.workers ≡ old.store.workers
  pub start : later.start ≡ view.start
  pub weight : later.weight ≡ view.weight
  pub seats : later.seats ≡ view.seats
  pub up : view.seen ≤ later.seen
  pub ahead : now.store.closed ≡ false → now.highest < later.seen
