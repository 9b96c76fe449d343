-- What a session keeps of the group that is on its way, and of its bytes.
use Rattle.std.specs.Prelude.{◌≡◌, ◌<◌, ◌^◌, ℕ, List, [], ◌∷◌, ◌++◌, length, Option, None, Some}
use Rattle.std.specs.Prelude.{Bool, true, false, not, is_some}
use Rattle.std.specs.List.{AllByRecursion}
use Rattle.kv_base.specs.Reserved.{Reserved}
use Rattle.kv_base.specs.declared.reply.Reply.{Reply}
use Rattle.kv_base.specs.declared.request.Request.{Request}
use Rattle.kv_model.specs.Layout.{all_classes}
use Rattle.kv_model.specs.Pairs.{Pair}
use Rattle.kv_parties.specs.Groups.{Asked}
use Rattle.kv_parties.specs.Messages.{all_asking}
use Rattle.kv_parties.specs.Sessions.{Handled}
use Rattle.kv_parties.specs.Setting.{Setting}
use Rattle.kv_ring.specs.Tasks.{requests_of}
use Rattle.kv_ring.specs.declared.message.Answer.{Answer}
use Rattle.kv_ring.specs.declared.message.Ask.{Ask}
use Rattle.kv_ring.specs.declared.message.Ask.TheVariants as ask
use Rattle.kv_ring.specs.declared.task.Task.{Task}
use Rattle.kv_session.specs.Passage.{Streams, HasRead, HasSession}
use Rattle.kv_stamps.specs.declared.view.Range.{Range}
use Rattle.kv_stamps.specs.declared.view.View.{View}
use Rattle.kv_session.specs.Session.{SessionState}
use Rattle.kv_session.specs.Tasks.{AreTaken}
use Rattle.kv_session.specs.declared.ending.Ending.{Ending}
use Rattle.kv_parties.specs.Messages.{IsReplied}
use Rattle.kv_parties.specs.Promises.{SessionPromise}
use Rattle.kv_parties.specs.Sessions.{message_of, seen_behind}
use Rattle.kv_session_party.specs.Parts.{HasTasks}
use Rattle.kv_session_party.specs.Routes.{RoutesState, ArePlaces, part_for}
use Rattle.kv_session_party.specs.Parts.{part_of, replies_in}
use Rattle.kv_session_party.specs.declared.part.Part.{Part}
use Rattle.kv_session_party.specs.declared.part.Part.TheVariants.{Here, Away}

-- what all parties serve, as a session of so many workers knows it
pub record IsServed (setting : Setting) (workers : ℕ) : Type 0 where
  pub layout : setting.layout ≡ all_classes
  pub workers_are : setting.workers ≡ workers

-- what came for the tasks of a worker, and its part: nothing where there are no tasks, nothing while
-- they are away, and else a reply to each
abbrev pub StandsIn : List Task → List (List Reply) → Part → Type 0
StandsIn [] coming part = (coming ≡ []) × HasTasks part []
StandsIn (task ∷ tasks) coming (Away count) = (coming ≡ [])
    × (count ≡ length (task ∷ tasks))
StandsIn (task ∷ tasks) coming (Here answer) = (coming ≡ replies_in answer.items ∷ [])
    × (length answer.items ≡ length (task ∷ tasks)) × AllByRecursion IsReplied answer.items

module _ {F : Type 0} where
  -- the last message is the group of these many tasks, and all before it were answered
  pub record AwaitsLast (count : ℕ) (messages : List (Ask F)) (heard : List (Answer F)) :
      Type 0 where
    pub earlier : List (Ask F)
    pub seen : ℕ
    pub tasks : Reserved Task
    pub messages_are : messages ≡ earlier ++ ask.Group seen tasks ∷ []
    pub heard_all : length earlier ≡ length heard
    pub many : length tasks.items ≡ count

  -- while the tasks of a part are away the answer to the last message is owed, and else none is
  abbrev pub IsOwed : Part → List (Ask F) → List (Answer F) → Type 0
  IsOwed (Here tasks) messages heard = length messages ≡ length heard
  IsOwed (Away count) messages heard = AwaitsLast count messages heard

  -- the group of these requests is on its way: each worker that owns any of their keys was asked
  -- for these alone, and what came of it stands in its part
  pub record IsOnWay (setting : Setting) (seen : ℕ) (sent : ℕ → List (Ask F))
      (heard : ℕ → List (Answer F)) (asking : ℕ → List Asked) (coming : ℕ → List (List Reply))
      (routes : RoutesState) (asked : List Request) : Type 0 where
    pub tasks : List Task
    pub taken : AreTaken asked tasks
    pub places : ArePlaces setting.workers tasks routes.places
    pub asked_is : (worker : ℕ) → worker < setting.workers → asking worker
        ≡ message_of seen (requests_of (part_for setting.workers worker tasks))
    pub came : (worker : ℕ) → worker < setting.workers
        → StandsIn (part_for setting.workers worker tasks) (coming worker)
        (part_of routes.parts worker)
    pub owed : (worker : ℕ) → worker < setting.workers
        → IsOwed (part_of routes.parts worker) (all_asking (sent worker)) (heard worker)

  -- the group of these requests is on its way, or none is
  abbrev pub StandsOut : Bool → Setting → ℕ → (ℕ → List (Ask F)) → (ℕ → List (Answer F))
      → (ℕ → List Asked) → (ℕ → List (List Reply)) → RoutesState → List Request → Type 0
  StandsOut false setting seen sent heard asking coming routes asked = asked ≡ []
  StandsOut true setting seen sent heard asking coming routes asked =
      IsOnWay setting seen sent heard asking coming routes asked

  -- the session's promise, and what it keeps beside: the greatest stamp that it has seen, and where
  -- the group's requests are
  pub record Keeps (setting : Setting) (sent : ℕ → List (Ask F)) (received : ℕ → List (Answer F))
      (groups : List (List Pair)) (seen : ℕ) (routes : RoutesState) (asked : List Request)
      (waiting : Bool) (view : View) : Type 0 where
    pub promise : SessionPromise setting sent received groups asked waiting view
    pub seen_is : seen ≡ seen_behind 0 promise.asks.exchanges
    pub limit : seen < 2 ^ 62
    pub way : StandsOut waiting setting seen sent promise.heard promise.asks.asking
        promise.asks.coming routes asked
    pub size : length routes.parts ≡ setting.workers

-- a session since it began with this source and sink: it goes on, and has answered these groups, but
-- not yet the one of these requests; or it has ended
abbrev pub HasCourse : {So Si : Type 0} → Streams So Si → So → Si → List (List Pair) → List Request
    → Bool → SessionState So Si → Option Ending → Type 0
HasCourse streams source sink groups asked waiting now None =
    HasRead streams source sink groups asked now
HasCourse streams source sink groups asked waiting now (Some ending) =
    HasSession streams source now.source sink now.sink ending groups × (waiting ≡ false)

-- the view with these gaps
abbrev pub with_gaps : View → List Range → View
with_gaps view gaps = record view { gaps = gaps }

-- a session's transcript and its promise, over the same groups; the gaps of its seat are those that
-- the promise speaks of, unless the counter was lifted through it from outside
pub record Tells {So Si F : Type 0} (streams : Streams So Si) (setting : Setting) (source : So)
    (sink : Si) (now : SessionState So Si) (sent : ℕ → List (Ask F))
    (received : ℕ → List (Answer F)) (seen : ℕ) (routes : RoutesState) (waiting : Bool)
    (view : View) (lifted : Bool) : Type 0 where
  pub groups : List (List Pair)
  pub asked : List Request
  pub gaps : List Range
  pub gaps_are : lifted ≡ false → gaps ≡ view.gaps
  pub keeps : Keeps setting sent received groups seen routes asked waiting (with_gaps view gaps)
  pub course : HasCourse streams source sink groups asked waiting now now.ending

-- each request with its reply, and whether a worker gave it
abbrev pub handled_by : List Request → List Task → List Reply → List Handled
handled_by [] tasks replies = []
handled_by (request ∷ requests) [] replies = []
handled_by (request ∷ requests) (task ∷ tasks) [] = []
handled_by (request ∷ requests) (task ∷ tasks) (reply ∷ replies) = record {
  pair = record { request = request; reply = reply };
  routed = not (is_some task.reply);
} ∷ handled_by requests tasks replies
