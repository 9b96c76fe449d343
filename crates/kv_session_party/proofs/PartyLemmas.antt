-- A session's party: what its messages that wait, its group and its end have to do with one another.
use Rattle.std.proofs.Common.{◌≡◌, ℕ, zero, suc, List, [], ◌∷◌, ◌++◌, length, Option}
use Rattle.std.proofs.Common.{get_or, None, Some, Bool, true, false, refl, sym, ap, ◌∙◌, subst}
use Rattle.std.proofs.Common.{subst₂, arith}
use Rattle.std.specs.Prelude.{◌↔◌, ◌||◌, ◌&&◌, not, is_some, option_to_list, All, IfSome, map}
use Rattle.std.specs.List.{AllByRecursion}
use Rattle.std.proofs.lemmas.Bool.{true≢false, false≢true}
use Rattle.std.proofs.lemmas.List.{append-nil}
use Rattle.kv_base.specs.Reserved.{Reserved}
use Rattle.kv_base.specs.declared.cause.Cause.{Cause}
use Rattle.kv_base.specs.declared.reply.Reply.{Reply}
use Rattle.kv_base.specs.declared.request.Request.TheVariants.{After as AfterOf, Flush}
use Rattle.kv_model.specs.Pairs.{Pair}
use Rattle.kv_session.specs.Tasks.{HaveReplies}
use Rattle.kv_model.specs.Layout.{all_classes}
use Rattle.kv_parties.specs.Messages.{all_asking, groups_in}
use Rattle.kv_parties.specs.Setting.{Setting}
use Rattle.kv_ring.specs.Ends.{sent_to}
use Rattle.kv_ring.specs.declared.message.Answer.{Answer}
use Rattle.kv_ring.specs.declared.message.Ask.{Ask}
use Rattle.kv_ring.specs.declared.task.Task.{Task}
use Rattle.kv_session.specs.Passage.{Streams, HasRead}
use Rattle.kv_session.specs.Session.{SessionState, EndsGroup, KeepsReading, after_taken}
use Rattle.kv_session.specs.declared.gathered.Gathered.{Gathered}
use Rattle.kv_session.specs.declared.gathered.Gathered.TheVariants.{More, After, Ending as EndingOf}
use Rattle.kv_session.specs.declared.ending.Ending.{Ending}
use Rattle.kv_parties.specs.Messages.{takes_message, Hears}
use Rattle.kv_session_party.specs.Exchanges.{Asks, Receives, part_behind_came}
use Rattle.kv_session_party.specs.Links.{waiting_for, told_to, WaitsForPlaces}
use Rattle.kv_session_party.specs.Party.{WaitsAway, KeepsBytes, ends_reading}
use Rattle.kv_session_party.specs.Promise.{Tells, HasCourse, IsServed}
use Rattle.kv_session_party.specs.Parts.{is_bare, is_away, part_of, part_out}
use Rattle.kv_session_party.specs.Routes.{RoutesState, IsBare}
use Rattle.kv_session_party.specs.Parts.{part_behind, tasks_out, some_tasks, all_here}
use Rattle.kv_session_party.specs.declared.links.Links.{Links}
use Rattle.kv_session_party.specs.declared.part.Part.{Part}
use Rattle.kv_session_party.specs.declared.part.Part.TheVariants.{Here, Away}
use Rattle.kv_session_party.proofs.HearingLemmas.{Hears-new}
use Rattle.kv_parties.specs.Stamps.{HasDrawnNone, IsForExchange}
use Rattle.kv_stamps.specs.declared.view.View.{View}
use Rattle.std.proofs.lemmas.List.Elements.{All-from_recursion}

-- ---- options

pub none-of : {X : Type 0} (o : Option X) → is_some o ≡ false → o ≡ None
none-of None e = refl
none-of (Some x) e = absurd (true≢false e)

pub of-none : {X : Type 0} (o : Option X) → o ≡ None → is_some o ≡ false
of-none o e = ap is_some e

-- ---- the end

-- a session has ended behind its replies where reading had, or where they didn't all go out
pub over-is : (read_all whole : Bool) (closing : Option Cause) (ending : Option Ending)
    → read_all ≡ is_some closing → (ending ≡ None) ↔ ((whole ≡ true) × (closing ≡ None))
    → (read_all || not whole) ≡ is_some ending
over-is true whole None ending is both = absurd (true≢false is)
over-is false true None ending is both = sym (of-none ending (both.1 (refl, refl)))
over-is false false None None is both = absurd (false≢true ((both.0 refl).0))
over-is false false None (Some e) is both = refl
over-is false whole (Some c) ending is both = absurd (false≢true is)
over-is true whole (Some c) None is both =
    absurd (true≢false (of-none (Some c) ((both.0 refl).1)))
over-is true whole (Some c) (Some e) is both = refl

pub ends-closing : (gathered : Gathered) (closing : Option Cause) → EndsGroup gathered closing
    → ends_reading gathered ≡ is_some closing
ends-closing More closing ends = sym (of-none closing ends)
ends-closing (After stamp) closing ends = sym (of-none closing ends)
ends-closing (EndingOf cause) closing ends = sym (ap is_some ends)

-- where nothing is to be answered next, the session stays
pub stays-same : {So Si : Type 0} (over : Bool) (mid new : SessionState So Si) (next : Option ℕ)
    → (over ≡ true → (next ≡ None) × (new ≡ mid))
    → (over ≡ false → (next ≡ mid.after) × (new ≡ after_taken mid)) → next ≡ None → new ≡ mid
stays-same true mid new next ended goes none = (ended refl).1
stays-same {So = So} {Si = Si} false mid new next ended goes none =
    (goes refl).1
    ∙ ap (λ (a : Option ℕ). with_after mid a) (sym none ∙ (goes refl).0)
  where
    with_after : SessionState So Si → Option ℕ → SessionState So Si
    with_after session a = record session { after = a }

-- where something is, it goes on
pub goes-next : {So Si : Type 0} (over : Bool) (mid new : SessionState So Si) (next : Option ℕ)
    (stamp : ℕ) → (over ≡ true → (next ≡ None) × (new ≡ mid)) → next ≡ Some stamp → over ≡ false
goes-next true mid new next stamp ended is =
    absurd (true≢false (ap is_some (sym is ∙ (ended refl).0)))
goes-next false mid new next stamp ended is = refl

-- behind the replies a session has the bytes that it had
pub keeps-delivered : {So Si : Type 0} (old new : SessionState So Si) → KeepsReading old new
    → KeepsBytes old new
keeps-delivered old new kept = record {
  source = kept.source;
  waiting = kept.waiting;
  taken = kept.taken;
  ended = kept.ended;
  closing = kept.closing;
}

-- and so it has behind the reply to an After too
pub keeps-told : {So Si : Type 0} (old mid out new : SessionState So Si) → KeepsReading old mid
    → out ≡ after_taken mid → KeepsReading out new → KeepsBytes old new
keeps-told {So = So} {Si = Si} old mid out new first same last =
    let State = SessionState So Si in
    record {
      source = last.source ∙ ap (λ (s : State). s.source) same ∙ first.source;
      waiting = last.waiting ∙ ap (λ (s : State). s.waiting) same ∙ first.waiting;
      taken = last.taken ∙ ap (λ (s : State). s.taken) same ∙ first.taken;
      ended = last.ended ∙ ap (λ (s : State). s.ended) same ∙ first.ended;
      closing = last.closing ∙ ap (λ (s : State). s.closing) same ∙ first.closing;
    }

-- it is then the group that has no reply yet
pub next-asks : {So Si : Type 0} (streams : Streams So Si) (source : So) (sink : Si)
    (groups : List (List Pair)) (mid new : SessionState So Si) (next : Option ℕ) (stamp : ℕ)
    → next ≡ Some stamp
    → IfSome next (λ at. (begun : So) (end : Si) (all : List (List Pair))
    → HasRead streams begun end all [] mid
    → HasRead streams begun end all (AfterOf at ∷ []) new)
    → HasRead streams source sink groups [] mid
    → HasRead streams source sink groups (AfterOf stamp ∷ []) new
next-asks streams source sink groups mid new next stamp is asks read =
    subst (λ (o : Option ℕ). IfSome o (λ at. (begun : _) (end : _) (all : List (List Pair))
    → HasRead streams begun end all [] mid
    → HasRead streams begun end all (AfterOf at ∷ []) new)) is asks source sink groups read

-- a list that was empty has the one reply
pub one-replied : (before tasks : List Task) (reply : Reply) → before ≡ []
    → tasks ≡ before ++ record { request = Flush; reply = Some reply } ∷ []
    → HaveReplies tasks (reply ∷ [])
one-replied before tasks reply none is = ap (map (λ task. task.reply))
    (is ∙ ap (λ ts. ts ++ record { request = Flush; reply = Some reply } ∷ []) none)

pub or-second : (a b : Bool) → (a || b) ≡ false → b ≡ false
or-second true b e = absurd (true≢false e)
or-second false b e = e

pub or-first : (a b : Bool) → (a || b) ≡ false → a ≡ false
or-first true b e = absurd (true≢false e)
or-first false b e = refl

-- ---- messages that wait

bare-away : (part : Part) → is_bare part ≡ true → is_away part ≡ false
bare-away (Here tasks) bare = refl
bare-away (Away count) bare = absurd (false≢true bare)

pub bare-here : (routes : RoutesState) → IsBare routes → (worker : ℕ)
    → is_away (part_of routes.parts worker) ≡ false
bare-here routes bare worker = bare-away (part_of routes.parts worker) (bare.parts worker)

-- where no worker's tasks are away no message waits
pub free-all : {F : Type 0} (links : Links F) (routes : RoutesState) → WaitsAway links routes
    → ((worker : ℕ) → is_away (part_of routes.parts worker) ≡ false) → (worker : ℕ)
    → waiting_for links worker ≡ None
free-all links routes away here worker =
    none-of (waiting_for links worker) (away worker (here worker))

all-bare : (parts : List Part) → ((worker : ℕ) → is_bare (part_of parts worker) ≡ true)
    → all_here parts ≡ true
all-bare [] bare = refl
all-bare (part ∷ parts) bare = ap (λ b. not b && all_here parts) (bare-away part (bare zero))
    ∙ all-bare parts (λ worker. bare (suc worker))

pub bare-all_here : (routes : RoutesState) → IsBare routes → all_here routes.parts ≡ true
bare-all_here routes bare = all-bare routes.parts bare.parts

behind-none : (items : List Task) (tasks : Reserved Task)
    → is_away (part_behind items (Here tasks)) ≡ false → some_tasks items tasks ≡ None
behind-none [] tasks here = refl
behind-none (task ∷ items) tasks here = absurd (true≢false here)

out-none : (part : Part) → is_away (part_out part) ≡ false → tasks_out part ≡ None
out-none (Here tasks) here = behind-none tasks.items tasks here
out-none (Away count) here = absurd (true≢false here)

-- behind a group that was asked a message waits only for a worker whose tasks are away
pub away-asked : {F : Type 0} (seen : ℕ) (links new : Links F) (routes after : RoutesState)
    → Asks seen links new routes after → WaitsAway new after
away-asked seen links new routes after asks worker here =
    of-none (waiting_for new worker) (asks.free worker (out-none (part_of routes.parts worker)
    (ap is_away (sym (asks.parts worker)) ∙ here)))

received-free : {X F : Type 0} (part later : Part) (came : Option (Answer F)) (waiting : Option X)
    → later ≡ part_behind_came part came
    → ((is_away part && not (is_some waiting)) ≡ false → came ≡ None)
    → (is_away part ≡ false → is_some waiting ≡ false) → is_away later ≡ false
    → is_some waiting ≡ false
received-free (Here tasks) later came waiting is unasked free here = free refl
received-free (Away count) later came None is unasked free here = refl
received-free (Away count) later came (Some message) is unasked free here =
    absurd (true≢false (sym (ap is_away (is ∙ ap (part_behind_came (Away count))
    (unasked refl))) ∙ here))

-- and so it is behind answers that came
pub away-received : {F : Type 0} (links new : Links F) (routes after : RoutesState) (moved : Bool)
    → Receives links new routes after moved → WaitsAway links routes → WaitsAway new after
away-received links new routes after moved r away worker here =
    let same : waiting_for new worker ≡ waiting_for links worker =
    ap (λ ws. get_or ws.items worker None) r.unsent in
    ap is_some same
    ∙ received-free (part_of routes.parts worker) (part_of after.parts worker) (r.came worker)
    (waiting_for links worker) ((r.each worker).part_is) ((r.each worker).unasked) (away worker) here

-- behind answers that came messages wait for places where they did before
pub full-received : {F : Type 0} (links new : Links F) (routes after : RoutesState) (moved : Bool)
    → Receives links new routes after moved → WaitsForPlaces links → WaitsForPlaces new
full-received links new routes after moved r full worker waits = r.free_places worker
    ∙ full worker (λ none. waits (ap (λ ws. get_or ws.items worker None) r.unsent ∙ none))

-- what was told stays where nothing was sent and what waits stays
pub told-same : {F : Type 0} (links new : Links F)
    → ((worker : ℕ) → sent_to new.ends worker ≡ sent_to links.ends worker)
    → new.unsent ≡ links.unsent → (worker : ℕ) → told_to new worker ≡ told_to links worker
told-same {F = F} links new sent unsent worker =
    ap (λ ws. sent_to new.ends worker ++ option_to_list (get_or ws.items worker None)) unsent
    ∙ ap (λ (ms : List (Ask F)). ms ++ option_to_list (waiting_for links worker)) (sent worker)

-- fresh ends, where no message waits, have told nothing
pub told-fresh : {F : Type 0} (links : Links F)
    → ((worker : ℕ) → waiting_for links worker ≡ None)
    → ((worker : ℕ) → sent_to links.ends worker ≡ []) → (worker : ℕ) → told_to links worker ≡ []
told-fresh links none sent worker =
    ap (λ o. sent_to links.ends worker ++ option_to_list o) (none worker)
    ∙ append-nil (sent_to links.ends worker) ∙ sent worker

-- ---- a session that took nothing so far

-- a setting of so many workers
abbrev pub some_setting : ℕ → Setting
some_setting workers = record {
  told = false;
  layout = all_classes;
  slots = 0;
  floor = 0;
  sessions = 0;
  workers = workers;
}

pub some-served : (workers : ℕ) → IsServed (some_setting workers) workers
some-served workers = record { layout = refl; workers_are = refl }

pub Tells-new : {So Si F : Type 0} (streams : Streams So Si) (setting : Setting) (source : So)
    (sink : Si) (now : SessionState So Si) (sent : ℕ → List (Ask F))
    (received : ℕ → List (Answer F)) (routes : RoutesState) (view : View)
    → ((worker : ℕ) → sent worker ≡ [])
    → ((worker : ℕ) → received worker ≡ []) → length routes.parts ≡ setting.workers
    → HasDrawnNone view → now.ending ≡ None → HasRead streams source sink [] [] now
    → Tells streams setting source sink now sent received 0 routes false view false
Tells-new {F = F} streams setting source sink now sent received routes view none nothing size fresh
    going read =
    let messages : (worker : ℕ) → all_asking (sent worker) ≡ [] = λ worker.
    ap all_asking (none worker) in
    record {
      groups = [];
      asked = [];
      gaps = view.gaps;
      gaps_are = λ unlifted. refl;
      keeps = record {
        promise = record {
          taken = λ worker lt. subst (AllByRecursion (λ message.
              takes_message setting.layout worker setting.workers message ≡ true))
              (sym (messages worker)) tt;
          heard = λ worker. [];
          hears = λ worker lt. subst₂ (λ (ms : List (Ask F)) (xs : List (Answer F)).
              Hears ms xs []) (sym (messages worker)) (sym (nothing worker)) (Hears-new []);
          owed = λ worker lt. let size = ap length (messages worker) in omega (arith, size);
          quiet = λ e worker lt. let size = ap length (messages worker) in omega (arith, size);
          asks = record {
            exchanges = [];
            asking = λ worker. [];
            coming = λ worker. [];
            same = refl;
            asks = λ worker lt. ap groups_in (none worker);
            hears = λ worker lt. refl;
            seen = tt;
            handled = tt;
            pending = record {
              none = refl;
              asks = λ worker lt. refl;
              hears = λ worker lt. refl;
            };
          };
          looks = record {
            drawn = fresh.drawn;
            spent = fresh.spent;
            gaps = subst (All (IsForExchange [])) (sym fresh.gaps)
                (All-from_recursion (IsForExchange []) [] tt);
            told = tt;
          };
        };
        seen_is = refl;
        limit = omega arith;
        way = refl;
        size = size;
      };
      course = subst (λ o. HasCourse streams source sink [] [] false now o) (sym going) read;
    }
