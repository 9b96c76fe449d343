-- What a session promises, as its rings and its group go on.
use Rattle.std.proofs.Common.{◌≡◌, ◌⊎◌, inl, inr, ℕ, ◌+◌, ◌<◌, ◌≤◌, List, [], ◌∷◌}
use Rattle.std.proofs.Common.{◌++◌}
use Rattle.std.proofs.Common.{length, map, Option, None, Some, Bool, true, false, cond, nat_eq}
use Rattle.std.proofs.Common.{refl}
use Rattle.std.proofs.Common.{sym, ap, ◌∙◌, subst, subst₂, arith, append_assoc, length-append}
use Rattle.std.specs.Prelude.{◌&&◌, not, is_some, filter, option_to_list}
use Rattle.std.specs.List.{AllByRecursion}
use Rattle.std.proofs.lemmas.Bool.{true≢false, false≢true}
use Rattle.std.proofs.lemmas.Bool.Decides.{nat_tests}
use Rattle.std.proofs.lemmas.List.{append-nil, map-append, length-map}
use Rattle.std.proofs.lemmas.Grind.{flat_map-append}
use Rattle.kv_base.specs.Reserved.{Reserved}
use Rattle.kv_base.specs.declared.reply.Reply.{Reply}
use Rattle.kv_base.specs.declared.request.Request.{Request}
use Rattle.kv_model.proofs.PairwiseLemmas.{All-append}
use Rattle.kv_model.specs.Layout.{all_classes}
use Rattle.kv_model.specs.Pairs.{Pair, key_of}
use Rattle.kv_parties.specs.Groups.{Asked, replies_of}
use Rattle.kv_parties.specs.Messages.{all_asking, asking, groups_in, group_of}
use Rattle.kv_parties.specs.Messages.{answered_in, answered_of}
use Rattle.kv_parties.specs.Sessions.{all_asked, all_replied}
use Rattle.kv_parties.specs.Setting.{Setting, owns}
use Rattle.kv_ring.specs.declared.message.Answer.{Answer}
use Rattle.kv_ring.specs.declared.message.Answer.TheVariants as answer
use Rattle.kv_ring.specs.declared.message.Ask.{Ask}
use Rattle.kv_ring.specs.declared.message.Ask.TheVariants as ask
use Rattle.kv_ring.specs.declared.task.Task.{Task}
use Rattle.kv_ring.specs.Tasks.{requests_of}
use Rattle.kv_session.specs.Tasks.{AreTaken, GoesOn, IsRefused}
use Rattle.kv_parties.specs.Messages.{IsReplied, Hears}
use Rattle.kv_parties.specs.Promises.{SessionPromise}
use Rattle.kv_stamps.specs.declared.view.View.{View}
use Rattle.kv_parties.specs.Sessions.{IsUnderWay, Sent, HasCome}
use Rattle.kv_parties.specs.Messages.{IsAnswerTo, takes_message}
use Rattle.kv_parties.specs.Sessions.{message_of, asked_of, was_asked}
use Rattle.kv_parties.specs.Sessions.{seen_behind}
use Rattle.kv_session_party.specs.Exchanges.{part_behind_came, message_for}
use Rattle.kv_session_party.specs.Promise.{Keeps, StandsIn, IsOwed, AwaitsLast, IsOnWay}
use Rattle.kv_session_party.specs.Parts.{part_of, part_with}
use Rattle.kv_session_party.specs.Routes.{RoutesState, ArePlaces, part_for, goes_to}
use Rattle.kv_session_party.specs.Parts.{HasTasks, tasks_out, some_tasks, part_out, part_behind}
use Rattle.kv_session_party.specs.Routes.{IsRouted}
use Rattle.kv_session_party.specs.Parts.{part_after, is_taken, is_away, tasks_here, answers_all}
use Rattle.kv_session_party.specs.Parts.{have_replies, replies_in}
use Rattle.kv_session_party.specs.declared.part.Part.{Part}
use Rattle.kv_session_party.specs.declared.part.Part.TheVariants.{Here, Away}
use Rattle.kv_session_party.specs.declared.routes.Place.{Place}
use Rattle.kv_session_party.proofs.HearingLemmas.{Hears-more, Hears-length, Hears-taken}
use Rattle.kv_session_party.proofs.HearingLemmas.{Hears-passed}
use Rattle.kv_session_party.proofs.PartLemmas.{replied-all, replies-length}
use Rattle.kv_session_party.proofs.TakingLemmas.{takes-group}

-- ---- the group under way, as the promise has it

-- each request, and whether it goes to a worker
abbrev pub sent_by : List Request → List Task → List Sent
sent_by [] tasks = []
sent_by (request ∷ asked) [] = []
sent_by (request ∷ asked) (task ∷ tasks) = record {
  request = request;
  routed = not (is_some task.reply);
} ∷ sent_by asked tasks

sent-same : (asked : List Request) (tasks : List Task) → AreTaken asked tasks
    → asked ≡ map (λ (s : Sent). s.request) (sent_by asked tasks)
sent-same [] tasks taken = refl
sent-same (q ∷ asked) [] taken = absurd taken
sent-same (q ∷ asked) (t ∷ tasks) taken =
    ap (λ (qs : List Request). q ∷ qs) (sent-same asked tasks taken.1)

-- the request was sent to the worker where its task goes to it
was-goes : (n worker : ℕ) (request : Request) (task : Task)
    → GoesOn request task ⊎ IsRefused request task → was_asked n worker (record {
      request = request;
      routed = not (is_some task.reply);
    }) ≡ goes_to n worker task
was-goes n worker request task (inl on) = ap (λ (r : Request).
    not (is_some task.reply) && owns n worker (key_of r)) (sym on.request_is)
was-goes n worker request task (inr refused) =
    ap (λ (o : Option Reply). not (is_some o) && owns n worker (key_of request)) refused.answered
    ∙ sym (ap (λ (o : Option Reply). not (is_some o) && owns n worker (key_of task.request))
    refused.answered)

-- the request of a task that goes to a worker
pub task-request : (n worker : ℕ) (request : Request) (task : Task)
    → GoesOn request task ⊎ IsRefused request task → goes_to n worker task ≡ true
    → request ≡ task.request
task-request n worker request task (inl on) holds = sym on.request_is
task-request n worker request task (inr refused) holds = absurd (false≢true
    (sym (ap (λ (o : Option Reply). not (is_some o) && owns n worker (key_of task.request))
    refused.answered) ∙ holds))

asked-part : (n worker : ℕ) (asked : List Request) (tasks : List Task) → AreTaken asked tasks
    → asked_of n worker (sent_by asked tasks) ≡ requests_of (part_for n worker tasks)
asked-part n worker [] [] taken = refl
asked-part n worker [] (t ∷ tasks) taken = absurd taken
asked-part n worker (q ∷ asked) [] taken = absurd taken
asked-part n worker (q ∷ asked) (t ∷ tasks) taken =
    let s : Sent = record { request = q; routed = not (is_some t.reply) } in
    let rest : List Sent = filter (was_asked n worker) (sent_by asked tasks) in
    let more = asked-part n worker asked tasks taken.1 in
    ap (λ b. map (λ (x : Sent). x.request) (cond b (s ∷ rest) rest))
    (was-goes n worker q t taken.0)
    ∙ (elim (goes_to n worker t) as (λ b. goes_to n worker t ≡ b
    → map (λ (x : Sent). x.request) (cond b (s ∷ rest) rest)
    ≡ requests_of (cond b (t ∷ part_for n worker tasks) (part_for n worker tasks))) [
      | true ↦ λ holds. ap (λ (x : Request). x ∷ map (λ (x : Sent). x.request) rest)
          (task-request n worker q t taken.0 holds)
          ∙ ap (λ (xs : List Request). t.request ∷ xs) more
      | false ↦ λ fails. more
    ]) refl

come-part : (items : List Task) (coming : List (List Reply)) (part : Part)
    → StandsIn items coming part → HasCome (requests_of items) coming
come-part [] coming part stands = stands.0
come-part (task ∷ items) coming (Away count) stands = inl stands.0
come-part (task ∷ items) coming (Here answer) stands =
    let size = replies-length answer.items stands.2 in
    let many = length-map items (λ (t : Task). t.request) in
    let all = stands.1 in
    inr (replies_in answer.items, stands.0, omega (arith, size, many, all))

eq-of : (m n : ℕ) → nat_eq m n ≡ true → m ≡ n
eq-of m n e = grind (arith, nat_tests)

both-of : (a b : Bool) → (a && b) ≡ true → a ≡ true
both-of true b e = refl
both-of false b e = e

-- the answer with these tasks
abbrev group_answer : (F : Type 0) → Reserved Task → Answer F
group_answer F tasks = answer.Group tasks

-- the answer to tasks that are away
away-has : (F : Type 0) (task : Task) (mine : List Task) (coming : List (List Reply)) (count : ℕ)
    (later : Part) (tasks : Reserved Task) → later ≡ part_with tasks (Away count)
    → (answers_all count tasks.items ≡ true → AllByRecursion IsReplied (tasks_here later))
    → StandsIn (task ∷ mine) coming (Away count)
    → StandsIn (task ∷ mine) (coming ++ replies_of (answered_in
    (cond (answers_all count tasks.items) (group_answer F tasks ∷ []) []))) later
away-has F task mine coming count later tasks is replied has =
    (elim (answers_all count tasks.items) as (λ b. answers_all count tasks.items ≡ b
    → StandsIn (task ∷ mine) (coming
    ++ replies_of (answered_in (cond b (group_answer F tasks ∷ []) []))) later) [
      | true ↦ λ holds.
          let here : later ≡ Here tasks = is ∙ ap (λ b. cond b (Here tasks) (Away count)) holds in
          let items : AllByRecursion IsReplied tasks.items =
          subst (λ p. AllByRecursion IsReplied (tasks_here p)) here (replied holds) in
          let size : length tasks.items ≡ count =
          eq-of (length tasks.items) count (both-of (nat_eq (length tasks.items) count)
          (have_replies tasks.items) holds) in
          subst (λ p. StandsIn (task ∷ mine) (coming ++ replies_in tasks.items ∷ []) p) (sym here) (
            ap (λ (xs : List (List Reply)). xs ++ replies_in tasks.items ∷ []) has.0,
            size ∙ has.1,
            items,
          )
      | false ↦ λ fails.
          let away : later ≡ Away count = is ∙ ap (λ b. cond b (Here tasks) (Away count)) fails in
          subst₂ (λ (xs : List (List Reply)) (p : Part). StandsIn (task ∷ mine) xs p)
          (sym (append-nil coming)) (sym away) has
    ]) refl

message-few : (F : Type 0) (seen : ℕ) (tasks : Option (Reserved Task))
    → length (all_asking (message_for {F = F} seen tasks)) ≤ 1
message-few F seen None = omega arith
message-few F seen (Some tasks) = omega arith

module _ (F : Type 0) where
  -- what is asked of a worker, and its part behind it
  pub record GoesOut (seen : ℕ) (items : List Task) (part : Part) : Type 0 where
    pub asks : groups_in (message_for {F = F} seen (tasks_out part))
        ≡ message_of seen (requests_of items)
    pub come : StandsIn items [] (part_out part)
    pub owed : (messages : List (Ask F)) (heard : List (Answer F))
        → length messages ≡ length heard → IsOwed (part_out part)
        (messages ++ all_asking (message_for {F = F} seen (tasks_out part))) heard
    pub takes : (test : Ask F → Bool)
        → ((tasks : Reserved Task) → tasks.items ≡ items → test (ask.Group seen tasks) ≡ true)
        → AllByRecursion (λ message. test message ≡ true)
        (all_asking (message_for {F = F} seen (tasks_out part)))

  goes-items : (seen : ℕ) (items : List Task) (tasks : Reserved Task) → tasks.items ≡ items
      → (groups_in (message_for {F = F} seen (some_tasks items tasks))
      ≡ message_of seen (requests_of items))
      × StandsIn items [] (part_behind items (Here tasks))
      × ((messages : List (Ask F)) (heard : List (Answer F)) → length messages ≡ length heard
      → IsOwed (part_behind items (Here tasks))
      (messages ++ all_asking (message_for {F = F} seen (some_tasks items tasks))) heard)
      × ((test : Ask F → Bool)
      → ((others : Reserved Task) → others.items ≡ items → test (ask.Group seen others) ≡ true)
      → AllByRecursion (λ message. test message ≡ true)
      (all_asking (message_for {F = F} seen (some_tasks items tasks))))
  goes-items seen [] tasks is = (
    refl,
    (refl, is),
    λ messages heard same. ap length (append-nil messages) ∙ same,
    λ test holds. tt,
  )
  goes-items seen (task ∷ items) tasks is =
      let group : List Task → List Asked = λ xs.
      record { seen = seen; requests = requests_of xs } ∷ [] in (
        ap group is,
        (refl, refl),
        λ messages heard same. record {
          earlier = messages;
          seen = seen;
          tasks = tasks;
          messages_are = refl;
          heard_all = same;
          many = ap length is;
        },
        λ test holds. (holds tasks is, tt),
      )

  goes-out : (seen : ℕ) (items : List Task) (part : Part) → HasTasks part items
      → GoesOut seen items part
  goes-out seen items (Away count) has = absurd has
  goes-out seen items (Here tasks) has =
      let all = goes-items seen tasks.items tasks refl in
      subst (λ (xs : List Task). GoesOut seen xs (Here tasks)) has
      (record { asks = all.0; come = all.1; owed = all.2; takes = all.3 })

module _ {F : Type 0} where
  -- what is kept of the group gives what the promise says of it
  pub under-way : (setting : Setting) (seen high : ℕ) (sent : ℕ → List (Ask F))
      (heard : ℕ → List (Answer F)) (asking : ℕ → List Asked) (coming : ℕ → List (List Reply))
      (routes : RoutesState) (asked : List Request) → seen ≡ high
      → IsOnWay setting seen sent heard asking coming routes asked
      → IsUnderWay setting high asked asking coming
  under-way setting seen high sent heard asking coming routes asked same w =
      let n : ℕ = setting.workers in
      record {
        sent = sent_by asked w.tasks;
        same = sent-same asked w.tasks w.taken;
        asks = λ worker lt. w.asked_is worker lt
            ∙ ap (λ s. message_of s (requests_of (part_for n worker w.tasks))) same
            ∙ ap (message_of high) (sym (asked-part n worker asked w.tasks w.taken));
        hears = λ worker lt. subst (λ (qs : List Request). HasCome qs (coming worker))
            (sym (asked-part n worker asked w.tasks w.taken))
            (come-part (part_for n worker w.tasks) (coming worker) (part_of routes.parts worker)
            (w.came worker lt));
      }

  -- ---- messages

  pub groups-bye : (sent : List (Ask F)) → groups_in (sent ++ ask.Bye ∷ []) ≡ groups_in sent
  groups-bye sent = flat_map-append group_of sent (ask.Bye ∷ []) ∙ append-nil (groups_in sent)

  pub asking-bye : (sent : List (Ask F)) → all_asking (sent ++ ask.Bye ∷ []) ≡ all_asking sent
  asking-bye sent = flat_map-append asking sent (ask.Bye ∷ []) ∙ append-nil (all_asking sent)

  -- ---- the rings tell more that the promise doesn't speak of

  -- the groups and the messages that have an answer are the same
  pub record TellsSame (workers : ℕ) (sent later : ℕ → List (Ask F)) : Type 0 where
    pub groups : (worker : ℕ) → worker < workers → groups_in (later worker) ≡ groups_in (sent worker)
    pub asking : (worker : ℕ) → worker < workers
        → all_asking (later worker) ≡ all_asking (sent worker)

  pub tells-same : (workers : ℕ) (sent later : ℕ → List (Ask F))
      → ((worker : ℕ) → later worker ≡ sent worker) → TellsSame workers sent later
  tells-same workers sent later same = record {
    groups = λ worker lt. ap groups_in (same worker);
    asking = λ worker lt. ap all_asking (same worker);
  }

  pub tells-bye : (workers : ℕ) (sent later : ℕ → List (Ask F))
      → ((worker : ℕ) → worker < workers → later worker ≡ sent worker ++ ask.Bye ∷ [])
      → TellsSame workers sent later
  tells-bye workers sent later bye = record {
    groups = λ worker lt. ap groups_in (bye worker lt) ∙ groups-bye (sent worker);
    asking = λ worker lt. ap all_asking (bye worker lt) ∙ asking-bye (sent worker);
  }

  abbrev pub promise-same : {view : View} (setting : Setting) (sent later : ℕ → List (Ask F))
      (received now : ℕ → List (Answer F)) (groups : List (List Pair)) (asked : List Request)
      (waiting : Bool) → TellsSame setting.workers sent later
      → ((worker : ℕ) → now worker ≡ received worker)
      → SessionPromise setting sent received groups asked waiting view
      → SessionPromise setting later now groups asked waiting view
  promise-same setting sent later received now groups asked waiting told heard p = record {
    taken = λ worker lt. subst (AllByRecursion (λ message.
        takes_message setting.layout worker setting.workers message ≡ true))
        (sym (told.asking worker lt)) (p.taken worker lt);
    heard = p.heard;
    hears = λ worker lt. subst₂ (λ (ms : List (Ask F)) (xs : List (Answer F)).
        Hears ms xs (p.heard worker)) (sym (told.asking worker lt)) (sym (heard worker))
        (p.hears worker lt);
    owed = λ worker lt. subst (λ (xs : List (Ask F)). length xs ≤ length (p.heard worker) + 1)
        (sym (told.asking worker lt)) (p.owed worker lt);
    quiet = λ e worker lt. subst (λ (xs : List (Ask F)). length xs ≤ length (p.heard worker))
        (sym (told.asking worker lt)) (p.quiet e worker lt);
    asks = record {
      exchanges = p.asks.exchanges;
      asking = p.asks.asking;
      coming = p.asks.coming;
      same = p.asks.same;
      asks = λ worker lt. told.groups worker lt ∙ p.asks.asks worker lt;
      hears = p.asks.hears;
      seen = p.asks.seen;
      handled = p.asks.handled;
      pending = p.asks.pending;
    };
    looks = p.looks;
  }

  pub keeps-same : {view : View} (setting : Setting) (sent later : ℕ → List (Ask F))
      (received now : ℕ → List (Answer F)) (groups : List (List Pair)) (seen : ℕ)
      (routes : RoutesState) (asked : List Request) (waiting : Bool)
      → TellsSame setting.workers sent later
      → ((worker : ℕ) → now worker ≡ received worker)
      → Keeps setting sent received groups seen routes asked waiting view
      → Keeps setting later now groups seen routes asked waiting view
  keeps-same setting sent later received now groups seen routes asked true told heard k = record {
    promise = promise-same setting sent later received now groups asked true told heard k.promise;
    seen_is = k.seen_is;
    limit = k.limit;
    way = record {
      tasks = k.way.tasks;
      taken = k.way.taken;
      places = k.way.places;
      asked_is = k.way.asked_is;
      came = k.way.came;
      owed = λ worker lt. subst (λ (ms : List (Ask F)).
          IsOwed (part_of routes.parts worker) ms (k.promise.heard worker))
          (sym (told.asking worker lt)) (k.way.owed worker lt);
    };
    size = k.size;
  }
  keeps-same setting sent later received now groups seen routes asked false told heard k = record {
    promise = promise-same setting sent later received now groups asked false told heard k.promise;
    seen_is = k.seen_is;
    limit = k.limit;
    way = k.way;
    size = k.size;
  }

  -- ---- answers

  -- the answer where it is taken
  abbrev pub taken_of : Part → Option (Answer F) → List (Answer F)
  taken_of part None = []
  taken_of part (Some answer) = cond (is_taken part answer) (answer ∷ []) []

  -- an answer that isn't taken changes nothing
  passed-has : (mine : List Task) (coming : List (List Reply)) (part later : Part)
      (answer : Answer F) → later ≡ part → is_taken part answer ≡ false → StandsIn mine coming part
      → StandsIn mine (coming ++ replies_of (answered_in (taken_of part (Some answer)))) later
  passed-has mine coming part later answer is fails has =
      subst₂ (λ (xs : List (List Reply)) (p : Part). StandsIn mine xs p)
      (sym (ap (λ b. coming ++ replies_of (answered_in (cond b (answer ∷ []) []))) fails
      ∙ append-nil coming)) (sym is) has

  come-answer : (mine : List Task) (coming : List (List Reply)) (part later : Part)
      (answer : Answer F) → later ≡ part_after part answer
      → (is_taken part answer ≡ true → AllByRecursion IsReplied (tasks_here later))
      → StandsIn mine coming part
      → StandsIn mine (coming ++ replies_of (answered_in (taken_of part (Some answer)))) later
  come-answer mine coming part later (answer.Ready highest) is replied has =
      passed-has mine coming part later (answer.Ready highest) is refl has
  come-answer mine coming part later (answer.Share fold) is replied has =
      passed-has mine coming part later (answer.Share fold) is refl has
  come-answer mine coming part later (answer.Refused why) is replied has =
      passed-has mine coming part later (answer.Refused why) is refl has
  come-answer mine coming part later answer.Dropped is replied has =
      passed-has mine coming part later answer.Dropped is refl has
  come-answer mine coming (Here items) later (answer.Group tasks) is replied has =
      passed-has mine coming (Here items) later (answer.Group tasks) is refl has
  come-answer [] coming (Away count) later (answer.Group tasks) is replied has = absurd has.1
  come-answer (task ∷ mine) coming (Away count) later (answer.Group tasks) is replied has =
      away-has F task mine coming count later tasks is replied has

  -- what came of a worker's tasks, behind what came before
  come-more : (mine : List Task) (coming : List (List Reply)) (part later : Part)
      (came : Option (Answer F)) → later ≡ part_behind_came part came
      → ((answer : Answer F) → came ≡ Some answer → is_taken part answer ≡ true
      → AllByRecursion IsReplied (tasks_here later))
      → StandsIn mine coming part
      → StandsIn mine (coming ++ replies_of (answered_in (taken_of part came))) later
  come-more mine coming part later None is replied has =
      subst₂ (λ (xs : List (List Reply)) (p : Part). StandsIn mine xs p) (sym (append-nil coming))
      (sym is) has
  come-more mine coming part later (Some answer) is replied has =
      come-answer mine coming part later answer is (replied answer refl) has

  -- ---- what is owed

  -- an answer that isn't taken is none to the message
  not-taken : (count seen : ℕ) (tasks : Reserved Task) (answer : Answer F)
      → length tasks.items ≡ count → is_taken (Away count) answer ≡ false
      → IsAnswerTo (ask.Group seen tasks) answer → ⊥
  not-taken count seen tasks (answer.Group replied) many fails is =
      true≢false (sym (replied-all count replied.items (is.0 ∙ many) is.1) ∙ fails)
  not-taken count seen tasks (answer.Ready highest) many fails is = is
  not-taken count seen tasks (answer.Share fold) many fails is = is
  not-taken count seen tasks (answer.Refused why) many fails is = is
  not-taken count seen tasks answer.Dropped many fails is = is

  -- what came is heard, or passed over
  hears-came : (part : Part) (came : Option (Answer F)) (messages : List (Ask F))
      (received heard : List (Answer F)) → (is_away part ≡ false → came ≡ None)
      → IsOwed part messages heard → Hears messages received heard
      → Hears messages (received ++ option_to_list came) (heard ++ taken_of part came)
  hears-came part None messages received heard none owed hears =
      subst₂ (λ (xs ys : List (Answer F)). Hears messages xs ys) (sym (append-nil received))
      (sym (append-nil heard)) hears
  hears-came (Here tasks) (Some answer) messages received heard none owed hears =
      let nothing = none refl in absurd (cc)
  hears-came (Away count) (Some answer) messages received heard none owed hears =
      let last : Ask F = ask.Group owed.seen owed.tasks in
      subst (λ (ms : List (Ask F)). Hears ms (received ++ answer ∷ [])
      (heard ++ taken_of (Away count) (Some answer))) (sym owed.messages_are)
      (let was = subst (λ (ms : List (Ask F)). Hears ms received heard) owed.messages_are hears in
      (elim (is_taken (Away count) answer) as (λ b. is_taken (Away count) answer ≡ b
      → Hears (owed.earlier ++ last ∷ []) (received ++ answer ∷ [])
      (heard ++ cond b (answer ∷ []) [])) [
        | true ↦ λ holds. Hears-taken owed.earlier last received heard answer owed.heard_all was
        | false ↦ λ fails. subst (λ (xs : List (Answer F)).
            Hears (owed.earlier ++ last ∷ []) (received ++ answer ∷ []) xs)
            (sym (append-nil heard)) (Hears-passed owed.earlier last received heard answer
            (not-taken count owed.seen owed.tasks answer owed.many fails) owed.heard_all was)
      ]) refl)

  awaits-more : (count : ℕ) (messages : List (Ask F)) (heard : List (Answer F)) (later : Part)
      (answer : Answer F) → later ≡ cond (is_taken (Away count) answer) later (Away count)
      → (is_taken (Away count) answer ≡ true → is_away later ≡ false)
      → AwaitsLast count messages heard
      → IsOwed later messages (heard ++ taken_of (Away count) (Some answer))
  awaits-more count messages heard later answer is here owed =
      (elim (is_taken (Away count) answer) as (λ b. is_taken (Away count) answer ≡ b
      → later ≡ cond b later (Away count)
      → IsOwed later messages (heard ++ cond b (answer ∷ []) [])) [
        | true ↦ λ holds same. paid later (here holds)
        | false ↦ λ fails same. subst₂ (λ (p : Part) (xs : List (Answer F)). IsOwed p messages xs)
            (sym same) (sym (append-nil heard)) owed
      ]) refl is
    where
      paid : (later : Part) → is_away later ≡ false → IsOwed later messages (heard ++ answer ∷ [])
      paid (Here tasks) e =
          let size = ap length owed.messages_are in
          let sum = length-append owed.earlier (ask.Group owed.seen owed.tasks ∷ []) in
          let more = length-append heard (answer ∷ []) in
          let all = owed.heard_all in
          omega (arith, size, sum, more, all)
      paid (Away other) e = absurd (true≢false e)

  after-not : (count : ℕ) (later : Part) (answer : Answer F)
      → later ≡ part_after (Away count) answer
      → later ≡ cond (is_taken (Away count) answer) later (Away count)
  after-not count later (answer.Ready highest) is = is
  after-not count later (answer.Share fold) is = is
  after-not count later (answer.Refused why) is = is
  after-not count later answer.Dropped is = is
  after-not count later (answer.Group tasks) is =
      (elim (answers_all count tasks.items) as (λ b. later ≡ cond b (Here tasks) (Away count)
      → later ≡ cond b later (Away count)) [
        | true ↦ λ e. refl
        | false ↦ λ e. e
      ]) is

  after-here : (count : ℕ) (later : Part) (answer : Answer F)
      → later ≡ part_after (Away count) answer → is_taken (Away count) answer ≡ true
      → is_away later ≡ false
  after-here count later (answer.Ready highest) is holds = absurd (false≢true holds)
  after-here count later (answer.Share fold) is holds = absurd (false≢true holds)
  after-here count later (answer.Refused why) is holds = absurd (false≢true holds)
  after-here count later answer.Dropped is holds = absurd (false≢true holds)
  after-here count later (answer.Group tasks) is holds =
      ap is_away (is ∙ ap (λ b. cond b (Here tasks) (Away count)) holds)

  owed-more : (part later : Part) (came : Option (Answer F)) (messages : List (Ask F))
      (heard : List (Answer F)) → later ≡ part_behind_came part came
      → (is_away part ≡ false → came ≡ None) → IsOwed part messages heard
      → IsOwed later messages (heard ++ taken_of part came)
  owed-more part later None messages heard is none owed =
      subst₂ (λ (p : Part) (xs : List (Answer F)). IsOwed p messages xs) (sym is)
      (sym (append-nil heard)) owed
  owed-more (Here tasks) later (Some answer) messages heard is none owed =
      let nothing = none refl in absurd (cc)
  owed-more (Away count) later (Some answer) messages heard is none owed =
      awaits-more count messages heard later answer (after-not count later answer is)
      (after-here count later answer is) owed

  -- answers came, and those that are taken stand in their parts
  pub keeps-received : {view : View} (setting : Setting) (sent later : ℕ → List (Ask F))
      (received now : ℕ → List (Answer F)) (groups : List (List Pair)) (seen : ℕ)
      (routes after : RoutesState) (asked : List Request) (came : ℕ → Option (Answer F))
      → ((worker : ℕ) → later worker ≡ sent worker)
      → ((worker : ℕ) → now worker ≡ received worker ++ option_to_list (came worker))
      → ((worker : ℕ) → part_of after.parts worker
      ≡ part_behind_came (part_of routes.parts worker) (came worker))
      → ((worker : ℕ) (answer : Answer F) → came worker ≡ Some answer
      → is_taken (part_of routes.parts worker) answer ≡ true
      → AllByRecursion IsReplied (tasks_here (part_of after.parts worker)))
      → ((worker : ℕ) → is_away (part_of routes.parts worker) ≡ false → came worker ≡ None)
      → after.places ≡ routes.places → length after.parts ≡ length routes.parts
      → Keeps setting sent received groups seen routes asked true view
      → Keeps setting later now groups seen after asked true view
  keeps-received setting sent later received now groups seen routes after asked came told heard
      parts replied unasked places size k =
      let p = k.promise in
      let u = k.way in
      let new : ℕ → List (Answer F) = λ w. taken_of (part_of routes.parts w) (came w) in
      let longer : (w : ℕ) → length (p.heard w ++ new w) ≡ length (p.heard w) + length (new w) =
      λ w. length-append (p.heard w) (new w) in
      let messages_are : (w : ℕ) → all_asking (later w) ≡ all_asking (sent w) =
      λ w. ap all_asking (told w) in
      let coming : ℕ → List (List Reply) = λ w.
      p.asks.coming w ++ replies_of (answered_in (new w)) in
      let way : IsOnWay setting seen later (λ w. p.heard w ++ new w) p.asks.asking coming after
      asked = record {
        tasks = u.tasks;
        taken = u.taken;
        places = subst (ArePlaces setting.workers u.tasks) (sym places) u.places;
        asked_is = u.asked_is;
        came = λ w lt. come-more (part_for setting.workers w u.tasks) (p.asks.coming w)
            (part_of routes.parts w) (part_of after.parts w) (came w) (parts w) (replied w)
            (u.came w lt);
        owed = λ w lt. subst (λ (ms : List (Ask F)).
            IsOwed (part_of after.parts w) ms (p.heard w ++ new w)) (sym (messages_are w))
            (owed-more (part_of routes.parts w) (part_of after.parts w) (came w)
            (all_asking (sent w)) (p.heard w) (parts w) (unasked w) (u.owed w lt));
      } in
      record {
        promise = record {
          taken = λ w lt. subst (AllByRecursion (λ message.
              takes_message setting.layout w setting.workers message ≡ true))
              (sym (messages_are w)) (p.taken w lt);
          heard = λ w. p.heard w ++ new w;
          hears = λ w lt. subst₂ (λ (ms : List (Ask F)) (xs : List (Answer F)).
              Hears ms xs (p.heard w ++ new w)) (sym (messages_are w)) (sym (heard w))
              (hears-came (part_of routes.parts w) (came w) (all_asking (sent w)) (received w)
              (p.heard w) (unasked w) (u.owed w lt) (p.hears w lt));
          owed = λ w lt.
              let was = p.owed w lt in let l = longer w in
              let a = ap length (messages_are w) in
              omega (arith, was, l, a);
          quiet = λ e. absurd (true≢false e);
          asks = record {
            exchanges = p.asks.exchanges;
            asking = p.asks.asking;
            coming = coming;
            same = p.asks.same;
            asks = λ w lt. ap groups_in (told w) ∙ p.asks.asks w lt;
            hears = λ w lt. ap replies_of (flat_map-append answered_of (p.heard w) (new w))
                ∙ map-append (λ (pairs : List Pair). map (λ (pair : Pair). pair.reply) pairs)
                (answered_in (p.heard w)) (answered_in (new w))
                ∙ ap (λ (xs : List (List Reply)). xs ++ replies_of (answered_in (new w)))
                (p.asks.hears w lt)
                ∙ append_assoc (all_replied setting.workers w p.asks.exchanges)
                (p.asks.coming w) (replies_of (answered_in (new w)));
            seen = p.asks.seen;
            handled = p.asks.handled;
            pending = under-way setting seen (seen_behind 0 p.asks.exchanges) later
                (λ w. p.heard w ++ new w) p.asks.asking coming after asked k.seen_is way;
          };
          looks = p.looks;
        };
        seen_is = k.seen_is;
        limit = k.limit;
        way = way;
        size = size ∙ k.size;
      }

  -- ---- a group is asked

  -- a group was read and routed, and each worker was asked for its part
  pub keeps-asked : {view : View} (setting : Setting) (sent later : ℕ → List (Ask F))
      (received now : ℕ → List (Answer F)) (groups : List (List Pair)) (seen : ℕ)
      (before routes after : RoutesState) (asked : List Request) (tasks : List Task)
      → setting.layout ≡ all_classes → AreTaken asked tasks → length tasks ≤ 64
      → IsRouted tasks routes → length routes.parts ≡ setting.workers
      → ((worker : ℕ) → later worker
      ≡ sent worker ++ message_for seen (tasks_out (part_of routes.parts worker)))
      → ((worker : ℕ) → now worker ≡ received worker)
      → ((worker : ℕ) → part_of after.parts worker ≡ part_out (part_of routes.parts worker))
      → after.places ≡ routes.places → length after.parts ≡ length routes.parts
      → Keeps setting sent received groups seen before [] false view
      → Keeps setting later now groups seen after asked true view
  keeps-asked setting sent later received now groups seen before routes after asked tasks layout
      taken few r many told heard parts places size k =
      let p = k.promise in
      let n : ℕ = setting.workers in
      let message : ℕ → List (Ask F) = λ w.
      message_for seen (tasks_out (part_of routes.parts w)) in
      let out : (w : ℕ) → w < n → GoesOut F seen (part_for n w tasks) (part_of routes.parts w) =
      λ w lt. goes-out F seen (part_for n w tasks) (part_of routes.parts w)
      (subst (λ m. HasTasks (part_of routes.parts w) (part_for m w tasks)) many
      (r.parts w (omega (arith, many, lt)))) in
      let messages_are : (w : ℕ) → all_asking (later w)
      ≡ all_asking (sent w) ++ all_asking (message w) = λ w.
      ap all_asking (told w) ∙ flat_map-append asking (sent w) (message w) in
      let asking_is : (w : ℕ) → length (all_asking (later w))
      ≡ length (all_asking (sent w)) + length (all_asking (message w)) = λ w.
      ap length (messages_are w)
      ∙ length-append (all_asking (sent w)) (all_asking (message w)) in
      let even : (w : ℕ) → w < n → length (all_asking (sent w)) ≡ length (p.heard w) = λ w lt.
      let most = p.quiet refl w lt in
      let least = Hears-length (all_asking (sent w)) (received w) (p.heard w) (p.hears w lt) in
      omega (arith, most, least) in
      let IsTaken : ℕ → Ask F → Type 0 = λ w m.
      takes_message {F = F} setting.layout w n m ≡ true in
      let asking_now : ℕ → List Asked = λ w. message_of seen (requests_of (part_for n w tasks)) in
      let way : IsOnWay setting seen later p.heard asking_now (λ w. []) after asked = record {
        tasks = tasks;
        taken = taken;
        places = subst₂ (λ m (ps : List Place). ArePlaces m tasks ps) many (sym places) r.places;
        asked_is = λ w lt. refl;
        came = λ w lt. subst (StandsIn (part_for n w tasks) []) (sym (parts w)) (out w lt).come;
        owed = λ w lt. subst₂ (λ (pt : Part) (ms : List (Ask F)). IsOwed pt ms (p.heard w))
            (sym (parts w)) (sym (messages_are w))
            ((out w lt).owed (all_asking (sent w)) (p.heard w) (even w lt));
      } in
      record {
        promise = record {
          taken = λ w lt. subst (AllByRecursion (IsTaken w)) (sym (messages_are w))
              (All-append (IsTaken w) (all_asking (sent w)) (all_asking (message w)) (p.taken w lt)
              ((out w lt).takes (takes_message {F = F} setting.layout w n) (λ others is.
              subst (λ l. takes_message {F = F} l w n (ask.Group seen others) ≡ true) (sym layout)
              (takes-group n w seen asked tasks others.items taken few k.limit is))));
          heard = p.heard;
          hears = λ w lt. subst₂ (λ (ms : List (Ask F)) (xs : List (Answer F)).
              Hears ms xs (p.heard w)) (sym (messages_are w)) (sym (heard w))
              (Hears-more (all_asking (sent w)) (all_asking (message w)) (received w) (p.heard w)
              (p.hears w lt));
          owed = λ w lt.
              let was = p.quiet refl w lt in let a = asking_is w in
              let most = message-few F seen (tasks_out (part_of routes.parts w)) in
              omega (arith, was, a, most);
          quiet = λ e. absurd (true≢false e);
          asks = record {
            exchanges = p.asks.exchanges;
            asking = asking_now;
            coming = λ w. [];
            same = p.asks.same;
            asks = λ w lt. ap groups_in (told w)
                ∙ flat_map-append group_of (sent w) (message w)
                ∙ ap (λ (xs : List Asked). xs ++ groups_in (message w)) (p.asks.asks w lt
                ∙ ap (λ (xs : List Asked). all_asked n w p.asks.exchanges ++ xs)
                (p.asks.pending.asks w lt) ∙ append-nil (all_asked n w p.asks.exchanges))
                ∙ ap (λ (xs : List Asked). all_asked n w p.asks.exchanges ++ xs) (out w lt).asks;
            hears = λ w lt. p.asks.hears w lt
                ∙ ap (λ (xs : List (List Reply)). all_replied n w p.asks.exchanges ++ xs)
                (p.asks.pending.hears w lt);
            seen = p.asks.seen;
            handled = p.asks.handled;
            pending = under-way setting seen (seen_behind 0 p.asks.exchanges) later p.heard
                asking_now (λ w. []) after asked k.seen_is way;
          };
          looks = p.looks;
        };
        seen_is = k.seen_is;
        limit = k.limit;
        way = way;
        size = size ∙ many;
      }
