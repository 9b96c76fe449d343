-- What a party's turn needs and leaves, by what it gathers, serves and delivers.
use Rattle.std.proofs.Common.{◌≡◌, ◌⊎◌, inl, inr, ⊎_elim, ℕ, zero, suc, ◌+◌, ◌-◌, ◌^◌, ◌<◌, ◌≤◌}
use Rattle.std.proofs.Common.{List, [], ◌∷◌, ◌++◌, map, length, Option, None, Some, Bool, true, false, max}
use Rattle.std.proofs.Common.{All, append-nil, refl, sym, ap, subst, subst₂, ◌∙◌, arith, is_some, cond, not, ◌&&◌, ◌||◌, true≢false}
use Rattle.std.specs.Prelude.{option_to_list}
use Rattle.std.specs.List.{AllByRecursion}
use Rattle.std.proofs.lemmas.Bool.{and_parts}
use Rattle.std.proofs.lemmas.List.{length-map, get_or_past, nil_from_length}
use Rattle.std.proofs.Math.Logic.{∥∥₁_map}
use Rattle.kv_base.proofs.CrashLemmas.{started as begun}
use Rattle.kv_base.specs.Crash.{LeavesOnly}
use Rattle.kv_base.specs.Image.{Image}
use Rattle.kv_model.proofs.AgreementLemmas.{value-same}
use Rattle.kv_model.specs.Items.{FollowsHistory, SameValue, class_with}
use Rattle.kv_model.specs.Layout.{all_classes}
use Rattle.kv_model.specs.Pairs.{Pair, pairs_in, stamps, writes}
use Rattle.kv_model.specs.Recovery.{RecoversPrefix}
use Rattle.kv_parties.specs.Groups.{Answers}
use Rattle.kv_parties.specs.Messages.{groups_in, answered_in, all_asking, IsPartOf, IsWhole}
use Rattle.kv_parties.specs.Causes.{KeepsCauses, all_writes}
use Rattle.kv_parties.specs.Workers.{done_pairs, done_for}
use Rattle.kv_parties.specs.Stamps.{HasDrawnNone, IsMet, size_of}
use Rattle.kv_stamps.specs.Ranges.{among}
use Rattle.kv_stamps.specs.Steps.{Looks, Raises}
use Rattle.kv_worker_party.specs.Laws.{PartyLaws}
use Rattle.kv_worker_party.specs.Party.{BeginsWith, Holds, LeavesEach, AlwaysGoesOn, answers_to}
use Rattle.kv_worker_party.specs.Party.{setting_of}
use Rattle.kv_worker_party.proofs.StampedLemmas.{has-weaker}
use Rattle.kv_worker_party.proofs.TurnLemmas.{holds-turn, leaves-prefixes}
use Rattle.kv_base.specs.Reserved.{Reserved}
use Rattle.kv_base.specs.declared.reply.Reply.{Reply}
use Rattle.kv_base.specs.declared.request.Request.{Request}
use Rattle.kv_disk.specs.declared.disk.Disk as disks
use Rattle.kv_index.specs.declared.index.Index as indexes
use Rattle.kv_model.proofs.PairwiseLemmas.{All-map}
use Rattle.kv_model.specs.Frames.{HasReplyFrame}
use Rattle.kv_model.specs.History.{Write}
use Rattle.kv_ring.specs.Ends.{peers, sent_to, received_from, Looked, IsFresh}
use Rattle.kv_ring.specs.declared.ends.Ends.{Ends}
use Rattle.kv_ring.specs.declared.message.Answer.{Answer}
use Rattle.kv_ring.specs.declared.message.Answer.TheVariants as answer
use Rattle.kv_ring.specs.declared.message.Ask.{Ask}
use Rattle.kv_ring.specs.declared.message.Ask.TheVariants as ask
use Rattle.kv_ring.specs.declared.task.Task.{Task}
use Rattle.kv_stamps.specs.declared.view.View.{View}
use Rattle.kv_groups.specs.declared.connection.Connection.{Connection}
use Rattle.kv_ring.specs.Turn.{turn_of}
use Rattle.kv_ring.specs.declared.turn.Turn.{Turn}
use Rattle.kv_groups.specs.Batched.{of_session, in_hand, tasks_in, IsEmptied, AreReplied}
use Rattle.kv_worker.specs.Batches.{AreAnswered, IsOpenTask, requests_in}
use Rattle.kv_groups.specs.Delivering.{Delivers, DeliversAll, AreBack, AreFree, answer_of, tasks_of}
use Rattle.kv_groups.specs.Delivering.{all_ended}
use Rattle.kv_groups.specs.Gathering.{Intake, Gathers, GathersAll, IsInHand, AreIdle, intake_of}
use Rattle.kv_groups.specs.Gathering.{taken_by, seen_in, greatest}
use Rattle.kv_groups.specs.Gathering.{all_idle}
use Rattle.kv_worker_party.specs.Serving.{HasServed}
use Rattle.kv_groups.specs.Taking.{connection_of, new_connection, group_taken, takes_group}
use Rattle.kv_groups.specs.Taking.{has_bye, is_bye}
use Rattle.kv_groups.specs.Traffic.{traffic_with}
use Rattle.kv_worker_party.specs.Turns.{Exchanges, Turns, answer_to, asked_seen, asked_seens, asked_tasks, StaysAhead}
use Rattle.kv_worker.specs.Worker.{WorkerView, start_of}
use Rattle.kv_groups.proofs.GatherLemmas.{or-false, or-assoc}
use Rattle.kv_worker_party.proofs.BatchedLemmas.{in_hand-all, regroup, all-many, answered-at, answered-many}
use Rattle.kv_worker_party.proofs.SeatLemmas.{Stayed, stayed, drawn-grew, met-stayed}
use Rattle.kv_worker_party.proofs.SeatLemmas.{raised-stayed, looked-stayed}
use Rattle.kv_groups.proofs.TakeLemmas.{is-taken}
use Rattle.kv_worker_party.proofs.TurnLemmas.{open-asked, tasks-at}

decide : (m n : ℕ) → (m < n) ⊎ (n ≤ m)
decide m n = grind arith

tasks-past : (groups : List (List Task)) (s : ℕ) → length groups ≤ s → tasks_of groups s ≡ []
tasks-past groups s le = get_or_past groups s [] le

-- a group in hand
emptied-size : (group : Reserved Task) (now : Option (Reserved Task)) → IsEmptied (Some group) now
    → length (tasks_in now) ≡ length group.items
emptied-size group None e = absurd e
emptied-size group (Some now) e = e.0

emptied-seen : (group : Reserved Task) (now : Option (Reserved Task)) (n : ℕ)
    → IsEmptied (Some group) now → cond (is_some now) n 0 ≡ n
emptied-seen group None n e = absurd e
emptied-seen group (Some now) n e = refl

module _ {F : Type 0} where
  -- what is in hand past the last session
  past : (connections : List (Connection F)) (s : ℕ) → length connections ≤ s
      → connection_of connections s ≡ new_connection
  past connections s le = get_or_past connections s new_connection le

  -- no group is in hand
  pub idle-from : (connections : List (Connection F)) → all_idle connections ≡ true
      → AreIdle connections
  idle-from [] idle s = refl
  idle-from (c ∷ connections) idle zero =
      no-group c.group (and_parts (not (is_some c.group)) (all_idle connections) idle).0
    where
      no-group : (o : Option (Reserved Task)) → not (is_some o) ≡ true → o ≡ None
      no-group None e = refl
      no-group (Some group) e = absurd (true≢false (sym e))
  idle-from (c ∷ connections) idle (suc s) =
      idle-from connections (and_parts (not (is_some c.group)) (all_idle connections) idle).1 s

  pub idle-to : (connections : List (Connection F))
      → ((s : ℕ) → s < length connections → (connection_of connections s).group ≡ None)
      → all_idle connections ≡ true
  idle-to [] each = refl
  idle-to (c ∷ connections) each =
      ap (λ o. not (is_some o) && all_idle connections) (each 0 (omega arith))
      ∙ idle-to connections (λ s lt. each (suc s) (omega (arith, lt)))

  emptied-answer : (group : Reserved Task) (now : Option (Reserved Task)) (tasks : List Task)
      → IsEmptied (Some group) now → answer_of {F = F} now tasks
      ≡ answer.Group (record { items = tasks; spare = group.spare }) ∷ []
  emptied-answer group None tasks e = absurd e
  emptied-answer group (Some now) tasks e =
      ap (λ n. answer.Group (record { items = tasks; spare = n }) ∷ []) e.1

  hand-size : (o : Option (ℕ × Reserved Task)) (c : Connection F) (tasks : List Task)
      → IsInHand o c tasks → length (tasks_in c.group) ≡ length tasks
  hand-size None c tasks h =
      ap (λ g. length (tasks_in g)) h.0 ∙ sym (ap length h.1)
  hand-size (Some g) c tasks h = emptied-size g.1 c.group h.2 ∙ sym (ap length h.1)

  hand-answer : (o : Option (ℕ × Reserved Task)) (c : Connection F) (tasks replied : List Task)
      → IsInHand o c tasks → answer_of {F = F} c.group replied ≡ answer_to {F = F} o replied
  hand-answer None c tasks replied h = ap (λ g. answer_of {F = F} g replied) h.0
  hand-answer (Some g) c tasks replied h = emptied-answer g.1 c.group replied h.2

  hand-tasks : (o : Option (ℕ × Reserved Task)) (c : Connection F) (tasks : List Task)
      → IsInHand o c tasks → tasks ≡ asked_tasks o
  hand-tasks None c tasks h = h.1
  hand-tasks (Some g) c tasks h = h.1

  hand-seen : (o : Option (ℕ × Reserved Task)) (c : Connection F) (tasks : List Task)
      → IsInHand o c tasks → asked_seen o ≡ seen_in c
  hand-seen None c tasks h = sym (ap (λ g. cond (is_some g) c.seen 0) h.0)
  hand-seen (Some g) c tasks h = sym (emptied-seen g.1 c.group c.seen h.2 ∙ h.0)

  -- where a group is taken no answer waits, and its session had seen no more than a stamp
  taken-free : (worker workers : ℕ) (waits : Bool) (came : Option (Ask F))
      → (group_taken worker workers waits came ≡ None) ⊎ (waits ≡ false)
  taken-free worker workers waits (Some (ask.Group seen tasks)) =
      (elim (takes_group worker workers waits seen tasks.items) as (λ b.
      takes_group worker workers waits seen tasks.items ≡ b
      → (cond b (Some (let g : ℕ × Reserved Task = (seen, tasks) in g)) None ≡ None)
      ⊎ (waits ≡ false)) [
        | true ↦ λ e. inr (is-taken worker workers waits seen tasks.items e).free
        | false ↦ λ e. inl refl
      ]) refl
  taken-free worker workers waits None = inl refl
  taken-free worker workers waits (Some (ask.Prepare fold low high)) = inl refl
  taken-free worker workers waits (Some (ask.Start stamp)) = inl refl
  taken-free worker workers waits (Some ask.Drop) = inl refl
  taken-free worker workers waits (Some ask.Bye) = inl refl

  taken-low : (worker workers : ℕ) (waits : Bool) (came : Option (Ask F))
      → asked_seen (group_taken worker workers waits came) < 2 ^ 62
  taken-low worker workers waits (Some (ask.Group seen tasks)) =
      (elim (takes_group worker workers waits seen tasks.items) as (λ b.
      takes_group worker workers waits seen tasks.items ≡ b
      → asked_seen (cond b (Some (let g : ℕ × Reserved Task = (seen, tasks) in g)) None)
      < 2 ^ 62) [
        | true ↦ λ e. (is-taken worker workers waits seen tasks.items e).low
        | false ↦ λ e. omega arith
      ]) refl
  taken-low worker workers waits None = omega arith
  taken-low worker workers waits (Some (ask.Prepare fold low high)) = omega arith
  taken-low worker workers waits (Some (ask.Start stamp)) = omega arith
  taken-low worker workers waits (Some ask.Drop) = omega arith
  taken-low worker workers waits (Some ask.Bye) = omega arith

  same-seen : (worker workers : ℕ) (connections : List (Connection F))
      (intakes : List (Intake F)) → length intakes ≡ length connections
      → ((s : ℕ) → s < length connections → asked_seen (taken_by worker workers
      (intake_of intakes s)) ≡ seen_in (connection_of connections s))
      → greatest (map seen_in connections) ≡ greatest (asked_seens worker workers intakes)
  same-seen worker workers [] [] many each = refl
  same-seen worker workers [] (intake ∷ intakes) many each = absurd (omega (arith, many))
  same-seen worker workers (c ∷ connections) [] many each = absurd (omega (arith, many))
  same-seen worker workers (c ∷ connections) (intake ∷ intakes) many each =
      ap (λ n. max n (greatest (map seen_in connections))) (sym (each 0 (omega arith)))
      ∙ ap (max (asked_seen (taken_by worker workers intake)))
      (same-seen worker workers connections intakes (omega (arith, many))
      (λ s lt. each (suc s) (omega (arith, lt))))

  greatest-below : (n : ℕ) (connections : List (Connection F)) → 0 < n
      → ((s : ℕ) → s < length connections → seen_in (connection_of connections s) < n)
      → greatest (map seen_in connections) < n
  greatest-below n [] some each = some
  greatest-below n (c ∷ connections) some each =
      let here = each 0 (omega arith) in
      let rest = greatest-below n connections some (λ s lt. each (suc s) (omega (arith, lt))) in
      omega (arith, here, rest)

  module _ (worker workers : ℕ) (ends mid : Ends (Answer F) (Ask F) 8)
      (old between : List (Connection F)) (intakes : List (Intake F)) (moved : Bool)
      (g : GathersAll worker workers ends mid old between intakes moved)
      (size : length old ≡ peers ends) where
    -- the batch is of good tasks
    pub gathered-open : AllByRecursion (IsOpenTask worker workers)
        (in_hand 0 (map (λ intake. intake.tasks) intakes))
    gathered-open = in_hand-all (IsOpenTask worker workers) 0
        (map (λ (intake : Intake F). intake.tasks) intakes) (λ k lt.
        let e = g.each k (omega (
          arith,
          lt,
          g.many,
          length-map intakes (λ (intake : Intake F). intake.tasks),
        )) in
        subst (λ ts. AllByRecursion (IsOpenTask worker workers) (of_session (0 + k) ts))
        (sym (tasks-at intakes k ∙ hand-tasks (taken_by worker workers (intake_of intakes k))
        (connection_of between k) (intake_of intakes k).tasks e.taken))
        (open-asked worker workers (0 + k) (intake_of intakes k).waits (intake_of intakes k).came))

    pub gathered-low : greatest (map seen_in between) < 2 ^ 62
    gathered-low = greatest-below (2 ^ 62) between (omega arith) (λ s lt.
        let e = g.each s (omega (arith, lt, g.size, size)) in
        let same = hand-seen (taken_by worker workers (intake_of intakes s))
        (connection_of between s) (intake_of intakes s).tasks e.taken in
        let low = taken-low worker workers (intake_of intakes s).waits (intake_of intakes s).came in
        omega (arith, same, low))

    pub gathered-free : AreFree between
    gathered-free s = ⊎_elim
        (λ (lt : s < length between).
        let e = g.each s (omega (arith, lt, g.size, size)) in
        ⊎_elim
        (λ (none : taken_by worker workers (intake_of intakes s) ≡ None).
        inl (subst (λ o. IsInHand o (connection_of between s) (intake_of intakes s).tasks) none
        e.taken).0)
        (λ (free : (intake_of intakes s).waits ≡ false).
        inr (no-waiting (connection_of between s).waiting (sym e.waits ∙ free)))
        (taken-free worker workers (intake_of intakes s).waits (intake_of intakes s).came))
        (λ (le : length between ≤ s). inl (ap (λ (c : Connection F). c.group) (past between s le)))
        (decide s (length between))
      where
        no-waiting : (o : Option (Answer F)) → is_some o ≡ false → o ≡ None
        no-waiting None e = refl
        no-waiting (Some a) e = absurd (true≢false e)

    -- the answered tasks go back into the groups
    pub served-back : (items : List (ℕ × Task)) (replies : List Reply)
        → (are : AreAnswered (in_hand 0 (map (λ intake. intake.tasks) intakes)) items replies)
        → AreBack between (regroup 0 (map (λ intake. intake.tasks) intakes) items replies are).answered
        items
    served-back items replies are =
        let groups : List (List Task) = map (λ (intake : Intake F). intake.tasks) intakes in
        let r = regroup 0 groups items replies are in
        let long : length r.answered ≡ length groups = all-many groups r.answered r.each in
        let same : length groups ≡ length intakes =
        length-map intakes (λ (intake : Intake F). intake.tasks) in
        let all : length r.answered ≡ length between =
        long ∙ same ∙ g.many ∙ sym size ∙ sym g.size in
        record {
          many = all;
          items_are = r.now_is;
          sizes = λ s. ⊎_elim
              (λ (lt : s < length between).
              let e = g.each s (omega (arith, lt, g.size, size)) in
              answered-many (tasks_of groups s) (tasks_of r.answered s)
              (answered-at groups r.answered r.each s) ∙ ap length (tasks-at intakes s)
              ∙ sym (hand-size (taken_by worker workers (intake_of intakes s))
              (connection_of between s) (intake_of intakes s).tasks e.taken))
              (λ (le : length between ≤ s).
              ap length (tasks-past r.answered s (omega (arith, le, all)))
              ∙ sym (ap (λ (c : Connection F). length (tasks_in c.group)) (past between s le)))
              (decide s (length between));
        }

    -- one session's exchange
    exchanged : (new : Ends (Answer F) (Ask F) 8) (after : List (Connection F)) (s : ℕ)
        (replied : List Task)
        → Gathers worker workers (traffic_with ends s) (traffic_with mid s) (connection_of old s)
        (connection_of between s) (intake_of intakes s)
        → Delivers (traffic_with mid s) (traffic_with new s) (connection_of between s)
        (connection_of after s) replied → AreReplied (intake_of intakes s).tasks replied
        → Exchanges worker workers (traffic_with ends s) (traffic_with new s) (connection_of old s)
        (connection_of after s) (intake_of intakes s) replied
    exchanged new after s replied e f answers = record {
      received = f.received ∙ e.received;
      none = λ n. f.known ∙ e.none n;
      waited = λ n. e.waits ∙ ap is_some (e.waited n);
      tasks = hand-tasks (taken_by worker workers (intake_of intakes s)) (connection_of between s)
          (intake_of intakes s).tasks e.taken;
      sent = f.sent ∙ ap (λ given. given ++ answer_of {F = F} (connection_of between s).group replied) e.sent
          ∙ ap (λ given. ((traffic_with ends s).sent
          ++ option_to_list (connection_of old s).waiting) ++ given)
          (hand-answer (taken_by worker workers (intake_of intakes s)) (connection_of between s)
          (intake_of intakes s).tasks replied e.taken);
      full = f.full e.full;
      replied = answers;
      gone = f.gone ∙ e.gone;
    }

    -- the turn
    pub turned : {D I : Type 0} (d : disks.Ghosts D) (i : indexes.Ghosts I)
        (worker_old worker_now : WorkerView D I) (new : Ends (Answer F) (Ask F) 8)
        (after : List (Connection F)) (view later : View) (seen : ℕ) (turn : Turn)
        (items : List (ℕ × Task)) (replies : List Reply)
        → (are : AreAnswered (in_hand 0 (map (λ intake. intake.tasks) intakes)) items replies)
        → AllByRecursion HasReplyFrame replies
        → HasServed d i worker_old worker_now view later seen
        (requests_in (in_hand 0 (map (λ intake. intake.tasks) intakes))) replies
        → worker_old.store.worker ≡ worker → worker_old.store.workers ≡ workers
        → seen ≡ greatest (map seen_in between)
        → length (in_hand 0 (map (λ intake. intake.tasks) intakes)) ≤ 512
        → DeliversAll mid new between after
        (regroup 0 (map (λ intake. intake.tasks) intakes) items replies are).answered
        → turn ≡ turn_of (all_ended after) moved
        → Turns d i worker_old worker_now ends new old after view later turn
    turned d i worker_old worker_now new after view later seen turn items replies are framed served
        worker_is workers_is seen_is few delivers turn_is =
        let groups : List (List Task) = map (λ (intake : Intake F). intake.tasks) intakes in
        let r = regroup 0 groups items replies are in
        record {
          intakes = intakes;
          answered = r.answered;
          replies = replies;
          seen = seen;
          many = (
            g.many,
            all-many groups r.answered r.each
                ∙ length-map intakes (λ (intake : Intake F). intake.tasks) ∙ g.many,
          );
          each = λ s lt.
              let P : ℕ → ℕ → Type 0 = λ m n. Exchanges m n (traffic_with ends s)
              (traffic_with new s) (connection_of old s) (connection_of after s)
              (intake_of intakes s) (tasks_of r.answered s) in
              subst₂ P (sym worker_is) (sym workers_is)
              (exchanged new after s (tasks_of r.answered s) (g.each s lt)
              (delivers.each s (omega (arith, lt, g.rings.peers)))
              (subst (λ ts. AreReplied ts (tasks_of r.answered s)) (tasks-at intakes s)
              (answered-at groups r.answered r.each s)));
          seen_is =
              let P : ℕ → ℕ → Type 0 = λ m n. seen ≡ greatest (asked_seens m n intakes) in
              subst₂ P (sym worker_is) (sym workers_is) (seen_is
              ∙ same-seen worker workers between intakes (g.many ∙ sym size ∙ sym g.size)
              (λ s lt. hand-seen (taken_by worker workers (intake_of intakes s))
              (connection_of between s) (intake_of intakes s).tasks
              (g.each s (omega (arith, lt, g.size, size))).taken));
          batch = subst (λ xs. AreAnswered (in_hand 0 groups) xs replies) r.now_is are;
          few = few;
          framed = framed;
          served = served;
          turn_is = turn_is ∙ ap (turn_of (all_ended after)) g.moved_is;
          rings = record {
            peers = delivers.rings.peers ∙ g.rings.peers;
            lines = λ other. delivers.rings.lines other ∙ g.rings.lines other;
          };
        }

-- what a batch leaves of the seat's view and of an open worker's highest stamp
pub served-stays : {D I : Type 0} (d : disks.Ghosts D) (i : indexes.Ghosts I)
    (old now : WorkerView D I) (view later : View) (seen : ℕ) (requests : List Request)
    (replies : List Reply) → HasServed d i old now view later seen requests replies
    → (old.store.closed ≡ false → old.highest < view.seen) → StaysAhead old now view later
served-stays {D} {I} d i old now view later seen requests replies served ahead = by served
  where
    same : (later : View) → now ≡ old → Stayed view later → StaysAhead old now view later
    same later e stays = subst (λ (w : WorkerView D I). StaysAhead old w view later) (sym e)
        (record {
          worker = refl;
          workers = refl;
          start = stays.start;
          weight = stays.weight;
          seats = stays.seats;
          up = stays.up;
          ahead = λ open_. let a = ahead open_ in omega (arith, a, stays.up);
        })

    by : HasServed d i old now view later seen requests replies → StaysAhead old now view later
    by (inl idle) = same later idle.worker (subst (Stayed view) (sym idle.view_is) (stayed view))
    by (inr (inl closed)) =
        same later closed.worker (subst (Stayed view) (sym closed.view_is) (stayed view))
    by (inr (inr (inl spent))) = same later spent.worker
        (met-stayed seen (length requests) spent.number view later spent.met)
    by (inr (inr (inr stepped))) =
        let grew = drawn-grew seen (length requests) stepped.base view later stepped.drawn in
        record {
          worker = stepped.steps.kept.0;
          workers = stepped.steps.kept.1;
          start = grew.start;
          weight = grew.weight;
          seats = grew.seats;
          up = omega (arith, grew.from, grew.up);
          ahead = λ open_. omega (arith, stepped.steps.highest, grew.up);
        }

-- a batch that was empty has what was gathered
pub batch-is : {X : Type 0} (start items batch : List X) → length start ≡ 0
    → batch ≡ start ++ items → batch ≡ items
batch-is start items batch none is = is ∙ ap (λ xs. xs ++ items) (nil_from_length start none)

pub open-batch : (number count worker workers : ℕ) (items batch : List (ℕ × Task))
    → number ≡ worker → count ≡ workers → batch ≡ items
    → AllByRecursion (IsOpenTask number count) items
    → AllByRecursion (IsOpenTask worker workers) batch
open-batch number count worker workers items batch first second is all =
    let P : ℕ → ℕ → Type 0 = λ m n. AllByRecursion (IsOpenTask m n) batch in
    subst₂ P first second (subst (AllByRecursion (IsOpenTask number count)) (sym is) all)

-- an answered batch is as long as it was
pub answered-length : (old new : List (ℕ × Task)) (replies : List Reply)
    → AreAnswered old new replies → length new ≡ length old
answered-length old new replies are =
    sym (length-map new (λ (p : ℕ × Task). p.0)) ∙ ap length are.sessions
    ∙ length-map old (λ (p : ℕ × Task). p.0)

-- from whatever promise stood it goes on
pub goes-from : {D I F : Type 0} (laws : PartyLaws) (d : disks.Ghosts D) (i : indexes.Ghosts I)
    (first old now : WorkerView D I) (ends new : Ends (Answer F) (Ask F) 8)
    (connections after : List (Connection F)) (view later : View) (lifted : Bool) (turn : Turn)
    → (1 ≤ view.start) × (view.start ≤ view.seen)
    → Turns d i old now ends new connections after view later turn
    → (before : List Write) → BeginsWith d i first before (view.start - 1)
    → AlwaysGoesOn d i view.start (peers ends) first old now ends new connections after view later
    lifted lifted before
goes-from {D = D} {I = I} {F = F} laws d i first old now ends new connections after view later lifted
    turn started t before begins = λ h.
    holds-turn laws d i view.start (peers ends) first old now ends new connections after view
    later turn lifted before h started
    (All-map (λ write. write.stamp ≤ view.start - 1) (λ write. write.stamp < view.seen) before
    (λ write le. omega (arith, le, started.0, started.1)) begins.below) refl t

-- the promise goes on
pub goes-on : {D I F : Type 0} (laws : PartyLaws) (d : disks.Ghosts D) (i : indexes.Ghosts I)
    (first old now : WorkerView D I) (ends new : Ends (Answer F) (Ask F) 8)
    (connections after : List (Connection F)) (view later : View) (lifted : Bool) (turn : Turn)
    → (1 ≤ view.start) × (view.start ≤ view.seen)
    → ((before : List Write) → BeginsWith d i first before (view.start - 1)
    → ∥ Holds d i view.start (peers ends) first old ends connections view lifted before ∥₁)
    → Turns d i old now ends new connections after view later turn → later.start ≡ view.start
    → (before : List Write) → BeginsWith d i first before (later.start - 1)
    → ∥ Holds d i later.start (peers new) first now new after later lifted before ∥₁
goes-on {D = D} {I = I} {F = F} laws d i first old now ends new connections after view later lifted
    turn started promise t start_is before begins =
    let P : ℕ → ℕ → Type 0 = λ m n. Holds d i m n first now new after later lifted before in
    let was : BeginsWith d i first before (view.start - 1) =
    subst (λ n. BeginsWith d i first before (n - 1)) start_is begins in
    ∥∥₁_map (promise before was)
    (λ (h : Holds d i view.start (peers ends) first old ends connections view lifted before).
    subst₂ P (sym start_is) (sym t.rings.peers)
    (goes-from laws d i first old now ends new connections after view later lifted turn started t
    before was h).holds)

-- what a crash leaves now holds all that was answered
left-now : {D : Type 0} (d : disks.Ghosts D) (worker workers : ℕ) (first now : D)
    (before : List Write) (pairs : List Pair) → LeavesEach d worker workers first now before pairs
    → LeavesOnly (d.calls now) (d.calls now) (d.leaves now) (d.leaves now)
    (λ image. RecoversPrefix all_classes (all_writes before pairs) (before ++ writes pairs) image
    worker workers)
left-now d worker workers first now before pairs leaves = begun (d.calls now) (d.leaves now)
    (λ image. RecoversPrefix all_classes (all_writes before pairs) (before ++ writes pairs) image
    worker workers) leaves.exit

-- a seat that only looked, or was raised from outside, which is noted
pub record Lifts (view later : View) (lifted raised : Bool) : Type 0 where
  pub stays : Stayed view later
  pub spent : later.spent ≡ view.spent
  pub gaps : raised ≡ false → (lifted ≡ false) × (later.gaps ≡ view.gaps)

pub raised-lifts : (to next : ℕ) (view later : View) (lifted : Bool) → Raises to view next later
    → Lifts view later lifted true
raised-lifts to next view later lifted raises = record {
  stays = raised-stayed to next view later raises;
  spent = ap (λ (v : View). v.spent) raises.view;
  gaps = λ is. absurd (true≢false is);
}

pub looked-lifts : (next : ℕ) (view later : View) (lifted : Bool) → Looks view next later
    → Lifts view later lifted lifted
looked-lifts next view later lifted looks = record {
  stays = looked-stayed next view later looks;
  spent = ap (λ (v : View). v.spent) looks.view;
  gaps = λ is. (is, ap (λ (v : View). v.gaps) looks.view);
}

-- the promise goes on where only the seat looked or was raised
pub goes-later : {D I F : Type 0} (d : disks.Ghosts D) (i : indexes.Ghosts I)
    (start sessions : ℕ) (first now : WorkerView D I) (ends : Ends (Answer F) (Ask F) 8)
    (connections : List (Connection F)) (view later : View) (lifted raised : Bool)
    → Lifts view later lifted raised → (before : List Write)
    → AlwaysGoesOn d i start sessions first now now ends ends connections connections view later
    lifted raised before
goes-later d i start sessions first now ends connections view later lifted raised lifts
    before = λ h.
    let holds : Holds d i start sessions first now ends connections later raised before = record {
      gaps = h.gaps;
      gaps_are = λ is. let l = lifts.gaps is in h.gaps_are l.0 ∙ sym l.1;
      promise = record {
        taken = h.promise.taken;
        part = h.promise.part;
        each = h.promise.each;
        whole = h.promise.whole;
        groups = record {
          history = h.promise.groups.history;
          right = h.promise.groups.right;
          rising = h.promise.groups.rising;
          drawn = subst (λ ranges. AllByRecursion (λ stamp. 1 ≤ among stamp ranges)
              (stamps (done_pairs h.promise.groups.history))) (sym lifts.stays.drawn)
              h.promise.groups.drawn;
          owned = h.promise.groups.owned;
          known = h.promise.groups.known;
          parts = h.promise.groups.parts;
          order = h.promise.groups.order;
        };
        batches = h.promise.batches;
        same = h.promise.same;
        stamps = record {
          low = All-map (λ stamp. stamp < view.seen) (λ stamp. stamp < later.seen)
              (stamps (pairs_in h.promise.batches))
              (λ stamp lt. omega (arith, lt, lifts.stays.up)) h.promise.stamps.low;
          few =
              let a = h.promise.stamps.few in
              let b = ap size_of lifts.stays.drawn in
              let c = ap size_of lifts.spent in
              omega (arith, a, b, c);
          limits = subst (All IsMet) (sym lifts.spent) h.promise.stamps.limits;
          gaps = h.promise.stamps.gaps;
        };
        causes = subst (λ runs. KeepsCauses (setting_of d.tells start sessions first.store.workers
            first.store.limits.slots) before runs (d.faults first.store.disk.disk)
            (d.faults now.store.disk.disk) now.store.closed h.promise.batches) (sym lifts.spent)
            h.promise.causes;
        map = λ open_ stamp le. h.promise.map open_ stamp (omega (arith, le, lifts.stays.up));
        leaves = h.promise.leaves;
      };
      paired = h.paired;
      low = has-weaker (λ stamp. stamp < view.seen) (λ stamp. stamp < later.seen)
          (λ stamp lt. omega (arith, lt, lifts.stays.up)) (done_pairs h.promise.groups.history)
          h.low;
      sure = h.sure;
      leaves = h.leaves;
      same = h.same;
    } in
    record {
      holds = holds;
      more = [];
      longer = sym (append-nil h.promise.groups.history);
      stays = λ acks acked image was. was;
      moments = left-now d first.store.worker first.store.workers first.store.disk.disk
          now.store.disk.disk before (done_pairs h.promise.groups.history) h.leaves;
    }

pub later-promise : {D I F : Type 0} (d : disks.Ghosts D) (i : indexes.Ghosts I)
    (first now : WorkerView D I) (ends : Ends (Answer F) (Ask F) 8)
    (connections : List (Connection F)) (view later : View) (lifted raised : Bool)
    → Lifts view later lifted raised
    → ((before : List Write) → BeginsWith d i first before (view.start - 1)
    → ∥ Holds d i view.start (peers ends) first now ends connections view lifted before ∥₁)
    → (before : List Write) → BeginsWith d i first before (later.start - 1)
    → ∥ Holds d i later.start (peers ends) first now ends connections later raised before ∥₁
later-promise d i first now ends connections view later lifted raised lifts promise before begins =
    ∥∥₁_map
    (promise before (subst (λ n. BeginsWith d i first before (n - 1)) lifts.stays.start begins))
    (λ (h : Holds d i view.start (peers ends) first now ends connections view lifted before).
    subst (λ m. Holds d i m (peers ends) first now ends connections later raised before)
    (sym lifts.stays.start)
    (goes-later d i view.start (peers ends) first now ends connections view later lifted raised
    lifts before h).holds)

-- the promise goes on where the ends only looked
pub looked-goes : {D I F : Type 0} (d : disks.Ghosts D) (i : indexes.Ghosts I)
    (start sessions : ℕ) (first now : WorkerView D I) (ends new : Ends (Answer F) (Ask F) 8)
    (connections : List (Connection F)) (view : View) (lifted : Bool)
    → ((s : ℕ) → sent_to new s ≡ sent_to ends s)
    → ((s : ℕ) → received_from new s ≡ received_from ends s) → (before : List Write)
    → AlwaysGoesOn d i start sessions first now now ends new connections connections view view lifted
    lifted before
looked-goes {F = F} d i start sessions first now ends new connections view lifted sent received
    before = λ h.
    let holds : Holds d i start sessions first now new connections view lifted before = record {
      gaps = h.gaps;
      gaps_are = h.gaps_are;
      promise = record {
        taken = h.promise.taken;
        part = λ s lt. subst (λ ms. IsPartOf (h.promise.taken s) (all_asking ms))
            (sym (received s)) (h.promise.part s lt);
        each = λ s lt. subst (λ given. length given ≡ length (h.promise.taken s)) (answers s)
            (h.promise.each s lt);
        whole = λ s lt. subst (AllByRecursion (IsWhole {F = F})) (answers s) (h.promise.whole s lt);
        groups = record {
          history = h.promise.groups.history;
          right = h.promise.groups.right;
          rising = h.promise.groups.rising;
          drawn = h.promise.groups.drawn;
          owned = h.promise.groups.owned;
          known = h.promise.groups.known;
          parts = λ s lt. subst (λ given. pairs_in (answered_in given)
              ≡ done_for s h.promise.groups.history) (answers s) (h.promise.groups.parts s lt);
          order = λ s lt. subst (λ given. Answers (groups_in (h.promise.taken s)) (answered_in given))
              (answers s) (h.promise.groups.order s lt);
        };
        batches = h.promise.batches;
        same = h.promise.same;
        stamps = h.promise.stamps;
        causes = h.promise.causes;
        map = h.promise.map;
        leaves = h.promise.leaves;
      };
      paired = λ s lt. subst (λ given. length (answered_in given)
          ≡ length (groups_in (h.promise.taken s))) (answers s) (h.paired s lt);
      low = h.low;
      sure = h.sure;
      leaves = h.leaves;
      same = h.same;
    } in
    record {
      holds = holds;
      more = [];
      longer = sym (append-nil h.promise.groups.history);
      stays = λ acks acked image was. was;
      moments = left-now d first.store.worker first.store.workers first.store.disk.disk
          now.store.disk.disk before (done_pairs h.promise.groups.history) h.leaves;
    }
  where
    answers : (s : ℕ) → answers_to ends connections s ≡ answers_to new connections s
    answers s = ap (λ given. given ++ option_to_list (connection_of connections s).waiting)
        (sym (sent s))

pub looked-promise : {D I F : Type 0} (d : disks.Ghosts D) (i : indexes.Ghosts I)
    (start : ℕ) (first now : WorkerView D I) (ends new : Ends (Answer F) (Ask F) 8) (peer : ℕ)
    (connections : List (Connection F)) (view : View) (lifted : Bool) (before : List Write)
    → Looked peer ends new
    → ∥ Holds d i start (peers ends) first now ends connections view lifted before ∥₁
    → ∥ Holds d i start (peers new) first now new connections view lifted before ∥₁
looked-promise d i start first now ends new peer connections view lifted before looked promise =
    ∥∥₁_map promise (λ (h : Holds d i start (peers ends) first now ends connections view lifted before).
    subst (λ n. Holds d i start n first now new connections view lifted before) (sym looked.rings.peers)
    (looked-goes d i start (peers ends) first now ends new connections view lifted looked.sent
    looked.received before h).holds)

-- the promise of a party that has done nothing yet
pub first-promise : {D I F : Type 0} (d : disks.Ghosts D) (i : indexes.Ghosts I)
    (worker : WorkerView D I) (ends : Ends (Answer F) (Ask F) 8) (connections : List (Connection F))
    (view : View) (before : List Write) → BeginsWith d i worker before (view.start - 1)
    → IsFresh ends → ((s : ℕ) → connection_of connections s ≡ new_connection)
    → HasDrawnNone view → (1 ≤ view.start) × (view.start ≤ view.seen)
    → Holds d i view.start (peers ends) worker worker ends connections view false before
first-promise {D = D} {I = I} {F = F} d i worker ends connections view before begins fresh idle none
    started =
    let none_sent : (s : ℕ) → [] ≡ answers_to ends connections s = λ s.
    sym (ap (λ given. given ++ option_to_list (connection_of connections s).waiting) (fresh.sent s)
    ∙ ap (λ (c : Connection F). option_to_list c.waiting) (idle s)) in
    record {
      gaps = [];
      gaps_are = λ is. sym none.gaps;
      promise = record {
        taken = λ s. [];
        part = λ s lt. tt;
        each = λ s lt. subst (λ given. length given ≡ 0) (none_sent s) refl;
        whole = λ s lt. subst (AllByRecursion (IsWhole {F = F})) (none_sent s) tt;
        groups = record {
          history = [];
          right = record { distinct = tt; above = tt; fresh = tt; replies = tt };
          rising = tt;
          drawn = tt;
          owned = tt;
          known = tt;
          parts = λ s lt. subst (λ given. pairs_in (answered_in given) ≡ []) (none_sent s) refl;
          order = λ s lt. subst (λ given. Answers [] (answered_in given)) (none_sent s) tt;
        };
        batches = [];
        same = refl;
        stamps = record {
          low = tt;
          few =
              let a = ap size_of none.drawn in
              let b = ap size_of none.spent in
              omega (arith, a, b);
          limits = subst (All IsMet) (sym none.spent) (λ k e lt. absurd (omega (arith, lt)));
          gaps = λ k e lt. absurd (omega (arith, lt));
        };
        causes = record {
          few = tt;
          closes = tt;
          closed_is = begins.open_;
          counted = refl;
          spent = tt;
          full = λ told. tt;
        };
        map = λ open_ stamp le. subst (λ w. FollowsHistory d.tells w stamp
            (start_of d i worker.store)) (sym (append-nil before))
            (follows-later stamp (omega (arith, le, started.0, started.1)));
        leaves = leaves-prefixes d (setting_of d.tells view.start (peers ends) worker.store.workers
            worker.store.limits.slots) worker.store.worker worker.store.disk.disk
            worker.store.disk.disk before [] refl begun_leaves;
      };
      paired = λ s lt. subst (λ given. length (answered_in given) ≡ 0) (none_sent s) refl;
      low = tt;
      sure = λ open_. refl;
      leaves = begun_leaves;
      same = (refl, refl, refl);
    }
  where
    follows-later : (stamp : ℕ) → view.start ≤ stamp + 1
        → FollowsHistory d.tells before stamp (start_of d i worker.store)
    follows-later stamp le = record {
      value = λ key. subst (SameValue d.tells ((start_of d i worker.store).value key))
          (value-same before view.start (view.start - 1) stamp key
          (All-map (λ write. write.stamp ≤ view.start - 1) (λ write. write.stamp < view.start) before
          (λ write low. omega (arith, low, started.0)) begins.below)
          (omega (arith, started.0)) (omega (arith, le)))
          (begins.follows.value key);
      class = λ told key. begins.follows.class told key
          ∙ ap (λ o. class_with all_classes key o)
          (value-same before view.start (view.start - 1) stamp key
          (All-map (λ write. write.stamp ≤ view.start - 1) (λ write. write.stamp < view.start) before
          (λ write low. omega (arith, low, started.0)) begins.below)
          (omega (arith, started.0)) (omega (arith, le)));
    }

    recovered : (image : Image)
        → RecoversPrefix all_classes before before image worker.store.worker worker.store.workers
        → RecoversPrefix all_classes (all_writes before []) (before ++ []) image
        worker.store.worker worker.store.workers
    recovered image was =
        let Q : List Write → List Write → Type 0 = λ w a. RecoversPrefix all_classes w a image
        worker.store.worker worker.store.workers in
        subst₂ Q (sym (append-nil (before ++ []) ∙ append-nil before)) (sym (append-nil before)) was

    begun_leaves : LeavesEach d worker.store.worker worker.store.workers worker.store.disk.disk
        worker.store.disk.disk before []
    begun_leaves = record {
      any_moment = begun (d.calls worker.store.disk.disk) (d.leaves worker.store.disk.disk)
          (λ image. RecoversPrefix all_classes (all_writes before []) (before ++ []) image
          worker.store.worker worker.store.workers)
          (λ image left. recovered image (begins.recovers image left));
      exit = λ image left. recovered image (begins.recovers image left);
    }

-- the same, with the first worker as it was noted
pub first-holds : {D I F : Type 0} (d : disks.Ghosts D) (i : indexes.Ghosts I)
    (first worker : WorkerView D I) (ends : Ends (Answer F) (Ask F) 8)
    (connections : List (Connection F)) (view : View) (before : List Write) → first ≡ worker
    → BeginsWith d i first before (view.start - 1)
    → IsFresh ends → ((s : ℕ) → connection_of connections s ≡ new_connection)
    → HasDrawnNone view → (1 ≤ view.start) × (view.start ≤ view.seen)
    → Holds d i view.start (peers ends) first worker ends connections view false before
first-holds d i first worker ends connections view before same begins fresh idle none started =
    subst (λ w. Holds d i view.start (peers ends) w worker ends connections view false before) (sym same)
    (first-promise d i worker ends connections view before
    (subst (λ w. BeginsWith d i w before (view.start - 1)) same begins) fresh idle none started)

module _ {F : Type 0} where
  bye-push : (messages : List (Ask F)) (came : Option (Ask F))
      → has_bye (messages ++ option_to_list came) ≡ (has_bye messages || is_bye came)
  bye-push [] None = refl
  bye-push [] (Some message) = or-false (is_bye (Some message))
  bye-push (first ∷ messages) came =
      ap (λ b. is_bye (Some first) || b) (bye-push messages came)
      ∙ sym (or-assoc (is_bye (Some first)) (has_bye messages) (is_bye came))

  -- a session is known to have ended exactly where it has said so
  pub gone-on : {D I : Type 0} (d : disks.Ghosts D) (i : indexes.Ghosts I)
      (old now : WorkerView D I) (ends new : Ends (Answer F) (Ask F) 8)
      (connections after : List (Connection F)) (view later : View) (turn : Turn)
      → Turns d i old now ends new connections after view later turn
      → ((s : ℕ) → s < peers ends
      → (connection_of connections s).gone ≡ has_bye (received_from ends s))
      → (s : ℕ) → s < peers new → (connection_of after s).gone ≡ has_bye (received_from new s)
  gone-on d i old now ends new connections after view later turn t gone s lt =
      let low : s < peers ends = omega (arith, lt, t.rings.peers) in
      let e = t.each s low in
      e.gone ∙ ap (λ b. b || is_bye (intake_of t.intakes s).came) (gone s low)
      ∙ sym (bye-push (received_from ends s) (intake_of t.intakes s).came)
      ∙ ap has_bye (sym e.received)

  pub gone-first : (ends : Ends (Answer F) (Ask F) 8) (connections : List (Connection F))
      → IsFresh ends → ((s : ℕ) → connection_of connections s ≡ new_connection) → (s : ℕ)
      → (connection_of connections s).gone ≡ has_bye (received_from ends s)
  gone-first ends connections fresh idle s = ap (λ (c : Connection F). c.gone) (idle s)
      ∙ ap has_bye (sym (fresh.received s))
