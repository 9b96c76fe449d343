-- A turn keeps the promise of a party.
use Rattle.std.proofs.Common.{◌≡◌, ◌⊎◌, inl, inr, ⊎_elim, ℕ, zero, suc, ◌+◌, ◌-◌, ◌^◌, ◌<◌, ◌≤◌}
use Rattle.std.proofs.Common.{List, [], ◌∷◌, ◌++◌, map, length, Option, None, Some, Bool, true, false}
use Rattle.std.proofs.Common.{refl, sym, ap, subst, subst₂, ◌∙◌, arith, append-nil}
use Rattle.std.proofs.Common.{length-append, All, Contains}
use Rattle.std.specs.Prelude.{option_to_list, if◌then◌else◌, IsSome, IfSome, IsSomeAnd}
use Rattle.std.proofs.lemmas.Bool.{true≢false}
use Rattle.kv_base.specs.Partition.{owner_of}
use Rattle.std.specs.List.{AllByRecursion}
use Rattle.std.proofs.lemmas.Grind.{merely}
use Rattle.std.proofs.lemmas.List.{length-map}
use Rattle.std.proofs.lemmas.List.Concat.{flat_map-append}
use Rattle.std.proofs.lemmas.List.Elements.{All-append as All-append_at, Contains-append_left}
use Rattle.std.proofs.lemmas.List.Elements.{Contains-append_right}
use Rattle.kv_base.specs.Crash.{LeavesOnly}
use Rattle.kv_base.specs.declared.limits.Limits.{Limits}
use Rattle.kv_base.specs.Reserved.{Reserved}
use Rattle.kv_base.specs.declared.reply.Reply.{Reply}
use Rattle.kv_base.specs.declared.request.Request.{Request}
use Rattle.kv_disk.specs.declared.disk.Disk as disks
use Rattle.kv_index.specs.declared.index.Index as indexes
use Rattle.kv_model.proofs.PairwiseLemmas.{All-append, All-map, All-rest}
use Rattle.kv_model.proofs.ContainsLemmas.{Contains-first}
use Rattle.kv_model.specs.Agreement.{AgreesWithMap}
use Rattle.kv_model.specs.Batch.{IsTask}
use Rattle.kv_model.specs.BatchLaws.{pairs_of}
use Rattle.kv_model.specs.History.{Write}
use Rattle.kv_model.specs.Items.{FollowsHistory}
use Rattle.kv_model.specs.Layout.{all_classes}
use Rattle.kv_model.specs.Pairs.{Pair, key_of, pairs_in, stamps, writes, unsure_writes}
use Rattle.kv_model.specs.Pairwise.{Pairwise}
use Rattle.kv_model.specs.Recovery.{RecoversPrefix}
use Rattle.kv_parties.specs.Causes.{KeepsCauses, all_writes}
use Rattle.kv_parties.specs.Groups.{Asked, Answers}
use Rattle.kv_parties.specs.Messages.{groups_in, answered_in, all_asking, group_of, asking}
use Rattle.kv_parties.specs.Messages.{answered_of, task_pairs, IsPartOf, IsReplied, IsWhole}
use Rattle.kv_parties.specs.Promises.{WorkerPromise}
use Rattle.kv_parties.specs.Recovered.{LeavesPrefixes}
use Rattle.kv_parties.specs.Setting.{Setting, IsOwned}
use Rattle.kv_parties.specs.Stamps.{IsForGroup}
use Rattle.kv_parties.specs.Workers.{Done, done_pairs, done_for}
use Rattle.kv_ring.specs.Ends.{peers, received_from}
use Rattle.kv_ring.specs.Tasks.{requests_of}
use Rattle.kv_ring.specs.declared.ends.Ends.{Ends}
use Rattle.kv_ring.specs.declared.message.Answer.{Answer}
use Rattle.kv_ring.specs.declared.message.Ask.{Ask}
use Rattle.kv_ring.specs.declared.message.Ask.TheVariants as ask
use Rattle.kv_ring.specs.declared.task.Task.{Task}
use Rattle.kv_stamps.specs.Ranges.{among}
use Rattle.kv_stamps.specs.declared.view.Range.{Range}
use Rattle.kv_stamps.specs.declared.view.View.{View}
use Rattle.kv_groups.specs.declared.connection.Connection.{Connection}
use Rattle.kv_ring.specs.declared.turn.Turn.{Turn}
use Rattle.kv_groups.specs.Batched.{of_session, in_hand, AreReplied}
use Rattle.kv_worker.specs.Batches.{IsOpenTask, requests_in}
use Rattle.kv_groups.specs.Delivering.{tasks_of}
use Rattle.kv_groups.specs.Gathering.{Intake, intake_of, taken_by, greatest}
use Rattle.kv_worker_party.specs.Laws.{PartyLaws}
use Rattle.kv_worker_party.specs.Party.{GoesOn, Holds, LeavesEach, answers_to, data_of, setting_of}
use Rattle.kv_groups.specs.Taking.{group_taken, takes_group}
use Rattle.kv_worker_party.specs.Turns.{Turns, answer_to, asked_seen, asked_seens, asked_tasks}
use Rattle.kv_worker.specs.Worker.{WorkerView, start_of}
use Rattle.kv_worker_party.proofs.BatchedLemmas.{in_hand-all}
use Rattle.kv_worker_party.proofs.BatchedLemmas.{answered-many, answered-requests, all_task_pairs}
use Rattle.kv_worker_party.proofs.BatchedLemmas.{in_hand-pairs, batch-pairs, all_done, done_pairs-all}
use Rattle.kv_worker_party.proofs.BatchedLemmas.{done_pairs-append, done_for-append, done_for-all}
use Rattle.kv_worker_party.proofs.BatchedLemmas.{done-below, stamps-append, stamps-at, rising-at}
use Rattle.kv_worker_party.proofs.BatchCauseLemmas.{BatchCauses, served-batch, causes-push, pairs-push}
use Rattle.kv_worker_party.proofs.WholeLemmas.{IsFramed, items-framed, tasks-each, tasks-replied}
use Rattle.kv_worker_party.proofs.WholeLemmas.{answer-whole, pairs-few, pairs-many, reply-many}
use Rattle.kv_worker_party.proofs.CountedLemmas.{IsGapBehind, served-counted, greatest-taken}
use Rattle.kv_worker_party.proofs.CountedLemmas.{gaps-longer, gaps-for}
use Rattle.kv_worker_party.proofs.KeepLemmas.{Keeps, served-keeps, served-leaves, served-stays}
use Rattle.kv_worker_party.proofs.StampedLemmas.{HasStamp, stamps-all}
use Rattle.kv_groups.proofs.TakeLemmas.{is-taken}
use Rattle.kv_worker_party.proofs.OpenLemmas.{all-open}

-- what is left of two lists, one behind the other
part-skip : {X : Type 0} (xs ys : List X) (y : X) → IsPartOf xs ys → IsPartOf xs (y ∷ ys)
part-skip [] ys y part = tt
part-skip (x ∷ xs) ys y part = inr part

part-append : {X : Type 0} (xs ys us vs : List X) → IsPartOf xs ys → IsPartOf us vs
    → IsPartOf (xs ++ us) (ys ++ vs)
part-append [] [] us vs first second = second
part-append (x ∷ xs) [] us vs first second = absurd first
part-append [] (y ∷ ys) us vs first second =
    part-skip us (ys ++ vs) y (part-append [] ys us vs tt second)
part-append (x ∷ xs) (y ∷ ys) us vs (inl here) second =
    inl (here.0, part-append xs ys us vs here.1 second)
part-append (x ∷ xs) (y ∷ ys) us vs (inr later) second =
    inr (part-append (x ∷ xs) ys us vs later second)

-- as many answers as groups, and more of both
Answers-append : (xs us : List Asked) (ys vs : List (List Pair)) → Answers xs ys
    → length ys ≡ length xs → Answers us vs → Answers (xs ++ us) (ys ++ vs)
Answers-append [] us [] vs h e g = g
Answers-append [] us (y ∷ ys) vs h e g = absurd h
Answers-append (x ∷ xs) us [] vs h e g = absurd (omega (arith, e))
Answers-append (x ∷ xs) us (y ∷ ys) vs h e g =
    (h.0, Answers-append xs us ys vs h.1 (omega (arith, e)) g)

-- the greatest of two lists of numbers, the second above the first
Rising-append : (xs ys : List ℕ) (n : ℕ) → AllByRecursion (λ x. x < n) xs
    → AllByRecursion (λ y. n ≤ y) ys → Pairwise ◌<◌ xs → Pairwise ◌<◌ ys
    → Pairwise ◌<◌ (xs ++ ys)
Rising-append [] ys n low high a b = b
Rising-append (x ∷ xs) ys n low high a b = (
  All-append (λ y. x < y) xs ys a.0 (All-map (λ y. n ≤ y) (λ y. x < y) ys
      (λ y le. let lt = low.0 in omega (arith, lt, le)) high),
  Rising-append xs ys n low.1 high a.1 b,
)

module _ {F : Type 0} where
  -- the message that is taken
  abbrev message_of : Option (ℕ × Reserved Task) → List (Ask F)
  message_of None = []
  message_of (Some group) = ask.Group group.0 group.1 ∷ []

  came-part : (worker workers : ℕ) (waits : Bool) (came : Option (Ask F))
      → IsPartOf (message_of (group_taken worker workers waits came))
      (all_asking (option_to_list came))
  came-part worker workers waits None = tt
  came-part worker workers waits (Some (ask.Group seen tasks)) =
      elim (takes_group worker workers waits seen tasks.items) as (λ b.
      IsPartOf (message_of (if b then Some (seen, tasks) else None))
      (ask.Group seen tasks ∷ [])) [
        | true ↦ inl (refl, tt)
        | false ↦ tt
      ]
  came-part worker workers waits (Some (ask.Prepare fold low high)) = tt
  came-part worker workers waits (Some (ask.Start stamp)) = tt
  came-part worker workers waits (Some ask.Drop) = tt
  came-part worker workers waits (Some ask.Bye) = tt

  pub open-asked : (worker workers session : ℕ) (waits : Bool) (came : Option (Ask F))
      → AllByRecursion (IsOpenTask worker workers)
      (of_session session (asked_tasks (group_taken worker workers waits came)))
  open-asked worker workers session waits None = tt
  open-asked worker workers session waits (Some (ask.Group seen tasks)) =
      (elim (takes_group worker workers waits seen tasks.items) as (λ b.
      takes_group worker workers waits seen tasks.items ≡ b
      → AllByRecursion (IsOpenTask worker workers)
      (of_session session (asked_tasks (if b then Some (seen, tasks) else None)))) [
        | true ↦ λ e. all-open worker workers session tasks.items
            (is-taken worker workers waits seen tasks.items e).all
        | false ↦ λ e. tt
      ]) refl
  open-asked worker workers session waits (Some (ask.Prepare fold low high)) = tt
  open-asked worker workers session waits (Some (ask.Start stamp)) = tt
  open-asked worker workers session waits (Some ask.Drop) = tt
  open-asked worker workers session waits (Some ask.Bye) = tt

  pub tasks-at : (intakes : List (Intake F)) (k : ℕ)
      → tasks_of (map (λ intake. intake.tasks) intakes) k ≡ (intake_of intakes k).tasks
  tasks-at [] k = refl
  tasks-at (intake ∷ intakes) zero = refl
  tasks-at (intake ∷ intakes) (suc k) = tasks-at intakes k

answer-length : (F : Type 0) (group : Option (ℕ × Reserved Task)) (tasks : List Task)
    → length (answer_to {F = F} group tasks) ≡ length (message_of {F = F} group)
answer-length F None tasks = refl
answer-length F (Some group) tasks = refl

answer-groups : (F : Type 0) (group : Option (ℕ × Reserved Task)) (tasks : List Task)
    → length (answered_in (answer_to {F = F} group tasks))
    ≡ length (groups_in (message_of {F = F} group))
answer-groups F None tasks = refl
answer-groups F (Some group) tasks = refl

-- the pairs of the answer
answer-pairs : (F : Type 0) (group : Option (ℕ × Reserved Task)) (tasks : List Task)
    → length tasks ≡ length (asked_tasks group)
    → pairs_in (answered_in (answer_to {F = F} group tasks)) ≡ task_pairs tasks
answer-pairs F None [] many = refl
answer-pairs F None (task ∷ tasks) many = absurd (omega (arith, many))
answer-pairs F (Some group) tasks many = append-nil (task_pairs tasks)

-- the answer answers the group
answer-answers : (F : Type 0) (group : Option (ℕ × Reserved Task)) (tasks : List Task) (seen : ℕ)
    → AreReplied (asked_tasks group) tasks → asked_seen group ≤ seen
    → AllByRecursion (λ stamp. seen < stamp) (stamps (task_pairs tasks))
    → Pairwise ◌<◌ (stamps (task_pairs tasks))
    → Answers (groups_in (message_of {F = F} group)) (answered_in (answer_to {F = F} group tasks))
answer-answers F None tasks seen answered low above rising = tt
answer-answers F (Some group) tasks seen answered low above rising = (
  record {
    same = answered-requests tasks answered.replies answered.replies_are ∙ answered.requests;
    later = All-map (λ stamp. seen < stamp) (λ stamp. group.0 < stamp)
        (stamps (task_pairs tasks)) (λ stamp lt. omega (arith, lt, low)) above;
    rising = rising;
  },
  tt,
)

seen-at : {F : Type 0} (worker workers : ℕ) (intakes : List (Intake F)) (s : ℕ)
    → s < length intakes → asked_seen (taken_by worker workers (intake_of intakes s))
    ≤ greatest (asked_seens worker workers intakes)
seen-at worker workers [] s lt = absurd (omega (arith, lt))
seen-at worker workers (intake ∷ intakes) zero lt = omega arith
seen-at worker workers (intake ∷ intakes) (suc s) lt =
    omega (arith, seen-at worker workers intakes s (omega (arith, lt)))

good-requests : (worker workers : ℕ) (items : List (ℕ × Task))
    → AllByRecursion (IsOpenTask worker workers) items
    → AllByRecursion (IsTask all_classes) (requests_in items)
good-requests worker workers [] all = tt
good-requests worker workers (item ∷ items) all =
    (all.0.task, good-requests worker workers items all.1)

some-and : {X : Type 0} (o : Option X) (P : X → Type 0) → IsSome o → IfSome o P → IsSomeAnd o P
some-and None P some has = absurd (true≢false (sym some))
some-and (Some x) P some has = has

owned-pairs : (worker workers : ℕ) (items : List (ℕ × Task)) (replies : List Reply)
    → AllByRecursion (IsOpenTask worker workers) items
    → AllByRecursion (λ pair. IsOwned workers worker pair.request)
    (pairs_of (requests_in items) replies)
owned-pairs worker workers [] replies all = tt
owned-pairs worker workers (item ∷ items) [] all = tt
owned-pairs worker workers (item ∷ items) (reply ∷ replies) all = (
  some-and (key_of item.1.request) (λ key. owner_of key workers ≡ worker) all.0.task.keyed
      all.0.owned,
  owned-pairs worker workers items replies all.1,
)

-- what a crash leaves at each moment, as one fact for each image
pub leaves-prefixes : {D : Type 0} (d : disks.Ghosts D) (setting : Setting) (worker : ℕ)
    (first now : D) (before : List Write) (pairs : List Pair) → setting.layout ≡ all_classes
    → LeavesEach d worker setting.workers first now before pairs
    → LeavesPrefixes d setting worker first now before pairs
leaves-prefixes d setting worker first now before pairs layout leaves = record {
  later = leaves.any_moment.later;
  any_moment = λ moment from to image left. merely (subst (λ l. RecoversPrefix l
      (all_writes before pairs) (before ++ []) image worker setting.workers) (sym layout)
      (leaves.any_moment.each moment from to image left));
  exit = λ image left. merely (subst (λ l. RecoversPrefix l (all_writes before pairs)
      (before ++ writes pairs) image worker setting.workers) (sym layout) (leaves.exit image left));
}

-- the promise goes on through a turn
pub holds-turn : {D I F : Type 0} (laws : PartyLaws) (d : disks.Ghosts D) (i : indexes.Ghosts I)
    (start sessions : ℕ) (first old now : WorkerView D I) (ends new : Ends (Answer F) (Ask F) 8)
    (connections after : List (Connection F)) (view later : View) (turn : Turn)
    (lifted : Bool) (before : List Write)
    → (h : Holds d i start sessions first old ends connections view lifted before)
    → (1 ≤ start) × (start ≤ view.seen)
    → AllByRecursion (λ write. write.stamp < view.seen) before → peers ends ≡ sessions
    → Turns d i old now ends new connections after view later turn
    → GoesOn d i start sessions first old now ends new connections after view later lifted lifted
    before h
holds-turn {D = D} {I = I} {F = F} laws d i start sessions first old now ends new connections after view later
    turn lifted before h above earlier size t =
    let history : List Done = h.promise.groups.history in
    let pairs : List Pair = done_pairs history in
    let worker : ℕ = old.store.worker in
    let workers : ℕ = old.store.workers in
    let groups : List (List Task) = map (λ (intake : Intake F). intake.tasks) t.intakes in
    let items : List (ℕ × Task) = in_hand 0 groups in
    let requests : List Request = requests_in items in
    let group : List Pair = pairs_of requests t.replies in
    let fresh : List Done = all_done 0 t.answered in
    let more : ℕ → Option (ℕ × Reserved Task) = λ s. taken_by worker workers
    (intake_of t.intakes s) in
    let reply : ℕ → List (Answer F) = λ s. answer_to (more s) (tasks_of t.answered s) in
    let message : ℕ → List (Ask F) = λ s. message_of (more s) in
    let open_ : AllByRecursion (IsOpenTask worker workers) items =
    in_hand-all (IsOpenTask worker workers) 0 groups (λ k lt.
    let e = t.each k (groups-fit k lt) in
    subst (λ ts. AllByRecursion (IsOpenTask worker workers) (of_session (0 + k) ts))
    (sym (tasks-at t.intakes k ∙ e.tasks))
    (open-asked worker workers (0 + k) (intake_of t.intakes k).waits
    (intake_of t.intakes k).came)) in
    let follows : old.store.closed ≡ false → (stamp : ℕ) → view.seen ≤ stamp + 1
    → FollowsHistory d.tells (before ++ writes pairs) stamp (start_of d i old.store) =
    λ is_open stamp le. subst (λ ps. FollowsHistory d.tells (before ++ writes ps) stamp
    (start_of d i old.store)) h.promise.same (h.promise.map is_open stamp le) in
    let keeps : Keeps d i start sessions first old view before pairs = record {
      agrees = h.promise.groups.right;
      above = above;
      earlier = earlier;
      below = h.low;
      follows = follows;
      sure = h.sure;
      leaves = h.leaves;
      same = h.same;
    } in
    let r = served-keeps laws d i start sessions first before pairs old now t.seen view later
    requests t.replies keeps (good-requests worker workers items open_) t.served in
    let batch_is : all_task_pairs t.answered ≡ group =
    sym (in_hand-pairs 0 t.answered)
    ∙ batch-pairs (in_hand 0 t.answered) requests t.replies t.batch.requests t.batch.replies_are in
    let fresh_is : done_pairs fresh ≡ group = done_pairs-all 0 t.answered ∙ batch_is in
    let all_is : pairs ++ group ≡ done_pairs (history ++ fresh) =
    sym (done_pairs-append history fresh ∙ ap (λ ps. pairs ++ ps) fresh_is) in
    let stamps_are : stamps (done_pairs (history ++ fresh)) ≡ stamps pairs ++ stamps group =
    ap stamps (sym all_is) ∙ stamps-append pairs group in
    let sent : (s : ℕ) → s < sessions → answers_to new after s
    ≡ answers_to ends connections s ++ reply s =
    λ s lt. (t.each s (omega (arith, lt, size))).sent in
    let came : (s : ℕ) → s < sessions → received_from new s
    ≡ received_from ends s ++ option_to_list (intake_of t.intakes s).came =
    λ s lt. (t.each s (omega (arith, lt, size))).received in
    let taken : ℕ → List (Ask F) = λ s. h.promise.taken s ++ message s in
    let answered_more : (s : ℕ) → s < sessions → answered_in (answers_to new after s)
    ≡ answered_in (answers_to ends connections s)
    ++ answered_in (reply s) = λ s lt.
    ap answered_in (sent s lt)
    ∙ flat_map-append answered_of (answers_to ends connections s)
    (reply s) in
    let taken_more : (s : ℕ) → groups_in (taken s)
    ≡ groups_in (h.promise.taken s) ++ groups_in (message s) = λ s.
    flat_map-append group_of (h.promise.taken s) (message s) in
    let many_at : (s : ℕ) → s < sessions → length (tasks_of t.answered s)
    ≡ length (asked_tasks (more s)) = λ s lt.
    let e = t.each s (omega (arith, lt, size)) in
    answered-many (intake_of t.intakes s).tasks (tasks_of t.answered s) e.replied
    ∙ ap length e.tasks in
    let seen_low : (s : ℕ) → s < sessions → asked_seen (more s) ≤ t.seen = λ s lt.
    let up = seen-at worker workers t.intakes s (omega (arith, lt, size, t.many.0)) in
    omega (arith, up, t.seen_is) in
    let at : (s : ℕ) → s < sessions → AreReplied (asked_tasks (more s)) (tasks_of t.answered s) =
    λ s lt. let e = t.each s (omega (arith, lt, size)) in
    subst (λ ts. AreReplied ts (tasks_of t.answered s)) e.tasks e.replied in
    let all_above : AllByRecursion (λ stamp. t.seen < stamp) (stamps (all_task_pairs t.answered)) =
    subst (λ ps. AllByRecursion (λ stamp. t.seen < stamp) (stamps ps)) (sym batch_is) r.1.above in
    let all_rising : Pairwise ◌<◌ (stamps (all_task_pairs t.answered)) =
    subst (λ ps. Pairwise ◌<◌ (stamps ps)) (sym batch_is) r.1.rising in
    let all_low : AllByRecursion (λ stamp. stamp < 2 ^ 62) (stamps (all_task_pairs t.answered)) =
    subst (λ ps. AllByRecursion (λ stamp. stamp < 2 ^ 62) (stamps ps)) (sym batch_is)
    (All-map (λ stamp. (start - 1 < stamp) × (stamp < 2 ^ 62)) (λ stamp. stamp < 2 ^ 62)
    (stamps group) (λ stamp has. has.1)
    (All-rest (λ stamp. (start - 1 < stamp) × (stamp < 2 ^ 62)) (stamps pairs) (stamps group)
    (subst (AllByRecursion (λ stamp. (start - 1 < stamp) × (stamp < 2 ^ 62)))
    (stamps-append pairs group) r.0.agrees.above))) in
    let framed : AllByRecursion (λ item. IsFramed item.1) (in_hand 0 t.answered) =
    items-framed (in_hand 0 t.answered) t.replies t.batch.replies_are t.framed in
    let replied : (s : ℕ) → s < sessions → AllByRecursion IsReplied (tasks_of t.answered s) =
    λ s lt. let a = at s lt in
    tasks-replied (tasks_of t.answered s) a.replies a.replies_are
    (tasks-each IsFramed 0 t.answered framed s)
    (stamps-at (λ stamp. stamp < 2 ^ 62) t.answered s all_low) in
    let setting : Setting = setting_of d.tells start sessions first.store.workers
    first.store.limits.slots in
    let batches : List (List Pair) = h.promise.batches in
    let batched : pairs_in (batches ++ group ∷ []) ≡ pairs ++ group =
    pairs-push batches group ∙ ap (λ ps. ps ++ group) h.promise.same in
    let group_many : length requests ≤ length group = omega (
      arith,
      pairs-many requests t.replies
          (reply-many items (in_hand 0 t.answered) t.replies t.batch),
    ) in
    let few : length group ≤ 512 = omega (
      arith,
      pairs-few requests t.replies,
      length-map items (λ (i : ℕ × Task). i.1.request),
      t.few,
    ) in
    let causes : KeepsCauses setting before later.spent (d.faults first.store.disk.disk)
    (d.faults now.store.disk.disk) now.store.closed (batches ++ group ∷ []) = causes-push d setting old now view later before (d.faults first.store.disk.disk)
    batches group refl refl h.promise.causes few
    (subst (λ ps. BatchCauses d first.store.limits.slots old now view later before ps group)
    (sym h.promise.same)
    (served-batch laws d i before pairs first.store.limits.slots old now t.seen view later requests
    t.replies (ap (λ (l : Limits). l.slots) h.same.2)
    (λ base up is_open. follows is_open (base - 1) (omega (arith, above.0, above.1, up)))
    t.served)) in
    let counted = served-counted d i old now t.seen view later requests t.replies
    (omega (arith, length-map items (λ (i : ℕ × Task). i.1.request), t.few)) t.served in
    let gaps : List Range = h.gaps ++ counted.more in
    let new-gaps : (counted.more ≡ []) ⊎ (1 ≤ length requests)
    → All (IsForGroup setting (λ s. groups_in (taken s))) counted.more = ⊎_elim
    (λ (none : counted.more ≡ []).
    subst (All (IsForGroup setting (λ s. groups_in (taken s)))) (sym none)
    (λ k e lt. absurd (omega (arith, lt))))
    (λ (some : 1 ≤ length requests).
    let found = greatest-taken worker workers t.intakes
    (λ s lt. (t.each s (omega (arith, lt, t.many.0))).tasks)
    (λ s lt. seen-at worker workers t.intakes s lt)
    (omega (arith, some, length-map items (λ (i : ℕ × Task). i.1.request))) in
    let asked : Asked = record {
      seen = found.2.0.0;
      requests = requests_of found.2.0.1.items;
    } in
    gaps-for setting (λ s. groups_in (taken s)) counted.more found.0 asked
    (omega (arith, found.1, t.many.0, size))
    (subst (λ gs. Contains gs asked) (sym (taken_more found.0))
    (Contains-append_right (groups_in (h.promise.taken found.0)) (groups_in (message found.0))
    asked (subst (λ o. Contains (groups_in (message_of {F = F} o)) asked) (sym found.2.1.0)
    (Contains-first asked []))))
    (subst (λ n. All (IsGapBehind n) counted.more) (t.seen_is ∙ sym found.2.1.1)
    counted.each)) in
    let promise : WorkerPromise d setting first.store.worker before (received_from new)
    (answers_to new after) (data_of d i first now later gaps) = record {
      taken = taken;
      part = λ s lt. subst (IsPartOf (taken s))
          (sym (ap all_asking (came s lt)
          ∙ flat_map-append asking (received_from ends s)
          (option_to_list (intake_of t.intakes s).came)))
          (part-append (h.promise.taken s) (all_asking (received_from ends s))
          (message s) (all_asking (option_to_list (intake_of t.intakes s).came))
          (h.promise.part s lt)
          (came-part worker workers (intake_of t.intakes s).waits (intake_of t.intakes s).came));
      each = λ s lt.
          let a = ap length (sent s lt)
          ∙ length-append (answers_to ends connections s)
          (reply s) in
          let b = length-append (h.promise.taken s) (message s) in
          let c = answer-length F (more s) (tasks_of t.answered s) in
          let e = h.promise.each s lt in
          omega (arith, a, b, c, e);
      whole = λ s lt. subst (AllByRecursion (IsWhole {F = F})) (sym (sent s lt))
          (All-append (IsWhole {F = F}) (answers_to ends connections s) (reply s)
          (h.promise.whole s lt)
          (answer-whole F (more s) (tasks_of t.answered s) (replied s lt)));
      groups = record {
        history = history ++ fresh;
        right = subst (AgreesWithMap d.tells all_classes before (start - 1)) all_is r.0.agrees;
        rising = subst (Pairwise ◌<◌) (sym stamps_are)
            (Rising-append (stamps pairs) (stamps group) view.seen
            (stamps-all (λ stamp. stamp < view.seen) pairs h.low) r.1.old
            h.promise.groups.rising r.1.rising);
        drawn = subst (AllByRecursion (λ stamp. 1 ≤ among stamp later.drawn)) (sym stamps_are)
            (All-append (λ stamp. 1 ≤ among stamp later.drawn) (stamps pairs) (stamps group)
            (All-map (λ stamp. 1 ≤ among stamp view.drawn) (λ stamp. 1 ≤ among stamp later.drawn)
            (stamps pairs) (λ stamp one. let k = r.1.kept stamp in omega (arith, one, k))
            h.promise.groups.drawn) r.1.drawn);
        owned = subst (AllByRecursion (λ (pair : Pair). IsOwned first.store.workers
            first.store.worker pair.request)) all_is
            (All-append (λ (pair : Pair). IsOwned first.store.workers first.store.worker
            pair.request) pairs group h.promise.groups.owned
            (let P : ℕ → ℕ → Type 0 = λ m n. AllByRecursion (λ (pair : Pair). IsOwned n m
            pair.request) group in
            subst₂ P h.same.0 h.same.1 (owned-pairs worker workers items t.replies open_)));
        known = All-append (λ (done : Done). done.session < sessions) history fresh
            h.promise.groups.known
            (done-below 0 sessions t.answered (omega (arith, t.many.1, size)));
        parts = λ s lt.
            ap pairs_in (answered_more s lt)
            ∙ flat_map-append (λ (ps : List Pair). ps)
            (answered_in (answers_to ends connections s))
            (answered_in (reply s))
            ∙ ap (λ ps. ps ++ pairs_in (answered_in (reply s)))
            (h.promise.groups.parts s lt)
            ∙ ap (λ ps. done_for s history ++ ps)
            (answer-pairs F (more s) (tasks_of t.answered s) (many_at s lt)
            ∙ sym (done_for-all 0 s t.answered s (let e : s ≡ 0 + s = omega arith in e)))
            ∙ sym (done_for-append s history fresh);
        order = λ s lt. subst₂ Answers (sym (taken_more s)) (sym (answered_more s lt))
            (Answers-append (groups_in (h.promise.taken s)) (groups_in (message s))
            (answered_in (answers_to ends connections s))
            (answered_in (reply s))
            (h.promise.groups.order s lt) (h.paired s lt)
            (answer-answers F (more s) (tasks_of t.answered s) t.seen (at s lt)
            (seen_low s lt)
            (stamps-at (λ stamp. t.seen < stamp) t.answered s all_above)
            (rising-at t.answered s all_rising)));
      };
      batches = batches ++ group ∷ [];
      same = batched ∙ all_is;
      stamps = record {
        low = subst (AllByRecursion (λ stamp. stamp < later.seen)) (ap stamps (sym batched))
            (stamps-all (λ stamp. stamp < later.seen) (pairs ++ group) r.0.below);
        few =
            let a = h.promise.stamps.few in
            let b = counted.sizes in
            let c = ap length batched in
            let e = length-append pairs group in
            let f = ap length h.promise.same in
            omega (arith, a, b, c, e, f, group_many);
        limits = counted.limits h.promise.stamps.limits;
        gaps = All-append_at (IsForGroup setting (λ s. groups_in (taken s))) h.gaps counted.more
            (gaps-longer setting (λ s. groups_in (h.promise.taken s)) (λ s. groups_in (taken s))
            h.gaps (λ s asked there. subst (λ gs. Contains gs asked) (sym (taken_more s))
            (Contains-append_left (groups_in (h.promise.taken s)) (groups_in (message s)) asked
            there)) h.promise.stamps.gaps)
            (new-gaps counted.some);
      };
      causes = causes;
      map = λ is_open stamp le. subst (λ ps. FollowsHistory d.tells (before ++ writes ps) stamp
          (start_of d i now.store)) (sym batched) (r.0.follows is_open stamp le);
      leaves = subst (LeavesPrefixes d setting first.store.worker first.store.disk.disk
          now.store.disk.disk before)
          (sym batched)
          (leaves-prefixes d setting first.store.worker first.store.disk.disk now.store.disk.disk
          before (pairs ++ group) refl r.0.leaves);
    } in
    let holds : Holds d i start sessions first now new after later lifted before = record {
      gaps = gaps;
      gaps_are = λ is. ap (λ gs. gs ++ counted.more) (h.gaps_are is) ∙ sym counted.gaps;
      promise = promise;
      paired = λ s lt.
          let a = ap length (answered_more s lt)
          ∙ length-append (answered_in (answers_to ends connections s))
          (answered_in (reply s)) in
          let b = ap length (taken_more s)
          ∙ length-append (groups_in (h.promise.taken s)) (groups_in (message s)) in
          let c = answer-groups F (more s) (tasks_of t.answered s) in
          let e = h.paired s lt in
          omega (arith, a, b, c, e);
      low = subst (AllByRecursion (HasStamp (λ stamp. stamp < later.seen))) all_is r.0.below;
      sure = λ is_open. ap unsure_writes (sym all_is) ∙ r.0.sure is_open;
      leaves = subst (LeavesEach d first.store.worker first.store.workers first.store.disk.disk
          now.store.disk.disk before) all_is r.0.leaves;
      same = r.0.same;
    } in
    record {
      holds = holds;
      more = fresh;
      longer = refl;
      stays = λ acks acked image was. subst (λ ps. RecoversPrefix all_classes
          (all_writes before ps) acks image first.store.worker first.store.workers) all_is
          (served-stays laws d i start sessions first before pairs old now t.seen view later
          requests t.replies keeps (good-requests worker workers items open_) t.served acks acked
          image was);
      moments = subst (λ ps. LeavesOnly (d.calls old.store.disk.disk) (d.calls now.store.disk.disk)
          (d.leaves old.store.disk.disk) (d.leaves now.store.disk.disk)
          (λ image. RecoversPrefix all_classes (all_writes before ps) (before ++ writes pairs) image
          first.store.worker first.store.workers)) all_is
          (served-leaves laws d i start sessions first before pairs old now t.seen view later
          requests t.replies keeps (good-requests worker workers items open_) t.served);
    }
  where
    groups-fit : (k : ℕ) → k < length (map (λ (intake : Intake F). intake.tasks) t.intakes)
        → k < peers ends
    groups-fit k lt = omega (
      arith,
      lt,
      length-map t.intakes (λ (intake : Intake F). intake.tasks),
      t.many.0,
    )
