-- Lemmas on the tasks of several sessions in one batch, before and after they are answered.
use Rattle.std.proofs.Common.{◌≡◌, ◌≢◌, ℕ, zero, suc, ◌+◌, ◌<◌, ◌≤◌, List, [], ◌∷◌, ◌++◌, map, filter}
use Rattle.std.proofs.Common.{length, Option, Some, true, false, cond, refl, sym, ap}
use Rattle.std.proofs.Common.{◌∙◌, subst, arith, append-nil}
use Rattle.std.specs.Prelude.{nat_eq}
use Rattle.std.specs.List.{AllByRecursion, flat_map, cons_option}
use Rattle.std.specs.Option.{option_map}
use Rattle.std.proofs.lemmas.Bool.Decides.{nat_tests}
use Rattle.std.proofs.lemmas.List.{map-append, length-map}
use Rattle.std.proofs.lemmas.List.Elements.{filter-append, filter_map-append}
use Rattle.kv_base.specs.declared.reply.Reply.{Reply}
use Rattle.kv_base.specs.declared.request.Request.{Request}
use Rattle.kv_model.proofs.PairwiseLemmas.{All-append, All-front, All-rest}
use Rattle.kv_model.specs.BatchLaws.{pairs_of}
use Rattle.kv_model.specs.Pairs.{Pair, stamps, stamp_of}
use Rattle.kv_model.specs.Pairwise.{Pairwise}
use Rattle.kv_parties.specs.Messages.{pair_of, task_pairs}
use Rattle.kv_parties.specs.Workers.{Done, done_pairs, done_for}
use Rattle.kv_ring.specs.Tasks.{requests_of, replies_of}
use Rattle.kv_ring.specs.declared.task.Task.{Task}
use Rattle.kv_groups.specs.Batched.{of_session, in_hand, AreReplied}
use Rattle.kv_worker.specs.Batches.{AreAnswered, requests_in}
use Rattle.kv_groups.specs.Delivering.{tasks_of}
use Rattle.kv_groups.proofs.BatchLemmas.{untag}

-- what each session's tasks have, all have
pub in_hand-all : (P : ℕ × Task → Type 0) (from : ℕ) (groups : List (List Task))
    → ((k : ℕ) → k < length groups → AllByRecursion P (of_session (from + k) (tasks_of groups k)))
    → AllByRecursion P (in_hand from groups)
in_hand-all P from [] each = tt
in_hand-all P from (group ∷ groups) each =
    All-append P (of_session from group) (in_hand (from + 1) groups)
    (subst (λ n. AllByRecursion P (of_session n group))
    (let e : from + 0 ≡ from = omega arith in e) (each 0 (omega arith)))
    (in_hand-all P (from + 1) groups (λ k lt.
    subst (λ n. AllByRecursion P (of_session n (tasks_of groups k)))
    (let e : from + suc k ≡ from + 1 + k = omega arith in e) (each (suc k) (omega (arith, lt)))))

-- so it is with each session's
abbrev pub AreAllAnswered : List (List Task) → List (List Task) → Type 0
AreAllAnswered [] [] = Unit {0}
AreAllAnswered [] (tasks ∷ answered) = ⊥
AreAllAnswered (group ∷ groups) [] = ⊥
AreAllAnswered (group ∷ groups) (tasks ∷ answered) = AreReplied group tasks
    × AreAllAnswered groups answered

-- one session's tasks, and those behind them
pub record Split (from : ℕ) (group : List Task) (rest now : List (ℕ × Task))
    (replies : List Reply) : Type 0 where
  pub tasks : List Task
  pub left : List (ℕ × Task)
  pub more : List Reply
  pub now_is : now ≡ of_session from tasks ++ left
  pub answered : AreReplied group tasks
  pub behind : AreAnswered rest left more

pub heads : {X : Type 0} (x y : X) (xs ys : List X) → x ∷ xs ≡ y ∷ ys → x ≡ y
heads x y xs ys e = cc

pub tails : {X : Type 0} (x y : X) (xs ys : List X) → x ∷ xs ≡ y ∷ ys → xs ≡ ys
tails x y xs ys e = cc

split : (from : ℕ) (group : List Task) (rest now : List (ℕ × Task)) (replies : List Reply)
    → AreAnswered (of_session from group ++ rest) now replies → Split from group rest now replies
split from [] rest now replies are = record {
  tasks = [];
  left = now;
  more = replies;
  now_is = refl;
  answered = record { requests = refl; replies = []; replies_are = refl };
  behind = are;
}
split from (task ∷ group) rest [] replies are =
    absurd (omega (arith, ap length are.sessions))
split from (task ∷ group) rest (item ∷ now) [] are =
    absurd (omega (arith, ap length are.replies_are))
split from (task ∷ group) rest (item ∷ now) (reply ∷ replies) are =
    let sessions : List (ℕ × Task) → List ℕ = map (λ (i : ℕ × Task). i.0) in
    let given : List (ℕ × Task) → List (Option Reply) = map (λ (i : ℕ × Task). i.1.reply) in
    let some : List Reply → List (Option Reply) = map (λ (r : Reply). Some r) in
    let old : List (ℕ × Task) = of_session from group ++ rest in
    let s = split from group rest now replies (record {
      sessions = tails item.0 from (sessions now) (sessions old) are.sessions;
      requests = tails item.1.request task.request (requests_in now) (requests_in old) are.requests;
      replies_are = tails item.1.reply (Some reply) (given now) (some replies) are.replies_are;
    }) in
    record {
      tasks = item.1 ∷ s.tasks;
      left = s.left;
      more = s.more;
      now_is = ap (λ items. item ∷ items) s.now_is
          ∙ ap (λ n. (let i : ℕ × Task = (n, item.1) in i) ∷ (of_session from s.tasks ++ s.left))
          (heads item.0 from (sessions now) (sessions old) are.sessions);
      answered = record {
        requests = ap (λ r. r ∷ requests_of s.tasks)
            (heads item.1.request task.request (requests_in now) (requests_in old) are.requests)
            ∙ ap (λ rs. task.request ∷ rs) s.answered.requests;
        replies = reply ∷ s.answered.replies;
        replies_are = ap (λ r. r ∷ replies_of s.tasks)
            (heads item.1.reply (Some reply) (given now) (some replies) are.replies_are)
            ∙ ap (λ rs. Some reply ∷ rs) s.answered.replies_are;
      };
      behind = s.behind;
    }

-- an answered batch has the answered tasks of each session
pub record Regrouped (from : ℕ) (groups : List (List Task)) (now : List (ℕ × Task)) :
    Type 0 where
  pub answered : List (List Task)
  pub now_is : now ≡ in_hand from answered
  pub each : AreAllAnswered groups answered

pub regroup : (from : ℕ) (groups : List (List Task)) (now : List (ℕ × Task))
    (replies : List Reply) → AreAnswered (in_hand from groups) now replies
    → Regrouped from groups now
regroup from [] [] replies are = record { answered = []; now_is = refl; each = tt }
regroup from [] (item ∷ now) replies are = absurd (omega (arith, ap length are.sessions))
regroup from (group ∷ groups) now replies are =
    let s = split from group (in_hand (from + 1) groups) now replies are in
    let r = regroup (from + 1) groups s.left s.more s.behind in
    record {
      answered = s.tasks ∷ r.answered;
      now_is = s.now_is ∙ ap (λ items. of_session from s.tasks ++ items) r.now_is;
      each = (s.answered, r.each);
    }

pub all-many : (groups answered : List (List Task)) → AreAllAnswered groups answered
    → length answered ≡ length groups
all-many [] [] each = refl
all-many [] (tasks ∷ answered) each = absurd each
all-many (group ∷ groups) [] each = absurd each
all-many (group ∷ groups) (tasks ∷ answered) each = ap suc (all-many groups answered each.1)

pub answered-at : (groups answered : List (List Task)) → AreAllAnswered groups answered → (k : ℕ)
    → AreReplied (tasks_of groups k) (tasks_of answered k)
answered-at [] [] each k = record { requests = refl; replies = []; replies_are = refl }
answered-at [] (tasks ∷ answered) each k = absurd each
answered-at (group ∷ groups) [] each k = absurd each
answered-at (group ∷ groups) (tasks ∷ answered) each zero = each.0
answered-at (group ∷ groups) (tasks ∷ answered) each (suc k) = answered-at groups answered each.1 k

pub answered-many : (group tasks : List Task) → AreReplied group tasks
    → length tasks ≡ length group
answered-many group tasks is = sym (length-map tasks (λ (t : Task). t.request))
    ∙ ap length is.requests ∙ length-map group (λ (t : Task). t.request)

-- the request with its reply, where it has one
abbrev pair_with : Request → Option Reply → Option Pair
pair_with request reply = option_map (λ r. record { request = request; reply = r }) reply

-- the pairs of answered tasks are about their requests
pub answered-requests : (tasks : List Task) (replies : List Reply)
    → replies_of tasks ≡ map (λ reply. Some reply) replies
    → map (λ (p : Pair). p.request) (task_pairs tasks) ≡ requests_of tasks
answered-requests [] replies e = refl
answered-requests (task ∷ tasks) [] e = absurd (omega (arith, ap length e))
answered-requests (task ∷ tasks) (reply ∷ replies) e =
    let some : List Reply → List (Option Reply) = map (λ (r : Reply). Some r) in
    ap (λ o. map (λ (p : Pair). p.request) (cons_option (pair_with task.request o) (task_pairs tasks)))
    (heads task.reply (Some reply) (replies_of tasks) (some replies) e)
    ∙ ap (λ rs. task.request ∷ rs) (answered-requests tasks replies
    (tails task.reply (Some reply) (replies_of tasks) (some replies) e))

-- the pairs of all sessions' answers, one behind the other
abbrev pub all_task_pairs : List (List Task) → List Pair
all_task_pairs answered = flat_map task_pairs answered

pub task_pairs-append : (tasks more : List Task)
    → task_pairs (tasks ++ more) ≡ task_pairs tasks ++ task_pairs more
task_pairs-append tasks more = filter_map-append pair_of tasks more

pub in_hand-pairs : (from : ℕ) (answered : List (List Task))
    → task_pairs (map (λ item. item.1) (in_hand from answered)) ≡ all_task_pairs answered
in_hand-pairs from [] = refl
in_hand-pairs from (tasks ∷ answered) =
    ap task_pairs (map-append (λ (i : ℕ × Task). i.1) (of_session from tasks)
    (in_hand (from + 1) answered))
    ∙ task_pairs-append (map (λ (i : ℕ × Task). i.1) (of_session from tasks))
    (map (λ (i : ℕ × Task). i.1) (in_hand (from + 1) answered))
    ∙ ap (λ ts. task_pairs ts ++ task_pairs (map (λ (i : ℕ × Task). i.1)
    (in_hand (from + 1) answered))) (untag from tasks)
    ∙ ap (λ ps. task_pairs tasks ++ ps) (in_hand-pairs (from + 1) answered)

-- these are the requests with their replies
pub batch-pairs : (now : List (ℕ × Task)) (requests : List Request) (replies : List Reply)
    → requests_in now ≡ requests
    → map (λ item. item.1.reply) now ≡ map (λ reply. Some reply) replies
    → task_pairs (map (λ item. item.1) now) ≡ pairs_of requests replies
batch-pairs [] [] replies same are = refl
batch-pairs [] (request ∷ requests) replies same are = absurd (omega (arith, ap length same))
batch-pairs (item ∷ now) [] replies same are = absurd (omega (arith, ap length same))
batch-pairs (item ∷ now) (request ∷ requests) [] same are = absurd (omega (arith, ap length are))
batch-pairs (item ∷ now) (request ∷ requests) (reply ∷ replies) same are =
    let given : List (ℕ × Task) → List (Option Reply) = map (λ (i : ℕ × Task). i.1.reply) in
    let some : List Reply → List (Option Reply) = map (λ (r : Reply). Some r) in
    let pair : Request → Pair = λ r. record { request = r; reply = reply } in
    ap (λ o. cons_option (pair_with item.1.request o) (task_pairs (map (λ (i : ℕ × Task). i.1) now)))
    (heads item.1.reply (Some reply) (given now) (some replies) are)
    ∙ ap (λ r. pair r ∷ task_pairs (map (λ (i : ℕ × Task). i.1) now))
    (heads item.1.request request (requests_in now) requests same)
    ∙ ap (λ ps. pair request ∷ ps) (batch-pairs now requests replies
    (tails item.1.request request (requests_in now) requests same)
    (tails item.1.reply (Some reply) (given now) (some replies) are))

-- the pairs with their session's number
abbrev pub tagged : ℕ → List Pair → List Done
tagged session pairs = map (λ pair. record { session = session; pair = pair }) pairs

-- what was done for all sessions, from this number on
abbrev pub all_done : ℕ → List (List Task) → List Done
all_done session [] = []
all_done session (tasks ∷ answered) = tagged session (task_pairs tasks)
    ++ all_done (session + 1) answered

done_pairs-tagged : (session : ℕ) (pairs : List Pair) → done_pairs (tagged session pairs) ≡ pairs
done_pairs-tagged session [] = refl
done_pairs-tagged session (pair ∷ pairs) = ap (λ ps. pair ∷ ps) (done_pairs-tagged session pairs)

pub done_pairs-append : (xs ys : List Done)
    → done_pairs (xs ++ ys) ≡ done_pairs xs ++ done_pairs ys
done_pairs-append xs ys = map-append (λ (d : Done). d.pair) xs ys

pub done_pairs-all : (from : ℕ) (answered : List (List Task))
    → done_pairs (all_done from answered) ≡ all_task_pairs answered
done_pairs-all from [] = refl
done_pairs-all from (tasks ∷ answered) =
    done_pairs-append (tagged from (task_pairs tasks)) (all_done (from + 1) answered)
    ∙ ap (λ ps. ps ++ done_pairs (all_done (from + 1) answered))
    (done_pairs-tagged from (task_pairs tasks))
    ∙ ap (λ ps. task_pairs tasks ++ ps) (done_pairs-all (from + 1) answered)

pub done_for-append : (s : ℕ) (xs ys : List Done)
    → done_for s (xs ++ ys) ≡ done_for s xs ++ done_for s ys
done_for-append s xs ys =
    ap done_pairs (filter-append (λ (d : Done). nat_eq d.session s) xs ys)
    ∙ done_pairs-append (filter (λ (d : Done). nat_eq d.session s) xs)
    (filter (λ (d : Done). nat_eq d.session s) ys)

same-tag : (s : ℕ) (pairs : List Pair) → done_for s (tagged s pairs) ≡ pairs
same-tag s [] = refl
same-tag s (pair ∷ pairs) =
    let eq : nat_eq s s ≡ true = grind (arith, nat_tests) in
    let d : Done = record { session = s; pair = pair } in
    let rest : List Done = filter (λ (e : Done). nat_eq e.session s) (tagged s pairs) in
    ap (λ b. done_pairs (cond b (d ∷ rest) rest)) eq ∙ ap (λ ps. pair ∷ ps) (same-tag s pairs)

other-tag : (s t : ℕ) (pairs : List Pair) → t ≢ s → done_for s (tagged t pairs) ≡ []
other-tag s t [] ne = refl
other-tag s t (pair ∷ pairs) ne =
    let no : nat_eq t s ≡ false = grind (arith, nat_tests) in
    let d : Done = record { session = t; pair = pair } in
    let rest : List Done = filter (λ (e : Done). nat_eq e.session s) (tagged t pairs) in
    ap (λ b. done_pairs (cond b (d ∷ rest) rest)) no ∙ other-tag s t pairs ne

past-tag : (s from : ℕ) (answered : List (List Task)) → s < from
    → done_for s (all_done from answered) ≡ []
past-tag s from [] lt = refl
past-tag s from (tasks ∷ answered) lt =
    done_for-append s (tagged from (task_pairs tasks)) (all_done (from + 1) answered)
    ∙ ap (λ ps. ps ++ done_for s (all_done (from + 1) answered))
    (other-tag s from (task_pairs tasks) (omega arith))
    ∙ past-tag s (from + 1) answered (omega arith)

-- what was done for a session is its part
pub done_for-all : (from k : ℕ) (answered : List (List Task)) (s : ℕ) → s ≡ from + k
    → done_for s (all_done from answered) ≡ task_pairs (tasks_of answered k)
done_for-all from k [] s e = refl
done_for-all from zero (tasks ∷ answered) s e =
    let is : from ≡ s = omega arith in
    done_for-append s (tagged from (task_pairs tasks)) (all_done (from + 1) answered)
    ∙ ap (λ ps. ps ++ done_for s (all_done (from + 1) answered))
    (ap (λ t. done_for s (tagged t (task_pairs tasks))) is ∙ same-tag s (task_pairs tasks))
    ∙ ap (λ ps. task_pairs tasks ++ ps) (past-tag s (from + 1) answered (omega arith))
    ∙ append-nil (task_pairs tasks)
done_for-all from (suc k) (tasks ∷ answered) s e =
    done_for-append s (tagged from (task_pairs tasks)) (all_done (from + 1) answered)
    ∙ ap (λ ps. ps ++ done_for s (all_done (from + 1) answered))
    (other-tag s from (task_pairs tasks) (omega arith))
    ∙ done_for-all (from + 1) k answered s (omega arith)

tagged-below : (s n : ℕ) (pairs : List Pair) → s < n
    → AllByRecursion (λ (d : Done). d.session < n) (tagged s pairs)
tagged-below s n [] lt = tt
tagged-below s n (pair ∷ pairs) lt = (lt, tagged-below s n pairs lt)

pub done-below : (from n : ℕ) (answered : List (List Task)) → from + length answered ≤ n
    → AllByRecursion (λ (d : Done). d.session < n) (all_done from answered)
done-below from n [] le = tt
done-below from n (tasks ∷ answered) le =
    All-append (λ (d : Done). d.session < n) (tagged from (task_pairs tasks))
    (all_done (from + 1) answered) (tagged-below from n (task_pairs tasks) (omega arith))
    (done-below (from + 1) n answered (omega arith))

pub stamps-append : (ps qs : List Pair) → stamps (ps ++ qs) ≡ stamps ps ++ stamps qs
stamps-append ps qs = filter_map-append (λ (p : Pair). stamp_of p.reply) ps qs

pub Pairwise-front : {X : Type 0} (R : X → X → Type 0) (xs ys : List X) → Pairwise R (xs ++ ys)
    → Pairwise R xs
Pairwise-front R [] ys a = tt
Pairwise-front R (x ∷ xs) ys a = (All-front (R x) xs ys a.0, Pairwise-front R xs ys a.1)

pub Pairwise-rest : {X : Type 0} (R : X → X → Type 0) (xs ys : List X) → Pairwise R (xs ++ ys)
    → Pairwise R ys
Pairwise-rest R [] ys a = a
Pairwise-rest R (x ∷ xs) ys a = Pairwise-rest R xs ys a.1

-- what all stamps of a batch have, each session's have
pub stamps-at : (P : ℕ → Type 0) (answered : List (List Task)) (k : ℕ)
    → AllByRecursion P (stamps (all_task_pairs answered))
    → AllByRecursion P (stamps (task_pairs (tasks_of answered k)))
stamps-at P [] k all = tt
stamps-at P (tasks ∷ answered) zero all =
    All-front P (stamps (task_pairs tasks)) (stamps (all_task_pairs answered))
    (subst (AllByRecursion P) (stamps-append (task_pairs tasks) (all_task_pairs answered)) all)
stamps-at P (tasks ∷ answered) (suc k) all =
    stamps-at P answered k (All-rest P (stamps (task_pairs tasks)) (stamps (all_task_pairs answered))
    (subst (AllByRecursion P) (stamps-append (task_pairs tasks) (all_task_pairs answered)) all))

-- where all stamps of a batch rise, each session's do
pub rising-at : (answered : List (List Task)) (k : ℕ)
    → Pairwise ◌<◌ (stamps (all_task_pairs answered))
    → Pairwise ◌<◌ (stamps (task_pairs (tasks_of answered k)))
rising-at [] k rising = tt
rising-at (tasks ∷ answered) zero rising =
    Pairwise-front ◌<◌ (stamps (task_pairs tasks)) (stamps (all_task_pairs answered))
    (subst (Pairwise ◌<◌) (stamps-append (task_pairs tasks) (all_task_pairs answered)) rising)
rising-at (tasks ∷ answered) (suc k) rising =
    rising-at answered k (Pairwise-rest ◌<◌ (stamps (task_pairs tasks))
    (stamps (all_task_pairs answered))
    (subst (Pairwise ◌<◌) (stamps-append (task_pairs tasks) (all_task_pairs answered)) rising))
