-- Each task of an answer has a reply that goes into a frame.
use Rattle.std.proofs.Common.{◌≡◌, ℕ, zero, suc, ◌+◌, ◌^◌, ◌<◌, ◌≤◌, List, [], ◌∷◌, map, length, Option}
use Rattle.std.proofs.Common.{Some, None, IfSome, sym, ap, subst, arith}
use Rattle.std.specs.List.{AllByRecursion, cons_option}
use Rattle.std.specs.Option.{option_map}
use Rattle.std.proofs.lemmas.List.{length-map}
use Rattle.kv_base.specs.Reserved.{Reserved}
use Rattle.kv_base.specs.declared.reply.Reply.{Reply}
use Rattle.kv_base.specs.declared.request.Request.{Request}
use Rattle.kv_model.proofs.PairwiseLemmas.{All-front, All-rest}
use Rattle.kv_model.specs.BatchLaws.{pairs_of}
use Rattle.kv_model.specs.Frames.{HasReplyFrame}
use Rattle.kv_model.specs.Pairs.{stamps, stamp_of}
use Rattle.kv_parties.specs.Messages.{IsReplied, IsWhole, task_pairs}
use Rattle.kv_ring.specs.Tasks.{replies_of}
use Rattle.kv_ring.specs.declared.task.Task.{Task}
use Rattle.kv_groups.specs.Batched.{of_session, in_hand}
use Rattle.kv_groups.specs.Delivering.{tasks_of}
use Rattle.kv_worker.specs.Batches.{AreAnswered, requests_in}
use Rattle.kv_worker_party.specs.Turns.{answer_to}
use Rattle.kv_worker_party.proofs.BatchedLemmas.{heads, tails}

-- the reply, if there is one, goes into a frame
abbrev pub IsFramed : Task → Type 0
IsFramed task = IfSome task.reply HasReplyFrame

-- so it is with each task of an answered batch
pub items-framed : (items : List (ℕ × Task)) (replies : List Reply)
    → map (λ item. item.1.reply) items ≡ map (λ reply. Some reply) replies
    → AllByRecursion HasReplyFrame replies → AllByRecursion (λ item. IsFramed item.1) items
items-framed [] replies are all = tt
items-framed (item ∷ items) [] are all = absurd (omega (arith, ap length are))
items-framed (item ∷ items) (reply ∷ replies) are all =
    let given : List (Option Reply) = map (λ (i : ℕ × Task). i.1.reply) items in
    let some : List (Option Reply) = map (λ (r : Reply). Some r) replies in (
      subst (λ o. IfSome o HasReplyFrame) (sym (heads item.1.reply (Some reply) given some are)) all.0,
      items-framed items replies (tails item.1.reply (Some reply) given some are) all.1,
    )

-- what each item's task has, each session's tasks have
untagged : (P : Task → Type 0) (session : ℕ) (tasks : List Task)
    → AllByRecursion (λ item. P item.1) (of_session session tasks) → AllByRecursion P tasks
untagged P session [] all = tt
untagged P session (task ∷ tasks) all = (all.0, untagged P session tasks all.1)

pub tasks-each : (P : Task → Type 0) (from : ℕ) (groups : List (List Task))
    → AllByRecursion (λ item. P item.1) (in_hand from groups) → (k : ℕ)
    → AllByRecursion P (tasks_of groups k)
tasks-each P from [] all k = tt
tasks-each P from (group ∷ groups) all zero =
    untagged P from group (All-front (λ (i : ℕ × Task). P i.1) (of_session from group)
    (in_hand (from + 1) groups) all)
tasks-each P from (group ∷ groups) all (suc k) =
    tasks-each P (from + 1) groups (All-rest (λ (i : ℕ × Task). P i.1) (of_session from group)
    (in_hand (from + 1) groups) all) k

-- tasks with replies that go into frames, whose stamps are below the limit
pub tasks-replied : (tasks : List Task) (replies : List Reply)
    → replies_of tasks ≡ map (λ reply. Some reply) replies → AllByRecursion IsFramed tasks
    → AllByRecursion (λ stamp. stamp < 2 ^ 62) (stamps (task_pairs tasks))
    → AllByRecursion IsReplied tasks
tasks-replied [] replies are framed low = tt
tasks-replied (task ∷ tasks) [] are framed low = absurd (omega (arith, ap length are))
tasks-replied (task ∷ tasks) (reply ∷ replies) are framed low =
    let is : task.reply ≡ Some reply = heads task.reply (Some reply) (replies_of tasks)
    (map (λ (r : Reply). Some r) replies) are in
    let rest = tails task.reply (Some reply) (replies_of tasks) (map (λ (r : Reply). Some r) replies)
    are in
    let here = by task.request task.reply reply is (stamps-front low) in (
      record {
        reply = reply;
        is = is;
        framed = subst (λ o. IfSome o HasReplyFrame) is framed.0;
        stamp = here.0;
      },
      tasks-replied tasks replies rest framed.1 here.1,
    )
  where
    stamps-front : AllByRecursion (λ stamp. stamp < 2 ^ 62) (stamps (task_pairs (task ∷ tasks)))
        → AllByRecursion (λ stamp. stamp < 2 ^ 62) (stamps (task_pairs (task ∷ tasks)))
    stamps-front all = all

    one : (o : Option ℕ) (more : List ℕ)
        → AllByRecursion (λ stamp. stamp < 2 ^ 62) (cons_option o more)
        → IfSome o (λ stamp. stamp < 2 ^ 62) × AllByRecursion (λ stamp. stamp < 2 ^ 62) more
    one None more all = (tt, all)
    one (Some stamp) more all = (all.0, all.1)

    by : (request : Request) (o : Option Reply) (r : Reply) → o ≡ Some r
        → AllByRecursion (λ stamp. stamp < 2 ^ 62) (stamps (cons_option
        (option_map (λ given. record { request = request; reply = given }) o)
        (task_pairs tasks)))
        → IfSome (stamp_of r) (λ stamp. stamp < 2 ^ 62)
        × AllByRecursion (λ stamp. stamp < 2 ^ 62) (stamps (task_pairs tasks))
    by request None r e all = let f : None ≡ Some r = e in absurd (cc)
    by request (Some given) r e all =
        let same : given ≡ r = cc in
        let both = one (stamp_of given) (stamps (task_pairs tasks)) all in
        (subst (λ g. IfSome (stamp_of g) (λ stamp. stamp < 2 ^ 62)) same both.0, both.1)

-- an answer with such tasks
pub answer-whole : (F : Type 0) (group : Option (ℕ × Reserved Task)) (tasks : List Task)
    → AllByRecursion IsReplied tasks → AllByRecursion (IsWhole {F = F}) (answer_to {F = F} group tasks)
answer-whole F None tasks all = tt
answer-whole F (Some group) tasks all = (all, tt)

-- no more pairs than requests
pub pairs-few : (requests : List Request) (replies : List Reply)
    → length (pairs_of requests replies) ≤ length requests
pairs-few [] replies = omega arith
pairs-few (request ∷ requests) [] = omega arith
pairs-few (request ∷ requests) (reply ∷ replies) = omega (arith, pairs-few requests replies)

-- and as many where there is a reply for each
pub pairs-many : (requests : List Request) (replies : List Reply)
    → length requests ≤ length replies → length requests ≤ length (pairs_of requests replies)
pairs-many [] replies many = omega arith
pairs-many (request ∷ requests) [] many = absurd (omega (arith, many))
pairs-many (request ∷ requests) (reply ∷ replies) many =
    omega (arith, pairs-many requests replies (omega (arith, many)))

-- there is a reply for each request of an answered batch
pub reply-many : (items now : List (ℕ × Task)) (replies : List Reply)
    → AreAnswered items now replies → length (requests_in items) ≤ length replies
reply-many items now replies are = omega (
  arith,
  ap length are.requests,
  ap length are.replies_are,
  length-map now (λ (i : ℕ × Task). i.1.request),
  length-map now (λ (i : ℕ × Task). i.1.reply),
  length-map replies (λ (r : Reply). Some r),
)
