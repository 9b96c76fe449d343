-- Each message of a session is one that its worker takes.
use Rattle.std.proofs.Common.{◌≡◌, ◌⊎◌, inl, inr, ℕ, ◌<◌, ◌≤◌, ◌^◌, List, [], ◌∷◌, length, Option}
use Rattle.std.proofs.Common.{Bool, true, false, cond, refl, sym, ap, ◌∙◌, arith}
use Rattle.std.specs.Prelude.{not, is_some, ◌&&◌, nat_le, nat_lt}
use Rattle.std.proofs.lemmas.Bool.{true≢false, false≢true}
use Rattle.std.proofs.lemmas.Bool.Decides.{nat_tests}
use Rattle.kv_base.specs.declared.reply.Reply.{Reply}
use Rattle.kv_base.specs.declared.request.Request.{Request}
use Rattle.kv_model.specs.Agreement.{refusal_of}
use Rattle.kv_model.specs.Layout.{all_classes}
use Rattle.kv_model.specs.Pairs.{key_of}
use Rattle.kv_parties.specs.Setting.{owns}
use Rattle.kv_ring.specs.declared.task.Task.{Task}
use Rattle.kv_session.specs.Tasks.{AreTaken, GoesOn, IsRefused}
use Rattle.kv_parties.specs.Messages.{takes_task, takes_each, takes_all}
use Rattle.kv_session_party.specs.Routes.{goes_to, part_for}

pub and-both : (a b : Bool) → a ≡ true → b ≡ true → (a && b) ≡ true
and-both true b holds e = e
and-both false b holds e = absurd (false≢true holds)

and-three : (a b c : Bool) → a ≡ false → b ≡ false → c ≡ true → (not a && not b && c) ≡ true
and-three false false c fails none e = e
and-three false true c fails none e = absurd (true≢false none)
and-three true b c fails none e = absurd (true≢false fails)

not-and : (a b : Bool) → (not a && b) ≡ true → (a ≡ false) × (b ≡ true)
not-and true b e = absurd (false≢true e)
not-and false b e = (refl, e)

-- a task that goes to the worker is one that it takes
takes-one : (n worker : ℕ) (request : Request) (task : Task)
    → GoesOn request task ⊎ IsRefused request task → goes_to n worker task ≡ true
    → takes_task all_classes worker n task ≡ true
takes-one n worker request task (inl on) holds = and-three (is_some task.reply)
    (is_some (refusal_of all_classes task.request)) (owns n worker (key_of task.request))
    (ap (λ (o : Option Reply). is_some o) on.waits)
    (ap (λ (r : Request). is_some (refusal_of all_classes r)) on.request_is
    ∙ ap (λ (o : Option Reply). is_some o) on.good.good)
    ((not-and (is_some task.reply) (owns n worker (key_of task.request)) holds).1)
takes-one n worker request task (inr refused) holds = absurd (true≢false
    (sym (ap (λ (o : Option Reply). is_some o) refused.answered)
    ∙ (not-and (is_some task.reply) (owns n worker (key_of task.request)) holds).0))

takes-part : (n worker : ℕ) (asked : List Request) (tasks : List Task) → AreTaken asked tasks
    → takes_each all_classes worker n (part_for n worker tasks) ≡ true
takes-part n worker [] [] taken = refl
takes-part n worker [] (t ∷ tasks) taken = absurd taken
takes-part n worker (q ∷ asked) [] taken = absurd taken
takes-part n worker (q ∷ asked) (t ∷ tasks) taken =
    let more = takes-part n worker asked tasks taken.1 in
    (elim (goes_to n worker t) as (λ b. goes_to n worker t ≡ b → takes_each all_classes worker n
    (cond b (t ∷ part_for n worker tasks) (part_for n worker tasks)) ≡ true) [
      | true ↦ λ holds. and-both (takes_task all_classes worker n t)
          (takes_each all_classes worker n (part_for n worker tasks))
          (takes-one n worker q t taken.0 holds) more
      | false ↦ λ fails. more
    ]) refl

part-few : (n worker : ℕ) (tasks : List Task) → length (part_for n worker tasks) ≤ length tasks
part-few n worker [] = omega arith
part-few n worker (t ∷ tasks) =
    let more = part-few n worker tasks in
    elim (goes_to n worker t) as (λ b.
    length (cond b (t ∷ part_for n worker tasks) (part_for n worker tasks))
    ≤ length (t ∷ tasks)) [
      | true ↦ omega (arith, more)
      | false ↦ omega (arith, more)
    ]

pub le-true : (m n : ℕ) → m ≤ n → nat_le m n ≡ true
le-true m n le = grind (arith, nat_tests)

pub lt-true : (m n : ℕ) → m < n → nat_lt m n ≡ true
lt-true m n lt = grind (arith, nat_tests)

-- the tasks of a worker's part are ones that it takes
pub takes-tasks : (n worker : ℕ) (asked : List Request) (tasks : List Task) → AreTaken asked tasks
    → length tasks ≤ 64 → takes_all all_classes worker n (part_for n worker tasks) ≡ true
takes-tasks n worker asked tasks taken few =
    let le = part-few n worker tasks in
    and-both (nat_le (length (part_for n worker tasks)) 64)
    (takes_each all_classes worker n (part_for n worker tasks))
    (le-true (length (part_for n worker tasks)) 64 (omega (arith, le, few)))
    (takes-part n worker asked tasks taken)

pub takes-group : (n worker seen : ℕ) (asked : List Request) (tasks items : List Task)
    → AreTaken asked tasks → length tasks ≤ 64 → seen < 2 ^ 62
    → items ≡ part_for n worker tasks
    → (nat_lt seen (2 ^ 62) && takes_all all_classes worker n items) ≡ true
takes-group n worker seen asked tasks items taken few low is =
    and-both (nat_lt seen (2 ^ 62)) (takes_all all_classes worker n items)
    (lt-true seen (2 ^ 62) low)
    (ap (takes_all all_classes worker n) is ∙ takes-tasks n worker asked tasks taken few)
