-- The tasks that a worker takes may be those of a batch.
use Rattle.std.proofs.Common.{◌≡◌, ℕ, List, [], ◌∷◌, length, Option, None, Some, true}
use Rattle.std.proofs.Common.{not, ◌&&◌, is_some, IsSome, IfSome, refl, sym, arith, true≢false}
use Rattle.std.specs.Prelude.{nat_eq, nat_le}
use Rattle.std.specs.List.{AllByRecursion}
use Rattle.std.proofs.lemmas.Bool.{and_parts}
use Rattle.std.proofs.lemmas.Bool.Decides.{nat_tests}
use Rattle.kv_base.specs.Partition.{owner_of}
use Rattle.kv_model.specs.Agreement.{refusal_of}
use Rattle.kv_model.specs.Layout.{all_classes}
use Rattle.kv_model.specs.Pairs.{key_of}
use Rattle.kv_ring.specs.declared.task.Task.{Task}
use Rattle.kv_groups.specs.Batched.{of_session}
use Rattle.kv_groups.specs.Taking.{owns_key, takes_task, takes_each, takes_all}
use Rattle.kv_worker.specs.Batches.{IsOpenTask}

eq-from : (m n : ℕ) → nat_eq m n ≡ true → m ≡ n
eq-from m n e = grind (arith, nat_tests)

no-reply : {X : Type 0} (o : Option X) → not (is_some o) ≡ true → o ≡ None
no-reply None e = refl
no-reply (Some x) e = absurd (true≢false (sym e))

owned-key : (workers worker : ℕ) (key : Option (List ℕ)) → owns_key workers worker key ≡ true
    → IsSome key × IfSome key (λ k. owner_of k workers ≡ worker)
owned-key workers worker None e = absurd (true≢false (sym e))
owned-key workers worker (Some key) e = (refl, eq-from (owner_of key workers) worker e)

-- a task that is taken may be one of a batch
pub takes-open : (worker workers session : ℕ) (task : Task) → takes_task worker workers task ≡ true
    → IsOpenTask worker workers (session, task)
takes-open worker workers session task e =
    let both = and_parts (not (is_some task.reply)
    && not (is_some (refusal_of all_classes task.request))) (owns_key workers worker (key_of task.request))
    e in
    let first = and_parts (not (is_some task.reply))
    (not (is_some (refusal_of all_classes task.request))) both.0 in
    let own = owned-key workers worker (key_of task.request) both.1 in
    record {
      task = record {
        keyed = own.0;
        good = no-reply (refusal_of all_classes task.request) first.1;
      };
      owned = own.1;
      waits = no-reply task.reply first.0;
    }

each-open : (worker workers session : ℕ) (tasks : List Task)
    → takes_each worker workers tasks ≡ true
    → AllByRecursion (IsOpenTask worker workers) (of_session session tasks)
each-open worker workers session [] e = tt
each-open worker workers session (task ∷ tasks) e =
    let both = and_parts (takes_task worker workers task) (takes_each worker workers tasks) e in
    (takes-open worker workers session task both.0, each-open worker workers session tasks both.1)

-- so it is with each of a group that is taken
pub all-open : (worker workers session : ℕ) (tasks : List Task)
    → takes_all worker workers tasks ≡ true
    → AllByRecursion (IsOpenTask worker workers) (of_session session tasks)
all-open worker workers session tasks e =
    each-open worker workers session tasks
    (and_parts (nat_le (length tasks) 64) (takes_each worker workers tasks) e).1
