-- The writes of a worker's tasks: their keys are its own, and their sizes good.
use Rattle.std.proofs.Common.{◌≡◌, ℕ, ◌+◌, ◌≤◌, ◌<◌, Bool, true, false, cond, List, [], ◌∷◌, ◌++◌, Option}
use Rattle.std.proofs.Common.{None, Some, IfSome, is_some, IsSome, option_to_list, refl, sym, ap, subst}
use Rattle.std.proofs.Common.{length, true≢false, arith}
use Rattle.std.specs.List.{AllByRecursion}
use Rattle.kv_base.specs.Partition.{owner_of}
use Rattle.kv_base.specs.declared.request.Request.{Request}
use Rattle.kv_base.specs.declared.request.Request.TheVariants.{Put, Get, Delete, Flush, After}
use Rattle.kv_model.specs.Batch.{IsTask, Start, accepted, accepted_writes, behind, full_class}
use Rattle.kv_model.specs.Batch.{changes_something, last_writes, net}
use Rattle.kv_model.specs.History.{Write}
use Rattle.kv_model.specs.Layout.{all_classes, class_of}
use Rattle.kv_model.specs.Pairs.{key_of, written}
use Rattle.kv_model.proofs.NetLemmas.{All-filter, All-last_writes}
use Rattle.kv_model.proofs.PairwiseLemmas.{All-append, All-map}
use Rattle.kv_ring.specs.declared.task.Task.{Task}
use Rattle.kv_worker.specs.Answering.{HasGoodSizes}
use Rattle.kv_worker.specs.Batches.{IsOpenTask, requests_in}
use Rattle.kv_worker.specs.Steps.{net_of}
use Rattle.kv_worker.proofs.FitLemmas.{good-class}
use Rattle.kv_worker.proofs.ListLemmas.{none-some}

-- a write of a key of this worker of so many, whose item has a class
pub record IsOwnWrite (worker workers : ℕ) (write : Write) : Type 0 where
  pub owned : owner_of write.key workers ≡ worker
  pub fits : (value : List ℕ) → write.value ≡ Some value → (class : ℕ)
      × (class_of all_classes (length write.key) (length value) ≡ Some class)

-- what holds of the request of each task
pub of-requests : (P : Request → Type 0) (tasks : List (ℕ × Task))
    → AllByRecursion (λ item. P item.1.request) tasks → AllByRecursion P (requests_in tasks)
of-requests P [] all = tt
of-requests P (item ∷ tasks) all = (all.0, of-requests P tasks all.1)

-- the requests have good sizes
pub good-tasks : (worker workers : ℕ) (tasks : List (ℕ × Task))
    → AllByRecursion (IsOpenTask worker workers) tasks
    → AllByRecursion HasGoodSizes (requests_in tasks)
good-tasks worker workers tasks open_ = of-requests HasGoodSizes tasks
    (All-map (IsOpenTask worker workers) (λ item. HasGoodSizes item.1.request) tasks
    (λ item is. is.task.good) open_)

-- they are about keys
pub keyed-tasks : (worker workers : ℕ) (tasks : List (ℕ × Task))
    → AllByRecursion (IsOpenTask worker workers) tasks
    → AllByRecursion (λ request. IsSome (key_of request)) (requests_in tasks)
keyed-tasks worker workers tasks open_ = of-requests (λ r. IsSome (key_of r)) tasks
    (All-map (IsOpenTask worker workers) (λ item. IsSome (key_of item.1.request)) tasks
    (λ item is. is.task.keyed) open_)

some-of : (o : Option ℕ) → is_some o ≡ true → (class : ℕ) × (o ≡ Some class)
some-of None e = absurd (true≢false (sym e))
some-of (Some class) e = (class, refl)

one-of : (a b : Write) → Some a ≡ Some b → a ≡ b
one-of a b e = cc

bytes-of : (a b : List ℕ) → Some a ≡ Some b → a ≡ b
bytes-of a b e = cc

-- a task's write is the worker's own
own-write : (worker workers : ℕ) (request : Request) → IsTask all_classes request
    → IfSome (key_of request) (λ key. owner_of key workers ≡ worker) → (stamp : ℕ) (write : Write)
    → written request stamp ≡ Some write → IsOwnWrite worker workers write
own-write worker workers (Put key value) task owned stamp write is =
    subst (IsOwnWrite worker workers) (one-of (record {
      stamp = stamp;
      key = key;
      value = Some value;
    }) write is) (record {
      owned = owned;
      fits = λ bytes same. subst (λ v. (class : ℕ) × (class_of all_classes (length key) (length v)
          ≡ Some class)) (bytes-of value bytes same)
          (some-of (class_of all_classes (length key) (length value))
          (good-class key value task.good));
    })
own-write worker workers (Get key) task owned stamp write is = absurd (none-some write is)
own-write worker workers (Delete key) task owned stamp write is =
    subst (IsOwnWrite worker workers) (one-of (record {
      stamp = stamp;
      key = key;
      value = None;
    }) write is) (record {
      owned = owned;
      fits = λ bytes same. absurd (none-some bytes same);
    })
own-write worker workers Flush task owned stamp write is = absurd (none-some write is)
own-write worker workers (After told) task owned stamp write is = absurd (none-some write is)

-- what holds of each write of a request holds of what is accepted of it
accepted-one : (P : Write → Type 0) (request : Request) (start : Start) (writes : List Write)
    (stamp : ℕ) → ((s : ℕ) (w : Write) → written request s ≡ Some w → P w)
    → AllByRecursion P (option_to_list (accepted start writes stamp request))
accepted-one P (Put key value) start writes stamp each =
    by (is_some (full_class start writes key value))
  where
    by : (full : Bool) → AllByRecursion P (option_to_list (cond full None
        (written (Put key value) stamp)))
    by true = tt
    by false = (each stamp (record { stamp = stamp; key = key; value = Some value }) refl, tt)
accepted-one P (Get key) start writes stamp each = tt
accepted-one P (Delete key) start writes stamp each =
    (each stamp (record { stamp = stamp; key = key; value = None }) refl, tt)
accepted-one P Flush start writes stamp each = tt
accepted-one P (After told) start writes stamp each = tt

accepted-all : (P : Write → Type 0) (requests : List Request) (start : Start) (writes : List Write)
    (stamp : ℕ)
    → AllByRecursion (λ r. (s : ℕ) (w : Write) → written r s ≡ Some w → P w) requests
    → AllByRecursion P writes → AllByRecursion P (accepted_writes start writes stamp requests)
accepted-all P [] start writes stamp each all = all
accepted-all P (request ∷ requests) start writes stamp each all =
    accepted-all P requests start (behind start writes stamp request) (stamp + 1) each.1
    (All-append P writes (option_to_list (accepted start writes stamp request)) all
    (accepted-one P request start writes stamp each.0))

-- the net changes of a worker's tasks are its own
pub own-net : (worker workers : ℕ) (tasks : List (ℕ × Task)) (start : Start) (base : ℕ)
    → AllByRecursion (IsOpenTask worker workers) tasks
    → AllByRecursion (IsOwnWrite worker workers) (net_of start base (requests_in tasks))
own-net worker workers tasks start base open_ =
    let requests : List Request = requests_in tasks in
    let all : List Write = accepted_writes start [] base requests in
    All-filter (IsOwnWrite worker workers) (changes_something start) (last_writes all)
    (All-last_writes (IsOwnWrite worker workers) all
    (accepted-all (IsOwnWrite worker workers) requests start [] base
    (of-requests (λ r. (s : ℕ) (w : Write) → written r s ≡ Some w → IsOwnWrite worker workers w)
    tasks (All-map (IsOpenTask worker workers) (λ item. (s : ℕ) (w : Write)
    → written item.1.request s ≡ Some w → IsOwnWrite worker workers w) tasks
    (λ item is. own-write worker workers item.1.request is.task is.owned) open_)) tt))
