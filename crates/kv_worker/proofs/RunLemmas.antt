-- A step over a batch of tasks, by what was found out and how the store answered.
use Rattle.std.proofs.Common.{◌≡◌, ℕ, ◌+◌, ◌-◌, ◌*◌, ◌≤◌, ◌<◌, ◌^◌, Bool, true, false, List, [], ◌∷◌}
use Rattle.std.proofs.Common.{Result, Ok, Err, OnOk, OnErr, IfOk, length, refl, sym, ap, ◌∙◌, subst}
use Rattle.std.proofs.Common.{arith, Vec, eqb, eqb-true, eq-eqb, true≢false}
use Rattle.std.specs.List.{AllByRecursion}
use Rattle.std.specs.Result.{IsErrAnd}
use Rattle.std.specs.declared.alloc.Global.{Global}
use Rattle.kv_base.specs.Calls.{next_count}
use Rattle.kv_base.specs.Fault.{Counted}
use Rattle.kv_base.specs.declared.reply.Reply.{Reply}
use Rattle.kv_base.specs.declared.request.Request.{Request}
use Rattle.kv_disk.specs.declared.disk.Disk as disks
use Rattle.kv_index.specs.declared.index.Index as indexes
use Rattle.kv_model.specs.Batch.{Start, answers, failed_replies}
use Rattle.kv_model.specs.BatchLaws.{OldOrNewOfAccepted, RiseBetween, StoreFollowsHistory}
use Rattle.kv_model.specs.Frames.{HasReplyFrame}
use Rattle.kv_model.specs.History.{Write}
use Rattle.kv_model.specs.Items.{HasChanges}
use Rattle.kv_ring.specs.declared.task.Task.{Task}
use Rattle.kv_slab.specs.Plans.{HasPlan}
use Rattle.kv_slab.specs.View.{View}
use Rattle.kv_slab.specs.declared.change.Change.{Change}
use Rattle.kv_slab.specs.declared.fault.StepFault.{StepFault}
use Rattle.kv_worker.specs.Batches.{requests_in}
use Rattle.kv_worker.specs.Net.{writes_of}
use Rattle.kv_worker.specs.Open.{ArePrepared, IsBatch, IsRun, IsSettled}
use Rattle.kv_worker.specs.Refusals.{reply_of_fault}
use Rattle.kv_worker.specs.Steps.{HasRefusal, Steps}
use Rattle.kv_worker.specs.Worker.{start_of}
use Rattle.kv_worker.proofs.AfterLemmas.{IsCarried, below-still, carried-below, carried-changes}
use Rattle.kv_worker.proofs.AfterLemmas.{counted-closed, counted-open, framed-failed, length-failed}
use Rattle.kv_worker.proofs.AfterLemmas.{replies-refused}
use Rattle.kv_worker.proofs.FailLemmas.{same-fail}
use Rattle.kv_worker.proofs.MayPlanLemmas.{differ-prepared, few-prepared, length-prepared}
use Rattle.kv_worker.proofs.MayPlanLemmas.{rise-prepared}
use Rattle.kv_worker.proofs.MomentLemmas.{IsApplied, IsToldDisk}
use Rattle.kv_worker.proofs.StepLemmas.{refused-steps, idle-steps, done-steps, failed-steps}
use Rattle.kv_worker.proofs.StillLemmas.{IsStill}
use Rattle.kv_worker.proofs.TaskLemmas.{length-requests}
use Rattle.kv_worker.proofs.TaskWriteLemmas.{keyed-tasks}

-- no change
pub no-items : (changes : List Change) (length_is : ℕ) → length_is ≡ length changes
    → eqb length_is 0 ≡ true → changes ≡ []
no-items [] many is none = refl
no-items (c ∷ cs) many is none = absurd (let zero_is = eqb-true many 0 none in omega (
  arith,
  is,
  zero_is,
))

-- some change
pub some-items : (changes : List Change) (many : ℕ) → many ≡ length changes
    → eqb many 0 ≡ false → length changes ≡ 0 → ⊥
some-items changes many is some none =
    true≢false (sym (eq-eqb many 0 (is ∙ none)) ∙ some)

-- so many calls of a batch's reads and its plan
abbrev pub most_reads : ℕ → ℕ → ℕ
most_reads tasks changes = 16 * tasks + 3 * changes

module _ {D I : Type 0} (d : disks.Ghosts D) (i : indexes.Ghosts I) (told : IsToldDisk d)
    (law : OldOrNewOfAccepted) (law_follows : StoreFollowsHistory) (old : View D I)
    (tasks : List (ℕ × Task)) (base : ℕ) (batch : IsBatch d i old tasks base) where
  -- the batch is refused
  pub refused-run : (new : View D I) (most : ℕ) (fault : StepFault)
      (result : Result (Vec Reply Global) StepFault) → IsStill d i most old new
      → most ≤ 36 * length tasks + 2 → IsErrAnd result (λ error. error ≡ fault)
      → HasRefusal (reply_of_fault fault) (d.faults old.disk.disk) (d.faults new.disk.disk)
      → IsRun d i old new tasks base result
  refused-run new most fault result still few from cause =
      let requests : List Request = requests_in tasks in
      let many = length-requests tasks in
      record {
        steps = subst (Steps d i (record { store = old; highest = base - 1 })
            (record { store = new; highest = base + length tasks - 1 }) requests base)
            (replies-refused result fault requests from)
            (refused-steps d i told law law_follows old new most base (base + length tasks - 1)
            requests fault batch.opened batch.first still (omega (arith, many, few))
            (omega (arith, many, batch.first)) cause);
        many = never result fault from;
        below = λ _. below-still d i old new most base (base + length tasks) batch.opened still
            (omega arith);
      }
    where
      never : (r : Result (Vec Reply Global) StepFault) (f : StepFault)
          → IsErrAnd r (λ error. error ≡ f)
          → IfOk r (λ replies. length replies.items ≡ length tasks)
      never (Ok replies) f is = absurd is
      never (Err error) f is = tt

  -- there is a reply for each task
  many-replies : (replies : List Reply) (changes : List Change)
      → ArePrepared d.tells (start_of d i old) (requests_in tasks) base replies changes
      → length replies ≡ length tasks
  many-replies replies changes prepared = length-prepared d.tells (start_of d i old)
      (requests_in tasks) base replies changes prepared ∙ length-requests tasks

  -- nothing had to be written
  pub idle-run : (new : View D I) (most : ℕ) (replies : Vec Reply Global) (changes : List Change)
      → IsStill d i most old new → most ≤ 36 * length tasks + 2
      → d.faults new.disk.disk ≡ d.faults old.disk.disk
      → ArePrepared d.tells (start_of d i old) (requests_in tasks) base replies.items changes
      → changes ≡ [] → IsRun d i old new tasks base (Ok replies)
  idle-run new most replies changes still few calm prepared none =
      let many = length-requests tasks in
      record {
        steps = idle-steps d i told law law_follows old new most base (base + length tasks - 1)
            (requests_in tasks) replies.items changes batch.opened batch.first still
            (omega (arith, many, few)) (omega (arith, many, batch.first)) calm prepared none;
        many = many-replies replies.items changes prepared;
        below = λ _. below-still d i old new most base (base + length tasks) batch.opened still
            (omega arith);
      }

  -- what was planned for changes, of which there are some, and carried out or not
  pub record IsWritten (planned new : View D I) (replies : List Reply) (changes : List Change) :
      Type 0 where
    pub prepared : ArePrepared d.tells (start_of d i old) (requests_in tasks) base replies changes
    pub some : length changes ≡ 0 → ⊥
    pub still : IsStill d i (most_reads (length tasks) (length changes)) old planned
    pub calm : d.faults planned.disk.disk ≡ d.faults old.disk.disk
    pub applied : IsApplied d i planned new changes

  -- there are no more changes than tasks
  few-changes : (planned new : View D I) (replies : List Reply) (changes : List Change)
      → IsWritten planned new replies changes → length changes ≤ length tasks
  few-changes planned new replies changes written =
      let few = few-prepared d.tells (start_of d i old) (requests_in tasks) base replies changes
      written.prepared in
      omega (arith, few, length-requests tasks)

  -- a write failed
  pub failed-run : {T E : Type 0} (planned new : View D I) (replies : List Reply)
      (failed : Vec Reply Global) (changes : List Change) (result : Result T E)
      → IsWritten planned new replies changes → new.closed ≡ true
      → OnOk result (new.closed ≡ false)
      → Counted (d.faults planned.disk.disk) (d.faults new.disk.disk) result
      → failed.items ≡ failed_replies base (requests_in tasks) replies
      → IsRun d i old new tasks base (Ok failed)
  failed-run planned new replies failed changes result written closed ok counted is =
      let start : Start = start_of d i old in
      let requests : List Request = requests_in tasks in
      let many = length-requests tasks in
      let few = few-changes planned new replies changes written in
      record {
        steps = failed-steps d i told law law_follows old planned new
            (most_reads (length tasks) (length changes)) base (base + length tasks - 1) requests
            replies failed.items changes batch.opened batch.first written.still
            (omega (arith, many, few)) (omega (arith, many, batch.first)) written.prepared
            written.some written.applied closed
            (counted-closed result new.closed (d.faults planned.disk.disk)
            (d.faults new.disk.disk) ok closed counted ∙ ap next_count written.calm)
            (subst (AllByRecursion HasReplyFrame) (sym is)
            (framed-failed requests replies base (omega (arith, many, batch.last))
            written.prepared.framed))
            (is ∙ same-fail d.tells requests replies (answers start [] base requests) base
            (keyed-tasks old.worker old.workers tasks batch.own) written.prepared.answers_are);
        many = ap length is ∙ length-failed requests replies base
            (length-prepared d.tells start requests base replies changes written.prepared) ∙ many;
        below = λ open_. absurd (true≢false (sym closed ∙ open_));
      }

  -- all is written
  pub done-run : {T E : Type 0} (planned new : View D I) (replies : Vec Reply Global)
      (changes : List Change) (result : Result T E)
      → IsWritten planned new replies.items changes → new.closed ≡ false
      → OnErr result (new.closed ≡ true)
      → Counted (d.faults planned.disk.disk) (d.faults new.disk.disk) result
      → IsSettled d i new → IsCarried d i planned new changes
      → IsRun d i old new tasks base (Ok replies)
  done-run planned new replies changes result written open_ err counted settled carried =
      let start : Start = start_of d i old in
      let requests : List Request = requests_in tasks in
      let many = length-requests tasks in
      let few = few-changes planned new replies.items changes written in
      let some = written.some in
      let most : ℕ = most_reads (length tasks) (length changes) in
      record {
        steps = done-steps d i told law law_follows old planned new most base
            (base + length tasks - 1) requests replies.items changes batch.opened batch.first
            written.still (omega (arith, many, few)) (omega (arith, many, batch.first))
            written.prepared written.some written.applied settled open_
            (counted-open result new.closed (d.faults planned.disk.disk) (d.faults new.disk.disk)
            err open_ counted ∙ written.calm)
            (subst (HasChanges d.tells start (start_of d i new)) written.prepared.changes_are
            (carried-changes d i old planned new most changes written.still
            (differ-prepared d.tells start requests base replies.items changes written.prepared)
            carried));
        many = many-replies replies.items changes written.prepared;
        below = λ _. carried-below d i old planned new most base (base + length tasks) changes
            batch.opened written.still
            (subst (λ n. RiseBetween base (base + n) (writes_of changes)) many
            (rise-prepared d.tells start requests base replies.items changes written.prepared))
            (omega (arith, few, some)) carried;
      }
