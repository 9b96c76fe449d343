-- a step is refused, idle, failed or done
use Rattle.std.proofs.Common.{◌≡◌, ◌+◌, ◌*◌, ◌≤◌, ℕ, List, length, refl, sym, ◌∙◌, subst, arith}
use Rattle.kv_slab.specs.Plans.{HasPlan, MayPlan}
use Rattle.kv_slab.specs.declared.change.Change.{Change}
use Rattle.kv_worker.specs.Batches.{requests_in}
use Rattle.kv_worker.specs.Worker.{start_of}
use Rattle.kv_worker.proofs.AfterLemmas.{carried-open, refusal-of}
use Rattle.kv_worker.proofs.MayPlanLemmas.{few-prepared, length-prepared, may-plan, still-planned}
use Rattle.kv_worker.proofs.RunLemmas.{refused-run, idle-run, failed-run, done-run, no-items}
use Rattle.kv_worker.proofs.RunLemmas.{some-items}
use Rattle.kv_worker.proofs.StillLemmas.{still-read}
use Rattle.kv_worker.proofs.TaskLemmas.{length-requests}
use Rattle.kv_worker.proofs.TaskWriteLemmas.{good-tasks}
use Rattle.kv_worker.proofs.step.run.Goals as goal

pub prepare-requires-clause-good : goal.prepare-requires-clause-good
prepare-requires-clause-good g c = good-tasks c.args.slabs.now.worker c.args.slabs.now.workers
    c.args.tasks.now c.requires.own

pub returns-in_err-replies : goal.returns-in_err-replies
returns-in_err-replies g c =
    let most : ℕ = 16 * length c.args.tasks.now in
    refused-run g.D.Disk g.I.Index g.met.D.Disk.told c.old_or_new_reads_as_all.ensures
    c.store_follows_history.ensures c.args.slabs.now c.args.tasks.now c.args.base c.requires
    c.prepare.new.slabs most c.in_err-replies.field-0.0 c.from_residual.result
    (still-read g.D.Disk g.I.Index most c.args.slabs.now c.prepare.new.slabs
    c.in_err-replies.ensures.read) (omega arith) c.from_residual.ensures.1
    (refusal-of c.in_err-replies.field-0.0 _ _ _ refl c.in_err-replies.ensures.cause)

pub returns-then-is_empty : goal.returns-then-is_empty
returns-then-is_empty g c =
    let most : ℕ = 16 * length c.args.tasks.now in
    let found = c.in_ok-replies.field-0 in
    idle-run g.D.Disk g.I.Index g.met.D.Disk.told c.old_or_new_reads_as_all.ensures
    c.store_follows_history.ensures c.args.slabs.now c.args.tasks.now c.args.base c.requires
    c.prepare.new.slabs most found.replies found.changes.items
    (still-read g.D.Disk g.I.Index most c.args.slabs.now c.prepare.new.slabs
    c.in_ok-replies.ensures.read) (omega arith) c.in_ok-replies.ensures.cause
    c.in_ok-replies.ensures.ok
    (no-items found.changes.items found.changes.len found.changes.ok.0
    (sym c.is_empty.ensures ∙ c.if-is_empty.true))

pub plan-requires-clause-can : goal.plan-requires-clause-can
plan-requires-clause-can g c =
    subst (λ (changes : List Change). MayPlan g.D.Disk g.I.Index c.prepare.new.slabs changes)
    (sym c.as_slice.ensures.value)
    (may-plan g.D.Disk g.I.Index c.args.slabs.now c.prepare.new.slabs
    (16 * length c.args.tasks.now) c.args.base c.args.tasks.now
    c.in_ok-replies.field-0.replies.items c.in_ok-replies.field-0.changes.items
    c.requires.opened c.requires.own c.in_ok-replies.ensures.read c.in_ok-replies.ensures.ok)

pub returns-in_err-plan : goal.returns-in_err-plan
returns-in_err-plan g c =
    let tasks = c.args.tasks.now in
    let found = c.in_ok-replies.field-0 in
    let few = few-prepared g.D.Disk.tells (start_of g.D.Disk g.I.Index c.args.slabs.now)
    (requests_in tasks) c.args.base found.replies.items found.changes.items
    c.in_ok-replies.ensures.ok in
    refused-run g.D.Disk g.I.Index g.met.D.Disk.told c.old_or_new_reads_as_all.ensures
    c.store_follows_history.ensures c.args.slabs.now tasks c.args.base c.requires c.plan.new.self
    (16 * length tasks + 3 * length found.changes.items) c.in_err-plan.field-0.0
    c.from_residual-in_err-plan.result
    (still-planned g.D.Disk g.I.Index c.args.slabs.now c.prepare.new.slabs c.plan.new.self
    (length tasks) found.changes.items c.as_slice.result.now c.as_slice.ensures.value
    c.in_ok-replies.ensures.read c.in_err-plan.ensures.reads c.in_err-plan.ensures.entries
    c.in_err-plan.ensures.rest) (omega (arith, length-requests tasks, few))
    c.from_residual-in_err-plan.ensures.1
    (refusal-of c.in_err-plan.field-0.0 _ _ _ c.in_ok-replies.ensures.cause
    c.in_err-plan.ensures.cause)

pub fail_all-requires-clause-same : goal.fail_all-requires-clause-same
fail_all-requires-clause-same g c =
    let found = c.in_ok-replies.field-0 in
    let long = length-prepared g.D.Disk.tells (start_of g.D.Disk g.I.Index c.args.slabs.now)
    (requests_in c.args.tasks.now) c.args.base found.replies.items found.changes.items
    c.in_ok-replies.ensures.ok in
    omega (arith, found.replies.ok.0, long, length-requests c.args.tasks.now)

pub returns-then-closed : goal.returns-then-closed
returns-then-closed g c =
    let found = c.in_ok-replies.field-0 in
    let plan : HasPlan g.D.Disk g.I.Index c.plan.new.self found.changes.items =
    subst (λ (changes : List Change). HasPlan g.D.Disk g.I.Index c.plan.new.self changes)
    c.as_slice.ensures.value c.in_ok-plan.ensures.planned in
    failed-run g.D.Disk g.I.Index g.met.D.Disk.told c.old_or_new_reads_as_all.ensures
    c.store_follows_history.ensures c.args.slabs.now c.args.tasks.now c.args.base c.requires
    c.plan.new.self c.apply.new.self found.replies.items c.fail_all.result found.changes.items
    c.apply.result
    (record {
      prepared = c.in_ok-replies.ensures.ok;
      some = some-items found.changes.items found.changes.len found.changes.ok.0
          (sym c.is_empty.ensures ∙ c.if-is_empty.false);
      still = still-planned g.D.Disk g.I.Index c.args.slabs.now c.prepare.new.slabs
          c.plan.new.self (length c.args.tasks.now) found.changes.items c.as_slice.result.now
          c.as_slice.ensures.value c.in_ok-replies.ensures.read c.in_ok-plan.ensures.reads
          c.in_ok-plan.ensures.entries c.in_ok-plan.ensures.rest;
      calm = c.in_ok-plan.ensures.cause ∙ c.in_ok-replies.ensures.cause;
      applied = record {
        any_moment = c.apply.ensures.any_moment found.changes.items plan;
        of_worker = c.apply.ensures.of_worker;
        kept = c.apply.ensures.kept;
        count = c.apply.ensures.count found.changes.items plan;
      };
    }) (sym c.closed.ensures.value ∙ c.if-closed.true) c.apply.ensures.opened
    c.apply.ensures.counted c.fail_all.ensures

pub returns : goal.returns
returns g c =
    let found = c.in_ok-replies.field-0 in
    let plan : HasPlan g.D.Disk g.I.Index c.plan.new.self found.changes.items =
    subst (λ (changes : List Change). HasPlan g.D.Disk g.I.Index c.plan.new.self changes)
    c.as_slice.ensures.value c.in_ok-plan.ensures.planned in
    let open_ = sym c.closed.ensures.value ∙ c.if-closed.false in
    done-run g.D.Disk g.I.Index g.met.D.Disk.told c.old_or_new_reads_as_all.ensures
    c.store_follows_history.ensures c.args.slabs.now c.args.tasks.now c.args.base c.requires
    c.plan.new.self c.apply.new.self found.replies found.changes.items c.apply.result
    (record {
      prepared = c.in_ok-replies.ensures.ok;
      some = some-items found.changes.items found.changes.len found.changes.ok.0
          (sym c.is_empty.ensures ∙ c.if-is_empty.false);
      still = still-planned g.D.Disk g.I.Index c.args.slabs.now c.prepare.new.slabs
          c.plan.new.self (length c.args.tasks.now) found.changes.items c.as_slice.result.now
          c.as_slice.ensures.value c.in_ok-replies.ensures.read c.in_ok-plan.ensures.reads
          c.in_ok-plan.ensures.entries c.in_ok-plan.ensures.rest;
      calm = c.in_ok-plan.ensures.cause ∙ c.in_ok-replies.ensures.cause;
      applied = record {
        any_moment = c.apply.ensures.any_moment found.changes.items plan;
        of_worker = c.apply.ensures.of_worker;
        kept = c.apply.ensures.kept;
        count = c.apply.ensures.count found.changes.items plan;
      };
    }) open_ c.apply.ensures.closed c.apply.ensures.counted
    (record {
      only = c.closed.ensures.settled c.if-closed.false;
      keeps = c.closed.ensures.keeps c.if-closed.false;
      of_worker = c.closed.ensures.of_worker;
    })
    (carried-open g.D.Disk g.I.Index c.plan.new.self c.apply.new.self found.changes.items
    c.apply.result c.apply.ensures.closed open_ plan c.apply.ensures.map c.apply.ensures.entries
    c.apply.ensures.floor c.apply.ensures.kept.2)
