-- the worker's own numbers stand for those that the step over its store asks and tells
use Rattle.std.proofs.Common.{◌≡◌, ◌+◌, ◌-◌, ◌≤◌, ◌<◌, ℕ, List, length, refl, sym, ap, ◌∙◌, subst, arith}
use Rattle.std.specs.List.{AllByRecursion}
use Rattle.kv_base.specs.Reserved.{Reserved}
use Rattle.kv_base.specs.declared.reply.Reply.{Reply}
use Rattle.kv_base.specs.declared.request.Request.{Request}
use Rattle.kv_model.specs.Head.{IsWorker}
use Rattle.kv_ring.specs.declared.task.Task.{Task}
use Rattle.kv_worker.specs.Batches.{AreAnswered, IsOpenTask, requests_in}
use Rattle.kv_worker.specs.Refusals.{replies_by}
use Rattle.kv_worker.specs.Steps.{Steps}
use Rattle.kv_worker.specs.Worker.{WorkerView}
use Rattle.kv_worker.proofs.FloorLemmas.{below-up, up-below}
use Rattle.kv_worker.proofs.WorkerLemmas.{classed-open, steps-of}
use Rattle.kv_worker.proofs.worker.Worker.step.Goals as goal
use Rattle.kv_worker.proofs.worker.Worker.step.Goals.{in-Ok, in-Err}

pub run-requires : goal.run-requires
run-requires g c =
    let slabs = c.self.inside.slabs in
    let slice = c.as_slice-tasks.ensures in
    let closed = c.if-closed.false in
    let open_ = sym c.closed.ensures.value ∙ closed in
    let highest : c.self.inside.highest ≡ c.args.self.now.highest =
    ap (λ v. v.highest) c.self.view_is in
    let stamps = c.requires.stamps (sym (ap (λ v. v.store.closed) c.self.view_is) ∙ open_) in
    let lower : c.self.inside.highest < c.args.base = omega (arith, highest, stamps.0) in
    let many : length c.as_slice-tasks.result.now ≡ length c.args.batch.now.items =
    ap length slice in
    record {
      opened = record {
        ready = record { open_ = open_; places = c.closed.ensures.places closed };
        worker_is = c.self.invariant.worker_is;
        limits = c.closed.ensures.limits;
        kept = classed-open g.D.Disk g.I.Index slabs (c.closed.ensures.stands closed);
        settled = record {
          only = c.closed.ensures.settled closed;
          keeps = c.closed.ensures.keeps closed;
          of_worker = c.closed.ensures.of_worker;
        };
        below = record {
          stamps = λ key entry is.
              let le = c.self.invariant.stamps open_ key entry is in omega (arith, le, lower);
          floor = λ tells. below-up c.self.inside.highest c.args.base
              (g.D.Disk.seen slabs.disk.disk) lower (c.self.invariant.floor open_ tells);
        };
      };
      own = subst (AllByRecursion (IsOpenTask slabs.worker slabs.workers)) (sym slice)
          (subst (λ v. AllByRecursion (IsOpenTask v.store.worker v.store.workers)
          c.args.batch.now.items) (sym c.self.view_is) c.requires.tasks);
      few = omega (arith, many, c.requires.size.1);
      first = omega (arith, lower);
      last = omega (arith, many, stamps.1);
    }

pub invariant_of-self : goal.invariant_of-self
invariant_of-self g c =
    let new = c.run.new.slabs in
    let kept = c.run.ensures.steps.kept in
    let many : ℕ = length c.as_slice-tasks.result.now in
    let some : 1 ≤ many = omega (arith, ap length c.as_slice-tasks.ensures, c.requires.size.0) in
    let last : ℕ = c.args.base + (many - 1) in
    record {
      worker_is = subst (λ w. IsWorker w new.workers) (sym kept.0)
          (subst (λ n. IsWorker c.self.inside.slabs.worker n) (sym kept.1)
          c.self.invariant.worker_is);
      stamps = λ open_ key entry is.
          let lt = (c.run.ensures.below open_).stamps key entry is in omega (arith, lt, some);
      floor = λ open_ tells. up-below last (c.args.base + many) (g.D.Disk.seen new.disk.disk)
          (omega (arith, some)) ((c.run.ensures.below open_).floor tells);
    }

pub returns-clause-stepped : goal.returns-clause-stepped
returns-clause-stepped g c = λ _.
    let old : List (ℕ × Task) = c.args.batch.now.items in
    let slice = c.as_slice-tasks.ensures in
    let asked : requests_in c.as_slice-tasks.result.now ≡ requests_in old = ap requests_in slice in
    let many : ℕ = length c.as_slice-tasks.result.now in
    let some : 1 ≤ many = omega (arith, ap length slice, c.requires.size.0) in
    let last : ℕ = c.args.base + (many - 1) in
    let answered : AreAnswered old c.match-run.batch.items
    (replies_by c.run.result (requests_in old)) = elim c.match-run.branch [
      | in-Ok w ↦ subst (λ (b : Reserved (ℕ × Task)). AreAnswered old b.items
          (replies_by c.run.result (requests_in old))) (sym w.batch-is)
          (subst (λ r. AreAnswered old w.set_replies.new.batch.items
          (replies_by r (requests_in old))) (sym w.in-Ok.is) w.set_replies.ensures.answered)
      | in-Err w ↦ subst (λ (b : Reserved (ℕ × Task)). AreAnswered old b.items
          (replies_by c.run.result (requests_in old))) (sym w.batch-is)
          (subst (λ r. AreAnswered old w.refuse_all-in-Err.new.batch.items
          (replies_by r (requests_in old))) (sym w.in-Err.is) w.refuse_all-in-Err.ensures.answered)
    ] in (
      replies_by c.run.result (requests_in old),
      answered,
      subst (λ v. Steps g.D.Disk g.I.Index v (record { store = c.run.new.slabs; highest = last })
          (requests_in old) c.args.base (replies_by c.run.result (requests_in old)))
          c.self.view_is
          (subst (λ (asks : List Request). Steps g.D.Disk g.I.Index (record {
            store = c.self.inside.slabs;
            highest = c.self.inside.highest;
          }) (record { store = c.run.new.slabs; highest = last }) asks c.args.base
          (replies_by c.run.result asks)) asked
          (steps-of g.D.Disk g.I.Index c.self.inside.slabs c.run.new.slabs (c.args.base - 1)
          c.self.inside.highest (c.args.base + many - 1) last
          (requests_in c.as_slice-tasks.result.now) c.args.base
          (replies_by c.run.result (requests_in c.as_slice-tasks.result.now))
          (omega (arith, some)) c.run.ensures.steps)),
    )
