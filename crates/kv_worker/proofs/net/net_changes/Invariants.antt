-- the changes so far
use Rattle.std.proofs.Common.{◌≡◌, ◌≤◌, length, take}
use Rattle.kv_worker.specs.Batches.{requests_in}
use Rattle.kv_worker.specs.Net.{writes_of}
use Rattle.kv_worker.specs.Worker.{start_of}
use Rattle.kv_worker.proofs.ChangeLemmas.{kept_of, all_accepted}
use Rattle.kv_worker.proofs.net.net_changes.Given as goal

abbrev pub invariant-loop-item : goal.invariant-loop-item
invariant-loop-item g l = record {
  task : l.task ≡ l.item-index;
  within : l.item-index ≤ length l.tasks;
  done : writes_of l.changes.items ≡ kept_of (start_of g.D.Disk g.I.Index l.slabs)
      (all_accepted (start_of g.D.Disk g.I.Index l.slabs) (requests_in l.tasks) l.base)
      (all_accepted (start_of g.D.Disk g.I.Index l.slabs)
      (take l.item-index (requests_in l.tasks)) l.base);
}
