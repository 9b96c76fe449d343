-- The disks from some worker on are given back.
use Rattle.std.proofs.Common.{◌≡◌, ℕ, List, ◌++◌, IsTrue, length, map}
use Rattle.kv_serve.specs.Taken.{AreHome}
use Rattle.kv_serve.proofs.DiskLemmas.{GivesFrom}
use Rattle.kv_serve.proofs.stores.give_workers.Given as goal

abbrev pub invariant-loop-worker : goal.invariant-loop-worker
invariant-loop-worker g l = record {
  rest : (given : _) × (l.initial.workers.items ≡ l.workers.items ++ given);
  gives : IsTrue g.S.Site.tells → (folder : List ℕ)
      → AreHome (g.S.Site.holds l.initial.site) folder (length l.initial.workers.items)
      → GivesFrom (g.S.Site.holds l.initial.site) (g.S.Site.holds l.site) folder
      (map (λ worker. worker.store.disk.disk) l.initial.workers.items) (length l.workers.items);
  calm : g.S.Site.faults l.site ≡ g.S.Site.faults l.initial.site;
}

abbrev pub decreases-loop-worker : goal.decreases-loop-worker
decreases-loop-worker g l = length l.workers.items
