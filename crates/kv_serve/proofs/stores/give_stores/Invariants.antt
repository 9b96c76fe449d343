-- The disks from some worker on are given back.
use Rattle.std.proofs.Common.{◌≡◌, ℕ, List, ◌++◌, IsTrue, length, map}
use Rattle.kv_serve.specs.Taken.{AreHome}
use Rattle.kv_serve.proofs.DiskLemmas.{GivesFrom}
use Rattle.kv_serve.proofs.stores.give_stores.Given as goal

abbrev pub invariant-loop-opened : goal.invariant-loop-opened
invariant-loop-opened g l = record {
  rest : (given : _) × (l.initial.stores.items ≡ l.stores.items ++ given);
  gives : IsTrue g.S.Site.tells → (folder : List ℕ)
      → AreHome (g.S.Site.holds l.initial.site) folder (length l.initial.stores.items)
      → GivesFrom (g.S.Site.holds l.initial.site) (g.S.Site.holds l.site) folder
      (map (λ opened. opened.slabs.disk.disk) l.initial.stores.items) (length l.stores.items);
  calm : g.S.Site.faults l.site ≡ g.S.Site.faults l.initial.site;
}

abbrev pub decreases-loop-opened : goal.decreases-loop-opened
decreases-loop-opened g l = length l.stores.items
