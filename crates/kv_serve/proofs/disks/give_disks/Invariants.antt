-- The disks from some worker on are given back.
use Rattle.std.proofs.Common.{◌≡◌, ℕ, List, ◌++◌, IsTrue, length}
use Rattle.kv_serve.specs.Taken.{AreHome}
use Rattle.kv_serve.proofs.DiskLemmas.{GivesFrom}
use Rattle.kv_serve.proofs.disks.give_disks.Given as goal

abbrev pub invariant-loop-disk : goal.invariant-loop-disk
invariant-loop-disk g l = record {
  rest : (given : List g.row.S-Pages.Denot) × (l.initial.disks.items ≡ l.disks.items ++ given);
  gives : IsTrue g.S.Site.tells → (folder : List ℕ)
      → AreHome (g.S.Site.holds l.initial.site) folder (length l.initial.disks.items)
      → GivesFrom (g.S.Site.holds l.initial.site) (g.S.Site.holds l.site) folder
      l.initial.disks.items (length l.disks.items);
  calm : g.S.Site.faults l.site ≡ g.S.Site.faults l.initial.site;
}

abbrev pub decreases-loop-disk : goal.decreases-loop-disk
decreases-loop-disk g l = length l.disks.items
