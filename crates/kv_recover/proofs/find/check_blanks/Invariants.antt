-- The pages so far are zero.
use Rattle.std.proofs.Common.{◌≡◌, ℕ, ◌<◌, ◌≤◌, IsTrue}
use Rattle.kv_base.specs.Image.{zero_page}
use Rattle.kv_disk.specs.Steps.{OnlyReads}
use Rattle.kv_recover.proofs.find.check_blanks.Given as goal

abbrev pub invariant-loop-page : goal.invariant-loop-page
invariant-loop-page g l = record {
  reads : OnlyReads g.D.Disk l.initial.disk l.disk;
  calm : g.D.Disk.faults l.disk ≡ g.D.Disk.faults l.initial.disk;
  zeros : IsTrue g.D.Disk.tells → (page : ℕ) → l.first ≤ page → page < l.page
      → g.D.Disk.seen l.initial.disk l.class page ≡ zero_page;
}
