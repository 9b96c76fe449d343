-- What the type keeps.
use Rattle.std.specs.FinMap as finite
use Rattle.std.proofs.Common.{◌≡◌, false, IsTrue, subst}
use Rattle.kv_base.specs.Crash.{Only}
use Rattle.kv_slab.specs.Rooms.{Rooms, AreRooms}
use Rattle.kv_slab.specs.View.{KeepsMap, Stands, store_map}
use Rattle.kv_slab.proofs.KeptLemmas.{keeps_map}
use Rattle.kv_slab.proofs.slabs.Slabs.closed.Goals as goal

pub returns-clause-settled : goal.returns-clause-settled
returns-clause-settled g c = subst (λ v. c.self.inside.closed ≡ false
    → Only (g.D.Disk.seen v.disk.disk) (g.D.Disk.leaves v.disk.disk (g.D.Disk.calls v.disk.disk)))
    c.self.view_is
    (λ open_. (c.self.invariant.opened open_).settled)

pub returns-clause-stands : goal.returns-clause-stands
returns-clause-stands g c = subst (λ v. c.self.inside.closed ≡ false → IsTrue g.D.Disk.tells
    → (rooms : Rooms) × AreRooms v.rooms rooms
    × Stands (g.D.Disk.seen v.disk.disk) (finite.get (g.I.Index.entries v.index)) rooms v.worker
    v.workers) c.self.view_is
    (λ open_. (c.self.invariant.opened open_).stands)

pub returns-clause-keeps : goal.returns-clause-keeps
returns-clause-keeps g c = subst (λ v. c.self.inside.closed ≡ false → IsTrue g.D.Disk.tells
    → KeepsMap (g.D.Disk.seen v.disk.disk) (store_map g.D.Disk g.I.Index v) v.worker v.workers)
    c.self.view_is
    (λ open_ told.
    let s = (c.self.invariant.opened open_).stands told in
    keeps_map (g.D.Disk.seen c.self.inside.disk.disk) (finite.get
    (g.I.Index.entries c.self.inside.index)) s.0 c.self.inside.worker c.self.inside.workers s.2)
