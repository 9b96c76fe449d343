-- The parts are those of an open store.
use Rattle.std.proofs.Common.{◌≡◌, sym, ap, subst}
use Rattle.std.specs.FinMap as finite
use Rattle.kv_slab.specs.Memory.{rooms_of, AreCounted}
use Rattle.kv_slab.specs.View.{IsOpen}
use Rattle.kv_recover.proofs.JoinLemmas.{opened-counted, opened-open}
use Rattle.kv_recover.proofs.opening.slabs_of.Goals as goal

pub of_parts-requires-clause-counted : goal.of_parts-requires-clause-counted
of_parts-requires-clause-counted g c =
    subst (λ ends. AreCounted (g.I.Index.entries c.args.items.index)
    (rooms_of c.args.parts.stacks.items ends)) (sym c.in-Ok.ensures)
    (opened-counted (g.I.Index.entries c.args.items.index) c.args.parts.floor c.args.parts.ends
    c.args.parts.stacks.items c.requires.parts.size c.requires.parts.rooms)

pub of_parts-requires-clause-opened : goal.of_parts-requires-clause-opened
of_parts-requires-clause-opened g c =
    let same : c.in-Ok-new.disk.disk ≡ c.args.disk = ap (λ x. x.disk) c.in-Ok-new.ensures.ok in
    subst (λ disk. IsOpen g.D.Disk.tells (g.D.Disk.seen disk)
    (g.D.Disk.leaves disk (g.D.Disk.calls disk))
    (finite.get (g.I.Index.entries c.args.items.index))
    (rooms_of c.args.parts.stacks.items c.in-Ok.ends.items) c.args.share.worker
    c.args.share.workers) (sym same)
    (subst (λ ends. IsOpen g.D.Disk.tells (g.D.Disk.seen c.args.disk)
    (g.D.Disk.leaves c.args.disk (g.D.Disk.calls c.args.disk))
    (finite.get (g.I.Index.entries c.args.items.index))
    (rooms_of c.args.parts.stacks.items ends) c.args.share.worker c.args.share.workers)
    (sym c.in-Ok.ensures)
    (opened-open (g.I.Index.entries c.args.items.index) c.args.parts.floor c.args.parts.ends
    c.args.parts.stacks.items c.requires.parts.size c.requires.parts.rooms g.D.Disk.tells
    (g.D.Disk.seen c.args.disk) (g.D.Disk.leaves c.args.disk (g.D.Disk.calls c.args.disk))
    c.args.share.worker c.args.share.workers c.requires.parts.settled c.requires.parts.opened))
