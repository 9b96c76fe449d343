-- The slots below the end that aren't free are those of the items.
use Rattle.std.specs.List.{slice_get}
use Rattle.std.proofs.Common.{◌≡◌, ◌∙◌, ◌-◌, List, ℕ, length, sym, ap, subst, arith}
use Rattle.kv_free.specs.FreeList.{Tail}
use Rattle.kv_slab.specs.Memory.{rooms_of, items_in}
use Rattle.kv_slab.proofs.ListLemmas.{rooms_count}
use Rattle.kv_slab.proofs.StepLemmas.{get_some}
use Rattle.kv_slab.proofs.slabs.Slabs.room.Goals as goal

pub returns : goal.returns
returns g c =
    let s = c.self.inside in
    let sizes = c.self.invariant.sizes in
    let kept = rooms_of s.stacks.items s.ends.items in
    let size : length kept ≡ 12 = rooms_count s.stacks.items s.ends.items (sizes.0 ∙ sym sizes.1)
    ∙ sizes.0 in
    let room = get_some kept c.args.class (omega (arith, size, c.requires.1)) in
    let here = c.room_of.ensures room.0
    (ap (λ (ts : List Tail). slice_get (rooms_of ts c.as_slice-2.result.now) c.args.class)
    c.as_slice.ensures
    ∙ ap (λ (es : List ℕ). slice_get (rooms_of s.stacks.items es) c.args.class) c.as_slice-2.ensures
    ∙ room.1) in
    let filled = c.self.invariant.filled c.args.class room.0 room.1 in
    subst (λ v. c.room_of.result ≡ v.limits.slots - items_in (g.I.Index.entries v.index)
    c.args.class) c.self.view_is
    (let is : c.room_of.result ≡ s.limits.slots - items_in (g.I.Index.entries s.index) c.args.class
    = omega (arith, here, filled) in is)
