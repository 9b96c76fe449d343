-- The class's list and end are those of its room.
use Rattle.std.proofs.Common.{◌≡◌, ◌<◌, get_or, length, refl, ap, arith}
use Rattle.std.proofs.lemmas.Option.{slice_get-get_or, slice_get_read}
use Rattle.kv_free.specs.FreeList.{Tail}
use Rattle.kv_slab.proofs.ListLemmas.{rooms_get}
use Rattle.kv_slab.proofs.lists.room_of.Goals as goal

pub returns : goal.returns
returns c = λ room at.
    let parts = rooms_get c.args.stacks.now c.args.ends.now c.args.class room at in
    let low : c.args.class < length c.args.stacks.now = omega
    (arith, c.requires.class, c.requires.sizes.0) in
    let high : c.args.class < length c.args.ends.now = omega
    (arith, c.requires.class, c.requires.sizes.1) in
    let stack = slice_get_read c.args.stacks.now (length c.args.stacks.now) c.args.class
    c.index-stacks-class_index.result refl low c.index-stacks-class_index.is in
    let end = slice_get-get_or c.args.ends.now c.args.class 0 high in
    let one : c.index-stacks-class_index.result ≡ room.stack = (let a = parts.0 in cc) in
    let two : get_or c.args.ends.now c.args.class 0 ≡ room.end = (let a = parts.1 in cc) in
    let three = ap (λ (t : Tail). t.count) one in
    omega (
      arith,
      c.saturating_sub.ensures,
      c.saturating_sub-items.ensures,
      c.count.ensures,
      two,
      three,
    )
