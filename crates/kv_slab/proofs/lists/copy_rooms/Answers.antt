-- Each class is copied.
use Rattle.std.proofs.Common.{◌∙◌, ◌<◌, ap, sym, arith, refl, List, ◌++◌, ◌∷◌, [], get_or, length}
use Rattle.std.proofs.Common.{Some}
use Rattle.std.proofs.lemmas.List.{take_all}
use Rattle.std.proofs.lemmas.Option.{slice_get-get_or, slice_get_read}
use Rattle.kv_slab.specs.declared.room.Room.{Room}
use Rattle.kv_slab.specs.Memory.{rooms_of}
use Rattle.kv_slab.proofs.ListLemmas.{rooms_more, rooms_count}
use Rattle.kv_slab.proofs.lists.copy_rooms.Goals as goal

pub loop-class-preserved : goal.loop-class-preserved
loop-class-preserved c =
    let end = get_or c.args.ends.now c.loop-class.class 0 in
    let below : c.loop-class.class < length c.args.ends.now = omega
    (arith, c.loop-class-test.true, c.requires) in
    record {
      copied = c.in_ok-append.ensures.ok
          ∙ ap (λ (rs : List Room). rs ++ record { stack = c.copy.result; end = end } ∷ [])
          c.loop-class.invariant.copied
          ∙ sym (rooms_more c.args.stacks.now c.args.ends.now c.loop-class.class c.copy.result end
          (slice_get_read c.args.stacks.now (length c.args.stacks.now) c.loop-class.class
          c.index-stacks-class.result refl c.loop-class-test.true c.index-stacks-class.is
          ∙ ap Some (sym c.copy.ensures))
          (slice_get-get_or c.args.ends.now c.loop-class.class 0 below));
    }

pub returns-clause-ok : goal.returns-clause-ok
returns-clause-ok c =
    c.loop-class.invariant.copied
    ∙ take_all c.loop-class.class (rooms_of c.args.stacks.now c.args.ends.now)
    (omega (
      arith,
      c.loop-class-test.false,
      rooms_count c.args.stacks.now c.args.ends.now
          c.requires,
    ))
