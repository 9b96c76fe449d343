-- Each class is split.
use Rattle.std.proofs.Common.{◌∙◌, ap, List, map, ℕ}
use Rattle.std.proofs.lemmas.List.{take_all}
use Rattle.kv_free.specs.FreeList.{Tail}
use Rattle.kv_slab.specs.declared.room.Room.{Room}
use Rattle.kv_slab.specs.Memory.{rooms_of}
use Rattle.kv_slab.proofs.ListLemmas.{rooms_again}
use Rattle.kv_slab.proofs.lists.split_rooms.Goals as goal

pub returns-clause-ok : goal.returns-clause-ok
returns-clause-ok c =
    let all = take_all c.loop-room.room-index c.args.rooms.now c.loop-room-test.false in
    ap (λ (ts : List Tail). rooms_of ts c.loop-room.ends.items)
    (c.loop-room.invariant.stacks ∙ ap (λ (rs : List Room). map (λ room. room.stack) rs) all)
    ∙ ap (λ (es : List ℕ). rooms_of (map (λ room. room.stack) c.args.rooms.now) es)
    (c.loop-room.invariant.ends ∙ ap (λ (rs : List Room). map (λ room. room.end) rs) all)
    ∙ rooms_again c.args.rooms.now
