use Rattle.std.proofs.Common.{sym, subst, arith}
use Rattle.kv_model.specs.Fold.{item_size}
use Rattle.kv_fold.specs.Firsts.{FirstItems}
use Rattle.kv_fold.specs.Places.{HasPlace}
use Rattle.kv_fold.proofs.PlaceLemmas.{first_insert}
use Rattle.kv_fold.proofs.first.First.insert.Goals as goal

pub invariant_of-self-2 : goal.invariant_of-self-2
invariant_of-self-2 c =
    let place =
    subst (λ (l : FirstItems). HasPlace l.most c.args.place
    (item_size (c.args.key, c.args.value)) c.args.key l.first.items)
    (sym c.self.view_is) c.requires.place in
    rw c.in_ok-insert.ensures.items
    (first_insert c.self.inside.most c.self.inside.bytes _ c.self.inside.items.items c.args.key
    c.args.value
    c.args.place c.requires.item place
    (omega (arith, c.len.ensures, c.len-2.ensures)) c.self.invariant)
