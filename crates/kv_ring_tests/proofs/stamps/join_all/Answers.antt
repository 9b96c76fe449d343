use Rattle.std.proofs.Common.{◌≡◌, ◌∷◌, ◌∙◌, IfOk, rules}
use Rattle.std.proofs.lemmas.List.Elements.{All-rest}
use Rattle.kv_ring_tests.proofs.stamps.join_all.Goals as goal

pub loop-drawer-preserved : goal.loop-drawer-preserved
loop-drawer-preserved c =
    let loop = c.loop-drawer in
    let rest = c.next.new.self.rest.items in
    let next : loop.drawer-iterator.rest.items ≡ c.in-Some.drawer ∷ rest = search rules in
    record {
      own = c.in_ok-all.ensures ∙ loop.invariant.own;
      rest = All-rest (λ r. IfOk r (λ drawer. drawer.seat.counter ≡ c.args.stamps.now))
          c.in-Some.drawer rest loop.drawer-iterator.rest.items next loop.invariant.rest;
    }
