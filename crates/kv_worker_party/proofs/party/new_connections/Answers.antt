-- one more with nothing in hand
use Rattle.std.proofs.Common.{◌≡◌, subst, sym, arith}
use Rattle.kv_groups.specs.Taking.{connection_of, new_connection}
use Rattle.kv_groups.proofs.GatherLemmas.{all-new}
use Rattle.kv_worker_party.proofs.party.new_connections.Goals as goal

pub loop-made-preserved : goal.loop-made-preserved
loop-made-preserved g c = record {
  size = omega (arith, c.loop-made.invariant.size, c.in_ok-push.ensures.len);
  new = λ session. subst (λ xs. connection_of xs session ≡ new_connection)
      (sym c.in_ok-push.ensures.items)
      (all-new c.loop-made.connections.items c.new.result c.new.ensures
      c.loop-made.invariant.new session);
}
