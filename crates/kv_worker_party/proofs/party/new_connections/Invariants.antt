-- nothing is in hand of those so far
use Rattle.std.proofs.Common.{◌≡◌, ℕ, vec_len}
use Rattle.kv_groups.specs.Taking.{connection_of, new_connection}
use Rattle.kv_worker_party.proofs.party.new_connections.Given as goal

abbrev pub invariant-loop-made : goal.invariant-loop-made
invariant-loop-made g l = record {
  size : vec_len l.connections ≡ l._made;
  new : (session : ℕ) → connection_of l.connections.items session ≡ new_connection;
}
