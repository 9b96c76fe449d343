-- the last parties were taken apart
use Rattle.std.proofs.Common.{◌≡◌, ◌+◌, ◌≤◌, ◌++◌, map, reverse, vec_len, vec_capacity}
use Rattle.kv_mesh.specs.Started.{opened_of}
use Rattle.kv_mesh.proofs.start_workers.give_workers_back.Given as goal

abbrev pub invariant-loop-party : goal.invariant-loop-party
invariant-loop-party g l = record {
  items : l.stores.items ++ map (λ party. opened_of party.worker) (reverse l.parties.items)
      ≡ l.initial.stores.items
      ++ map (λ party. opened_of party.worker) (reverse l.initial.parties.items);
  room : vec_len l.stores + vec_len l.parties ≤ vec_capacity l.stores;
}

abbrev pub decreases-loop-party : goal.decreases-loop-party
decreases-loop-party g l = vec_len l.parties
