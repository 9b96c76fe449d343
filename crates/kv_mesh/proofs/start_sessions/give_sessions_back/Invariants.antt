-- the last parties were taken apart
use Rattle.std.proofs.Common.{◌≡◌, ◌+◌, ◌≤◌, ◌++◌, map, reverse, vec_len, vec_capacity}
use Rattle.kv_mesh.specs.Started.{ends_of}
use Rattle.kv_mesh.proofs.start_sessions.give_sessions_back.Given as goal

abbrev pub invariant-loop-party : goal.invariant-loop-party
invariant-loop-party g l = record {
  items : l.ends.items ++ map (λ party. ends_of party.session) (reverse l.parties.items)
      ≡ l.initial.ends.items
      ++ map (λ party. ends_of party.session) (reverse l.initial.parties.items);
  room : vec_len l.ends + vec_len l.parties ≤ vec_capacity l.ends;
}

abbrev pub decreases-loop-party : goal.decreases-loop-party
decreases-loop-party g l = vec_len l.parties
