use Rattle.std.proofs.Common.{◌≡◌, ◌≤◌, ℕ, true, vec_len, vec_capacity}
use Rattle.kv_session_party.specs.Parts.{is_bare, part_of}
use Rattle.kv_session_party.proofs.routes.Routes.new.Given as goal

abbrev pub invariant-loop-made : goal.invariant-loop-made
invariant-loop-made l = record {
  count : vec_len l.parts ≡ l._made;
  room : l.workers ≤ vec_capacity l.parts;
  bare : (worker : ℕ) → is_bare (part_of l.parts.items worker) ≡ true;
}
