-- the sessions so far are handed out, and their seats are joined
use Rattle.std.proofs.Common.{◌≡◌, ◌+◌, ◌≤◌, ◌++◌, length, map}
use Rattle.std.specs.Option.{option_map}
use Rattle.std.specs.Prelude.{IfSome}
use Rattle.kv_mesh.specs.Finished.{parts_of}
use Rattle.kv_mesh.specs.Joining.{joined_from}
use Rattle.kv_mesh.proofs.hand_out.hand_out_sessions.Given as goal

abbrev pub invariant-loop-party : goal.invariant-loop-party
invariant-loop-party g l = record {
  parts : l.yielded ++ l.party-iterator.rest.items ≡ l.fn.parties.items;
  sessions : l.sessions.items ≡ map (λ party. parts_of party.session) l.yielded;
  room : length l.fn.parties.items ≤ l.sessions.spare + length l.yielded;
  counter : IfSome l.joined (λ all. all.counter ≡ l.stamps);
  view : option_map (λ all. all.view) l.joined
      ≡ joined_from (option_map (λ all. all.view) l.fn.others)
      (map (λ party. party.seat) l.yielded);
}
