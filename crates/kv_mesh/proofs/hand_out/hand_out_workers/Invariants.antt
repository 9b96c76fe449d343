-- the workers so far are handed out, and their seats are joined
use Rattle.std.proofs.Common.{◌≡◌, ◌+◌, ◌≤◌, ◌++◌, length, map, None}
use Rattle.std.specs.Option.{option_map}
use Rattle.std.specs.Prelude.{IfSome}
use Rattle.kv_mesh.specs.Joining.{joined_from}
use Rattle.kv_mesh.proofs.hand_out.hand_out_workers.Given as goal

abbrev pub invariant-loop-party : goal.invariant-loop-party
invariant-loop-party g l = record {
  parts : l.yielded ++ l.party-iterator.rest.items ≡ l.fn.parties.items;
  workers : l.workers.items ≡ map (λ party. party.worker) l.yielded;
  room : length l.fn.parties.items ≤ l.workers.spare + length l.yielded;
  counter : IfSome l.joined (λ all. all.counter ≡ l.stamps);
  view : option_map (λ all. all.view) l.joined
      ≡ joined_from None (map (λ party. party.seat) l.yielded);
}
