-- the parties of the last sources and sinks were made, and the first ones are left
use Rattle.std.proofs.Common.{◌≡◌, ◌+◌, ◌≤◌, All, reverse, vec_len, vec_capacity}
use Rattle.kv_ring.specs.Ends.{IsFresh}
use Rattle.kv_session_party.specs.declared.party.SessionParty.{SessionParty}
use Rattle.kv_mesh.specs.Started.{IsNewSession, ends_of}
use Rattle.kv_mesh.proofs.MadeLemmas.{Starting}
use Rattle.kv_mesh.proofs.SeatLemmas.{first-seat}
use Rattle.kv_mesh.proofs.start_sessions.start_sessions.Given as goal

abbrev pub invariant-loop-alloc : goal.invariant-loop-alloc
invariant-loop-alloc g l =
    let Party = SessionParty g.row.So.Denot g.row.Si.Denot g.row.F.Denot g.So.Source g.Si.Sink in
    record {
      starting : Starting (λ (party : Party). ends_of party.session)
          (λ (party : Party). party.links.ends)
          (IsNewSession (first-seat l.initial.seats)) l.initial.ends.items
          l.initial.rings.items l.ends.items l.rings.items (reverse l.parties.items);
      fresh : All IsFresh l.rings.items;
      counts : vec_len l.rings ≡ vec_len l.ends;
      seats : vec_len l.seats.free + vec_len l.initial.ends
          ≡ vec_len l.initial.seats.free + vec_len l.ends;
      seat : first-seat l.seats ≡ first-seat l.initial.seats;
      sum : vec_len l.ends + vec_len l.parties ≡ vec_len l.initial.ends;
      capacity : vec_len l.initial.ends ≤ vec_capacity l.ends;
      room : vec_len l.initial.ends ≤ vec_capacity l.parties;
    }

abbrev pub decreases-loop-alloc : goal.decreases-loop-alloc
decreases-loop-alloc g l = vec_len l.ends
