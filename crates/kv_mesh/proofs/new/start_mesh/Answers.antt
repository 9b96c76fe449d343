-- nothing is owed, and each list has room for as many as there are parties
use Rattle.std.proofs.Common.{length, sym, ap, ◌∙◌, arith}
use Rattle.std.proofs.lemmas.Grind.{merely}
use Rattle.std.proofs.lemmas.List.{length-map}
use Rattle.kv_session_party.specs.declared.party.SessionParty.{SessionParty}
use Rattle.kv_mesh.specs.Linked.{first_sessions}
use Rattle.kv_mesh.specs.Started.{ends_of}
use Rattle.kv_mesh.proofs.NewLemmas.{many-begun, mapped-length}
use Rattle.kv_mesh.proofs.new.start_mesh.Goals as goal

pub invariant_of-result : goal.invariant_of-result
invariant_of-result g c =
    let Session = SessionParty g.row.So.Denot g.row.Si.Denot g.row.F.Denot g.So.Source g.Si.Sink in
    let all = c.in_ok-all.all in
    let new = c.in_ok-all.ensures.new in
    let workers = many-begun all.workers.items c.args.stores.now.items new.stores_are in
    let sessions = sym (length-map all.sessions.items (λ (party : Session). party.first.value))
    ∙ mapped-length ends_of (first_sessions all.sessions.items) c.args.ends.now.items
    new.ends_are in
    record {
      settled = merely new.settled;
      workers_fit = record {
        empty = ap length c.in_ok-worker_room.ensures.empty;
        room = omega (
          arith,
          workers,
          c.in_ok-worker_room.ensures.room,
          c.len.ensures,
          c.args.stores.now.ok,
        );
      };
      sessions_fit = record {
        empty = ap length c.in_ok-session_room.ensures.empty;
        room = omega (
          arith,
          sessions,
          c.in_ok-session_room.ensures.room,
          c.len-2.ensures,
          c.args.ends.now.ok,
        );
      };
    }

pub returns-clause-stores : goal.returns-clause-stores
returns-clause-stores g c = c.in_ok-all.ensures.new.stores_are

pub returns-clause-ends : goal.returns-clause-ends
returns-clause-ends g c = c.in_ok-all.ensures.new.ends_are

pub returns-clause-seats : goal.returns-clause-seats
returns-clause-seats g c = c.in_ok-all.ensures.new.seats
