-- one party more is made of the last source and sink
use Rattle.std.proofs.Common.{◌≡◌, ◌<◌, [], ◌∷◌, ◌++◌, length, map, reverse}
use Rattle.std.proofs.Common.{vec_len, refl, sym, ap, ◌∙◌, subst}
use Rattle.std.proofs.Common.{arith, length-append}
use Rattle.kv_ring.specs.Ends.{IsFresh}
use Rattle.kv_session_party.specs.declared.party.SessionParty.{SessionParty}
use Rattle.kv_mesh.specs.Started.{IsNewSession, SessionsStart, ends_of}
use Rattle.kv_mesh.proofs.MadeLemmas.{all-front, none-of, starting-all, starting-back}
use Rattle.kv_mesh.proofs.SeatLemmas.{first-seat}
use Rattle.kv_mesh.proofs.MadeLemmas.{starting-first, starting-push}
use Rattle.kv_mesh.proofs.start_sessions.start_sessions.Goals as goal

pub loop-alloc-init : goal.loop-alloc-init
loop-alloc-init g c =
    let Party = SessionParty g.row.So.Denot g.row.Si.Denot g.row.F.Denot g.So.Source g.Si.Sink in
    record {
      starting = starting-first (λ (party : Party). ends_of party.session)
          (λ (party : Party). party.links.ends) (IsNewSession (first-seat c.args.seats.now))
          c.args.ends.now.items c.args.rings.items c.in_ok-parties.parties.items
          c.in_ok-parties.ensures.items;
      fresh = c.requires.fresh;
      counts = c.requires.counts.0;
      seats = omega arith;
      seat = refl;
      sum = omega (arith, c.in_ok-parties.ensures.len);
      capacity = omega (arith, c.args.ends.now.ok);
      room = omega (arith, c.in_ok-parties.ensures.capacity, c.len.ensures);
    }

pub start_session-requires : goal.start_session-requires
start_session-requires g c =
    let inv = c.loop-alloc.invariant in
    let some : 0 < vec_len c.loop-alloc.ends = omega (arith, c.loop-alloc-test.true) in
    record {
      fresh = inv.fresh;
      some = (
        some,
        omega (arith, some, inv.counts),
        omega (arith, some, inv.seats, c.requires.counts),
      );
    }

pub loop-alloc-preserved : goal.loop-alloc-preserved
loop-alloc-preserved g c =
    let Party = SessionParty g.row.So.Denot g.row.Si.Denot g.row.F.Denot g.So.Source g.Si.Sink in
    let inv = c.loop-alloc.invariant in
    let made = c.in-Ok.ensures in
    let shorter = ap length made.ends
    ∙ length-append c.start_session.new.ends.items (ends_of c.in-Ok.party.session ∷ []) in
    let fewer = ap length made.rings
    ∙ length-append c.start_session.new.rings.items (c.in-Ok.party.links.ends ∷ []) in
    record {
      starting = starting-push (λ (party : Party). ends_of party.session)
          (λ (party : Party). party.links.ends) (IsNewSession (first-seat c.args.seats.now))
          c.args.ends.now.items c.loop-alloc.ends.items c.start_session.new.ends.items
          c.args.rings.items c.loop-alloc.rings.items c.start_session.new.rings.items
          c.loop-alloc.parties.items c.push_within.new.items.items c.in-Ok.party made.ends
          made.rings
          (subst (λ seat. IsNewSession seat c.in-Ok.party) inv.seat made.new)
          c.push_within.ensures.items inv.starting;
      fresh = all-front IsFresh c.start_session.new.rings.items c.loop-alloc.rings.items
          c.in-Ok.party.links.ends made.rings inv.fresh;
      counts = omega (
        arith,
        inv.counts,
        shorter,
        fewer,
        c.loop-alloc.ends.ok,
        c.loop-alloc.rings.ok,
        c.start_session.new.ends.ok,
        c.start_session.new.rings.ok,
      );
      seats = omega (
        arith,
        inv.seats,
        shorter,
        c.start_session.ensures.seats,
        c.loop-alloc.ends.ok,
        c.start_session.new.ends.ok,
      );
      seat = c.start_session.ensures.same ∙ inv.seat;
      sum = omega (
        arith,
        inv.sum,
        shorter,
        c.push_within.ensures.len,
        c.loop-alloc.ends.ok,
        c.start_session.new.ends.ok,
      );
      capacity = omega (arith, inv.capacity, c.start_session.ensures.capacity);
      room = omega (arith, inv.room, c.push_within.ensures.capacity);
    }

pub returns-clause-ok : goal.returns-clause-ok
returns-clause-ok g c =
    let Party = SessionParty g.row.So.Denot g.row.Si.Denot g.row.F.Denot g.So.Source g.Si.Sink in
    let inv = c.loop-alloc.invariant in
    let none : vec_len c.loop-alloc.ends ≡ 0 = omega (arith, c.loop-alloc-test.false) in
    let all = starting-all (λ (party : Party). ends_of party.session)
    (λ (party : Party). party.links.ends) (IsNewSession (first-seat c.args.seats.now))
    c.args.ends.now.items c.loop-alloc.ends.items c.args.rings.items c.loop-alloc.rings.items
    (reverse c.loop-alloc.parties.items)
    (none-of c.loop-alloc.ends.items (omega (arith, none, c.loop-alloc.ends.ok)))
    (omega (arith, none, inv.counts, c.loop-alloc.rings.ok)) inv.starting in
    subst (SessionsStart c.args.ends.now.items c.args.rings.items
    (first-seat c.args.seats.now)) (sym c.turn_round.ensures.items)
    (record { ends_are = all.0; rings_are = all.1; new = inv.starting.new })

pub give_sessions_back-requires : goal.give_sessions_back-requires
give_sessions_back-requires g c =
    let inv = c.loop-alloc.invariant in
    omega (
      arith,
      inv.sum,
      inv.capacity,
      c.start_session.ensures.capacity,
      ap length c.in-Err.ensures.err,
      c.loop-alloc.ends.ok,
      c.start_session.new.ends.ok,
    )

pub returns-in-Err-clause-err : goal.returns-in-Err-clause-err
returns-in-Err-clause-err g c =
    let Party = SessionParty g.row.So.Denot g.row.Si.Denot g.row.F.Denot g.So.Source g.Si.Sink in
    starting-back (λ (party : Party). ends_of party.session) (λ (party : Party). party.links.ends)
    (IsNewSession (first-seat c.args.seats.now)) c.args.ends.now.items
    c.loop-alloc.ends.items c.give_sessions_back.new.ends.items c.args.rings.items
    c.loop-alloc.rings.items c.loop-alloc.parties.items (c.give_sessions_back.ensures
    ∙ ap (λ l. l ++ map (λ (party : Party). ends_of party.session) (reverse
    c.loop-alloc.parties.items)) c.in-Err.ensures.err) c.loop-alloc.invariant.starting
