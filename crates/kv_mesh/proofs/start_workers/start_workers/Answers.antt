-- one party more is made of the last store
use Rattle.std.proofs.Common.{◌<◌, ◌≤◌, [], ◌∷◌, ◌++◌, All, length, map, reverse}
use Rattle.std.proofs.Common.{vec_len, refl, sym, ap, ◌∙◌, subst}
use Rattle.std.proofs.Common.{arith, length-append}
use Rattle.kv_ring.specs.Ends.{IsFresh}
use Rattle.kv_worker_party.specs.declared.party.WorkerParty.{WorkerParty}
use Rattle.kv_mesh.specs.Started.{IsNewWorker, IsReady, WorkersStart, opened_of}
use Rattle.kv_mesh.proofs.MadeLemmas.{all-front, none-left, none-of, starting-all, starting-back}
use Rattle.kv_mesh.proofs.SeatLemmas.{first-seat}
use Rattle.kv_mesh.proofs.MadeLemmas.{seat-left, starting-first, starting-push}
use Rattle.kv_mesh.proofs.start_workers.start_workers.Goals as goal

pub loop-alloc-init : goal.loop-alloc-init
loop-alloc-init g c =
    let Party = WorkerParty g.row.D.Denot g.row.I.Denot g.row.F.Denot g.D.Disk g.I.Index in
    record {
      starting = starting-first (λ (party : Party). opened_of party.worker)
          (λ (party : Party). party.ends) (IsNewWorker (first-seat c.args.seats.now))
          c.args.stores.now.items c.args.ends.items c.in_ok-parties.parties.items
          c.in_ok-parties.ensures.items;
      ready = c.requires.ready;
      fresh = c.requires.fresh;
      counts = c.requires.counts.0;
      seats = omega arith;
      seat = refl;
      sum = omega (arith, c.in_ok-parties.ensures.len);
      capacity = omega (arith, c.args.stores.now.ok);
      room = omega (arith, c.in_ok-parties.ensures.capacity, c.len.ensures);
    }

pub start_worker-requires : goal.start_worker-requires
start_worker-requires g c =
    let inv = c.loop-alloc.invariant in
    let some = subst (λ n. 0 < n) c.len-in-loop-alloc.ensures c.loop-alloc-test.true in
    record {
      start = subst (λ n. 1 ≤ n) (sym (ap (λ seat. seat.view.start) inv.seat)) c.requires.start;
      ready = subst (λ n. All (IsReady g.D.Disk g.I.Index n) c.loop-alloc.stores.items)
          (sym (ap (λ seat. seat.view.start) inv.seat)) inv.ready;
      fresh = inv.fresh;
      some = (
        some,
        subst (λ n. 0 < n) (sym inv.counts) some,
        seat-left (vec_len c.loop-alloc.seats.free) (vec_len c.args.stores.now)
            (vec_len c.args.seats.now.free) (vec_len c.loop-alloc.stores) inv.seats
            c.requires.counts.1 some,
      );
    }

pub loop-alloc-preserved : goal.loop-alloc-preserved
loop-alloc-preserved g c =
    let Party = WorkerParty g.row.D.Denot g.row.I.Denot g.row.F.Denot g.D.Disk g.I.Index in
    let inv = c.loop-alloc.invariant in
    let made = c.in-Ok.ensures in
    let shorter = ap length made.stores
    ∙ length-append c.start_worker.new.stores.items (opened_of c.in-Ok.party.worker ∷ []) in
    let fewer = ap length made.ends
    ∙ length-append c.start_worker.new.ends.items (c.in-Ok.party.ends ∷ []) in
    record {
      starting = starting-push (λ (party : Party). opened_of party.worker)
          (λ (party : Party). party.ends) (IsNewWorker (first-seat c.args.seats.now))
          c.args.stores.now.items c.loop-alloc.stores.items c.start_worker.new.stores.items
          c.args.ends.items c.loop-alloc.ends.items c.start_worker.new.ends.items
          c.loop-alloc.parties.items c.push_within.new.items.items c.in-Ok.party made.stores
          made.ends
          (subst (λ seat. IsNewWorker seat c.in-Ok.party) inv.seat made.new)
          c.push_within.ensures.items inv.starting;
      ready = all-front (IsReady g.D.Disk g.I.Index c.args.seats.now.start)
          c.start_worker.new.stores.items c.loop-alloc.stores.items
          (opened_of c.in-Ok.party.worker) made.stores inv.ready;
      fresh = all-front IsFresh c.start_worker.new.ends.items c.loop-alloc.ends.items
          c.in-Ok.party.ends made.ends inv.fresh;
      counts = omega (
        arith,
        inv.counts,
        shorter,
        fewer,
        c.loop-alloc.stores.ok,
        c.loop-alloc.ends.ok,
        c.start_worker.new.stores.ok,
        c.start_worker.new.ends.ok,
      );
      seats = omega (
        arith,
        inv.seats,
        shorter,
        c.start_worker.ensures.seats,
        c.loop-alloc.stores.ok,
        c.start_worker.new.stores.ok,
      );
      seat = c.start_worker.ensures.same ∙ inv.seat;
      sum = omega (
        arith,
        inv.sum,
        shorter,
        c.push_within.ensures.len,
        c.loop-alloc.stores.ok,
        c.start_worker.new.stores.ok,
      );
      capacity = omega (arith, inv.capacity, c.start_worker.ensures.capacity);
      room = omega (arith, inv.room, c.push_within.ensures.capacity);
    }

pub returns-clause-ok : goal.returns-clause-ok
returns-clause-ok g c =
    let Party = WorkerParty g.row.D.Denot g.row.I.Denot g.row.F.Denot g.D.Disk g.I.Index in
    let inv = c.loop-alloc.invariant in
    let none = none-left c.len-in-loop-alloc.result (vec_len c.loop-alloc.stores)
    c.len-in-loop-alloc.ensures c.loop-alloc-test.false in
    let all = starting-all (λ (party : Party). opened_of party.worker)
    (λ (party : Party). party.ends) (IsNewWorker (first-seat c.args.seats.now))
    c.args.stores.now.items c.loop-alloc.stores.items c.args.ends.items c.loop-alloc.ends.items
    (reverse c.loop-alloc.parties.items)
    (none-of c.loop-alloc.stores.items (sym c.loop-alloc.stores.ok.0 ∙ none))
    (sym c.loop-alloc.ends.ok.0 ∙ inv.counts ∙ none) inv.starting in
    subst (WorkersStart c.args.stores.now.items c.args.ends.items
    (first-seat c.args.seats.now)) (sym c.turn_round.ensures.items)
    (record { stores_are = all.0; rings_are = all.1; new = inv.starting.new })

pub returns-clause-none : goal.returns-clause-none
returns-clause-none g c = none-of c.loop-alloc.stores.items (sym c.loop-alloc.stores.ok.0
    ∙ none-left c.len-in-loop-alloc.result (vec_len c.loop-alloc.stores)
    c.len-in-loop-alloc.ensures c.loop-alloc-test.false)

pub give_workers_back-requires : goal.give_workers_back-requires
give_workers_back-requires g c =
    let inv = c.loop-alloc.invariant in
    omega (
      arith,
      inv.sum,
      inv.capacity,
      c.start_worker.ensures.capacity,
      ap length c.in-Err.ensures.err,
      c.loop-alloc.stores.ok,
      c.start_worker.new.stores.ok,
    )

pub returns-in-Err-clause-err : goal.returns-in-Err-clause-err
returns-in-Err-clause-err g c =
    let Party = WorkerParty g.row.D.Denot g.row.I.Denot g.row.F.Denot g.D.Disk g.I.Index in
    starting-back (λ (party : Party). opened_of party.worker) (λ (party : Party). party.ends)
    (IsNewWorker (first-seat c.args.seats.now)) c.args.stores.now.items
    c.loop-alloc.stores.items c.give_workers_back.new.stores.items c.args.ends.items
    c.loop-alloc.ends.items c.loop-alloc.parties.items (c.give_workers_back.ensures
    ∙ ap (λ l. l ++ map (λ (party : Party). opened_of party.worker) (reverse
    c.loop-alloc.parties.items)) c.in-Err.ensures.err) c.loop-alloc.invariant.starting
