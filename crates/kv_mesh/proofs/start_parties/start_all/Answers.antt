-- the sessions come behind the workers, or the stores come back
use Rattle.std.proofs.Common.{◌++◌, length, map, reverse, vec_len, vec_capacity, sym, ap, ◌∙◌, subst, arith}
use Rattle.std.proofs.lemmas.List.{reverse-reverse}
use Rattle.kv_worker_party.specs.declared.party.WorkerParty.{WorkerParty}
use Rattle.kv_mesh.specs.Started.{SessionsStart, opened_of}
use Rattle.kv_mesh.proofs.MadeLemmas.{room-back}
use Rattle.kv_mesh.proofs.NewLemmas.{mapped-length}
use Rattle.kv_mesh.proofs.start_parties.start_all.Goals as goal

pub start_workers-requires : goal.start_workers-requires
start_workers-requires g c = record {
  start = c.requires.start;
  ready = c.requires.ready;
  fresh = c.requires.fresh.1;
  counts = (c.requires.counts.1, omega (arith, c.requires.seats));
}

pub start_sessions-requires : goal.start_sessions-requires
start_sessions-requires g c = record {
  fresh = c.requires.fresh.0;
  counts = (
    c.requires.counts.0,
    omega (arith, c.requires.seats, c.in_ok-workers.ensures.seats),
  );
}

pub give_workers_back-requires : goal.give_workers_back-requires
give_workers_back-requires g c =
    let Party = WorkerParty g.row.D.Denot g.row.I.Denot g.row.F.Denot g.D.Disk g.I.Index in
    let many = mapped-length (λ (party : Party). opened_of party.worker)
    c.in_ok-workers.workers.items c.args.stores.now.items c.in_ok-workers.ensures.ok.stores_are in
    room-back (vec_len c.start_workers.new.stores) (vec_len c.turn_round.new.items)
    (vec_len c.args.stores.now) (vec_capacity c.start_workers.new.stores)
    (c.start_workers.new.stores.ok.0 ∙ ap length c.in_ok-workers.ensures.none)
    (c.turn_round.ensures.len ∙ c.in_ok-workers.workers.ok.0 ∙ many
    ∙ sym c.args.stores.now.ok.0) c.in_ok-workers.ensures.capacity

pub returns-in-Ok-clause-sessions : goal.returns-in-Ok-clause-sessions
returns-in-Ok-clause-sessions g c =
    subst (λ seat. SessionsStart c.args.ends.now.items c.args.session_rings.items seat
    c.in-Ok.sessions.items) c.start_workers.ensures.same c.in-Ok.ensures.ok

pub returns-in-Err-clause-err : goal.returns-in-Err-clause-err
returns-in-Err-clause-err g c =
    let Party = WorkerParty g.row.D.Denot g.row.I.Denot g.row.F.Denot g.D.Disk g.I.Index in (
      c.give_workers_back.ensures
          ∙ ap (λ l. l ++ map (λ (party : Party). opened_of party.worker) (reverse c.turn_round.new.items.items))
          c.in_ok-workers.ensures.none
          ∙ ap (λ l. map (λ (party : Party). opened_of party.worker) (reverse l))
          c.turn_round.ensures.items
          ∙ ap (λ l. map (λ (party : Party). opened_of party.worker) l)
          (reverse-reverse c.in_ok-workers.workers.items)
          ∙ c.in_ok-workers.ensures.ok.stores_are,
      c.in-Err.ensures.err,
    )
