-- one party more is taken apart
use Rattle.std.proofs.Common.{◌∷◌, [], ◌++◌, ap, ◌∙◌, arith}
use Rattle.kv_worker_party.specs.declared.party.WorkerParty.{WorkerParty}
use Rattle.kv_mesh.specs.Started.{opened_of}
use Rattle.kv_mesh.proofs.MadeLemmas.{moved-all, moved-more, none-of}
use Rattle.kv_mesh.proofs.start_workers.give_workers_back.Goals as goal

pub loop-party-preserved : goal.loop-party-preserved
loop-party-preserved g c =
    let inv = c.loop-party.invariant in
    let Party = WorkerParty g.row.D.Denot g.row.I.Denot g.row.F.Denot g.D.Disk g.I.Index in
    record {
      items = moved-more (λ (party : Party). opened_of party.worker) c.loop-party.stores.items
          c.push_within.new.items.items c.loop-party.parties.items c.pop.new.self.items
          c.in-Some.party c.in-Some.ensures.items (c.push_within.ensures.items
          ∙ ap (λ o. c.loop-party.stores.items ++ o ∷ []) c.store_of.ensures) ∙ inv.items;
      room = omega (
        arith,
        inv.room,
        c.in-Some.ensures.cases,
        c.push_within.ensures.len,
        c.push_within.ensures.capacity,
      );
    }

pub returns : goal.returns
returns g c =
    let Party = WorkerParty g.row.D.Denot g.row.I.Denot g.row.F.Denot g.D.Disk g.I.Index in
    moved-all (λ (party : Party). opened_of party.worker) c.loop-party.stores.items _
    c.loop-party.parties.items (none-of c.loop-party.parties.items
    (omega (arith, c.in_default.ensures.cases, c.loop-party.parties.ok)))
    c.loop-party.invariant.items
