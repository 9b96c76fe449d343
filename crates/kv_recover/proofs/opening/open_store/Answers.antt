-- The parts are opened, and they are the store.
use Rattle.std.proofs.Common.{refl, sym, subst}
use Rattle.kv_recover.specs.Store.{HasOpened}
use Rattle.kv_recover.proofs.JoinLemmas.{opened-lists}
use Rattle.kv_recover.proofs.KeptLemmas.{has-writes}
use Rattle.kv_recover.proofs.opening.open_store.Goals as goal

pub returns-in-Ok-slabs_of-clause-ok : goal.returns-in-Ok-slabs_of-clause-ok
returns-in-Ok-slabs_of-clause-ok g c =
    let rooms = c.in-Ok.ensures.rooms in
    subst (λ store. HasOpened g.D.Disk g.I.Index c.args.disk c.args.worker c.args.workers
    c.args.limits store c.in-Ok.parts.floor) (sym c.in-Ok-slabs_of.ensures.ok) (record {
      open_ = refl;
      plan = refl;
      worker_is = refl;
      workers_is = refl;
      limits_are = refl;
      spare = rooms.spare;
      stamps = λ key entry has. (rooms.placed key entry has).stamp;
      opens = c.in-Ok.ensures.opens;
      floor_was = λ tells. (c.in-Ok.ensures.found tells).floor_is;
      holds = λ tells. (c.in-Ok.ensures.opened tells).holds;
      floor_is = λ tells. (c.in-Ok.ensures.opened tells).floor_is;
      lists = λ tells. opened-lists _ _ _ _ _ c.in-Ok.parts.ends c.in-Ok.parts.stacks.items
          (c.in-Ok.ensures.opened tells);
      kept = has-writes g.D.Disk g.I.Index c.args.disk c.args.worker c.args.workers _
          c.in-Ok.parts.floor (λ key entry has. (rooms.placed key entry has).stamp)
          c.in-Ok.ensures.owned c.in-Ok.ensures.found (λ tells. (c.in-Ok.ensures.same tells).kept);
      keeps = c.in-Ok.ensures.same;
      durable = c.in-Ok.ensures.durable;
      any_moment = c.open_parts.ensures.any_moment;
      calm = c.in-Ok.ensures.faults;
    })
