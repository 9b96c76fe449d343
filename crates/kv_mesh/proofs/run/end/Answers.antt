-- the ends are brought together, and the parts handed out
use Rattle.std.proofs.Common.{sym, subst}
use Rattle.kv_mesh.specs.Mesh.{HasRoom}
use Rattle.kv_mesh.proofs.LookLemmas.{sessions-long, workers-long}
use Rattle.kv_mesh.proofs.OverLemmas.{looks-draw, looks-over}
use Rattle.kv_mesh.proofs.StayLemmas.{looks-stay}
use Rattle.kv_mesh.proofs.run.end.Goals as goal

pub hand_out-requires : goal.hand_out-requires
hand_out-requires g c =
    let workers = c.args.workers.items in
    let sessions = c.args.sessions.items in
    let now = c.compare_all.new.workers.items in
    let new = c.compare_all.new.sessions.items in
    let looks = c.compare_all.ensures.same in
    record {
      draw = looks-draw workers now sessions new c.args.stamps.now looks c.requires.draw;
      worker_room = subst (HasRoom c.args.worker_room)
          (sym (workers-long workers now looks.workers_began)) c.requires.worker_room;
      session_room = subst (HasRoom c.args.session_room)
          (sym (sessions-long sessions new looks.sessions_began)) c.requires.session_room;
    }

pub returns : goal.returns
returns g c =
    let workers = c.args.workers.items in
    let sessions = c.args.sessions.items in
    let now = c.compare_all.new.workers.items in
    let new = c.compare_all.new.sessions.items in
    let looks = c.compare_all.ensures.same in
    let e = c.hand_out.ensures in
    record {
      now = now;
      new = new;
      stay = looks-stay workers now sessions new looks;
      over = looks-over workers now sessions new looks c.requires.over;
      handed = record {
        order = c.compare_all.ensures.order;
        seats = e.seats;
        ended_are = e.workers;
        parts_are = e.sessions;
        unsure_is = e.unsure;
      };
    }
