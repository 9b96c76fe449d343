-- the last store, ends and a seat
use Rattle.std.proofs.Common.{◌∷◌, [], ◌++◌, refl, sym, ap, ◌∙◌, subst, arith}
use Rattle.kv_parties.specs.Stamps.{HasDrawnNone}
use Rattle.kv_ring.specs.Ends.{IsFresh}
use Rattle.kv_mesh.specs.Started.{IsReady}
use Rattle.kv_mesh.proofs.MadeLemmas.{all-last}
use Rattle.kv_mesh.proofs.start_workers.start_worker.Goals as goal

pub make_worker-requires : goal.make_worker-requires
make_worker-requires g c =
    let ready = all-last (IsReady g.D.Disk g.I.Index c.args.seats.now.start)
    c.take_last-opened.new.items.items c.args.stores.now.items c.take_last-opened.result
    c.take_last-opened.ensures.items c.requires.ready in
    let seat = c.take.ensures.seat in
    record {
      opened = ready.is_opened;
      fresh = all-last IsFresh c.take_last.new.items.items c.args.ends.now.items c.take_last.result
          c.take_last.ensures.items c.requires.fresh;
      unused = subst (λ s. HasDrawnNone s.view) (sym seat)
          (record { drawn = refl; gaps = refl; spent = refl });
      started = (
        omega (arith, ap (λ s. s.view.start) seat, c.requires.start),
        omega (arith, ap (λ s. s.view.start) seat, ap (λ s. s.view.seen) seat),
      );
      ahead = omega (arith, ready.below, ap (λ s. s.view.seen) seat);
    }

pub returns-in-Ok-clause-stores : goal.returns-in-Ok-clause-stores
returns-in-Ok-clause-stores g c = c.take_last-opened.ensures.items
    ∙ ap (λ o. c.take_last-opened.new.items.items ++ o ∷ []) (sym c.in-Ok.ensures.store)

pub returns-in-Ok-clause-ends : goal.returns-in-Ok-clause-ends
returns-in-Ok-clause-ends g c = c.take_last.ensures.items
    ∙ ap (λ e. c.take_last.new.items.items ++ e ∷ []) (sym c.in-Ok.ensures.parts.0)

pub returns-in-Ok-clause-new : goal.returns-in-Ok-clause-new
returns-in-Ok-clause-new g c = record {
  first = c.in-Ok.ensures.parts.2;
  none = c.in-Ok.ensures.none;
  seat_is = c.in-Ok.ensures.parts.1 ∙ c.take.ensures.seat;
  lifted = c.in-Ok.ensures.parts.3;
}
