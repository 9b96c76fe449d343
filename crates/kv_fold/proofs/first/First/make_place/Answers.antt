use Rattle.std.proofs.Common.{sym, ap, ◌∙◌, arith, subst, Some}
use Rattle.kv_model.specs.Fold.{most_bytes}
use Rattle.kv_fold.specs.Firsts.{FirstItems}
use Rattle.kv_fold.specs.States.{prefix}
use Rattle.kv_fold.specs.Prefixes.{is_past, accept}
use Rattle.kv_fold.specs.Places.{IsPlace, placed}
use Rattle.kv_fold.proofs.OrderLemmas.{yes}
use Rattle.kv_fold.proofs.PlaceLemmas.{gap_le, place_made}
use Rattle.kv_fold.proofs.first.First.make_place.Goals as goal

pub make_room-fits-requires-clause-place : goal.make_room-fits-requires-clause-place
make_room-fits-requires-clause-place c =
    let gap = rw c.deref.ensures.value at c.in-Some.ensures in
    omega (arith, gap_le _ _ _ gap, c.self.inside.items.ok.0)

pub returns-then-fits-clause-place : goal.returns-then-fits-clause-place
returns-then-fits-clause-place c =
    let gap = rw c.deref.ensures.value at c.in-Some.ensures in
    let within =
    ap (λ (l : FirstItems). is_past l.first.cut c.args.key.now) c.self.view_is
    ∙ sym c.is_past.ensures
    ∙ c.if-is_past.false in
    let room = c.make_room-fits.ensures in
    let made =
    place_made c.self.inside.most c.in-Some.place c.args.size c.args.key.now
    (prefix c.self.inside.items.items c.self.inside.cut)
    (prefix c.make_room-fits.new.items.items c.make_room-fits.new.cut) c.make_room-fits.result
    (yes _ c.self.invariant.rising) within gap room.value in
    subst
    (λ (l : FirstItems). IsPlace l.most c.in-Some.place c.args.size c.args.key.now l.first
    (prefix c.make_room-fits.new.items.items c.make_room-fits.new.cut)) c.self.view_is
    (record {
      has = record {
        bound = omega (arith, room.place, c.make_room-fits.new.items.ok.0);
        few = omega (arith, room.few c.if-fits.true, c.make_room-fits.new.items.ok.0);
        small = omega (arith, room.small c.if-fits.true, room.first.counted);
        gap = room.gap c.args.key.now gap;
      };
      taken =
          λ value is.
          ap (λ b. placed b c.in-Some.place c.args.key.now value
          (prefix c.make_room-fits.new.items.items c.make_room-fits.new.cut))
          (sym c.if-fits.true)
          ∙ made value is;
    })

pub returns-clause-none : goal.returns-clause-none
returns-clause-none c none value is =
    let gap = rw c.deref.ensures.value at c.in-Some.ensures in
    let within =
    ap (λ (l : FirstItems). is_past l.first.cut c.args.key.now) c.self.view_is
    ∙ sym c.is_past.ensures
    ∙ c.if-is_past.false in
    let room = c.make_room-fits.ensures in
    let made =
    place_made c.self.inside.most c.in-Some.place c.args.size c.args.key.now
    (prefix c.self.inside.items.items c.self.inside.cut)
    (prefix c.make_room-fits.new.items.items c.make_room-fits.new.cut) c.make_room-fits.result
    (yes _ c.self.invariant.rising) within gap room.value value is in
    ap (λ k. prefix c.make_room-fits.new.items.items (Some k)) c.in_ok-copy.ensures.ok
    ∙ ap (λ b. placed b c.in-Some.place c.args.key.now value
    (prefix c.make_room-fits.new.items.items c.make_room-fits.new.cut))
    (sym c.if-fits.false)
    ∙ made
    ∙ ap (λ (l : FirstItems). accept l.most most_bytes c.args.key.now value l.first) c.self.view_is
