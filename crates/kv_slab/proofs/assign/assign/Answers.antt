use Rattle.std.specs.List.{slice_get}
use Rattle.std.proofs.Common.{◌≡◌, ◌+◌, ◌∙◌, ◌∷◌, [], ℕ, List, Some, length, refl, sym, subst, ap}
use Rattle.std.proofs.Common.{arith, length-append}
use Rattle.std.proofs.lemmas.Option.{slice_get_read}
use Rattle.std.specs.FinMap as finite
use Rattle.kv_base.specs.Image.{Image}
use Rattle.kv_model.specs.Layout.{all_classes}
use Rattle.kv_model.specs.Reading.{slot_at}
use Rattle.kv_slab.specs.declared.change.Change.{Change}
use Rattle.kv_slab.specs.declared.moves.Move.{Move}
use Rattle.kv_slab.specs.Moves.{IsPair, IsMove}
use Rattle.kv_slab.specs.Rooms.{Rooms, AreRooms, AreLinked}
use Rattle.kv_slab.specs.Assigned.{GoesTo, Assigned}
use Rattle.kv_slab.proofs.AssignLemmas.{assigned_start}
use Rattle.kv_slab.proofs.AssignSteps.{SoFar, assign-step, each-step}
use Rattle.kv_disk.proofs.StepsLemmas.{at_most-none, at_most-then}
use Rattle.std.proofs.Common.{take}
use Rattle.std.proofs.lemmas.List.{take_all}
use Rattle.kv_slab.specs.Memory.{HaveLengths, new_in}
use Rattle.kv_slab.specs.Rooms.{needed, new_class, left_by}
use Rattle.kv_slab.proofs.LengthLemmas.{lengths-none, lengths-same, lengths-taken, needed-more}
use Rattle.kv_slab.proofs.LengthLemmas.{pair-step}
use Rattle.kv_slab.proofs.SpaceLemmas.{space-step}
use Rattle.kv_slab.proofs.assign.assign.Goals as goal

pub loop-change-init : goal.loop-change-init
loop-change-init g c = record {
  reads = at_most-none g.D.Disk 0 c.args.disk.now.disk;
  faults = refl;
  ends = c.requires.ends;
  count = ap length c.new-moves.ensures.items;
  counted = lengths-none (λ _. 0) (λ _. 0) c.args.rooms.now.items (λ _. (refl, refl));
  lefts = λ i ch m pair. absurd (let a = ap (λ (ms : List Move). slice_get ms i)
      (sym c.new-moves.ensures.items) ∙ pair.move in cc);
  each = λ i ch m pair. absurd (let a = ap (λ (ms : List Move). slice_get ms i)
      (sym c.new-moves.ensures.items) ∙ pair.move in cc);
  assigned = λ told start rooms placed linked.
      let index = finite.get (g.I.Index.entries c.args.index.now) in (
        start,
        rooms,
        linked,
        subst (λ (ms : List Move). Assigned index start start
            c.args.changes.now ms) (sym c.new-moves.ensures.items)
            (assigned_start index start c.args.changes.now placed),
      );
}

pub assign_one-requires-clause-fits : goal.assign_one-requires-clause-fits
assign_one-requires-clause-fits g c = c.requires.fits c.loop-change.change-index
    c.change-item.result
    (slice_get_read c.args.changes.now (length c.args.changes.now) c.loop-change.change-index
    c.change-item.result refl c.loop-change-test.true c.change-item.is)

pub assign_one-requires-clause-space : goal.assign_one-requires-clause-space
assign_one-requires-clause-space g c = space-step (finite.get (g.I.Index.entries
    c.args.index.now)) c.args.changes.now c.loop-change.change-index c.change-item.result
    c.args.rooms.now.items c.loop-change.rooms.items
    (c.requires.ends.count ∙ sym c.loop-change.invariant.ends.count)
    (slice_get_read c.args.changes.now (length c.args.changes.now) c.loop-change.change-index
    c.change-item.result refl c.loop-change-test.true c.change-item.is) c.requires.space
    c.loop-change.invariant.counted

pub returns-in_err-step-clause-reads : goal.returns-in_err-step-clause-reads
returns-in_err-step-clause-reads g c = at_most-then g.D.Disk c.loop-change.change-index 1
    (length c.args.changes.now) _ _ _ (let a = c.loop-change-test.true in omega arith)
    c.loop-change.invariant.reads c.assign_one.ensures.reads

pub returns-in_err-append-clause-reads : goal.returns-in_err-append-clause-reads
returns-in_err-append-clause-reads g c = at_most-then g.D.Disk c.loop-change.change-index 1
    (length c.args.changes.now) _ _ _ (let a = c.loop-change-test.true in omega arith)
    c.loop-change.invariant.reads c.assign_one.ensures.reads

pub loop-change-preserved : goal.loop-change-preserved
loop-change-preserved g c =
    let index = finite.get (g.I.Index.entries c.args.index.now) in
    let items = c.in_ok-append.ensures.ok in
    let number : length c.loop-change.moves.items ≡ c.loop-change.change-index =
    c.loop-change.invariant.count in
    let here : slice_get c.args.changes.now (length c.loop-change.moves.items)
    ≡ Some c.change-item.result =
    ap (slice_get c.args.changes.now) number
    ∙ slice_get_read c.args.changes.now (length c.args.changes.now) c.loop-change.change-index
    c.change-item.result refl c.loop-change-test.true c.change-item.is in
    record {
      reads = at_most-then g.D.Disk c.loop-change.change-index 1 (c.loop-change.change-index + 1) _
          _ _ (omega arith) c.loop-change.invariant.reads c.assign_one.ensures.reads;
      faults = c.in_ok-step.ensures.cause ∙ c.loop-change.invariant.faults;
      ends = c.assign_one.ensures.ends;
      count = ap length items ∙ length-append c.loop-change.moves.items (c.in_ok-step.step ∷ [])
          ∙ ap (λ n. n + 1) number;
      counted = lengths-same (λ k. needed index (take c.loop-change.change-index c.args.changes.now)
          k + new_in (new_class index c.change-item.result) k)
          (needed index (take (c.loop-change.change-index + 1) c.args.changes.now)) (λ _. 0)
          (λ _. 0) c.args.rooms.now.items c.assign_one.new.rooms.items
          (λ k. sym (needed-more index c.args.changes.now c.loop-change.change-index
          c.change-item.result k (slice_get_read c.args.changes.now (length c.args.changes.now)
          c.loop-change.change-index c.change-item.result refl c.loop-change-test.true
          c.change-item.is)))
          (λ _. refl)
          (lengths-taken (needed index (take c.loop-change.change-index c.args.changes.now))
          (new_in (new_class index c.change-item.result)) c.args.rooms.now.items
          c.loop-change.rooms.items c.assign_one.new.rooms.items
          (c.requires.ends.count ∙ sym c.loop-change.invariant.ends.count)
          c.loop-change.invariant.counted c.in_ok-step.ensures.counted);
      lefts = subst (λ (ms : List Move). (i : ℕ) (ch : Change) (m : Move)
          → IsPair c.args.changes.now ms i ch m → m.left ≡ left_by index ch) (sym items)
          (pair-step (λ ch m. m.left ≡ left_by index ch) c.args.changes.now
          c.loop-change.moves.items c.change-item.result c.in_ok-step.step here
          c.in_ok-step.ensures.left c.loop-change.invariant.lefts);
      each = subst (λ (ms : List Move). (i : ℕ) (ch : Change) (m : Move)
          → IsPair c.args.changes.now ms i ch m → IsMove index ch m) (sym items)
          (each-step index c.args.changes.now c.loop-change.moves.items c.change-item.result
          c.in_ok-step.step here c.in_ok-step.ensures.is c.loop-change.invariant.each);
      assigned = λ told start rooms placed linked.
          let reading = slot_at all_classes (g.D.Disk.seen c.args.disk.now.disk) in
          let goes : (old : Rooms) → AreRooms c.loop-change.rooms.items old → AreLinked reading old
          → (new : Rooms) × AreRooms c.assign_one.new.rooms.items new
          × GoesTo index c.change-item.result c.in_ok-step.step old new =
          λ old kept old_linked. c.in_ok-step.ensures.goes told old kept
          (subst (λ (image : Image). AreLinked (slot_at all_classes image) old)
          (sym (c.loop-change.invariant.reads.reads.seen told)) old_linked) in
          subst (λ (ms : List Move). SoFar index reading c.assign_one.new.rooms.items start
          c.args.changes.now ms) (sym items)
          (assign-step index reading c.loop-change.rooms.items c.assign_one.new.rooms.items start
          c.args.changes.now c.loop-change.moves.items c.requires.distinct
          c.change-item.result c.in_ok-step.step here c.in_ok-step.ensures.is
          c.in_ok-step.ensures.left goes
          (c.loop-change.invariant.assigned told start rooms placed linked));
    }

pub returns-clause-counted : goal.returns-clause-counted
returns-clause-counted g c =
    subst (λ (cs : List Change). HaveLengths (needed (finite.get
    (g.I.Index.entries c.args.index.now)) cs) (λ _. 0) c.args.rooms.now.items
    c.loop-change.rooms.items)
    (take_all c.loop-change.change-index c.args.changes.now c.loop-change-test.false)
    c.loop-change.invariant.counted
