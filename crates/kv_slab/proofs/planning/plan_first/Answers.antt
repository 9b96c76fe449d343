use Rattle.std.specs.List.{slice_get}
use Rattle.std.proofs.Common.{◌≡◌, ◌+◌, ℕ, List, Some, get_or, length, refl, sym, subst, ap, arith}
use Rattle.std.proofs.Common.{◌≤◌, ◌∙◌}
use Rattle.std.proofs.lemmas.Option.{slice_get-get_or, slice_get_read}
use Rattle.kv_base.specs.Image.{Image}
use Rattle.kv_model.specs.Layout.{all_classes}
use Rattle.kv_model.specs.Reading.{slot_at}
use Rattle.kv_slab.specs.declared.page.Page.{Page}
use Rattle.kv_slab.specs.declared.moves.Move.{Move}
use Rattle.kv_slab.specs.Pages.{over, ArePages}
use Rattle.kv_slab.specs.Moves.{FirstSoFar, StillFirst, StillBeside, IsWritten, IsWhole, AreWhole}
use Rattle.kv_slab.specs.Moves.{to_of}
use Rattle.kv_slab.specs.Floor.{HasFloorUpTo}
use Rattle.kv_disk.proofs.StepsLemmas.{at_most-none, at_most-then}
use Rattle.kv_slab.proofs.SoFarLemmas.{first_start, first_more, still_first-more, whole_more}
use Rattle.kv_slab.proofs.planning.plan_first.Goals as goal

pub loop-i-init : goal.loop-i-init
loop-i-init g c = record {
  reads = at_most-none g.D.Disk 0 c.args.disk.now.disk;
  faults = refl;
  first = λ _ _.
      subst (λ (ps : List Page). FirstSoFar c.args.changes.now c.args.moves.now 0
      (slot_at all_classes (g.D.Disk.seen c.args.disk.now.disk))
      (slot_at all_classes (over (g.D.Disk.seen c.args.disk.now.disk) ps)))
      (sym c.new-round.ensures)
      (first_start c.args.changes.now c.args.moves.now (slot_at all_classes
      (g.D.Disk.seen c.args.disk.now.disk)));
  still = λ _. subst (λ (ps : List Page). StillFirst c.args.moves.now
      (g.D.Disk.seen c.args.disk.now.disk) (over (g.D.Disk.seen c.args.disk.now.disk) ps))
      (sym c.new-round.ensures) (λ cl s none. record {
        small = λ _. refl;
        large =
            λ _ page below. refl;
      });
  whole = λ _ _ i ch m t below. absurd (omega arith);
  floor = λ _ bound up bounded. subst (λ (ps : List Page). HasFloorUpTo bound
      (over (g.D.Disk.seen c.args.disk.now.disk) ps)) (sym c.new-round.ensures) bounded;
  pages = subst (λ (ps : List Page). ArePages ps) (sym c.new-round.ensures)
      (record { apart = tt; of_slabs = tt });
  count = let e : length c.new-round.result ≡ 0 = ap length c.new-round.ensures in omega
      arith;
}

pub first_one-requires-clause-hold : goal.first_one-requires-clause-hold
first_one-requires-clause-hold g c =
    c.requires.hold c.loop-i.i c.index-changes-i.result (get_or c.args.moves.now c.loop-i.i
    c.index-moves-i.result)
    (record {
      change = slice_get_read c.args.changes.now (length c.args.changes.now) c.loop-i.i
          c.index-changes-i.result refl c.loop-i-test.true c.index-changes-i.is;
      move = slice_get-get_or c.args.moves.now c.loop-i.i c.index-moves-i.result
          (let a = c.loop-i-test.true in let b = c.requires.count in omega arith);
    })

pub returns-in_err-first_one-clause-reads : goal.returns-in_err-first_one-clause-reads
returns-in_err-first_one-clause-reads g c = at_most-then g.D.Disk c.loop-i.i 1
    (length c.args.changes.now) _ _ _ (let a = c.loop-i-test.true in omega arith)
    c.loop-i.invariant.reads c.first_one.ensures.reads

pub loop-i-preserved : goal.loop-i-preserved
loop-i-preserved g c =
    let move : Move = get_or c.args.moves.now c.loop-i.i c.index-moves-i.result in
    let at : slice_get c.args.moves.now c.loop-i.i ≡ Some move = slice_get-get_or c.args.moves.now
    c.loop-i.i c.index-moves-i.result (let a = c.loop-i-test.true in let b = c.requires.count in
    omega arith) in
    record {
      reads = at_most-then g.D.Disk c.loop-i.i 1 (c.loop-i.i + 1) _ _ _ (omega arith)
          c.loop-i.invariant.reads c.first_one.ensures.reads;
      faults = c.in_ok-first_one.ensures.cause ∙ c.loop-i.invariant.faults;
      first = λ told apart.
          first_more c.args.changes.now c.args.moves.now c.loop-i.i
          (slot_at all_classes (g.D.Disk.seen c.args.disk.now.disk))
          (slot_at all_classes (over (g.D.Disk.seen c.args.disk.now.disk) c.loop-i.round))
          (slot_at all_classes (over (g.D.Disk.seen c.args.disk.now.disk)
          c.first_one.new.round)) c.index-changes-i.result move apart
          (record {
            change = slice_get_read c.args.changes.now (length c.args.changes.now) c.loop-i.i
                c.index-changes-i.result refl c.loop-i-test.true c.index-changes-i.is;
            move = at;
          })
          (c.loop-i.invariant.first told apart)
          (subst
          (λ (im : Image). IsWritten c.index-changes-i.result
          (to_of move.to c.index-changes-i.result.value)
          (slot_at all_classes (over im c.loop-i.round))
          (slot_at all_classes (over im c.first_one.new.round)))
          (c.loop-i.invariant.reads.reads.seen told) (c.in_ok-first_one.ensures.written told));
      still = λ told. still_first-more c.args.moves.now (g.D.Disk.seen c.args.disk.now.disk)
          (over (g.D.Disk.seen c.args.disk.now.disk) c.loop-i.round)
          (over (g.D.Disk.seen c.args.disk.now.disk) c.first_one.new.round)
          c.loop-i.i move at
          (subst (λ (im : Image). StillBeside move.to (over im c.loop-i.round)
          (over im c.first_one.new.round)) (c.loop-i.invariant.reads.reads.seen told)
          (c.in_ok-first_one.ensures.still told))
          (c.loop-i.invariant.still told);
      whole = λ told apart. whole_more c.args.changes.now c.args.moves.now c.loop-i.i
          (over (g.D.Disk.seen c.args.disk.now.disk) c.loop-i.round)
          (over (g.D.Disk.seen c.args.disk.now.disk) c.first_one.new.round)
          c.index-changes-i.result move apart
          (record {
            change = slice_get_read c.args.changes.now (length c.args.changes.now) c.loop-i.i
                c.index-changes-i.result refl c.loop-i-test.true c.index-changes-i.is;
            move = at;
          })
          (subst (λ (im : Image). IsWhole c.index-changes-i.result
          (to_of move.to c.index-changes-i.result.value) (over im c.first_one.new.round))
          (c.loop-i.invariant.reads.reads.seen told) (c.in_ok-first_one.ensures.whole told))
          (subst (λ (im : Image). StillBeside move.to (over im c.loop-i.round)
          (over im c.first_one.new.round)) (c.loop-i.invariant.reads.reads.seen told)
          (c.in_ok-first_one.ensures.still told))
          (c.loop-i.invariant.whole told apart);
      floor = λ told bound up bounded.
          subst (λ (im : Image). (n : ℕ) → c.index-changes-i.result.stamp ≤ n
          → HasFloorUpTo n (over im c.loop-i.round)
          → HasFloorUpTo n (over im c.first_one.new.round))
          (c.loop-i.invariant.reads.reads.seen told) (c.in_ok-first_one.ensures.floor told)
          bound (up c.loop-i.i c.index-changes-i.result (slice_get_read c.args.changes.now
          (length c.args.changes.now) c.loop-i.i c.index-changes-i.result refl
          c.loop-i-test.true c.index-changes-i.is))
          (c.loop-i.invariant.floor told bound up bounded);
      pages = c.first_one.ensures.pages;
      count = omega (arith, c.first_one.ensures.count, c.loop-i.invariant.count);
    }

pub returns-clause-whole : goal.returns-clause-whole
returns-clause-whole g c = λ told apart.
    let a = c.loop-i-test.false in
    let b = c.loop-i.auto.i-end in
    let e : c.loop-i.i ≡ length c.args.changes.now = omega arith in
    subst (λ (n : ℕ). AreWhole c.args.changes.now c.args.moves.now n
    (over (g.D.Disk.seen c.args.disk.now.disk) c.loop-i.round)) e
    (c.loop-i.invariant.whole told apart)

pub returns-clause-first : goal.returns-clause-first
returns-clause-first g c = λ told apart.
    let a = c.loop-i-test.false in
    let b = c.loop-i.auto.i-end in
    let e : c.loop-i.i ≡ length c.args.changes.now = omega arith in
    subst (λ (n : ℕ). FirstSoFar c.args.changes.now c.args.moves.now n
    (slot_at all_classes (g.D.Disk.seen c.args.disk.now.disk))
    (slot_at all_classes (over (g.D.Disk.seen c.args.disk.now.disk) c.loop-i.round))) e
    (c.loop-i.invariant.first told apart)
