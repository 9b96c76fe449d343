use Rattle.std.specs.List.{slice_get}
use Rattle.std.proofs.Common.{◌≡◌, ◌+◌, ◌∙◌, ℕ, List, Option, None, Some, get_or, length, refl, sym}
use Rattle.std.proofs.Common.{subst, ap, arith, ◌≤◌}
use Rattle.std.proofs.lemmas.Option.{slice_get-get_or, slice_get_read}
use Rattle.kv_base.specs.Image.{Image}
use Rattle.kv_model.specs.Layout.{all_classes}
use Rattle.kv_model.specs.Reading.{slot_at}
use Rattle.kv_slab.specs.declared.page.Page.{Page}
use Rattle.kv_slab.specs.Pages.{over, ArePages}
use Rattle.kv_slab.specs.Moves.{SecondSoFar, StillSecond, StillBeside, IsVacated}
use Rattle.kv_slab.specs.Floor.{HasFloorUpTo}
use Rattle.kv_slab.specs.Images.{StillLater}
use Rattle.kv_disk.proofs.StepsLemmas.{at_most-none, at_most-then}
use Rattle.kv_slab.proofs.SoFarLemmas.{second_start, second_more, still_second-more}
use Rattle.kv_slab.proofs.planning.plan_second.Goals as goal

pub loop-i-init : goal.loop-i-init
loop-i-init g c =
    let base = over (g.D.Disk.seen c.args.disk.now.disk) c.args.first.now in
    record {
      reads = at_most-none g.D.Disk 0 c.args.disk.now.disk;
      faults = refl;
      second = λ _ _.
          subst (λ (ps : List Page). SecondSoFar c.args.moves.now c.args.links.now 0
          (slot_at all_classes base) (slot_at all_classes (over base ps)))
          (sym c.new-round.ensures)
          (second_start c.args.moves.now c.args.links.now (slot_at all_classes base));
      still = λ _. subst (λ (ps : List Page). StillSecond c.args.moves.now base (over base ps))
          (sym c.new-round.ensures) (λ cl s none. record {
            small = λ _. refl;
            large =
                λ _ page below. refl;
          });
      later = λ _. subst (λ (ps : List Page). StillLater base (over base ps))
          (sym c.new-round.ensures) (λ cl p above limit out. refl);
      floor = λ _ bound up bounded. subst (λ (ps : List Page). HasFloorUpTo bound (over base ps))
          (sym c.new-round.ensures) bounded;
      pages = subst (λ (ps : List Page). ArePages ps) (sym c.new-round.ensures)
          (record { apart = tt; of_slabs = tt });
      count = let e : length c.new-round.result ≡ 0 = ap length c.new-round.ensures in
          omega arith;
    }

pub second_one-requires-clause-place : goal.second_one-requires-clause-place
second_one-requires-clause-place g c = c.requires.places c.loop-i.i c.index-moves-i.result
    (slice_get_read c.args.moves.now (length c.args.moves.now) c.loop-i.i c.index-moves-i.result
    refl c.loop-i-test.true c.index-moves-i.is)

pub second_one-requires-clause-link : goal.second_one-requires-clause-link
second_one-requires-clause-link g c = c.requires.small c.loop-i.i
    (get_or c.args.links.now c.loop-i.i None)
    (slice_get-get_or c.args.links.now c.loop-i.i None (let a = c.loop-i-test.true in let b =
    c.requires.count in omega arith))

pub returns-in_err-second_one-clause-reads : goal.returns-in_err-second_one-clause-reads
returns-in_err-second_one-clause-reads g c = at_most-then g.D.Disk c.loop-i.i 1
    (length c.args.moves.now) _ _ _ (let a = c.loop-i-test.true in omega arith)
    c.loop-i.invariant.reads c.second_one.ensures.reads

pub loop-i-preserved : goal.loop-i-preserved
loop-i-preserved g c =
    let link : Option ℕ = get_or c.args.links.now c.loop-i.i None in
    let linked : slice_get c.args.links.now c.loop-i.i ≡ Some link = slice_get-get_or
    c.args.links.now c.loop-i.i None (let a = c.loop-i-test.true in let b = c.requires.count in
    omega arith) in
    let at : slice_get c.args.moves.now c.loop-i.i ≡ Some c.index-moves-i.result = slice_get_read
    c.args.moves.now (length c.args.moves.now) c.loop-i.i c.index-moves-i.result refl
    c.loop-i-test.true c.index-moves-i.is in
    let base = over (g.D.Disk.seen c.args.disk.now.disk) c.args.first.now in
    record {
      reads = at_most-then g.D.Disk c.loop-i.i 1 (c.loop-i.i + 1) _ _ _ (omega arith)
          c.loop-i.invariant.reads c.second_one.ensures.reads;
      faults = c.in_ok-second_one.ensures.cause ∙ c.loop-i.invariant.faults;
      second = λ told apart.
          second_more c.args.moves.now c.args.links.now c.loop-i.i (slot_at all_classes base)
          (slot_at all_classes (over base c.loop-i.round))
          (slot_at all_classes (over base c.second_one.new.round)) c.index-moves-i.result link
          apart at linked
          (c.loop-i.invariant.second told apart)
          (subst
          (λ (im : Image). IsVacated c.index-moves-i.result.stamp c.index-moves-i.result.left link
          (slot_at all_classes (over (over im c.args.first.now) c.loop-i.round))
          (slot_at all_classes (over (over im c.args.first.now) c.second_one.new.round)))
          (c.loop-i.invariant.reads.reads.seen told) (c.in_ok-second_one.ensures.vacated told));
      still = λ told. still_second-more c.args.moves.now base (over base c.loop-i.round)
          (over base c.second_one.new.round)
          c.loop-i.i c.index-moves-i.result at
          (subst (λ (im : Image). StillBeside c.index-moves-i.result.left
          (over (over im c.args.first.now) c.loop-i.round)
          (over (over im c.args.first.now) c.second_one.new.round))
          (c.loop-i.invariant.reads.reads.seen told) (c.in_ok-second_one.ensures.still told))
          (c.loop-i.invariant.still told);
      later = λ told cl p above limit out.
          subst (λ (im : Image). StillLater (over (over im c.args.first.now) c.loop-i.round)
          (over (over im c.args.first.now) c.second_one.new.round))
          (c.loop-i.invariant.reads.reads.seen told) (c.in_ok-second_one.ensures.later told) cl
          p above limit out
          ∙ c.loop-i.invariant.later told cl p above limit out;
      floor = λ told bound up bounded.
          subst (λ (im : Image). (n : ℕ) → c.index-moves-i.result.stamp ≤ n
          → HasFloorUpTo n (over (over im c.args.first.now) c.loop-i.round)
          → HasFloorUpTo n (over (over im c.args.first.now) c.second_one.new.round))
          (c.loop-i.invariant.reads.reads.seen told) (c.in_ok-second_one.ensures.floor told)
          bound (up c.loop-i.i c.index-moves-i.result at) (c.loop-i.invariant.floor told bound up
          bounded);
      pages = c.second_one.ensures.pages;
      count = omega (arith, c.second_one.ensures.count, c.loop-i.invariant.count);
    }

pub returns-clause-second : goal.returns-clause-second
returns-clause-second g c = λ told apart.
    let a = c.loop-i-test.false in
    let b = c.loop-i.auto.i-end in
    let e : c.loop-i.i ≡ length c.args.moves.now = omega arith in
    subst (λ (n : ℕ). SecondSoFar c.args.moves.now c.args.links.now n
    (slot_at all_classes (over (g.D.Disk.seen c.args.disk.now.disk) c.args.first.now))
    (slot_at all_classes (over (over (g.D.Disk.seen c.args.disk.now.disk) c.args.first.now)
    c.loop-i.round))) e (c.loop-i.invariant.second told apart)
