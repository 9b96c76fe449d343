-- One slot more.
use Rattle.std.proofs.Common.{◌≡◌, ◌+◌, subst, arith, ◌∙◌, below_more}
use Rattle.kv_recover.specs.Large.{HasFoundLarge, IsWholeSlot}
use Rattle.kv_disk.proofs.StepsLemmas.{reads-then}
use Rattle.kv_recover.proofs.large.find_large_slots.Goals as goal

pub returns-in_err-seen-clause-reads : goal.returns-in_err-seen-clause-reads
returns-in_err-seen-clause-reads g c =
    reads-then g.D.Disk _ _ _ c.loop-slot.invariant.reads c.find_large_at.ensures.reads

pub loop-slot-preserved : goal.loop-slot-preserved
loop-slot-preserved g c = record {
  reads = reads-then g.D.Disk _ _ _ c.loop-slot.invariant.reads c.find_large_at.ensures.reads;
  calm = c.in_ok-seen.ensures.faults ∙ c.loop-slot.invariant.calm;
  whole = λ tells. below_more (IsWholeSlot (g.D.Disk.seen c.args.disk.now) c.args.class)
      c.loop-slot.slot (c.loop-slot.invariant.whole tells)
      (subst (λ image. IsWholeSlot image c.args.class c.loop-slot.slot)
      (c.loop-slot.invariant.reads.seen tells) (c.in_ok-seen.ensures.whole tells));
  behind = c.in_ok-seen.ensures.end;
  placed = λ ends placed. c.in_ok-seen.ensures.placed ends
      (c.loop-slot.invariant.placed ends placed);
  counted = c.in_ok-seen.ensures.counted;
  owned = c.in_ok-seen.ensures.owned;
  found = λ tells start.
      subst (λ image. HasFoundLarge image c.args.share.worker c.args.share.workers c.args.class
      c.loop-slot.slot (g.I.Index.entries c.loop-slot.items.index) c.loop-slot.seen.floor
      c.loop-slot.seen.end
      → HasFoundLarge image c.args.share.worker c.args.share.workers c.args.class
      (c.loop-slot.slot + 1) (g.I.Index.entries c.find_large_at.new.items.index) c.in_ok-seen.seen.floor
      c.in_ok-seen.seen.end) (c.loop-slot.invariant.reads.seen tells)
      (c.in_ok-seen.ensures.found tells) (c.loop-slot.invariant.found tells start);
}

pub returns-clause-found : goal.returns-clause-found
returns-clause-found g c = λ tells start.
    let all : c.loop-slot.slot ≡ c.args.slots = omega arith in
    subst (λ n. HasFoundLarge (g.D.Disk.seen c.args.disk.now) c.args.share.worker
    c.args.share.workers c.args.class n (g.I.Index.entries c.loop-slot.items.index)
    c.loop-slot.seen.floor c.loop-slot.seen.end) all (c.loop-slot.invariant.found tells start)

pub returns-clause-whole : goal.returns-clause-whole
returns-clause-whole g c = λ tells slot below. c.loop-slot.invariant.whole tells slot (omega arith)
