-- Calls that only read, one behind the other.
use Rattle.std.proofs.Common.{ℕ, ◌+◌, ◌≤◌, Result, refl, ◌∙◌, arith}
use Rattle.kv_base.specs.Image.{Image}
use Rattle.kv_base.specs.Crash.{Choices, MayLeave, LeavesOnly}
use Rattle.kv_base.proofs.CrashLemmas.{started, stays, joins, weaker, same-trans, left-before}
use Rattle.kv_disk.specs.declared.disk.Disk.{Ghosts}
use Rattle.kv_disk.specs.Steps.{Looks, OnlyReads, ReadsAtMost}

-- no call
pub reads-none : {D : Type 0} (d : Ghosts D) (disk : D) → OnlyReads d disk disk
reads-none d disk = record {
  seen = λ _. refl;
  crash = record { no_more = λ f p c left. left; no_less = λ f p c left. left };
  any_moment = started (d.calls disk) (d.leaves disk) (MayLeave (d.leaves disk (d.calls disk)))
      (λ image left. left);
  later = omega arith;
}

-- one call
pub reads-one : {D T E : Type 0} (d : Ghosts D) (old new : D) (result : Result T E)
    → Looks d old new result → OnlyReads d old new
reads-one d old new result looks = record {
  seen = looks.seen;
  crash = looks.crash;
  any_moment = stays (d.calls old) (d.calls old) (d.calls new) (d.leaves old) (d.leaves old)
      (d.leaves new) (MayLeave (d.leaves old (d.calls old)))
      (started (d.calls old) (d.leaves old) (MayLeave (d.leaves old (d.calls old)))
      (λ image left. left)) looks.call.past looks.crash.no_more;
  later = looks.call.cause.later;
}

-- calls behind others
pub reads-then : {D : Type 0} (d : Ghosts D) (old mid new : D) → OnlyReads d old mid
    → OnlyReads d mid new → OnlyReads d old new
reads-then d old mid new first next = record {
  seen = λ tells. next.seen tells ∙ first.seen tells;
  crash = same-trans (d.leaves old (d.calls old)) (d.leaves mid (d.calls mid))
      (d.leaves new (d.calls new)) first.crash next.crash;
  any_moment = joins (d.calls old) (d.calls mid) (d.calls new) (d.leaves old) (d.leaves mid)
      (d.leaves new) (MayLeave (d.leaves old (d.calls old))) first.any_moment
      (weaker (d.calls mid) (d.calls new) (d.leaves mid) (d.leaves new)
      (MayLeave (d.leaves mid (d.calls mid))) (MayLeave (d.leaves old (d.calls old)))
      next.any_moment
      (λ image left. left-before (d.leaves old (d.calls old)) (d.leaves mid (d.calls mid)) image
      first.crash.no_more left));
  later = omega (arith, first.later, next.later);
}

-- no call is at most any number
pub at_most-none : {D : Type 0} (d : Ghosts D) (most : ℕ) (disk : D) → ReadsAtMost d most disk disk
at_most-none d most disk = record { reads = reads-none d disk; count = omega arith }

-- one call
pub at_most-one : {D T E : Type 0} (d : Ghosts D) (old new : D) (result : Result T E)
    → Looks d old new result → ReadsAtMost d 1 old new
at_most-one d old new result looks = record {
  reads = reads-one d old new result looks;
  count = omega (arith, looks.call.past.counted);
}

-- calls behind others
pub at_most-then : {D : Type 0} (d : Ghosts D) (m n most : ℕ) (old mid new : D) → m + n ≤ most
    → ReadsAtMost d m old mid → ReadsAtMost d n mid new → ReadsAtMost d most old new
at_most-then d m n most old mid new sum first next = record {
  reads = reads-then d old mid new first.reads next.reads;
  count = omega (arith, first.count, next.count, sum);
}

-- the same calls, of which more are allowed
pub at_most-more : {D : Type 0} (d : Ghosts D) (m most : ℕ) (old new : D) → m ≤ most
    → ReadsAtMost d m old new → ReadsAtMost d most old new
at_most-more d m most old new more reads = record {
  reads = reads.reads;
  count = omega (arith, reads.count, more);
}

-- a run goes on with calls that only read
pub reads_on : {D : Type 0} (d : Ghosts D) (from : ℕ) (past : ℕ → Choices) (P : Image → Type 0)
    (mid new : D) → LeavesOnly from (d.calls mid) past (d.leaves mid) P → OnlyReads d mid new
    → LeavesOnly from (d.calls new) past (d.leaves new) P
reads_on d from past P mid new so_far reads =
    joins from (d.calls mid) (d.calls new) past (d.leaves mid) (d.leaves new) P so_far
    (weaker (d.calls mid) (d.calls new) (d.leaves mid) (d.leaves new)
    (MayLeave (d.leaves mid (d.calls mid))) P reads.any_moment
    (λ image left. so_far.each (d.calls mid) so_far.later (omega arith) image left))
