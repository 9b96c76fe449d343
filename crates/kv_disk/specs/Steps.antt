-- What one call of a disk does, and what a run of calls that only read leaves, in words over the
-- members of the trait.
use Rattle.std.specs.Prelude.{◌≡◌, ℕ, ◌+◌, ◌≤◌, List, Result, IsTrue, OnOk, OnErr}
use Rattle.kv_base.specs.Fault.{HasCause, Counted}
use Rattle.kv_base.specs.Image.{with_page}
use Rattle.kv_base.specs.Crash.{MayLeave, Only, NoMore, Same, Adds, WrittenOrNot, Advances}
use Rattle.kv_base.specs.Crash.{LeavesOnly}
use Rattle.kv_disk.specs.declared.disk.Disk.{Ghosts}

-- one call was made, and a fault is counted exactly where it failed
pub record IsCounted {D T E : Type 0} (d : Ghosts D) (old new : D) (result : Result T E) :
    Type 0 where
  pub past : Advances (d.calls old) (d.calls new) (d.leaves old) (d.leaves new)
  pub cause : HasCause (d.faults old) (d.faults new) result
  pub counted : Counted (d.faults old) (d.faults new) result

-- a call that changes neither what is read nor what a crash may leave
pub record Looks {D T E : Type 0} (d : Ghosts D) (old new : D) (result : Result T E) :
    Type 0 where
  pub seen : IsTrue d.tells → d.seen new ≡ d.seen old
  pub crash : Same (d.leaves old (d.calls old)) (d.leaves new (d.calls new))
  pub call : IsCounted d old new result

-- a call that writes this content to this page
pub record WritesPage {D T E : Type 0} (d : Ghosts D) (file page : ℕ) (content : List ℕ)
    (old new : D) (result : Result T E) : Type 0 where
  pub written : IsTrue d.tells
      → OnOk result (d.seen new ≡ with_page (d.seen old) file page content)
  pub seen : IsTrue d.tells → WrittenOrNot file page content (d.seen old) (d.seen new)
  pub crash : Adds file page content result (d.leaves old (d.calls old))
      (d.leaves new (d.calls new))
  pub call : IsCounted d old new result

-- a call that makes all writes so far durable
pub record Syncs {D T E : Type 0} (d : Ghosts D) (old new : D) (result : Result T E) :
    Type 0 where
  pub seen : IsTrue d.tells → d.seen new ≡ d.seen old
  pub durable : OnOk result (Only (d.seen new) (d.leaves new (d.calls new)))
  pub undone : OnErr result (Same (d.leaves old (d.calls old)) (d.leaves new (d.calls new)))
  pub crash : NoMore (d.leaves old (d.calls old)) (d.leaves new (d.calls new))
  pub call : IsCounted d old new result

-- any number of calls that only read: what is read stays, a crash leaves the same as before, and at
-- each moment meanwhile no more than that
pub record OnlyReads {D : Type 0} (d : Ghosts D) (old new : D) : Type 0 where
  pub seen : IsTrue d.tells → d.seen new ≡ d.seen old
  pub crash : Same (d.leaves old (d.calls old)) (d.leaves new (d.calls new))
  pub any_moment : LeavesOnly (d.calls old) (d.calls new) (d.leaves old) (d.leaves new)
      (MayLeave (d.leaves old (d.calls old)))
  pub later : d.faults old ≤ d.faults new

-- at most so many calls, which only read
pub record ReadsAtMost {D : Type 0} (d : Ghosts D) (most : ℕ) (old new : D) : Type 0 where
  pub reads : OnlyReads d old new
  pub count : d.calls new ≤ d.calls old + most
