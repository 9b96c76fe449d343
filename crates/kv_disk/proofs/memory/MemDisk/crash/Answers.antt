-- What is left is one of the images that may be left.
use Rattle.std.proofs.Common.{◌≡◌, ℕ, List, Result, Ok, Err, IfOk, sym, subst}
use Rattle.kv_base.specs.Crash.{MayLeave}
use Rattle.kv_disk.specs.Memory.{RecordedDisk, image_of, choices_of, crashed}
use Rattle.kv_disk.proofs.SettledLemmas.{crash_may_leave}
use Rattle.kv_disk.proofs.memory.MemDisk.crash.Goals as goal

left : {E : Type 0} (disk : RecordedDisk) (t : ℕ) (choice : List ℕ) (result : Result RecordedDisk E)
    → IfOk result (λ after. after ≡ crashed disk t choice)
    → IfOk result (λ after. MayLeave (choices_of disk t) (image_of after))
left disk t choice (Ok after) is =
    let Q : RecordedDisk → Type 0 = λ d. MayLeave (choices_of disk t) (image_of d) in
    subst Q (sym is) (crash_may_leave disk t choice)
left disk t choice (Err e) is = tt

pub returns-clause-left : goal.returns-clause-left
returns-clause-left c = left c.args.self.now c.args.moment c.args.choice.now c.replay.result
    c.replay.ensures
