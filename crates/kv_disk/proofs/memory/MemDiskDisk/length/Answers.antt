-- One call more, which changes nothing.
use Rattle.kv_disk.proofs.RecordedDiskLemmas.{idle-seen, keeps-past}
use Rattle.kv_disk.proofs.memory.MemDiskDisk.length.Goals as goal

pub returns-in_err-make-clause-seen : goal.returns-in_err-make-clause-seen
returns-in_err-make-clause-seen c _ = idle-seen _ _ _ c.in_err-make.ensures.kept c.make.ensures.recorded

pub returns-clause-seen : goal.returns-clause-seen
returns-clause-seen c _ = idle-seen _ _ _ c.in_ok-make.ensures.kept c.make.ensures.recorded

pub returns-clause-past : goal.returns-clause-past
returns-clause-past c = keeps-past _ _ _ _ c.in_ok-make.ensures.kept c.make.ensures.recorded
