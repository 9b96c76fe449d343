-- One call more, of a sync.
use Rattle.kv_disk.proofs.RecordedDiskLemmas.{syncs-crash, keeps-past}
use Rattle.kv_disk.proofs.memory.MemDiskDisk.sync.Goals as goal

pub returns-clause-crash : goal.returns-clause-crash
returns-clause-crash c = syncs-crash _ _ c.make.result (record {
  failed = c.make.ensures.failed;
  kept = c.make.ensures.kept;
}) c.make.ensures.recorded

pub returns-clause-past : goal.returns-clause-past
returns-clause-past c = keeps-past _ _ _ c.make.result c.make.ensures.kept c.make.ensures.recorded
