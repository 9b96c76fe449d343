-- One call more, of a write.
use Rattle.kv_disk.proofs.RecordedDiskLemmas.{writes-written, writes-seen, writes-crash, keeps-past}
use Rattle.kv_disk.proofs.memory.MemDiskDisk.write.Goals as goal

pub returns-clause-written : goal.returns-clause-written
returns-clause-written c _ = writes-written _ _ _ _ _ c.put.result c.put.ensures.writes
    c.put.ensures.recorded

pub returns-clause-seen : goal.returns-clause-seen
returns-clause-seen c _ = writes-seen _ _ _ _ _ c.put.result c.put.ensures.writes c.put.ensures.recorded

pub returns-clause-crash : goal.returns-clause-crash
returns-clause-crash c = writes-crash _ _ _ _ _ c.put.result c.put.ensures.writes c.put.ensures.recorded

pub returns-clause-past : goal.returns-clause-past
returns-clause-past c = keeps-past _ _ _ c.put.result c.put.ensures.writes.kept c.put.ensures.recorded
