-- The pages up to the file's length, and those past it.
use Rattle.kv_disk.proofs.StepsLemmas.{reads-then}
use Rattle.kv_recover.proofs.head.check_file.Goals as goal

pub returns-clause-reads : goal.returns-clause-reads
returns-clause-reads g c =
    reads-then g.D.Disk _ _ _ c.length_of.ensures.reads c.check_blanks.ensures.reads
