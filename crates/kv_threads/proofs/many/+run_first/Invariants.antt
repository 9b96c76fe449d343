-- one party fewer waits
use Rattle.std.proofs.Common.{length}
use Rattle.kv_threads.proofs.many.+run_first.Given as goal

abbrev pub decreases-run_first : goal.decreases-run_first
decreases-run_first g l = length l.first.now.waiting
