-- one party fewer waits
use Rattle.std.proofs.Common.{length}
use Rattle.kv_threads.proofs.many.+run_second.Given as goal

abbrev pub decreases-run_second : goal.decreases-run_second
decreases-run_second g l = length l.second.now.waiting
