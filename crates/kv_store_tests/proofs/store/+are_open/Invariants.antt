-- There are fewer tasks each time.
use Rattle.std.proofs.Common.{length}
use Rattle.kv_store_tests.proofs.store.+are_open.Given as goal

abbrev pub decreases-are_open : goal.decreases-are_open
decreases-are_open l = length l.tasks.now
