-- One worker less is left.
use Rattle.std.proofs.Common.{◌-◌, length}
use Rattle.kv_serve.proofs.stores.+open_stores.Given as goal

abbrev pub decreases-open_stores : goal.decreases-open_stores
decreases-open_stores g l = l.workers - length l.stores.now.items
