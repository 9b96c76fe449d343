-- One disk less is left.
use Rattle.std.proofs.Common.{length}
use Rattle.kv_mesh_tests.proofs.stores.+open_rest.Given as goal

abbrev pub decreases-open_rest : goal.decreases-open_rest
decreases-open_rest g l = length l.disks.items
