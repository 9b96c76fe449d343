-- a disk that leaves something tells what it reads
use Rattle.kv_mesh.proofs.BeginLemmas.{stores-begin}
use Rattle.kv_mesh.proofs.opening.opened_stores_begin.Goals as goal

pub returns : goal.returns
returns g c = stores-begin g.D.Disk g.I.Index g.met.D.Disk.told
