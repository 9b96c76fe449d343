-- the law of the disk's trait
use Rattle.kv_serve.proofs.serve.disks_tell.Goals as goal

pub returns : goal.returns
returns g c = g.met.D.Disk.told
