-- The laws that all parties stand on.
use Rattle.kv_disk.specs.declared.disk.Disk as disks
use Rattle.kv_parties.specs.Laws.{PromisesJoin, OwesNone, RecoveryJoins}
use Rattle.kv_worker_party.specs.Due.{DueAreTaken}

-- what stands where all promises are kept, which messages a worker answers then, and what a crash
-- leaves
pub record MeshLaws (F D : Type 0) (d : disks.Ghosts D) : Type 0 where
  pub join : PromisesJoin F D d
  pub owes : OwesNone F D d
  pub due : DueAreTaken F
  pub recovery : RecoveryJoins F D d
