-- The laws on parties that have ended.
use Rattle.kv_disk.specs.declared.disk.Disk as disks
use Rattle.kv_parties.specs.Laws.{PromisesEnd, PromisesJoin, SpentHasCause}

-- where all promises are kept and no session waits no message was passed over, what stands then, and
-- when stamps are spent
pub record EndLaws (F D : Type 0) (d : disks.Ghosts D) : Type 0 where
  pub end : PromisesEnd F D d
  pub join : PromisesJoin F D d
  pub spent : SpentHasCause F D d
