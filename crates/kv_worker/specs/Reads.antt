-- A store while a batch is answered: it is only read.
use Rattle.std.specs.Prelude.{◌≡◌, ℕ, false}
use Rattle.std.specs.FinMap as finite
use Rattle.kv_disk.specs.Steps.{ReadsAtMost}
use Rattle.kv_disk.specs.declared.disk.Disk as disks
use Rattle.kv_index.specs.declared.index.Index as indexes
use Rattle.kv_slab.specs.Moves.{ArePlaces}
use Rattle.kv_slab.specs.View.{View}

-- the store is open, and each of its items is in a slot of a slab
pub record IsReady {D I : Type 0} (i : indexes.Ghosts I) (store : View D I) : Type 0 where
  pub open_ : store.closed ≡ false
  pub places : ArePlaces (finite.get (i.entries store.index))

-- at most so many calls of the disk were made, which only read, and all else is as before
pub record HasRead {D I : Type 0} (d : disks.Ghosts D) (most : ℕ) (old new : View D I) :
    Type 0 where
  pub reads : ReadsAtMost d most old.disk.disk new.disk.disk
  pub rest : new ≡ record old { disk = new.disk }
