-- A store of which only what is kept for reading and planning changed.
use Rattle.std.proofs.Common.{◌≡◌, ℕ, ◌+◌, ◌≤◌, Bool, true, false, IsTrue, List, Option, None, Some}
use Rattle.std.proofs.Common.{option_map, refl, sym, ap, ◌∙◌, subst, arith}
use Rattle.std.specs.FinMap as finite
use Rattle.kv_base.specs.Image.{Image}
use Rattle.kv_base.specs.declared.limits.Limits.{Limits}
use Rattle.kv_disk.specs.Steps.{ReadsAtMost}
use Rattle.kv_disk.specs.declared.disk.Disk as disks
use Rattle.kv_disk.proofs.StepsLemmas.{at_most-then}
use Rattle.kv_index.specs.Entries.{Entries}
use Rattle.kv_index.specs.declared.entry.Entry.{Entry}
use Rattle.kv_index.specs.declared.index.Index as indexes
use Rattle.kv_model.specs.Layout.{all_classes}
use Rattle.kv_slab.specs.Given.{Answer}
use Rattle.kv_slab.specs.Memory.{items_in}
use Rattle.kv_slab.specs.View.{View, map_of, store_map}
use Rattle.kv_worker.specs.Reads.{HasRead}
use Rattle.kv_worker.specs.Worker.{start_of, value_told}

-- at most so many calls of the disk were made, which only read; the entries are as before, and all
-- else but the plan that is kept
pub record IsStill {D I : Type 0} (d : disks.Ghosts D) (i : indexes.Ghosts I) (most : ℕ)
    (old new : View D I) : Type 0 where
  pub reads : ReadsAtMost d most old.disk.disk new.disk.disk
  pub entries : i.entries new.index ≡ i.entries old.index
  pub rest : new ≡ record old { disk = new.disk; index = new.index; plan = new.plan }

-- a store that was only read is so
pub still-read : {D I : Type 0} (d : disks.Ghosts D) (i : indexes.Ghosts I) (most : ℕ)
    (old new : View D I) → HasRead d most old new → IsStill d i most old new
still-read {D} {I} d i most old new read = record {
  reads = read.reads;
  entries = ap (λ (v : View D I). i.entries v.index) read.rest;
  rest = read.rest ∙ (λ j. record old {
    disk = new.disk;
    index = sym (ap (λ (v : View D I). v.index) read.rest) j;
    plan = sym (ap (λ (v : View D I). v.plan) read.rest) j;
  });
}

pub still-then : {D I : Type 0} (d : disks.Ghosts D) (i : indexes.Ghosts I) (m n most : ℕ)
    (old mid new : View D I) → m + n ≤ most → IsStill d i m old mid → IsStill d i n mid new
    → IsStill d i most old new
still-then {D} {I} d i m n most old mid new sum first next = record {
  reads = at_most-then d m n most old.disk.disk mid.disk.disk new.disk.disk sum first.reads
      next.reads;
  entries = next.entries ∙ first.entries;
  rest = next.rest ∙ ap (λ (v : View D I). record v {
    disk = new.disk;
    index = new.index;
    plan = new.plan;
  }) first.rest;
}

-- a store that was read, and then planned
pub still-plan : {D I : Type 0} (d : disks.Ghosts D) (i : indexes.Ghosts I) (m n most : ℕ)
    (old mid new : View D I) → m + n ≤ most → HasRead d m old mid
    → ReadsAtMost d n mid.disk.disk new.disk.disk → i.entries new.index ≡ i.entries mid.index
    → new ≡ record mid { disk = new.disk; index = new.index; plan = new.plan }
    → IsStill d i most old new
still-plan d i m n most old mid new sum read reads entries rest =
    still-then d i m n most old mid new sum (still-read d i m old mid read)
    (record { reads = reads; entries = entries; rest = rest })

-- of answers that are told, the same is told
pub value-same : (tells : Bool) (a b : Answer) (entry : Option Entry) → (IsTrue tells → a ≡ b)
    → value_told tells a entry ≡ value_told tells b entry
value-same true a b entry same = ap (option_map (λ given. given.1)) (same refl)
value-same false a b entry same = refl

-- where entries and limits are the same, and what is read is the same, a batch finds the same
pub same-start : {D I : Type 0} (d : disks.Ghosts D) (i : indexes.Ghosts I) (old new : View D I)
    → (IsTrue d.tells → d.seen new.disk.disk ≡ d.seen old.disk.disk)
    → i.entries new.index ≡ i.entries old.index → new.limits ≡ old.limits
    → start_of d i new ≡ start_of d i old
same-start d i old new seen entries limits = λ j. record {
  layout = all_classes;
  limit = (limits j).slots;
  value = λ key.
      (ap (λ (all : Entries). value_told d.tells
      (map_of (d.seen new.disk.disk) (finite.get all) key) (finite.get all key)) entries
      ∙ value-same d.tells
      (map_of (d.seen new.disk.disk) (finite.get (i.entries old.index)) key)
      (map_of (d.seen old.disk.disk) (finite.get (i.entries old.index)) key)
      (finite.get (i.entries old.index) key)
      (λ tells. ap (λ (image : Image). map_of image (finite.get (i.entries old.index)) key)
      (seen tells))) j;
  class = λ key. option_map (λ (e : Entry). e.place.class) (finite.get (entries j) key);
  items = λ class. items_in (entries j) class;
}

-- a batch finds the same at a store that is still
pub start-still : {D I : Type 0} (d : disks.Ghosts D) (i : indexes.Ghosts I) (most : ℕ)
    (old new : View D I) → IsStill d i most old new → start_of d i new ≡ start_of d i old
start-still {D} {I} d i most old new still = same-start d i old new still.reads.reads.seen
    still.entries (ap (λ (v : View D I). v.limits) still.rest)

-- the map is the same
pub map-still : {D I : Type 0} (d : disks.Ghosts D) (i : indexes.Ghosts I) (most : ℕ)
    (old new : View D I) → IsStill d i most old new → IsTrue d.tells
    → store_map d i new ≡ store_map d i old
map-still d i most old new still tells =
    ap (λ (all : Entries). map_of (d.seen new.disk.disk) (finite.get all)) still.entries
    ∙ ap (λ (image : Image). map_of image (finite.get (i.entries old.index)))
    (still.reads.reads.seen tells)
