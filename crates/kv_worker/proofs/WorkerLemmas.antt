-- What a worker knows of its store.
use Rattle.std.proofs.Common.{◌≡◌, ℕ, ◌+◌, ◌-◌, ◌≤◌, ◌<◌, Bool, true, false, IsTrue, List, Option, None, Some}
use Rattle.std.proofs.Common.{is_some, option_map, refl, sym, ap, ◌∙◌, arith, length, Result, Ok, Err}
use Rattle.std.specs.FinMap as finite
use Rattle.std.specs.List.{AllByRecursion}
use Rattle.kv_base.specs.Crash.{MayLeave, Only}
use Rattle.kv_base.specs.Image.{Image}
use Rattle.kv_base.specs.Limits.{AreLimits}
use Rattle.kv_base.specs.declared.reply.Reply.{Reply}
use Rattle.kv_base.specs.declared.request.Request.{Request}
use Rattle.kv_disk.specs.declared.disk.Disk as disks
use Rattle.kv_index.specs.declared.entry.Entry.{Entry}
use Rattle.kv_index.specs.declared.index.Index as indexes
use Rattle.kv_model.specs.Head.{IsWorker}
use Rattle.kv_model.specs.Layout.{all_classes}
use Rattle.kv_model.specs.Reading.{Reading, heads_at, slot_at}
use Rattle.kv_model.specs.Slots.{Item}
use Rattle.kv_model.proofs.PairwiseLemmas.{All-map}
use Rattle.kv_slab.specs.Floor.{HasFloorBelow, HasFloorUpTo}
use Rattle.kv_slab.specs.Rooms.{AreRooms, Rooms}
use Rattle.kv_slab.specs.Rounds.{answer_of, item_of}
use Rattle.kv_slab.specs.View.{Stands, View}
use Rattle.kv_worker.specs.Course.{AreClassed}
use Rattle.kv_worker.specs.Open.{AreBelow}
use Rattle.kv_worker.specs.Steps.{Steps}
use Rattle.kv_worker.specs.Worker.{WorkerView, start_of, value_told}

-- a key has a class where it has a value, by what is told of it
classed-told : (tells : Bool) (read : Reading) (key : List ℕ) (entry : Option Entry)
    → (IsTrue tells → (e : Entry) → entry ≡ Some e → (value : List ℕ)
    × (read e.place.class e.place.slot ≡ Item e.stamp key value))
    → is_some (option_map (λ e. e.place.class) entry)
    ≡ is_some (value_told tells (answer_of read entry) entry)
classed-told true read key None items = refl
classed-told false read key None items = refl
classed-told true read key (Some e) items =
    sym (ap (λ s. is_some (option_map (λ (given : ℕ × List ℕ). given.1) (item_of s)))
    (items refl e refl).1)
classed-told false read key (Some e) items = refl

-- at an open store a key is kept in a class exactly where it has a value
pub classed-open : {D I : Type 0} (d : disks.Ghosts D) (i : indexes.Ghosts I) (store : View D I)
    → (IsTrue d.tells → (rooms : Rooms) × AreRooms store.rooms rooms
    × Stands (d.seen store.disk.disk) (finite.get (i.entries store.index)) rooms store.worker
    store.workers) → AreClassed (start_of d i store)
classed-open d i store stands = λ key. classed-told d.tells
    (slot_at all_classes (d.seen store.disk.disk)) key (finite.get (i.entries store.index) key)
    (λ tells e is. (stands tells).2.items key e is)

-- a step speaks of the stores, and of the number behind it alone
pub steps-of : {D I : Type 0} (d : disks.Ghosts D) (i : indexes.Ghosts I) (old new : View D I)
    (before was high last : ℕ) (requests : List Request) (base : ℕ) (replies : List Reply)
    → high ≡ last → Steps d i (record { store = old; highest = before })
    (record { store = new; highest = high }) requests base replies
    → Steps d i (record { store = old; highest = was }) (record { store = new; highest = last })
    requests base replies
steps-of d i old new before was high last requests base replies same steps = record {
  outcome = steps.outcome;
  framed = steps.framed;
  highest = ap (λ n. n + 1) (sym same) ∙ steps.highest;
  kept = steps.kept;
  calls = steps.calls;
  any_moment = steps.any_moment;
  durable = steps.durable;
}
