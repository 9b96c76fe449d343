-- What a batch found out can be planned at the store that it read.
use Rattle.std.proofs.Common.{◌≡◌, ℕ, ◌+◌, ◌-◌, ◌*◌, ◌≤◌, ◌<◌, List, [], map, refl, sym, ap, ◌∙◌, subst, arith}
use Rattle.std.proofs.Common.{length, count_by, IsTrue, IsSome, None, Bool}
use Rattle.std.specs.FinMap as finite
use Rattle.std.specs.List.{AllByRecursion}
use Rattle.std.specs.Option.{option_map_or}
use Rattle.std.proofs.lemmas.List.{length-map}
use Rattle.kv_base.specs.declared.reply.Reply.{Reply}
use Rattle.kv_base.specs.declared.request.Request.{Request}
use Rattle.kv_disk.specs.Steps.{ReadsAtMost}
use Rattle.kv_disk.specs.declared.disk.Disk as disks
use Rattle.kv_index.specs.declared.entry.Entry.{Entry}
use Rattle.kv_index.specs.declared.index.Index as indexes
use Rattle.kv_model.specs.Agreement.{told_of}
use Rattle.kv_model.specs.Batch.{Start, answers, takes_slot}
use Rattle.kv_model.specs.BatchLaws.{RiseBetween}
use Rattle.kv_model.specs.History.{Write}
use Rattle.kv_model.specs.Layout.{all_classes}
use Rattle.kv_model.specs.Reading.{slot_at}
use Rattle.kv_model.proofs.AnswersLemmas.{length-answers}
use Rattle.kv_model.proofs.NetLemmas.{DifferentKeys}
use Rattle.kv_ring.specs.declared.task.Task.{Task}
use Rattle.kv_slab.specs.Batches.{FindsEntries}
use Rattle.kv_slab.specs.Floor.{HasFloorBelow}
use Rattle.kv_slab.specs.Memory.{items_in}
use Rattle.kv_slab.specs.Plans.{MayPlan}
use Rattle.kv_slab.specs.Rounds.{Index}
use Rattle.kv_slab.specs.View.{View}
use Rattle.kv_slab.specs.declared.change.Change.{Change}
use Rattle.kv_slab.proofs.BatchLemmas.{changes_take_slots}
use Rattle.kv_worker.specs.Batches.{IsOpenTask, requests_in}
use Rattle.kv_worker.specs.Net.{write_of, writes_of}
use Rattle.kv_worker.specs.Open.{ArePrepared, IsOpenStore}
use Rattle.kv_worker.specs.Reads.{HasRead}
use Rattle.kv_worker.specs.Worker.{start_of}
use Rattle.kv_worker.proofs.PlanLemmas.{can-change, net-differ, net-present, net-rise, rise-length}
use Rattle.kv_worker.proofs.StillLemmas.{IsStill, still-plan}
use Rattle.kv_worker.proofs.TaskWriteLemmas.{IsOwnWrite, own-net}

-- there is a reply for each request
pub length-prepared : (told : Bool) (start : Start) (requests : List Request) (base : ℕ)
    (replies : List Reply) (changes : List Change)
    → ArePrepared told start requests base replies changes → length replies ≡ length requests
length-prepared told start requests base replies changes prepared =
    sym (length-map replies (told_of told)) ∙ ap length prepared.answers_are
    ∙ length-map (answers start [] base requests) (told_of told)
    ∙ length-answers requests start [] base

-- the stamps of the changes rise within those of the batch
pub rise-prepared : (told : Bool) (start : Start) (requests : List Request) (base : ℕ)
    (replies : List Reply) (changes : List Change)
    → ArePrepared told start requests base replies changes
    → RiseBetween base (base + length requests) (writes_of changes)
rise-prepared told start requests base replies changes prepared =
    subst (RiseBetween base (base + length requests)) (sym prepared.changes_are)
    (net-rise start requests base)

-- there are no more changes than requests
pub few-prepared : (told : Bool) (start : Start) (requests : List Request) (base : ℕ)
    (replies : List Reply) (changes : List Change)
    → ArePrepared told start requests base replies changes → length changes ≤ length requests
few-prepared told start requests base replies changes prepared =
    let few = rise-length base (base + length requests) (writes_of changes)
    (rise-prepared told start requests base replies changes prepared) in
    omega (arith, few, length-map changes write_of)

-- the changes are of different keys
pub differ-prepared : (told : Bool) (start : Start) (requests : List Request) (base : ℕ)
    (replies : List Reply) (changes : List Change)
    → ArePrepared told start requests base replies changes → DifferentKeys (writes_of changes)
differ-prepared told start requests base replies changes prepared =
    subst DifferentKeys (sym prepared.changes_are) (net-differ start requests base)

-- the slot of the key's entry
abbrev slot_in : Index → List ℕ → ℕ
slot_in index key = option_map_or (λ (e : Entry). e.place.slot) (index key) 0

-- a batch finds each key in the class and in the slot of its entry
finds-entries : {D I : Type 0} (d : disks.Ghosts D) (i : indexes.Ghosts I) (store : View D I)
    → FindsEntries (finite.get (i.entries store.index)) (start_of d i store)
    (slot_in (finite.get (i.entries store.index)))
finds-entries d i store = record {
  layout = refl;
  class = λ key. refl;
  slot = λ key entry is. ap (λ o. option_map_or (λ (e : Entry). e.place.slot) o 0) is;
}

-- the changes may be planned
pub may-plan : {D I : Type 0} (d : disks.Ghosts D) (i : indexes.Ghosts I) (old mid : View D I)
    (most base : ℕ) (tasks : List (ℕ × Task)) (replies : List Reply) (changes : List Change)
    → IsOpenStore d i old base → AllByRecursion (IsOpenTask old.worker old.workers) tasks
    → HasRead d most old mid
    → ArePrepared d.tells (start_of d i old) (requests_in tasks) base replies changes
    → MayPlan d i mid changes
may-plan {D} {I} d i old mid most base tasks replies changes opened own read prepared =
    let start : Start = start_of d i old in
    let requests : List Request = requests_in tasks in
    let entries = i.entries old.index in
    let same = sym prepared.changes_are in
    subst (λ (v : View D I). MayPlan d i v changes) (sym read.rest)
    (can-change d.tells (d.seen mid.disk.disk) entries old.limits.slots old.worker old.workers base
    (base + length requests) changes
    (differ-prepared d.tells start requests base replies changes prepared)
    (rise-prepared d.tells start requests base replies changes prepared)
    (subst (AllByRecursion (IsOwnWrite old.worker old.workers)) same
    (own-net old.worker old.workers tasks start base own))
    opened.below.stamps
    (λ tells. subst (HasFloorBelow base) (sym (read.reads.reads.seen tells))
    (opened.below.floor tells))
    (subst (AllByRecursion (λ write. write.value ≡ None → IsSome (finite.get entries write.key)))
    same (net-present start d.tells (slot_at all_classes (d.seen old.disk.disk)) entries requests
    base (λ key. refl)))
    (λ class low high. subst (λ n. n ≤ old.limits.slots - items_in entries class)
    (sym (changes_take_slots (finite.get entries) changes start (slot_in (finite.get entries)) class
    (finds-entries d i old)
    ∙ ap (count_by (takes_slot start class)) prepared.changes_are))
    (prepared.room class low high)))

-- a store that was read for a batch of so many and then planned for these changes
pub still-planned : {D I : Type 0} (d : disks.Ghosts D) (i : indexes.Ghosts I)
    (old mid planned : View D I) (many : ℕ) (changes slice : List Change) → slice ≡ changes
    → HasRead d (16 * many) old mid
    → ReadsAtMost d (3 * length slice) mid.disk.disk planned.disk.disk
    → i.entries planned.index ≡ i.entries mid.index
    → planned ≡ record mid { disk = planned.disk; index = planned.index; plan = planned.plan }
    → IsStill d i (16 * many + 3 * length changes) old planned
still-planned d i old mid planned many changes slice same read reads entries rest =
    still-plan d i (16 * many) (3 * length slice) (16 * many + 3 * length changes) old mid planned
    (let long = ap length same in omega (arith, long)) read reads entries rest
