-- Workers begin with what stood on their disks.
use Rattle.std.proofs.Common.{◌≡◌, ℕ, ◌+◌, ◌<◌, ◌≤◌, List, [], ◌∷◌, length, map, slice_get, Some}
use Rattle.std.proofs.Common.{Bool, refl, sym, ap, ◌∙◌, subst, subst₂, arith}
use Rattle.std.proofs.lemmas.List.{length-map}
use Rattle.std.proofs.lemmas.Option.{same_Some, slice_get_within}
use Rattle.kv_base.specs.Partition.{owner_of}
use Rattle.kv_base.specs.declared.limits.Limits.{Limits}
use Rattle.kv_disk.specs.declared.disk.Disk as disks
use Rattle.kv_groups.specs.Gathering.{greatest}
use Rattle.kv_index.specs.declared.index.Index as indexes
use Rattle.kv_mesh.specs.Linked.{slots_in}
use Rattle.kv_mesh.specs.Opening.{AreOpened, IsOpenedWith}
use Rattle.kv_mesh.specs.Started.{opened_of, floors}
use Rattle.kv_model.specs.History.{Write}
use Rattle.kv_model.proofs.ContainsLemmas.{All-members}
use Rattle.kv_parties.specs.Setting.{Setting}
use Rattle.kv_recover.specs.declared.opening.Opened.{Opened}
use Rattle.kv_worker.specs.Worker.{WorkerView}
use Rattle.kv_worker_party.specs.Party.{setting_of}
use Rattle.kv_serve.specs.Answers.{setting_with}
use Rattle.kv_serve.specs.Opening.{AreOpenedFrom, HadAllItems, HadItems}
use Rattle.kv_serve.proofs.PlaceLemmas.{chosen, get-at, get-map, get-within}

module _ {D I : Type 0} (d : disks.Ghosts D) (i : indexes.Ghosts I) (limits : Limits)
    (olds : List D) (stores : List (Opened D I)) where
  -- the worker's store was opened with these writes
  abbrev pub OpenedWith : ℕ → List Write → Type 0
  OpenedWith worker writes = (disk : D) (store : Opened D I) → slice_get olds worker ≡ Some disk
      → slice_get stores worker ≡ Some store
      → IsOpenedWith d i limits disk worker (length olds) writes store

  -- the worker's disk, and the writes with which its store was opened
  abbrev Is : ℕ → D × List Write → Type 0
  Is worker begun = (slice_get olds worker ≡ Some begun.0) × OpenedWith worker begun.1

  -- the disks and the writes of all workers
  pub record Begun : Type 0 where
    pub disks : ℕ → D
    pub before : ℕ → List Write
    pub disk_at : (worker : ℕ) → worker < length olds
        → slice_get olds worker ≡ Some (disks worker)
    pub opened : (worker : ℕ) → worker < length olds → OpenedWith worker (before worker)

  module _ (opened : AreOpenedFrom d i (length olds) limits olds stores) where
    one-begun : (worker : ℕ) → worker < length olds → (begun : D × List Write) × Is worker begun
    one-begun worker lt =
        let disk = get-within olds worker lt in
        let store = get-within stores worker (omega (arith, lt, opened.many)) in
        let h = opened.each worker disk.0 store.0 disk.1 store.1 in (
          (disk.0, h.kept.writes),
          (
            disk.1,
            λ disk' store' at also. subst₂
                (λ x y. IsOpenedWith d i limits x worker (length olds) h.kept.writes y)
                (same_Some disk.0 disk' (sym disk.1 ∙ at))
                (same_Some store.0 store' (sym store.1 ∙ also))
                (record { has = h; writes_are = refl }),
          ),
        )

    pub begun : 1 ≤ length olds → Begun
    begun some =
        let all = chosen (length olds) Is some one-begun in record {
          disks = λ worker. (all.0 worker).0;
          before = λ worker. (all.0 worker).1;
          disk_at = λ worker lt. (all.1 worker lt).0;
          opened = λ worker lt. (all.1 worker lt).1;
        }

    module _ (b : Begun) where
      -- so the stores were opened, in the words of the parties
      pub are-opened : AreOpened d i limits b.disks b.before stores
      are-opened worker store at =
          let lt : worker < length olds = omega (arith, at.0, opened.many) in
          subst (λ n. IsOpenedWith d i limits (b.disks worker) worker n (b.before worker) store)
          (sym opened.many)
          (b.opened worker lt (b.disks worker) store (b.disk_at worker lt)
          (get-at stores worker store at))

      -- what stood on a disk
      had-items : (worker : ℕ) (disk : D) (store : Opened D I) → slice_get olds worker ≡ Some disk
          → slice_get stores worker ≡ Some store
          → HadItems d (length olds) worker disk (b.before worker) store.floor
      had-items worker disk store at also =
          let h = b.opened worker (slice_get_within olds worker disk at) disk store at also in
          subst (λ writes. HadItems d (length olds) worker disk writes store.floor) h.writes_are
          (record {
            opens = h.has.opens;
            kept = h.has.kept.kept;
            floor_is = h.has.floor_was;
            owned = All-members (λ write. owner_of write.key (length olds) ≡ worker)
                h.has.kept.writes h.has.kept.owned;
            below = h.has.kept.stamps;
            spare = h.has.spare;
          })

      pub had-all : HadAllItems d olds b.before (greatest (floors stores))
      had-all = record {
        floors = floors stores;
        many = length-map stores (λ (store : Opened D I). store.floor) ∙ opened.many;
        each = λ worker disk own at floor_at.
            let store = get-map (λ (one : Opened D I). one.floor) stores worker own floor_at in
            subst (HadItems d (length olds) worker disk (b.before worker)) (sym store.2)
            (had-items worker disk store.0 at store.1);
        floor_is = refl;
      }

    -- the limits are those of the first worker too
    pub slots-are : (firsts : List (WorkerView D I)) → map opened_of firsts ≡ stores
        → 1 ≤ length olds → slots_in firsts ≡ limits.slots
    slots-are [] is some = absurd (omega (arith, some, opened.many, ap length is))
    slots-are (first ∷ firsts) is some =
        let disk = get-within olds 0 (omega (arith, some)) in
        let at : slice_get stores 0 ≡ Some (opened_of first) =
        ap (λ (l : List (Opened D I)). slice_get l 0) (sym is) in
        ap (λ (l : Limits). l.slots) (opened.each 0 disk.0 (opened_of first) disk.1 at).limits_are

same-setting : (told : Bool) (a b : Setting) → a.told ≡ told → b.told ≡ told
    → a.layout ≡ b.layout → a.slots ≡ b.slots → a.floor ≡ b.floor → a.sessions ≡ b.sessions
    → a.workers ≡ b.workers → a ≡ b
same-setting told a b one two layout slots floor sessions workers =
    rw (one, two, layout, slots, floor, sessions, workers) refl

-- what is served, in the words of the parties
pub setting-is : {D : Type 0} (d : disks.Ghosts D) (limits : Limits)
    (start floor sessions sessions' workers workers' slots : ℕ) → start ≡ floor + 1
    → sessions ≡ sessions' → workers ≡ workers' → slots ≡ limits.slots
    → setting_of d.tells start sessions workers slots
    ≡ setting_with d limits floor sessions' workers'
setting-is d limits start floor sessions sessions' workers workers' slots at many more fits =
    same-setting d.tells (setting_of d.tells start sessions workers slots)
    (setting_with d limits floor sessions' workers') refl refl refl fits (omega (arith, at)) many more
