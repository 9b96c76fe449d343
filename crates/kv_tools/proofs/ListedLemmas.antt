-- The items of one disk more are listed.
use Rattle.std.proofs.Common.{◌≡◌, ◌≢◌, inl, inr, ℕ, zero, suc, ◌+◌, ◌<◌, List, [], ◌∷◌, length}
use Rattle.std.proofs.Common.{map, set, slice_get, Some, Result, Ok, Err, IsTrue, Contains, refl, sym, ap}
use Rattle.std.proofs.Common.{◌∙◌, subst, arith}
use Rattle.std.specs.Ordering.{is_lt}
use Rattle.std.specs.Result.{IsErrAnd}
use Rattle.std.proofs.lemmas.Bool.{cases_lt}
use Rattle.std.proofs.lemmas.Option.{same_Some}
use Rattle.std.proofs.lemmas.Result.{err_from_is_err_and}
use Rattle.kv_base.specs.Image.{Image}
use Rattle.kv_base.specs.Partition.{owner_of}
use Rattle.kv_disk.specs.declared.disk.Disk.{Ghosts}
use Rattle.kv_model.specs.Items.{IsLess}
use Rattle.kv_model.specs.Layout.{all_classes}
use Rattle.kv_model.specs.Reading.{Copy, IsKept, slot_at}
use Rattle.kv_model.specs.Recovery.{OpensAs}
use Rattle.kv_model.proofs.ContainsLemmas.{Contains-cons, Contains-first, Contains-behind, All-members}
use Rattle.kv_recover.specs.declared.entries.Kept.{Kept}
use Rattle.kv_recover.specs.Listed.{AreKept, KeysRise, IsSlabPlace}
use Rattle.kv_recover.specs.Causes.{HasMakeCause}
use Rattle.kv_tools.specs.declared.fault.ToolFault.{ToolFault}
use Rattle.kv_tools.specs.declared.fault.ToolFault.TheVariants.{Store, DiskFault, SinkFault, NoMemory}
use Rattle.kv_tools.specs.declared.merge.Listed.{Listed}
use Rattle.kv_tools.specs.Disks.{AreStores, CountsAll}
use Rattle.kv_tools.specs.Dumped.{AreItemsOf, ArePlaced, HasKey, IsKeptOn}
use Rattle.kv_tools.specs.DumpedDisk.{ListsDisk, HasListCause, IsListFault}
use Rattle.kv_tools.specs.Faults.{HasReportCause, disk_faults}
use Rattle.kv_tools.specs.Merged.{listed_of, Rises, AreApart}
use Rattle.kv_tools.proofs.CheckedLemmas.{cause_was}
use Rattle.kv_tools.proofs.DisksLemmas.{counts_all-set, other_count}

-- what stands in a mapped list
contains-mapped : {A B : Type 0} (f : A → B) (xs : List A) (y : B) → Contains (map f xs) y
    → (i : ℕ) × (x : A) × (slice_get xs i ≡ Some x) × (f x ≡ y)
contains-mapped f [] y has = absurd (omega (arith, has.1))
contains-mapped f (x ∷ xs) y has = elim (Contains-cons (f x) (map f xs) y has) [
  | inl same ↦ (0, x, refl, same)
  | inr later ↦
      let rest = contains-mapped f xs y later in (suc rest.0, rest.1, rest.2, rest.3)
]

mapped-contains : {A B : Type 0} (f : A → B) (xs : List A) (i : ℕ) (x : A)
    → slice_get xs i ≡ Some x → Contains (map f xs) (f x)
mapped-contains f [] i x is = absurd (cc)
mapped-contains f (z ∷ zs) zero x is =
    subst (λ w. Contains (map f (z ∷ zs)) (f w)) (same_Some z x is) (Contains-first (f z) (map f zs))
mapped-contains f (z ∷ zs) (suc i) x is =
    Contains-behind (f z) (map f zs) (f x) (mapped-contains f zs i x is)

rises-mapped : (worker : ℕ) (list : List Kept) → KeysRise list → Rises (map (listed_of worker) list)
rises-mapped worker [] rises = tt
rises-mapped worker (x ∷ xs) rises = (
  All-members (λ (next : Listed). IsLess x.key next.kept.key) (map (listed_of worker) xs) (λ y has.
      let at = contains-mapped (listed_of worker) xs y has in
      subst (λ (next : Listed). IsLess x.key next.kept.key) at.3
      (ap is_lt (rises 0 (suc at.0) x at.1 (omega arith) refl at.2))),
  rises-mapped worker xs (λ i j a b less. rises (suc i) (suc j) a b (omega (arith, less))),
)

-- no disk
pub items_of-none : {D : Type 0} (d : Ghosts D) (disks : List D) → AreItemsOf d disks 0 []
items_of-none d disks = record {
  each = λ item has. absurd (omega (arith, has.1));
  every = λ worker disk key copy below. absurd (omega (arith, below));
  rising = tt;
  stores = record { each = λ worker disk below. absurd (omega (arith, below)) };
}

pub placed-none : ArePlaced 0 []
placed-none = λ item has. absurd (omega (arith, has.1))

-- each is in its place
pub placed-next : {D : Type 0} (d : Ghosts D) (disk : D) (worker workers : ℕ)
    (before now : List Listed) → ArePlaced worker before → ListsDisk d disk worker workers before now
    → ArePlaced (worker + 1) now
placed-next d disk worker workers before now placed lists item has =
    elim ((lists.merged.each item).0 has) [
      | inl earlier ↦ (
        omega (arith, (placed item earlier).0),
        (placed item earlier).1,
      )
      | inr new ↦
          let at = contains-mapped (listed_of worker) lists.list item new in
          subst (λ (i : Listed). (i.worker < worker + 1) × IsSlabPlace i.kept.place) at.3
          (let more : worker < worker + 1 = omega arith in more, lists.places at.0 at.1 at.2)
    ]

module _ {D : Type 0} (d : Ghosts D) (disks : List D) (worker : ℕ) (disk mid : D)
    (at : slice_get disks worker ≡ Some disk) (tells : IsTrue d.tells)
    (same : d.seen mid ≡ d.seen disk) (before now : List Listed)
    (lists : ListsDisk d mid worker (length disks) before now) where
  kept_was : AreKept (d.seen disk) worker (length disks) lists.list
  kept_was = subst (λ (i : Image). AreKept i worker (length disks) lists.list) same (lists.kept tells)

  each_is : AreItemsOf d disks worker before → (item : Listed) → Contains now item
      → IsKeptOn d disks item
  each_is are item has = elim ((lists.merged.each item).0 has) [
    | inl earlier ↦ are.each item earlier
    | inr new ↦
        let found = contains-mapped (listed_of worker) lists.list item new in
        subst (IsKeptOn d disks) found.3 (disk, at, kept_was.each found.0 found.1 found.2)
  ]

  has_earlier : (other : ℕ) (key : List ℕ) → HasKey before other key → HasKey now other key
  has_earlier other key has = (
    has.0,
    (lists.merged.each has.0).1 (inl has.1),
    has.2,
    has.3,
  )

  has_new : (key : List ℕ) (copy : Copy)
      → IsKept (slot_at all_classes (d.seen disk)) worker (length disks) key copy
      → HasKey now worker key
  has_new key copy is =
      let found = kept_was.every key copy is in (
        listed_of worker found.1,
        (lists.merged.each (listed_of worker found.1)).1
            (inr (mapped-contains (listed_of worker) lists.list found.0 found.1 found.2)),
        refl,
        found.3,
      )

  every_is : AreItemsOf d disks worker before → (other : ℕ) (x : D) (key : List ℕ) (copy : Copy)
      → other < worker + 1 → slice_get disks other ≡ Some x
      → IsKept (slot_at all_classes (d.seen x)) other (length disks) key copy → HasKey now other key
  every_is are other x key copy below at_x is = elim (cases_lt other worker) [
    | inl earlier ↦ has_earlier other key (are.every other x key copy earlier at_x is)
    | inr last ↦
        let here : other ≡ worker = omega (arith, below, last) in
        let x_is : x ≡ disk = same_Some x disk (sym at_x ∙ ap (slice_get disks) here ∙ at) in
        subst (λ w. HasKey now w key) (sym here) (has_new key copy
        (subst (λ y. IsKept (slot_at all_classes (d.seen y)) worker (length disks) key copy) x_is
        (subst (λ w. IsKept (slot_at all_classes (d.seen x)) w (length disks) key copy) here is)))
  ]

  are_apart : AreItemsOf d disks worker before → ArePlaced worker before
      → AreApart before (map (listed_of worker) lists.list)
  are_apart are placed item other has also_has same_key =
      let found = contains-mapped (listed_of worker) lists.list other also_has in
      let mine = are.each item has in
      let theirs = kept_was.each found.0 found.1 found.2 in
      let key_is : item.kept.key ≡ found.1.key =
      same_key ∙ sym (ap (λ (o : Listed). o.kept.key) found.3) in
      let here : item.worker ≡ worker = sym mine.2.1.found.owned
      ∙ ap (λ key. owner_of key (length disks)) key_is ∙ theirs.1.found.owned in
      absurd (omega (arith, (placed item has).0, here))

  stores_more : AreStores d disks worker → AreStores d disks (worker + 1)
  stores_more stores = record {
    each = λ other x below at_x. elim (cases_lt other worker) [
      | inl earlier ↦ stores.each other x earlier at_x
      | inr last ↦
          let here : other ≡ worker = omega (arith, below, last) in
          let x_is : x ≡ disk = same_Some x disk (sym at_x ∙ ap (slice_get disks) here ∙ at) in
          subst (λ w. OpensAs all_classes (d.seen x) w (length disks)) (sym here)
          (subst (λ (i : Image). OpensAs all_classes i worker (length disks))
          (same ∙ ap d.seen (sym x_is)) (lists.opens tells))
    ];
  }

  pub items_of-next : AreItemsOf d disks worker before → ArePlaced worker before
      → AreItemsOf d disks (worker + 1) now
  items_of-next are placed = record {
    each = each_is are;
    every = every_is are;
    rising = lists.merged.rising are.rising (rises-mapped worker lists.list kept_was.rising)
        (are_apart are placed);
    stores = stores_more are.stores;
  }

-- the cause of a disk's refusal is one of the report
pub list-cause : {D : Type 0} (d : Ghosts D) (disks : List D) (worker : ℕ) (disk mid : D)
    (fault : ToolFault) → slice_get disks worker ≡ Some disk
    → (IsTrue d.tells → d.seen mid ≡ d.seen disk)
    → HasListCause d mid worker (length disks) fault → HasReportCause d disks fault
list-cause d disks worker disk mid (Store other fault) at same cause = (
  disk,
  ap (slice_get disks) cause.0 ∙ at,
  record {
    cause = subst (λ w. HasMakeCause (IsTrue d.tells) (d.seen disk) w (length disks) fault)
        (sym cause.0) (cause_was d disk mid worker (length disks) fault same cause.1.cause);
    other = cause.1.other;
  },
)
list-cause d disks worker disk mid (DiskFault other) at same cause = absurd cause
list-cause d disks worker disk mid SinkFault at same cause = absurd cause
list-cause d disks worker disk mid NoMemory at same cause = tt

pub list-fault : {D : Type 0} (d : Ghosts D) (disks : List D) (mid : D) (worker workers : ℕ)
    (fault : ToolFault) → (IsTrue d.tells → AreStores d disks worker)
    → HasListCause d mid worker workers fault → IsListFault d disks fault
list-fault d disks mid worker workers (Store other fault) stores cause = λ tells.
    subst (AreStores d disks) (sym cause.0) (stores tells)
list-fault d disks mid worker workers (DiskFault other) stores cause = absurd cause
list-fault d disks mid worker workers SinkFault stores cause = absurd cause
list-fault d disks mid worker workers NoMemory stores cause = tt

-- no other disk has a fault
list-others : {D : Type 0} (T : Type 0) (d : Ghosts D) (mid : D) (worker workers : ℕ)
    (fault : ToolFault) → HasListCause d mid worker workers fault → (w n : ℕ) → w ≢ worker
    → disk_faults {T = T} (Err fault) w n ≡ n
list-others T d mid worker workers (Store at fault) cause w n other =
    other_count at w _ n (λ same. other (sym same ∙ cause.0))
list-others T d mid worker workers (DiskFault at) cause w n other = absurd cause
list-others T d mid worker workers SinkFault cause w n other = absurd cause
list-others T d mid worker workers NoMemory cause w n other = refl

-- the refusal is handed on, and just the disk that was refused may count a fault
pub list-counts : {D T U : Type 0} (d : Ghosts D) (olds mids : List D) (worker workers : ℕ)
    (mid new : D) (done : U) (result : Result T ToolFault) (fault : ToolFault)
    → IsErrAnd result (λ e. e ≡ fault) → CountsAll {T = U} d olds mids (Ok done)
    → slice_get mids worker ≡ Some mid
    → d.faults new ≡ disk_faults {T = T} (Err fault) worker (d.faults mid)
    → HasListCause d mid worker workers fault → CountsAll d olds (set mids worker new) result
list-counts {D} {T} d olds mids worker workers mid new done result fault handed_on all at counted cause =
    let given = err_from_is_err_and result handed_on in
    let failed : Result T ToolFault = Err fault in
    subst (CountsAll d olds (set mids worker new)) (sym (given.1 ∙ ap Err given.2))
    (counts_all-set d olds mids worker mid new done failed all at counted
    (list-others T d mid worker workers fault cause))
