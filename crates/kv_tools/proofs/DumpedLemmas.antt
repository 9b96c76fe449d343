-- One line more is put.
use Rattle.std.proofs.Common.{◌≡◌, inl, inr, ℕ, zero, suc, ◌+◌, ◌<◌, List, [], ◌∷◌, ◌++◌, length}
use Rattle.std.proofs.Common.{map, take, drop, slice_get, get_or, Some, Ok, Err, Result, Option, IsTrue}
use Rattle.std.proofs.Common.{Contains, refl, sym, ap, ◌∙◌, subst, arith, ◌≢◌}
use Rattle.std.specs.List.{concat}
use Rattle.std.specs.Option.{option_map_or}
use Rattle.std.specs.Prelude.{if◌then◌else◌}
use Rattle.std.proofs.lemmas.Bool.Decides.{eqb_tells}
use Rattle.std.proofs.lemmas.List.{map-append}
use Rattle.std.proofs.lemmas.Option.{same_Some, slice_get_within}
use Rattle.kv_base.specs.Calls.{next_count}
use Rattle.kv_base.specs.Image.{Image}
use Rattle.kv_base.proofs.StreamLemmas.{Takes-nil}
use Rattle.kv_disk.specs.declared.disk.Disk.{Ghosts}
use Rattle.kv_disk.proofs.StepsLemmas.{reads-then}
use Rattle.kv_model.specs.Layout.{all_classes}
use Rattle.kv_model.specs.Reading.{IsKept, slot_at}
use Rattle.kv_model.proofs.ContainsLemmas.{Contains-first, Contains-behind}
use Rattle.kv_recover.specs.Listed.{copy_with}
use Rattle.kv_slab.specs.Fault.{StepCounted}
use Rattle.kv_slab.specs.declared.fault.StepFault.{StepFault}
use Rattle.kv_slab.specs.declared.fault.StepFault.TheVariants as step_faults
use Rattle.kv_tools.specs.declared.fault.ToolFault.{ToolFault}
use Rattle.kv_tools.specs.declared.fault.ToolFault.TheVariants.{Store, DiskFault, SinkFault, NoMemory}
use Rattle.kv_tools.specs.declared.merge.Listed.{Listed}
use Rattle.kv_tools.specs.Disks.{ReadsAll, CountsAll}
use Rattle.kv_tools.specs.Dumped.{DumpsFront, DumpsUntil, IsKeptIn, IsKeptOn}
use Rattle.kv_tools.specs.Dumped.{line_in, line_of, lines_of}
use Rattle.kv_tools.specs.DumpedDisk.{IsLineFault, IsLinesFault, IsListFault}
use Rattle.kv_tools.specs.Faults.{HasReportCause, disk_faults, sink_faults, value_fault_of}
use Rattle.kv_tools.specs.Sent.{Puts, TakesSome}
use Rattle.kv_tools.proofs.DisksLemmas.{are_at, other_count}
use Rattle.kv_tools.proofs.SentLemmas.{puts_next, some_next}

-- a list up to an element, and behind it
take_more : {A : Type 0} (xs : List A) (i : ℕ) (x : A) → slice_get xs i ≡ Some x
    → take (suc i) xs ≡ take i xs ++ x ∷ []
take_more [] i x is = absurd (cc)
take_more (z ∷ zs) zero x is = ap (λ w. w ∷ []) (same_Some z x is)
take_more (z ∷ zs) (suc i) x is = ap (λ t. z ∷ t) (take_more zs i x is)

split_at : {A : Type 0} (xs : List A) (i : ℕ) (x : A) → slice_get xs i ≡ Some x
    → xs ≡ take i xs ++ x ∷ drop (suc i) xs
split_at [] i x is = absurd (cc)
split_at (z ∷ zs) zero x is = ap (λ w. w ∷ zs) (same_Some z x is)
split_at (z ∷ zs) (suc i) x is = ap (λ t. z ∷ t) (split_at zs i x is)

-- an element that stands at a place is in the list
pub stands_in : {A : Type 0} (xs : List A) (i : ℕ) (x : A) → slice_get xs i ≡ Some x → Contains xs x
stands_in [] i x is = absurd (cc)
stands_in (z ∷ zs) zero x is = subst (Contains (z ∷ zs)) (same_Some z x is) (Contains-first z zs)
stands_in (z ∷ zs) (suc i) x is = Contains-behind z zs x (stands_in zs i x is)

module _ {D : Type 0} (d : Ghosts D) (disks : List D) where
  -- a line more behind those of the items before
  pub lines-next : (items : List Listed) (i : ℕ) (x : Listed) {before between now : Option (List ℕ)}
      {waited wait waits : List ℕ} → slice_get items i ≡ Some x
      → Puts before between waited wait (lines_of d disks (take i items))
      → Puts between now wait waits (line_of d disks x)
      → Puts before now waited waits (lines_of d disks (take (i + 1) items))
  lines-next items i x {before} {between} {now} {waited} {wait} {waits} at first next =
      let n : suc i ≡ i + 1 = omega arith in
      let more : map (line_of d disks) (take i items) ++ line_of d disks x ∷ []
      ≡ map (line_of d disks) (take (i + 1) items) =
      sym (map-append (line_of d disks) (take i items) (x ∷ []))
      ∙ ap (map (line_of d disks)) (sym (take_more items i x at))
      ∙ ap (λ k. map (line_of d disks) (take k items)) n in
      subst (λ t. Puts before now waited waits (concat t)) more
      (puts_next (map (line_of d disks) (take i items)) (line_of d disks x) first next)

  -- a front of a line behind those of the items before
  pub lines-some : (items : List Listed) (i : ℕ) (x : Listed) {before between now : Option (List ℕ)}
      {waited wait : List ℕ} → slice_get items i ≡ Some x
      → Puts before between waited wait (lines_of d disks (take i items))
      → TakesSome between now (wait ++ line_of d disks x)
      → TakesSome before now (waited ++ lines_of d disks items)
  lines-some items i x {before} {between} {now} {waited} {wait} at first next =
      let all : map (line_of d disks) (take i items)
      ++ line_of d disks x ∷ map (line_of d disks) (drop (suc i) items)
      ≡ map (line_of d disks) items =
      sym (map-append (line_of d disks) (take i items) (x ∷ drop (suc i) items))
      ∙ ap (map (line_of d disks)) (sym (split_at items i x at)) in
      subst (λ t. TakesSome before now (waited ++ concat t)) all
      (some_next (map (line_of d disks) (take i items)) (line_of d disks x)
      (map (line_of d disks) (drop (suc i) items)) first next)

  -- a line by a disk that was only read
  pub line-here : (item : Listed) (old mid : D) → slice_get disks item.worker ≡ Some old
      → d.seen mid ≡ d.seen old → line_in (d.seen mid) item ≡ line_of d disks item
  line-here item old mid at same = ap (λ (i : Image). line_in i item) same
      ∙ sym (ap (λ o. option_map_or (λ disk. line_in (d.seen disk) item) o []) at)

  -- and what is kept there
  kept-in : (item : Listed) (old mid : D) → slice_get disks item.worker ≡ Some old
      → d.seen mid ≡ d.seen old → IsKeptOn d disks item
      → IsKeptIn d mid item.worker (length disks) item
  kept-in item old mid at same kept = (
    kept.2.0,
    subst (λ (i : Image). IsKept (slot_at all_classes i) item.worker (length disks) item.kept.key
        (copy_with item.kept kept.2.0))
        (ap d.seen (same_Some kept.0 old (sym kept.1 ∙ at)) ∙ sym same) kept.2.1,
  )

  pub kept-here : (item : Listed) (old mid : D) → slice_get disks item.worker ≡ Some old
      → d.seen mid ≡ d.seen old → IsKeptOn d disks item
      → (workers : ℕ) × IsKeptIn d mid item.worker workers item
  kept-here item old mid at same kept = (length disks, kept-in item old mid at same kept)

-- the lines of items by disks that were only read
pub lines-were : {D : Type 0} (d : Ghosts D) (disks mids : List D) (items : List Listed)
    → IsTrue d.tells → ReadsAll d disks mids
    → ((item : Listed) → Contains items item → IsKeptOn d disks item)
    → lines_of d mids items ≡ lines_of d disks items
lines-were d disks mids [] tells reads kept = refl
lines-were d disks mids (item ∷ items) tells reads kept =
    let is = kept item (Contains-first item items) in
    let here = are_at d disks mids item.worker is.0
    (slice_get_within disks item.worker is.0 is.1) reads in
    let mid = get_or mids item.worker is.0 in
    ap (λ line. line ++ lines_of d mids items)
    (sym (line-here d mids item mid mid here.mid refl)
    ∙ line-here d disks item (get_or disks item.worker is.0) mid here.old (here.same tells))
    ∙ ap (λ lines. line_of d disks item ++ lines) (lines-were d disks mids items tells reads
    (λ x has. kept x (Contains-behind item items x has)))

-- what is kept on disks that were only read
pub kept-were : {D : Type 0} (d : Ghosts D) (disks mids : List D) (item : Listed) → IsTrue d.tells
    → ReadsAll d disks mids → IsKeptOn d disks item → IsKeptOn d mids item
kept-were d disks mids item tells reads kept =
    let here = are_at d disks mids item.worker kept.0
    (slice_get_within disks item.worker kept.0 kept.1) reads in
    let mid = get_or mids item.worker kept.0 in (
      mid,
      here.mid,
      subst (λ n. IsKeptIn d mid item.worker n item) (sym reads.count)
          (kept-in d disks item (get_or disks item.worker kept.0) mid here.old (here.same tells) kept),
    )

-- the fault of a line is one of the lines
pub lines-fault : (worker workers : ℕ) (fault : ToolFault) → worker < workers
    → IsLineFault worker fault → IsLinesFault workers fault
lines-fault worker workers (Store other fault) within is = absurd is
lines-fault worker workers (DiskFault other) within is = omega (arith, is, within)
lines-fault worker workers SinkFault within is = tt
lines-fault worker workers NoMemory within is = tt

pub line-others : (T : Type 0) (worker : ℕ) (fault : ToolFault) → IsLineFault worker fault
    → (w n : ℕ) → w ≢ worker → disk_faults {T = T} (Err fault) w n ≡ n
line-others T worker (Store at fault) is w n other = absurd is
line-others T worker (DiskFault at) is w n other =
    other_count at w _ n (λ same. other (sym same ∙ is))
line-others T worker SinkFault is w n other = refl
line-others T worker NoMemory is w n other = refl

-- a value that couldn't be read
pub value-fault : (worker : ℕ) (fault : StepFault) → IsLineFault worker (value_fault_of worker fault)
value-fault worker step_faults.DiskFault = refl
value-fault worker step_faults.NoMemory = tt

pub value-counted : (T U : Type 0) (worker before now : ℕ) (fault : StepFault)
    → StepCounted {T = T} before now (Err fault)
    → now ≡ disk_faults {T = U} (Err (value_fault_of worker fault)) worker before
value-counted T U worker before now step_faults.DiskFault counted = elim (eqb_tells worker worker) [
  | inl same ↦ counted ∙ sym (ap (λ b. if b then next_count before else before) same.0)
  | inr other ↦ absurd (other.1 refl)
]
value-counted T U worker before now step_faults.NoMemory counted = counted

pub value-sink : (T : Type 0) (worker count : ℕ) (fault : StepFault)
    → count ≡ sink_faults {T = T} (Err (value_fault_of worker fault)) count
value-sink T worker count step_faults.DiskFault = refl
value-sink T worker count step_faults.NoMemory = refl

-- the causes of the parts are causes of the report
pub lines-cause : {D : Type 0} (d : Ghosts D) (disks : List D) (count : ℕ) (fault : ToolFault)
    → count ≡ length disks → IsLinesFault count fault → HasReportCause d disks fault
lines-cause d disks count (Store worker fault) same is = absurd is
lines-cause d disks count (DiskFault worker) same is = omega (arith, same, is)
lines-cause d disks count SinkFault same is = tt
lines-cause d disks count NoMemory same is = tt

-- how far the report came where the items weren't listed
pub until-listed : {D : Type 0} (d : Ghosts D) (disks : List D) (now : Option (List ℕ))
    (fault : ToolFault) → IsListFault d disks fault → DumpsUntil d disks now now fault
until-listed d disks now (Store worker fault) is = (Takes-nil now, is)
until-listed d disks now (DiskFault worker) is = absurd is
until-listed d disks now SinkFault is = absurd is
until-listed d disks now NoMemory is = inl (Takes-nil now)

-- how far it came where lines weren't written
pub until-lines : {D : Type 0} (d : Ghosts D) (disks : List D) (before now : Option (List ℕ))
    (count : ℕ) (fault : ToolFault) → IsLinesFault count fault
    → (IsTrue d.tells → DumpsFront d disks before now) → DumpsUntil d disks before now fault
until-lines d disks before now count (Store worker fault) is front = absurd is
until-lines d disks before now count (DiskFault worker) is front = front
until-lines d disks before now count SinkFault is front = front
until-lines d disks before now count NoMemory is front = inr front

-- reads of all disks behind others
pub reads_all-then : {D : Type 0} (d : Ghosts D) (olds mids news : List D) → ReadsAll d olds mids
    → ReadsAll d mids news → ReadsAll d olds news
reads_all-then d olds mids news first next = record {
  count = next.count ∙ first.count;
  each = λ worker old new at_old at_new.
      let here = are_at d olds mids worker old (slice_get_within olds worker old at_old) first in
      let mid = get_or mids worker old in
      reads-then d old mid new (first.each worker old mid at_old here.mid)
      (next.each worker mid new here.mid at_new);
}

-- and the count of their faults
pub counts_all-then : {D T U : Type 0} (d : Ghosts D) (olds mids news : List D) (done : U)
    (result : Result T ToolFault) → ReadsAll d olds mids → CountsAll {T = U} d olds mids (Ok done)
    → CountsAll d mids news result → CountsAll d olds news result
counts_all-then d olds mids news done result reads first next = record {
  each = λ worker old new at_old at_new.
      let here = are_at d olds mids worker old (slice_get_within olds worker old at_old) reads in
      let mid = get_or mids worker old in
      next.each worker mid new here.mid at_new
      ∙ ap (disk_faults result worker) (first.each worker old mid at_old here.mid);
}
