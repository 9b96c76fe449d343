-- The net changes of a batch can be planned.
use Rattle.std.proofs.Common.{◌≡◌, ◌≢◌, ℕ, ◌+◌, ◌-◌, ◌<◌, ◌≤◌, Bool, true, false, cond, ◌||◌, List, [], ◌∷◌}
use Rattle.std.proofs.Common.{Option, None, Some, is_some, IsSome, IsTrue, option_map, refl, sym, ap}
use Rattle.std.proofs.Common.{◌∙◌, subst, arith, length, filter, count_by, le_refl, inl, inr}
use Rattle.std.proofs.Common.{true≢false, slice_get}
use Rattle.std.specs.FinMap as finite
use Rattle.std.specs.List.{AllByRecursion}
use Rattle.std.proofs.lemmas.Bool.{cases_lt}
use Rattle.std.proofs.lemmas.List.Sums.{sum_by-cons}
use Rattle.std.proofs.lemmas.Option.{slice_get-map}
use Rattle.kv_base.specs.Image.{Image}
use Rattle.kv_base.specs.declared.request.Request.{Request}
use Rattle.kv_index.specs.Entries.{Entries}
use Rattle.kv_index.specs.declared.entry.Entry.{Entry}
use Rattle.kv_model.specs.Batch.{Start, accepted_writes, changes_something, last_writes, net, takes_slot}
use Rattle.kv_model.specs.BatchLaws.{RiseBetween}
use Rattle.kv_model.specs.History.{Write}
use Rattle.kv_model.specs.Pairwise.{Pairwise}
use Rattle.kv_model.specs.Reading.{Reading}
use Rattle.kv_model.proofs.NetLemmas.{DifferentKeys, DifferentKeys-filter, DifferentKeys-last_writes}
use Rattle.kv_model.proofs.NetLemmas.{RiseBetween-filter, RiseBetween-last_writes}
use Rattle.kv_model.proofs.NetLemmas.{RiseBetween-accepted_writes}
use Rattle.kv_model.proofs.PairwiseLemmas.{All-map}
use Rattle.kv_model.proofs.ReadingLemmas.{AllFrom, RiseBetween-from, RiseBetween-le}
use Rattle.kv_slab.specs.Floor.{HasFloorBelow}
use Rattle.kv_slab.specs.Memory.{items_in}
use Rattle.kv_slab.specs.Plans.{CanChange}
use Rattle.kv_slab.specs.Rooms.{needed}
use Rattle.kv_slab.specs.Rounds.{answer_of}
use Rattle.kv_slab.specs.declared.change.Change.{Change}
use Rattle.kv_worker.specs.Course.{Follows, course_of}
use Rattle.kv_worker.specs.Net.{write_of, writes_of}
use Rattle.kv_worker.specs.Steps.{net_of}
use Rattle.kv_worker.specs.Worker.{value_told}
use Rattle.kv_worker.specs.declared.pass.Pass.{Pass}
use Rattle.kv_worker.proofs.FloorLemmas.{floor-raised}
use Rattle.kv_worker.proofs.ListLemmas.{all-at, pairwise-at, filter-passes}
use Rattle.kv_worker.proofs.TaskWriteLemmas.{IsOwnWrite}

above : (stamp : ℕ) (writes : List Write) → AllFrom (stamp + 1) writes
    → AllByRecursion (λ write. stamp < write.stamp) writes
above stamp [] all = tt
above stamp (write ∷ writes) all = (omega (arith, all.0), above stamp writes all.1)

rising : (low high : ℕ) (writes : List Write) → RiseBetween low high writes
    → Pairwise (λ write other. write.stamp < other.stamp) writes
rising low high [] rise = tt
rising low high (write ∷ writes) rise = (
  above write.stamp writes (RiseBetween-from (write.stamp + 1) high writes rise.1),
  rising (write.stamp + 1) high writes rise.1,
)

-- there are no more writes than stamps
pub rise-length : (low high : ℕ) (writes : List Write) → RiseBetween low high writes
    → low + length writes ≤ high
rise-length low high [] rise = omega (arith, rise)
rise-length low high (write ∷ writes) rise =
    let rest = rise-length (write.stamp + 1) high writes rise.1 in
    omega (arith, rest, rise.0)

-- no two net changes are of one key
pub net-differ : (start : Start) (requests : List Request) (base : ℕ)
    → DifferentKeys (net_of start base requests)
net-differ start requests base =
    let all = accepted_writes start [] base requests in
    DifferentKeys-filter (changes_something start) (last_writes all)
    (DifferentKeys-last_writes all)

-- their stamps rise within those of the batch
pub net-rise : (start : Start) (requests : List Request) (base : ℕ)
    → RiseBetween base (base + length requests) (net_of start base requests)
net-rise start requests base =
    let all = accepted_writes start [] base requests in
    RiseBetween-filter (last_writes all) (changes_something start) base (base + length requests)
    (RiseBetween-last_writes all base (base + length requests)
    (RiseBetween-accepted_writes requests start [] base base (le_refl base)))

count-filter : (p q : Write → Bool) (writes : List Write) → count_by p (filter q writes)
    ≤ count_by p writes
count-filter p q [] = le_refl 0
count-filter p q (write ∷ writes) = by (q write) (count-filter p q writes)
  where
    by : (b : Bool) → count_by p (filter q writes) ≤ count_by p writes
        → count_by p (cond b (write ∷ filter q writes) (filter q writes)) ≤ count_by p (write
        ∷ writes)
    by true le =
        let here = sum_by-cons (λ w. cond (p w) 1 0) write (filter q writes) in
        let there = sum_by-cons (λ w. cond (p w) 1 0) write writes in
        omega (arith, le, here, there)
    by false le =
        let there = sum_by-cons (λ w. cond (p w) 1 0) write writes in
        omega (arith, le, there)

-- there is room for the new slots of the net changes
pub net-room : (start : Start) (requests : List Request) (base : ℕ) (pass : Pass)
    → Follows (course_of start requests base) (accepted_writes start [] base requests) pass
    → (class : ℕ) → 1 ≤ class → class ≤ 11
    → count_by (takes_slot start class) (net_of start base requests)
    ≤ start.limit - start.items class
net-room start requests base pass follows class low high =
    let all = accepted_writes start [] base requests in
    let less = count-filter (takes_slot start class) (changes_something start) (last_writes all) in
    let taken = follows.taken class (omega (arith, high)) in
    let fits = follows.room class (omega (arith, high)) in
    omega (arith, less, taken, fits)

-- a value that is told is that of an entry
value-entry : (tells : Bool) (read : Reading) (entry : Option Entry)
    → is_some (value_told tells (answer_of read entry) entry) ≡ true → IsSome entry
value-entry true read None e = absurd (true≢false (sym e))
value-entry false read None e = absurd (true≢false (sym e))
value-entry tells read (Some entry) e = refl

something : (value here : Option (List ℕ)) → (is_some value || is_some here) ≡ true
    → value ≡ None → is_some here ≡ true
something None here e none = e
something (Some value) here e none = absurd (true≢false (ap is_some none))

-- a net change that deletes is of a key with an entry
pub net-present : (start : Start) (tells : Bool) (read : Reading) (entries : Entries)
    (requests : List Request) (base : ℕ)
    → ((key : List ℕ) → start.value key ≡ value_told tells (answer_of read (finite.get entries key))
    (finite.get entries key))
    → AllByRecursion (λ write. write.value ≡ None → IsSome (finite.get entries write.key))
    (net_of start base requests)
net-present start tells read entries requests base values =
    let all = last_writes (accepted_writes start [] base requests) in
    All-map (λ write. changes_something start write ≡ true)
    (λ write. write.value ≡ None → IsSome (finite.get entries write.key))
    (filter (changes_something start) all)
    (λ write changes none. value-entry tells read (finite.get entries write.key)
    (ap is_some (sym (values write.key))
    ∙ something write.value (start.value write.key) changes none))
    (filter-passes (changes_something start) all)

-- the write of a change
pub write-at : (changes : List Change) (i : ℕ) (c : Change) → slice_get changes i ≡ Some c
    → slice_get (writes_of changes) i ≡ Some (write_of c)
write-at changes i c is = slice_get-map write_of changes i ∙ ap (option_map write_of) is

-- changes of different keys of this worker, with good sizes and rising stamps from the base on, may
-- be planned where all stamps are below the base and there is room
pub can-change : (tells : Bool) (seen : Image) (entries : Entries)
    (limit worker workers base high : ℕ) (changes : List Change)
    → DifferentKeys (writes_of changes) → RiseBetween base high (writes_of changes)
    → AllByRecursion (IsOwnWrite worker workers) (writes_of changes)
    → ((key : List ℕ) (e : Entry) → finite.get entries key ≡ Some e → e.stamp < base)
    → (IsTrue tells → HasFloorBelow base seen)
    → AllByRecursion (λ write. write.value ≡ None → IsSome (finite.get entries write.key))
    (writes_of changes)
    → ((class : ℕ) → 1 ≤ class → class ≤ 11 → needed (finite.get entries) changes class
    ≤ limit - items_in entries class)
    → CanChange tells seen entries limit worker workers changes
can-change tells seen entries limit worker workers base high changes differ rise own stamps floor
    present room =
    let all = writes_of changes in
    let from : (i : ℕ) (c : Change) → slice_get changes i ≡ Some c → base ≤ c.stamp =
    λ i c is. all-at (λ write. base ≤ write.stamp) all i (write_of c)
    (RiseBetween-from base high all rise) (write-at changes i c is) in
    let apart : (i j : ℕ) (c d : Change) → slice_get changes i ≡ Some c
    → slice_get changes j ≡ Some d → i < j → c.key ≡ d.key → ⊥ =
    λ i j c d is at lt. pairwise-at (λ write other. write.key ≢ other.key) all i j (write_of c)
    (write_of d) differ lt (write-at changes i c is) (write-at changes j d at) in
    record {
      distinct = λ i j c d is at same. elim (cases_lt i j) [
        | inl before ↦ absurd (apart i j c d is at before same)
        | inr behind ↦ elim (cases_lt j i) [
          | inl after ↦ absurd (apart j i d c at is after (sym same))
          | inr here ↦ omega arith
        ]
      ];
      owned = λ i c is.
          (all-at (IsOwnWrite worker workers) all i (write_of c) own (write-at changes i c is)).owned;
      fit = λ i c is value has.
          (all-at (IsOwnWrite worker workers) all i (write_of c) own (write-at changes i c is)).fits
          value has;
      rising = λ i j c d is at lt. pairwise-at (λ write other. write.stamp < other.stamp) all i j
          (write_of c) (write_of d) (rising base high all rise) lt (write-at changes i c is)
          (write-at changes j d at);
      above = λ i c is key e has.
          let below = stamps key e has in
          let up = from i c is in
          omega (arith, below, up);
      floor = λ tells i c is. floor-raised base c.stamp seen (from i c is) (floor tells);
      present = λ i c is. all-at (λ write. write.value ≡ None
          → IsSome (finite.get entries write.key)) all i (write_of c) present
          (write-at changes i c is);
      room = room;
    }
