-- A store that is only read stays what it was.
use Rattle.std.proofs.Common.{◌≡◌, ℕ, ◌+◌, ◌-◌, ◌≤◌, ◌^◌, Bool, true, false, IsTrue, List, Option, None, Some}
use Rattle.std.proofs.Common.{option_map, refl, sym, ap, ◌∙◌, subst, arith, leb, inl, inr}
use Rattle.std.proofs.lemmas.Bool.{cases_lt, cond-true, cond-false, le-leb, lt-leb}
use Rattle.std.specs.FinMap as finite
use Rattle.kv_base.specs.Image.{Image}
use Rattle.kv_disk.specs.Steps.{ReadsAtMost}
use Rattle.kv_disk.specs.declared.disk.Disk as disks
use Rattle.kv_disk.proofs.StepsLemmas.{at_most-none, at_most-then, at_most-more}
use Rattle.kv_index.specs.declared.entry.Entry.{Entry}
use Rattle.kv_index.specs.declared.index.Index as indexes
use Rattle.kv_model.specs.Layout.{all_classes}
use Rattle.kv_slab.specs.Counts.{pages_of_class, reads_for}
use Rattle.kv_slab.specs.Given.{Answer}
use Rattle.kv_slab.specs.Moves.{ArePlaces, IsSlabPlace}
use Rattle.kv_slab.specs.View.{View, map_of, store_map}
use Rattle.kv_slab.proofs.PageLemmas.{pages_few}
use Rattle.kv_worker.specs.Reads.{HasRead, IsReady}
use Rattle.kv_worker.specs.Worker.{start_of}
use Rattle.kv_worker.proofs.StillLemmas.{still-read, start-still}

pub read-then : {D I : Type 0} (d : disks.Ghosts D) (m n most : ℕ) (old mid new : View D I)
    → m + n ≤ most → HasRead d m old mid → HasRead d n mid new → HasRead d most old new
read-then {D} {I} d m n most old mid new sum first next = record {
  reads = at_most-then d m n most old.disk.disk mid.disk.disk new.disk.disk sum first.reads
      next.reads;
  rest = next.rest ∙ ap (λ (v : View D I). record v { disk = new.disk }) first.rest;
}

-- what is ready stays so
pub ready-read : {D I : Type 0} (d : disks.Ghosts D) (i : indexes.Ghosts I) (most : ℕ)
    (old new : View D I) → IsReady i old → HasRead d most old new → IsReady i new
ready-read {D} {I} d i most old new ready read = record {
  open_ = ap (λ (v : View D I). v.closed) read.rest ∙ ready.open_;
  places = subst (λ (v : View D I). ArePlaces (finite.get (i.entries v.index))) (sym read.rest) ready.places;
}

-- a batch finds the same
pub start-read : {D I : Type 0} (d : disks.Ghosts D) (i : indexes.Ghosts I) (most : ℕ)
    (old new : View D I) → HasRead d most old new → start_of d i new ≡ start_of d i old
start-read d i most old new read = start-still d i most old new (still-read d i most old new read)

few-pages : (class : ℕ) → class ≤ 11 → pages_of_class class ≤ 16
few-pages class limit = elim (cases_lt class 8) [
  | inl small ↦ let is : pages_of_class class ≡ 1 =
      cond-true (leb class 7) _ _ (le-leb class 7 (omega arith)) in
      omega (arith, is)
  | inr large ↦ let is : pages_of_class class ≡ 2 ^ (class - 7) =
      cond-false (leb class 7) _ _ (lt-leb class 7 (omega arith)) in
      omega (arith, is, (pages_few class large limit).1)
]

few-reads : (o : Option Entry) → ((e : Entry) → o ≡ Some e → IsSlabPlace e.place)
    → reads_for o ≤ 16
few-reads None places = omega arith
few-reads (Some e) places = few-pages e.place.class (places e refl).high

-- a get reads 16 pages at most
pub get-reads : {D I : Type 0} (d : disks.Ghosts D) (i : indexes.Ghosts I) (old new : View D I)
    (key : List ℕ) → IsReady i old
    → ReadsAtMost d (reads_for (finite.get (i.entries old.index) key)) old.disk.disk new.disk.disk
    → new ≡ record old { disk = new.disk } → HasRead d 16 old new
get-reads d i old new key ready reads rest = record {
  reads = at_most-more d (reads_for (finite.get (i.entries old.index) key)) 16 old.disk.disk
      new.disk.disk
      (few-reads (finite.get (i.entries old.index) key) (ready.places key)) reads;
  rest = rest;
}
