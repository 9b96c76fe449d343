-- One disk more is read.
use Rattle.std.proofs.Common.{◌≡◌, ◌≢◌, ◌⊎◌, inl, inr, ℕ, zero, suc, ◌<◌, List, [], ◌∷◌, length}
use Rattle.std.proofs.Common.{slice_get, get_or, set, Some, IsTrue, Result, Ok, refl, sym, ap, ◌∙◌}
use Rattle.std.proofs.Common.{subst, arith, ◌==◌}
use Rattle.std.specs.Prelude.{if◌then◌else◌}
use Rattle.std.proofs.lemmas.Bool.{cond-false, ne_eqb}
use Rattle.std.proofs.lemmas.List.{length-set}
use Rattle.std.proofs.lemmas.Option.{same_Some, slice_get-get_or}
use Rattle.kv_disk.specs.declared.disk.Disk.{Ghosts}
use Rattle.kv_disk.specs.Steps.{OnlyReads}
use Rattle.kv_disk.proofs.StepsLemmas.{reads-none, reads-then}
use Rattle.kv_tools.specs.declared.fault.ToolFault.{ToolFault}
use Rattle.kv_tools.specs.Disks.{ReadsAll, CountsAll}
use Rattle.kv_tools.specs.Faults.{disk_faults}

-- what stands at a place after a write to one
pub get-set : {A : Type 0} (xs : List A) (i j : ℕ) (x y : A) → slice_get (set xs i x) j ≡ Some y
    → ((j ≡ i) × (x ≡ y)) ⊎ ((j ≢ i) × (slice_get xs j ≡ Some y))
get-set [] i j x y is = absurd (cc)
get-set (z ∷ zs) zero zero x y is = inl (refl, same_Some x y is)
get-set (z ∷ zs) zero (suc j) x y is = inr ((λ same. absurd (omega arith)), is)
get-set (z ∷ zs) (suc i) zero x y is = inr ((λ same. absurd (omega arith)), is)
get-set (z ∷ zs) (suc i) (suc j) x y is = elim (get-set zs i j x y is) [
  | inl here ↦ inl (ap suc here.0, here.1)
  | inr other ↦ inr ((λ same. other.0 (omega arith)), other.1)
]

-- no disk is read
pub reads_all-none : {D : Type 0} (d : Ghosts D) (disks : List D) → ReadsAll d disks disks
reads_all-none d disks = record {
  count = refl;
  each = λ worker old new before after. subst (OnlyReads d old)
      (same_Some old new (sym before ∙ after)) (reads-none d old);
}

-- and its count of faults stays
pub counts_all-none : {D : Type 0} (d : Ghosts D) (disks : List D)
    → CountsAll {T = Unit {0}} d disks disks (Ok tt)
counts_all-none d disks = record {
  each = λ worker old new before after. ap d.faults (sym (same_Some old new (sym before ∙ after)));
}

-- the disk of a worker is read
pub reads_all-set : {D : Type 0} (d : Ghosts D) (olds mids : List D) (worker : ℕ) (mid new : D)
    → ReadsAll d olds mids → slice_get mids worker ≡ Some mid → OnlyReads d mid new
    → ReadsAll d olds (set mids worker new)
reads_all-set d olds mids worker mid new all at reads = record {
  count = length-set mids worker new ∙ all.count;
  each = λ w old x before after. elim (get-set mids worker w new x after) [
    | inl here ↦ subst (OnlyReads d old) here.1 (reads-then d old mid new
        (all.each w old mid before (ap (slice_get mids) here.0 ∙ at)) reads)
    | inr other ↦ all.each w old x before other.1
  ];
}

-- the same, and just a call of that disk that failed is counted
pub counts_all-set : {D T U : Type 0} (d : Ghosts D) (olds mids : List D) (worker : ℕ)
    (mid new : D) (done : U) (result : Result T ToolFault)
    → CountsAll {T = U} d olds mids (Ok done) → slice_get mids worker ≡ Some mid
    → d.faults new ≡ disk_faults result worker (d.faults mid)
    → ((w n : ℕ) → w ≢ worker → disk_faults result w n ≡ n)
    → CountsAll d olds (set mids worker new) result
counts_all-set d olds mids worker mid new done result all at counted others = record {
  each = λ w old x before after. elim (get-set mids worker w new x after) [
    | inl here ↦ ap d.faults (sym here.1) ∙ counted
        ∙ ap (disk_faults result worker) (all.each w old mid before (ap (slice_get mids) here.0 ∙ at))
        ∙ ap (λ at_. disk_faults result at_ (d.faults old)) (sym here.0)
    | inr other ↦ all.each w old x before other.1 ∙ sym (others w (d.faults old) other.0)
  ];
}

-- a count of another worker's disk
pub other_count : (at worker now before : ℕ) → at ≢ worker
    → (if at == worker then now else before) ≡ before
other_count at worker now before other = cond-false (at == worker) now before (ne_eqb at worker other)

-- the disk of a worker, as it was and as it is after reads
pub record AreAt {D : Type 0} (d : Ghosts D) (olds mids : List D) (worker : ℕ) (x : D) :
    Type 0 where
  pub old : slice_get olds worker ≡ Some (get_or olds worker x)
  pub mid : slice_get mids worker ≡ Some (get_or mids worker x)
  pub same : IsTrue d.tells → d.seen (get_or mids worker x) ≡ d.seen (get_or olds worker x)

pub are_at : {D : Type 0} (d : Ghosts D) (olds mids : List D) (worker : ℕ) (x : D)
    → worker < length olds → ReadsAll d olds mids → AreAt d olds mids worker x
are_at d olds mids worker x within all =
    let old = slice_get-get_or olds worker x within in
    let mid = slice_get-get_or mids worker x (omega (arith, all.count)) in
    record {
      old = old;
      mid = mid;
      same = (all.each worker (get_or olds worker x) (get_or mids worker x) old mid).seen;
    }
