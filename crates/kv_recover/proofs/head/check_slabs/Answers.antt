-- One slab more.
use Rattle.std.proofs.Common.{◌≡◌, ℕ, ◌+◌, ◌<◌, ◌≤◌, inl, inr, sym, ap, ◌∙◌, arith}
use Rattle.std.proofs.lemmas.Bool.{cases_lt}
use Rattle.kv_base.specs.Image.{Image, zero_page}
use Rattle.kv_disk.proofs.StepsLemmas.{reads-then}
use Rattle.kv_recover.proofs.head.check_slabs.Goals as goal

-- the slab is one of those so far, or the next
next_slab : (before now : Image) (class : ℕ) → before ≡ now
    → ((other page : ℕ) → 1 ≤ other → other < class → now other page ≡ zero_page)
    → ((page : ℕ) → before class page ≡ zero_page)
    → (other page : ℕ) → 1 ≤ other → other < class + 1 → now other page ≡ zero_page
next_slab before now class same so_far here other page low below =
    elim (cases_lt other class) [
      | inl within ↦ so_far other page low within
      | inr last ↦
          let at : other ≡ class = omega arith in
          ap (λ image. image other page) (sym same) ∙ ap (λ c. before c page) at ∙ here page
    ]

pub returns-in_err-check_file-clause-reads : goal.returns-in_err-check_file-clause-reads
returns-in_err-check_file-clause-reads g c =
    reads-then g.D.Disk _ _ _ c.loop-class.invariant.reads c.check_file.ensures.reads

pub loop-class-preserved : goal.loop-class-preserved
loop-class-preserved g c = record {
  reads = reads-then g.D.Disk _ _ _ c.loop-class.invariant.reads c.check_file.ensures.reads;
  calm = c.in_ok-check_file.ensures.counted ∙ c.loop-class.invariant.calm;
  zeros = λ tells. next_slab _ _ c.loop-class.class (c.loop-class.invariant.reads.seen tells)
      (c.loop-class.invariant.zeros tells) (c.in_ok-check_file.ensures.ok tells);
}
