-- One page more.
use Rattle.std.proofs.Common.{◌≡◌, ℕ, ◌+◌, ◌<◌, ◌≤◌, inl, inr, sym, ap, ◌∙◌, arith}
use Rattle.std.proofs.lemmas.Bool.{cases_lt}
use Rattle.kv_base.specs.Image.{Image, zero_page}
use Rattle.kv_disk.proofs.StepsLemmas.{reads-then}
use Rattle.kv_recover.proofs.find.check_blanks.Goals as goal

-- the page is one of those so far, or the next
next_blank : (before now : Image) (class first page : ℕ) → before ≡ now
    → ((other : ℕ) → first ≤ other → other < page → now class other ≡ zero_page)
    → before class page ≡ zero_page
    → (other : ℕ) → first ≤ other → other < page + 1 → now class other ≡ zero_page
next_blank before now class first page same so_far here other from below =
    elim (cases_lt other page) [
      | inl within ↦ so_far other from within
      | inr last ↦
          let at : other ≡ page = omega arith in
          ap (λ image. image class other) (sym same) ∙ ap (before class) at ∙ here
    ]

pub returns-in_err-check_blank-clause-reads : goal.returns-in_err-check_blank-clause-reads
returns-in_err-check_blank-clause-reads g c =
    reads-then g.D.Disk _ _ _ c.loop-page.invariant.reads c.check_blank.ensures.reads

pub loop-page-preserved : goal.loop-page-preserved
loop-page-preserved g c = record {
  reads = reads-then g.D.Disk _ _ _ c.loop-page.invariant.reads c.check_blank.ensures.reads;
  calm = c.in_ok-check_blank.ensures.counted ∙ c.loop-page.invariant.calm;
  zeros = λ tells. next_blank _ _ c.args.class c.args.first c.loop-page.page
      (c.loop-page.invariant.reads.seen tells) (c.loop-page.invariant.zeros tells)
      (c.in_ok-check_blank.ensures.ok tells);
}
