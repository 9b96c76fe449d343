-- One page more.
use Rattle.std.proofs.Common.{◌≡◌, ℕ, ◌+◌, ◌*◌, ◌^◌, ◌≤◌, ap, subst, arith, ◌∙◌, below_more, length, sym}
use Rattle.kv_model.specs.Layout.{slots_in_page}
use Rattle.kv_recover.specs.Pass.{HasFound}
use Rattle.kv_disk.proofs.StepsLemmas.{reads-then}
use Rattle.kv_recover.proofs.find.find_in_pages.Goals as goal
use Rattle.kv_base.specs.Image.{page_size}

pub returns-in_err-seen-clause-reads : goal.returns-in_err-seen-clause-reads
returns-in_err-seen-clause-reads g c =
    reads-then g.D.Disk _ _ _ c.loop-number.invariant.reads c.find_in_page.ensures.reads

pub loop-number-preserved : goal.loop-number-preserved
loop-number-preserved g c = record {
  reads = reads-then g.D.Disk _ _ _ c.loop-number.invariant.reads c.find_in_page.ensures.reads;
  calm = c.in_ok-seen.ensures.faults ∙ c.loop-number.invariant.calm;
  whole = λ tells. below_more
      (λ page. length (g.D.Disk.seen c.args.disk.now c.args.class page) ≡ page_size)
      c.loop-number.number (c.loop-number.invariant.whole tells)
      (ap (λ image. length (image c.args.class c.loop-number.number))
      (sym (c.loop-number.invariant.reads.seen tells)) ∙ c.in_ok-seen.ensures.whole tells);
  behind = c.in_ok-seen.ensures.end;
  placed = λ ends placed. c.in_ok-seen.ensures.placed ends
      (c.loop-number.invariant.placed ends placed);
  counted = c.in_ok-seen.ensures.counted;
  owned = c.in_ok-seen.ensures.owned;
  found = λ tells start.
      let same = c.loop-number.invariant.reads.seen tells in
      let next = c.in_ok-seen.ensures.found tells in
      subst (λ image. HasFound image c.args.share.worker c.args.share.workers c.args.class
      (c.loop-number.number * slots_in_page c.args.class) (g.I.Index.entries c.loop-number.items.index)
      c.loop-number.seen.floor c.loop-number.seen.end
      → HasFound image c.args.share.worker c.args.share.workers c.args.class
      ((c.loop-number.number + 1) * slots_in_page c.args.class)
      (g.I.Index.entries c.find_in_page.new.items.index) c.in_ok-seen.seen.floor c.in_ok-seen.seen.end)
      same next (c.loop-number.invariant.found tells start);
}

pub returns-clause-found : goal.returns-clause-found
returns-clause-found g c = λ tells start.
    let all : c.loop-number.number ≡ c.args.pages = omega arith in
    subst (λ n. HasFound (g.D.Disk.seen c.args.disk.now) c.args.share.worker c.args.share.workers
    c.args.class (n * slots_in_page c.args.class) (g.I.Index.entries c.loop-number.items.index)
    c.loop-number.seen.floor c.loop-number.seen.end) all
    (c.loop-number.invariant.found tells start)

-- no end is past the pages
last_end : (end number pages per_page : ℕ) → end ≤ number * per_page → number ≡ pages
    → pages * per_page ≤ 2 ^ 24 → end ≤ 2 ^ 24
last_end end number pages per_page behind all limit =
    let same : number * per_page ≡ pages * per_page = ap (λ n. n * per_page) all in omega arith

pub returns-clause-end : goal.returns-clause-end
returns-clause-end g c = last_end c.loop-number.seen.end c.loop-number.number c.args.pages
    (slots_in_page c.args.class) c.loop-number.invariant.behind (omega arith) c.requires.pages

pub returns-clause-whole : goal.returns-clause-whole
returns-clause-whole g c = λ tells page below. c.loop-number.invariant.whole tells page (omega arith)
