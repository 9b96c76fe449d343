-- One page more.
use Rattle.std.proofs.Common.{◌≡◌, ◌+◌, [], ◌∷◌, ◌++◌, map, sym, ap, ◌∙◌, subst, arith, refl, below_more, length}
use Rattle.std.specs.List.{range_with_len}
use Rattle.std.proofs.lemmas.List.FromFn.{map-range_with_len_more}
use Rattle.kv_disk.proofs.StepsLemmas.{reads-none, reads-then}
use Rattle.kv_recover.specs.Large.{IsLater}
use Rattle.kv_recover.proofs.LaterLemmas.{later-none}
use Rattle.kv_recover.proofs.large.read_later.Goals as goal
use Rattle.kv_base.specs.Image.{page_size}

pub loop-number-init : goal.loop-number-init
loop-number-init g c = record {
  reads = reads-none g.D.Disk c.args.disk.now;
  calm = refl;
  whole = λ tells k below. absurd (omega arith);
  floor = omega arith;
  pages = λ tells. later-none c.args.stamp c.args.floor;
}

pub returns-in_err-read_page-clause-reads : goal.returns-in_err-read_page-clause-reads
returns-in_err-read_page-clause-reads g c =
    reads-then g.D.Disk _ _ _ c.loop-number.invariant.reads c.read_page.ensures.reads

pub loop-number-preserved : goal.loop-number-preserved
loop-number-preserved g c = record {
  reads = reads-then g.D.Disk _ _ _ c.loop-number.invariant.reads c.read_page.ensures.reads;
  calm = c.in_ok-read_page.ensures.counted ∙ c.loop-number.invariant.calm;
  whole = λ tells. below_more
      (λ k. length (g.D.Disk.seen c.args.disk.now c.args.class (c.args.first + k)) ≡ page_size)
      c.loop-number.number (c.loop-number.invariant.whole tells)
      (ap (λ image. length (image c.args.class (c.args.first + c.loop-number.number)))
      (sym (c.loop-number.invariant.reads.seen tells))
      ∙ ap length (sym (c.in_ok-read_page.ensures.content tells)) ∙ c.read_page.ensures.size);
  floor = let before = c.loop-number.invariant.floor in
      let later = c.with_later-later.ensures.floor in omega arith;
  pages = λ tells.
      let seen = g.D.Disk.seen c.args.disk.now c.args.class in
      let here : c.read_page.new.content ≡ seen (c.args.first + c.loop-number.number) =
      c.in_ok-read_page.ensures.content tells
      ∙ ap (λ image. image c.args.class (c.args.first + c.loop-number.number))
      (c.loop-number.invariant.reads.seen tells) in
      subst (λ xs. IsLater xs c.args.stamp c.args.floor c.with_later-later.result.whole
      c.with_later-later.result.blank c.with_later-later.result.floor)
      (ap (λ x. map seen (range_with_len c.args.first c.loop-number.number) ++ x ∷ []) here
      ∙ sym (map-range_with_len_more seen c.args.first c.loop-number.number
      (c.args.first + c.loop-number.number) (omega arith)))
      (c.with_later-later.ensures.pages (map seen (range_with_len c.args.first c.loop-number.number))
      c.args.floor (c.loop-number.invariant.pages tells));
}

pub returns-clause-whole : goal.returns-clause-whole
returns-clause-whole g c = λ tells k below. c.loop-number.invariant.whole tells k (omega arith)
