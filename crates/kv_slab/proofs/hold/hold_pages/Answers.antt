-- One page more is held.
use Rattle.std.proofs.Common.{◌≡◌, ◌∙◌, ◌+◌, [], ℕ, length, take, get_or, sym, ap, arith}
use Rattle.std.proofs.lemmas.List.{take_all, take_more, length-take-le}
use Rattle.kv_base.specs.Image.{Image, with_page}
use Rattle.kv_slab.specs.Pages.{over, with_pages}
use Rattle.kv_slab.proofs.SetLemmas.{with_pages-more}
use Rattle.kv_slab.proofs.hold.hold_pages.Goals as goal

pub loop-content-preserved : goal.loop-content-preserved
loop-content-preserved c =
    let n = c.loop-content.content-index in
    let contents = c.args.contents.now in
    let content = get_or contents n [] in
    let below = c.loop-content-test.true in
    record {
      set = λ image.
          let base = over image c.args.round.now in
          let size : length (take n contents) ≡ n = length-take-le n contents (omega (arith, below))
          in
          c.in_ok-hold_whole.ensures.set image
          ∙ ap (λ (im : Image). with_page im c.args.file c.loop-content.page content)
          (c.loop-content.invariant.set image)
          ∙ ap (λ (k : ℕ). with_page (with_pages base c.args.file c.args.first (take n contents))
          c.args.file k content) (c.loop-content.invariant.page
          ∙ ap (λ k. c.args.first + k) (sym size))
          ∙ sym (with_pages-more base c.args.file c.args.first (take n contents) content)
          ∙ ap (with_pages base c.args.file c.args.first) (sym (take_more contents n [] below));
      page = omega (arith, c.loop-content.invariant.page);
      pages = c.in_ok-hold_whole.ensures.pages;
      count = omega (arith, c.in_ok-hold_whole.ensures.count, c.loop-content.invariant.count);
    }

pub returns-clause-set : goal.returns-clause-set
returns-clause-set c = λ image.
    c.loop-content.invariant.set image
    ∙ ap (with_pages (over image c.args.round.now) c.args.file c.args.first)
    (take_all c.loop-content.content-index c.args.contents.now c.loop-content-test.false)
