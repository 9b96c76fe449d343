-- One more page is written over what was there.
use Rattle.std.proofs.Common.{arith, refl}
use Rattle.kv_base.specs.Image.{zero_page}
use Rattle.kv_model.proofs.PlainLemmas.{page-more}
use Rattle.kv_model.proofs.page.page_at.Goals as goal

pub loop-page-init : goal.loop-page-init
unfolding zero_page
loop-page-init c = refl

pub loop-page-preserved : goal.loop-page-preserved
loop-page-preserved c = page-more c.args.pages.now c.loop-page.page-index _ c.args.file
    c.args.number c.loop-page.content.now _ (omega arith) c.content_over-content.ensures
    c.loop-page.invariant
