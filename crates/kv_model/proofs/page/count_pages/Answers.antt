-- One more page may lie behind the others.
use Rattle.std.proofs.Common.{arith}
use Rattle.kv_model.proofs.PlainLemmas.{count-more}
use Rattle.kv_model.proofs.page.count_pages.Goals as goal

pub loop-page-preserved : goal.loop-page-preserved
loop-page-preserved c = record {
  rest = λ number from. count-more c.args.pages.now c.loop-page.page-index _ c.args.file
      c.loop-page.count (omega arith) c.end_in.result c.end_in.ensures.value
      c.loop-page.invariant.rest number (omega arith) (omega arith);
  range = omega arith;
}
