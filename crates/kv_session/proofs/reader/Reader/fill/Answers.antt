use Rattle.std.proofs.Common.{◌∙◌}
use Rattle.kv_session.proofs.ReaderLemmas.{Arrives-trans, StaysDecided-more}
use Rattle.kv_session.proofs.reader.Reader.fill.Goals as goal

-- a read goes on from what stood there
pub loop-cause-preserved : goal.loop-cause-preserved
loop-cause-preserved g c = (
  Arrives-trans c.loop-cause.invariant.0 c.in-Ok.ensures.arrives,
  c.in-Ok.ensures.counted ∙ c.loop-cause.invariant.1,
  StaysDecided-more c.loop-cause.invariant.2 c.in-More.ensures.front,
)

pub returns-in-Err-clause-arrives : goal.returns-in-Err-clause-arrives
returns-in-Err-clause-arrives g c = Arrives-trans c.loop-cause.invariant.0 c.in-Err.ensures.arrives
