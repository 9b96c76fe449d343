use Rattle.std.proofs.Common.{arith}
use Rattle.kv_lanes.proofs.LaneLemmas.{one_more_pair, same_then, same_else}
use Rattle.kv_lanes.proofs.equal.same.Goals as goal

pub loop-at-preserved : goal.loop-at-preserved
loop-at-preserved c =
    let so_far = c.loop-at.invariant in
    let more =
    one_more_pair c.loop-at.apart c.args.a.now c.args.b.now c.loop-at.at 64 (omega arith)
    (omega arith) so_far.lanes so_far.zero in
    record { within = omega arith; lanes = more.0; zero = more.1 }

pub returns-then-apart-eq0 : goal.returns-then-apart-eq0
returns-then-apart-eq0 c =
    same_then c.loop-at.apart c.args.a.now c.args.b.now c.loop-at.at _
    (omega arith) c.if-apart-eq0.true c.loop-at.invariant.zero c.same_rest.ensures

pub returns-else-apart-eq0 : goal.returns-else-apart-eq0
returns-else-apart-eq0 c =
    same_else c.loop-at.apart c.args.a.now c.args.b.now c.loop-at.at
    (omega arith) c.if-apart-eq0.false c.loop-at.invariant.zero
