use Rattle.std.proofs.Common.{arith}
use Rattle.kv_lanes.proofs.LaneLemmas.{one_more_block, all_zero_then, all_zero_else}
use Rattle.kv_lanes.proofs.zero.is_zero_rest.Goals as goal

pub loop-at-preserved : goal.loop-at-preserved
loop-at-preserved c =
    let so_far = c.loop-at.invariant in
    let more =
    one_more_block c.loop-at.seen c.args.bytes.now c.loop-at.at 16
    (omega arith) so_far.lanes so_far.zero in
    record { within = omega arith; lanes = more.0; zero = more.1 }

pub returns-then-seen-eq0 : goal.returns-then-seen-eq0
returns-then-seen-eq0 c =
    let l = c.loop-at in
    let tested = c.if-seen-eq0.true in
    let value =
    all_zero_then l.seen c.args.bytes.now l.at _ tested l.invariant.zero c.is_zero_plain.ensures in
    value

pub returns-else-seen-eq0 : goal.returns-else-seen-eq0
returns-else-seen-eq0 c =
    let l = c.loop-at in
    let tested = c.if-seen-eq0.false in
    let value = all_zero_else l.seen c.args.bytes.now l.at tested l.invariant.zero in
    value
