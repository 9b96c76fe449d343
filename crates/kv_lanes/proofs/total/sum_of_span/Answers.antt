use Rattle.std.proofs.Common.{w8, w32, ◌+◌, arith}
use Rattle.std.proofs.lemmas.Simd.{chunk-fits, dot4_Fits, adds_fit, sum_fits, fold-sum}
use Rattle.kv_lanes.proofs.SumLemmas.{sum_le, sum_front, sum_parts, one_more_sum}
use Rattle.kv_lanes.proofs.total.sum_of_span.Goals as goal

pub dot4-fours : goal.dot4-fours
dot4-fours c =
    (dot4_Fits _ _ (chunk-fits w8 c.loop-at.at 64 c.args.bytes.now c.type_inv.bytes) tt, tt)

pub overflow_add-lanes : goal.overflow_add-lanes
overflow_add-lanes c =
    let so_far = c.loop-at.invariant in
    let bytes = c.args.bytes.now in
    let more =
    one_more_sum c.loop-at.lanes bytes c.loop-at.at (omega arith) so_far.lanes so_far.sums in
    let all = sum_le bytes (λ k. omega (arith, c.type_inv.bytes k)) in
    let front = sum_front bytes (c.loop-at.at + 64) in
    adds_fit w32 _ _ (omega (arith, more.2))

pub loop-at-preserved : goal.loop-at-preserved
loop-at-preserved c =
    let so_far = c.loop-at.invariant in
    let more =
    one_more_sum c.loop-at.lanes c.args.bytes.now c.loop-at.at
    (omega arith) so_far.lanes so_far.sums in
    record { within = omega arith; lanes = more.0; sums = more.1 }

-- the lanes add up to the front, and the rest is behind it
pub overflow_add-result : goal.overflow_add-result
overflow_add-result c =
    let all = sum_le c.args.bytes.now (λ k. omega (arith, c.type_inv.bytes k)) in
    let front = sum_front c.args.bytes.now c.loop-at.at in
    sum_fits w32 0 c.loop-at.lanes (omega (arith, c.loop-at.invariant.sums))

pub overflow_add-result-2 : goal.overflow_add-result-2
overflow_add-result-2 c =
    let all = sum_le c.args.bytes.now (λ k. omega (arith, c.type_inv.bytes k)) in
    let parts = sum_parts c.args.bytes.now c.loop-at.at in
    record {
      fits = omega
          (arith, fold-sum 0 c.loop-at.lanes, c.loop-at.invariant.sums, c.sum_plain.ensures);
    }

pub returns : goal.returns
returns c =
    let parts = sum_parts c.args.bytes.now c.loop-at.at in
    let lanes = fold-sum 0 c.loop-at.lanes in
    omega (arith, c.loop-at.invariant.sums, c.sum_plain.ensures)
