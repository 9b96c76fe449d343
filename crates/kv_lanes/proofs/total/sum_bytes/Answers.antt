use Rattle.std.proofs.Common.{sum, ap, arith}
use Rattle.kv_lanes.proofs.SumLemmas.{sum_le, sum_front}
use Rattle.kv_lanes.proofs.total.sum_bytes.Goals as goal

-- no part of the sum is more than all of it, which is at most 255 for each byte
pub overflow_add-total : goal.overflow_add-total
overflow_add-total c =
    let all = sum_le c.args.bytes.now (λ k. omega (arith, c.type_inv.bytes k)) in
    let front = ap sum c.split_at.ensures.front in
    let part = sum_front c.loop-rest.rest.now 65536 in
    record {
      fits = omega
          (arith, c.loop-rest.invariant, c.sum_of_span.ensures, c.from-total.ensures);
    }

pub overflow_add-result : goal.overflow_add-result
overflow_add-result c =
    let all = sum_le c.args.bytes.now (λ k. omega (arith, c.type_inv.bytes k)) in
    record { fits = omega (arith, c.loop-rest.invariant, c.sum_of_span-2.ensures, c.from.ensures) }
