-- One key more.
use Rattle.std.proofs.Common.{◌≡◌, ◌∙◌, length, refl, ap, arith}
use Rattle.std.specs.List.{range_with_len}
use Rattle.std.proofs.lemmas.List.Sorted.{length_permutation}
use Rattle.kv_slab.proofs.OrderLemmas.{order_of_keys, keys_more}
use Rattle.kv_slab.proofs.order.order_of.Goals as goal

pub loop-index-preserved : goal.loop-index-preserved
loop-index-preserved c =
    let more = keys_more _ _ _ c.loop-index.index c.in_ok-append.ensures.ok refl
    c.loop-index.invariant.keys c.loop-index.invariant.count in
    record { keys = more.0; count = more.1 }

pub returns-clause-ok : goal.returns-clause-ok
returns-clause-ok c =
    let n = c.loop-index.index in
    let all : n ≡ length c.args.pages.now = omega (
      arith,
      c.loop-index-test.false,
      c.loop-index.auto.index-end,
    ) in
    let moved = c.sort_unstable.ensures.permutation in
    order_of_keys c.args.pages.now c.loop-index.order.items c.sort_unstable.new.self.items
    (c.loop-index.invariant.keys ∙ ap (range_with_len 0) all)
    (c.loop-index.invariant.count ∙ all) (length_permutation c.loop-index.order.items
    c.sort_unstable.new.self.items moved) moved
