use Rattle.std.proofs.Common.{rules, arith}
use Rattle.std.proofs.lemmas.List.Sorted.{IsPartitionPoint-from_clause}
use Rattle.std.specs.Ordering.{is_lt}
use Rattle.kv_fold.specs.Bags.{order}
use Rattle.kv_fold.proofs.OrderLemmas.{yes}
use Rattle.kv_fold.proofs.PlaceLemmas.{below_first, below_is_take}
use Rattle.kv_fold.proofs.items.count_below.Goals as goal

pub returns-clause-below : goal.returns-clause-below
returns-clause-below c =
    let facts = c.partition_point.ensures in
    let parts =
    IsPartitionPoint-from_clause (λ item. is_lt (order item.0 c.args.key.now)) c.args.items.now _
    facts.partitioned (below_first c.args.key.now c.args.items.now (yes _ c.requires))
    (λ a r g called. search rules) in
    below_is_take c.args.key.now c.args.items.now _ facts.bound
    (λ k d lt. parts.0 k d (omega arith) lt)
    (λ k d ge lt. parts.1 k d ge lt)
