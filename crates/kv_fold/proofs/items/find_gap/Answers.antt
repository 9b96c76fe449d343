use Rattle.std.proofs.Common.{rules}
use Rattle.std.proofs.lemmas.Fn.{always_returns_same}
use Rattle.kv_fold.specs.Bags.{order}
use Rattle.kv_fold.proofs.OrderLemmas.{yes}
use Rattle.kv_fold.proofs.PlaceLemmas.{searched}
use Rattle.kv_fold.proofs.items.find_gap.Goals as goal

pub returns : goal.returns
returns c =
    let facts = c.binary_search_by-searched.ensures in
    let by_key =
    facts.position (λ item. order item.0 c.args.key.now)
    (always_returns_same _ _ _ (λ a r g called. search rules)) in
    rw c.err.ensures.value
    (searched c.args.key.now c.args.items.now c.binary_search_by-searched.result
    (yes _ c.requires) facts.bound by_key)
