use Rattle.std.proofs.Common.{◌+◌, Equal, Greater, sym, ap, ◌∙◌, arith}
use Rattle.std.specs.Ordering.{nat_cmp}
use Rattle.std.specs.Cmp.Lexicographic.{slice_cmp}
use Rattle.kv_tree.specs.Subtree.{Pair}
use Rattle.kv_tree.proofs.SearchLemmas.{at_place, gap_place, past_over, turned}
use Rattle.kv_tree.proofs.search.place_from.Goals as goal

-- it stands where the items before it end
pub returns-in-Equal-clause-found : goal.returns-in-Equal-clause-found
returns-in-Equal-clause-found c =
    at_place c.args.key.now c.args.items.now c.args.at c.index-items-at.result c.requires.past
    c.requires.at
    (turned c.args.key.now _ _ _ Equal c.index-items-at.is (c.cmp_key.ensures c.requires.number)
    c.in-Equal.is)

-- or it would stand there
pub returns-in-Greater-clause-absent : goal.returns-in-Greater-clause-absent
returns-in-Greater-clause-absent c =
    gap_place c.args.key.now c.args.items.now c.args.at c.index-items-at.result c.requires.past
    (omega (arith, c.requires.at))
    (λ lt. turned c.args.key.now _ _ _ Greater c.index-items-at.is
    (c.cmp_key.ensures c.requires.number) c.in-Greater.is)

-- or that item is before the key too, and it is the last
pub returns-then-next-items-clause-absent : goal.returns-then-next-items-clause-absent
returns-then-next-items-clause-absent c =
    gap_place c.args.key.now c.args.items.now (c.args.at + 1)
    (c.args.key.now, record { stamp = 0; place = record { class = 0; slot = 0 } })
    (past_over _ _ _ _ _ c.requires.rising c.requires.at c.index-items-at.is
    (c.cmp_key.ensures c.requires.number) c.in-Less.is c.requires.past) (omega (arith, c.requires.at))
    (λ lt. absurd (omega arith))

-- or the next one is above it
pub returns-then-is_above-clause-absent : goal.returns-then-is_above-clause-absent
returns-then-is_above-clause-absent c =
    gap_place c.args.key.now c.args.items.now (c.args.at + 1) c.index-items-next.result
    (past_over _ _ _ _ _ c.requires.rising c.requires.at c.index-items-at.is
    (c.cmp_key.ensures c.requires.number) c.in-Less.is c.requires.past) (omega (arith, c.requires.at))
    (λ lt. ap (λ (p : Pair). slice_cmp nat_cmp c.args.key.now p.0) (sym c.index-items-next.is)
    ∙ c.is_above.ensures c.if-is_above.true c.args.key.now c.requires.number)
