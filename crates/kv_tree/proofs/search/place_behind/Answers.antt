use Rattle.std.proofs.Common.{sym, ap, ◌∙◌, arith}
use Rattle.std.specs.Ordering.{nat_cmp}
use Rattle.std.specs.Cmp.Lexicographic.{slice_cmp}
use Rattle.kv_tree.specs.Subtree.{Pair}
use Rattle.kv_tree.proofs.SearchLemmas.{gap_place}
use Rattle.kv_tree.proofs.search.place_behind.Goals as goal

-- all items are before the key
pub returns-then-at-items-clause-absent : goal.returns-then-at-items-clause-absent
returns-then-at-items-clause-absent c =
    gap_place c.args.key.now c.args.items.now c.args.at
    (c.args.key.now, record { stamp = 0; place = record { class = 0; slot = 0 } })
    c.requires.past (omega arith)
    (λ lt. absurd (omega arith))

-- the items before it end at one that is above it
pub returns-then-is_above-clause-absent : goal.returns-then-is_above-clause-absent
returns-then-is_above-clause-absent c =
    gap_place c.args.key.now c.args.items.now c.args.at c.index-items-at.result
    c.requires.past (omega arith)
    (λ lt. ap (λ (p : Pair). slice_cmp nat_cmp c.args.key.now p.0) (sym c.index-items-at.is)
    ∙ c.is_above.ensures c.if-is_above.true c.args.key.now c.requires.number)
