use Rattle.kv_tree.proofs.search.place_of.Goals as goal

pub place_behind-requires-clause-past : goal.place_behind-requires-clause-past
place_behind-requires-clause-past c =
    c.count_below-at.ensures.past c.args.key.now c.requires.number
