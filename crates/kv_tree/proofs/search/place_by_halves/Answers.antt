use Rattle.std.proofs.Common.{rules}
use Rattle.std.specs.Ordering.{nat_cmp}
use Rattle.std.specs.Cmp.Lexicographic.{slice_cmp}
use Rattle.std.proofs.lemmas.Fn.{always_returns_same}
use Rattle.kv_index.proofs.EntriesLemmas.{placed}
use Rattle.kv_tree.proofs.search.place_by_halves.Goals as goal

-- the closure compares an item's key with the one that is searched for
pub returns : goal.returns
returns c =
    let facts = c.binary_search_by.ensures in
    let by_key =
    facts.position (λ pair. slice_cmp nat_cmp pair.0 c.args.key.now)
    (always_returns_same _ _ _ (λ a r g called. search (rules, c.requires.number))) in
    let parts = placed c.args.key.now c.args.items.now _ c.requires.rising facts.bound by_key in
    record { bound = facts.bound; found = parts.found; absent = parts.absent }
