-- the closure compares a pair's key with the one that is searched for
use Rattle.std.proofs.Common.{rules}
use Rattle.std.specs.Ordering.{nat_cmp}
use Rattle.std.specs.Cmp.Lexicographic.{slice_cmp}
use Rattle.std.proofs.lemmas.Fn.{always_returns_same}
use Rattle.kv_index.proofs.EntriesLemmas.{placed}
use Rattle.kv_index.proofs.flat.place_of.Goals as goal

pub returns : goal.returns
returns c =
    let facts = c.binary_search_by.ensures in
    let by_key =
    facts.position (λ pair. slice_cmp nat_cmp pair.0 c.args.key.now)
    (always_returns_same _ _ _ (λ a r g called. search rules)) in
    let parts = placed c.args.key.now c.args.pairs.now _ c.requires facts.bound by_key in
    record { bound = facts.bound; found = parts.found; absent = parts.absent }
