-- Lemmas on the order of a session's stamps.
use Rattle.std.proofs.Common.{ℕ, ◌<◌, List, [], ◌∷◌, Option, None, Some, MatchOption}
use Rattle.std.specs.List.{AllByRecursion, cons_option}
use Rattle.kv_model.specs.Pairwise.{Pairwise}
use Rattle.kv_model.specs.Pairs.{Pair, stamp_of, stamps, noted_stamps, pairs_in}
use Rattle.kv_model.specs.Order.{IsAfter, Rises, RisesForKey}
use Rattle.kv_model.proofs.PairwiseLemmas.{All-across, All-front, All-map, All-each}
use Rattle.kv_model.proofs.PairwiseLemmas.{Pairwise-append}

-- the stamp, where there is one, is above
abbrev IsAbove : ℕ → Option ℕ → Type 0
IsAbove low stamp = MatchOption stamp (Unit {0}) (λ other. low < other)

above_parts : (stamp : Option ℕ) (low : ℕ) (rest : List ℕ)
    → AllByRecursion (λ other. low < other) (cons_option stamp rest)
    → IsAbove low stamp × AllByRecursion (λ other. low < other) rest
above_parts None low rest all = (tt, all)
above_parts (Some stamp) low rest all = (all.0, all.1)

above-each : (group : List Pair) (low : ℕ) → AllByRecursion (λ other. low < other) (stamps group)
    → AllByRecursion (λ pair. IsAbove low (stamp_of pair.reply)) group
above-each [] low all = tt
above-each (pair ∷ group) low all =
    let parts = above_parts (stamp_of pair.reply) low (stamps group) all in
    (parts.0, above-each group low parts.1)

rises_parts : (stamp : Option ℕ) (rest : List ℕ) (next : List Pair)
    → AllByRecursion (λ s. AllByRecursion (λ other. s < other) (stamps next))
    (cons_option stamp rest)
    → AllByRecursion (λ p. MatchOption stamp (Unit {0}) (λ s. IsAbove s (stamp_of p.reply))) next
    × AllByRecursion (λ s. AllByRecursion (λ other. s < other) (stamps next)) rest
rises_parts None rest next all = (All-each (λ p. Unit {0}) next (λ p. tt), all)
rises_parts (Some stamp) rest next all = (above-each next stamp all.0, all.1)

rises-above : (group next : List Pair)
    → AllByRecursion (λ s. AllByRecursion (λ other. s < other) (stamps next)) (stamps group)
    → AllByRecursion (λ pair. AllByRecursion (Rises pair) next) group
rises-above [] next after = tt
rises-above (pair ∷ group) next after =
    let parts = rises_parts (stamp_of pair.reply) (stamps group) next after in
    (parts.0, rises-above group next parts.1)

-- each pair of the second group rises above each of the first
pub rises-each : (group next : List Pair) → IsAfter group next
    → AllByRecursion (λ pair. AllByRecursion (Rises pair) next) group
rises-each group next after =
    rises-above group next (All-front (λ s. AllByRecursion (λ other. s < other) (stamps next))
    (stamps group) (noted_stamps group) after)

-- each pair of later groups rises above each of the first
pub rises-behind : (groups : List (List Pair)) (group : List Pair)
    → AllByRecursion (IsAfter group) groups
    → AllByRecursion (λ pair. AllByRecursion (RisesForKey pair) (pairs_in groups)) group
rises-behind [] group after = All-each (λ pair. Unit {0}) group (λ pair. tt)
rises-behind (next ∷ groups) group after =
    All-across RisesForKey group next (pairs_in groups)
    (All-map (λ pair. AllByRecursion (Rises pair) next)
    (λ pair. AllByRecursion (RisesForKey pair) next) group
    (λ pair all. All-map (Rises pair) (RisesForKey pair) next (λ other rises same. rises) all)
    (rises-each group next after.0)) (rises-behind groups group after.1)

-- through all groups the stamps of one key rise
pub rises-through : (groups : List (List Pair)) → Pairwise IsAfter groups
    → AllByRecursion (λ group. Pairwise RisesForKey group) groups
    → Pairwise RisesForKey (pairs_in groups)
rises-through [] across within = tt
rises-through (group ∷ groups) across within =
    Pairwise-append RisesForKey group (pairs_in groups) within.0
    (rises-through groups across.1 within.1) (rises-behind groups group across.0)
