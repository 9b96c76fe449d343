-- The order that the stamps of one session keep.
use Rattle.std.specs.Prelude.{◌≡◌, ◌<◌, ℕ, List, MatchOption, ⊤}
use Rattle.std.specs.List.{AllByRecursion}
use Rattle.kv_model.specs.Pairwise.{Pairwise}
use Rattle.kv_model.specs.Pairs.{Pair, key_of, stamp_of, stamps, seen_in, counter_numbers}
use Rattle.kv_model.specs.Pairs.{pairs_in}

-- each stamp of the second group is above each stamp of the first, and above those that it noted
abbrev pub IsAfter : List Pair → List Pair → Type 0
IsAfter group next = AllByRecursion (λ seen. AllByRecursion (λ stamp. seen < stamp) (stamps next))
    (seen_in group)

-- where both replies carry a stamp, the second is above the first
abbrev pub Rises : Pair → Pair → Type 0
Rises pair next = MatchOption (stamp_of pair.reply) ⊤ (λ stamp. MatchOption (stamp_of next.reply) ⊤
    (λ other. stamp < other))

-- where both requests are about one key, or about none, the second stamp is above the first
abbrev pub RisesForKey : Pair → Pair → Type 0
RisesForKey pair next = key_of pair.request ≡ key_of next.request → Rises pair next

-- each number of the counter that the second group tells is above what the first has seen
abbrev pub IsCountedAfter : List Pair → List Pair → Type 0
IsCountedAfter group next = AllByRecursion (λ seen. AllByRecursion (λ number. seen < number)
    (counter_numbers next)) (seen_in group)

-- each number of the counter that a session is told is above the floor, and above all that its
-- earlier groups have seen
pub record TellsCounter (floor : ℕ) (groups : List (List Pair)) : Type 0 where
  pub floor_is : AllByRecursion (λ number. floor < number) (counter_numbers (pairs_in groups))
  pub across : Pairwise IsCountedAfter groups

-- stamps rise from group to group, and within a group for each key
pub record RespectsOrder (groups : List (List Pair)) : Type 0 where
  pub across : Pairwise IsAfter groups
  pub within : AllByRecursion (λ group. Pairwise RisesForKey group) groups

-- through a session's groups the stamps of each key's requests rise
abbrev pub StampsRise : Type 0
StampsRise = (groups : List (List Pair)) → RespectsOrder groups
    → Pairwise RisesForKey (pairs_in groups)
