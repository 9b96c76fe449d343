-- Items of several disks by rising key.
use Rattle.std.specs.Prelude.{◌≡◌, ◌≢◌, ◌⊎◌, ◌↔◌, ℕ, List, [], ◌∷◌, ◌++◌, Contains, Bool, true, false}
use Rattle.std.specs.Prelude.{Option, None, Some}
use Rattle.std.specs.Ordering.{nat_cmp, is_le}
use Rattle.std.specs.Cmp.Lexicographic.{slice_cmp}
use Rattle.kv_model.specs.Items.{IsLess}
use Rattle.kv_model.specs.Lookup.{IsAtMost}
use Rattle.kv_model.specs.Pairwise.{Pairwise}
use Rattle.kv_recover.specs.declared.entries.Kept.{Kept}
use Rattle.kv_tools.specs.declared.merge.Listed.{Listed}

-- the item of a worker
abbrev pub listed_of : ℕ → Kept → Listed
listed_of worker kept = record { worker = worker; kept = kept }

-- keys strictly rise
abbrev pub Rises : List Listed → Type 0
Rises list = Pairwise (λ item next. IsLess item.kept.key next.kept.key) list

-- no key is in both lists
abbrev pub AreApart : List Listed → List Listed → Type 0
AreApart list others = (item other : Listed) → Contains list item → Contains others other
    → item.kept.key ≢ other.kept.key

-- the list has the items of both lists, and its keys rise where theirs do and are apart
pub record IsMerged (list others merged : List Listed) : Type 0 where
  pub each : (item : Listed) → Contains merged item ↔ (Contains list item ⊎ Contains others item)
  pub rising : Rises list → Rises others → AreApart list others → Rises merged

-- whether the first item is there, and its key isn't before that of the second one
abbrev pub is_last_greater : Option Listed → Option Kept → Bool
is_last_greater None other = false
is_last_greater (Some item) None = true
is_last_greater (Some item) (Some other) = is_le (slice_cmp nat_cmp other.key item.kept.key)

-- the last item of a list was taken, and the last key of the other list isn't behind its key
pub record TakesLast (old new others : List Listed) (item : Listed) : Type 0 where
  pub taken : old ≡ new ++ item ∷ []
  pub greatest : (front : List Listed) (last : Listed) → others ≡ front ++ last ∷ []
      → IsAtMost last.kept.key item.kept.key

-- of two lists the last item with the greatest key was taken, or both are empty
abbrev pub TakesGreatest : List Listed → List Listed → List Listed → List Listed → Option Listed
    → Type 0
TakesGreatest list others left right None = (list ≡ []) × (others ≡ []) × (left ≡ []) × (right ≡ [])
TakesGreatest list others left right (Some item) =
    (TakesLast list left others item × (right ≡ others))
    ⊎ (TakesLast others right list item × (left ≡ list))
