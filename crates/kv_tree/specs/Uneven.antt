-- A node one of whose kids has a pair too few or too many to stand below it.
use Rattle.std.specs.Prelude.{ℕ, zero, suc, ◌+◌, ◌*◌, ◌<◌, ◌≤◌, ◌≡◌, List, [], ◌∷◌, length}
use Rattle.kv_tree.specs.Subtree.{Subtree, IsKid, AreKids}

-- a node that may stand below another but for one pair that it may want
pub record IsThin (level : ℕ) (kid : Subtree) : Type 0 where
  pub depth : kid.depth ≡ level
  pub low : 14 ≤ kid.own
  pub high : kid.own ≤ 31
  pub full : 15 ≤ kid.own → 15 * kid.nodes ≤ length kid.pairs
  pub wide : 15 ≤ kid.own → 16 * kid.inner + 1 ≤ kid.nodes

-- each may stand below another, but for the one at this place, of which this is known
abbrev pub AreKidsBut : (ℕ → Subtree → Type 0) → ℕ → ℕ → List Subtree → Type 0
AreKidsBut Is at level [] = Unit {0}
AreKidsBut Is zero level (kid ∷ kids) = Is level kid × AreKids level kids
AreKidsBut Is (suc at) level (kid ∷ kids) = IsKid level kid × AreKidsBut Is at level kids

-- the node at this place wants a pair
abbrev pub IsThinAt : ℕ → List Subtree → Type 0
IsThinAt at [] = Unit {0}
IsThinAt zero (kid ∷ kids) = kid.own < 15
IsThinAt (suc at) (kid ∷ kids) = IsThinAt at kids

-- a node that has one pair too many to stand below another
pub record IsOver (level : ℕ) (kid : Subtree) : Type 0 where
  pub depth : kid.depth ≡ level
  pub own : kid.own ≡ 32
