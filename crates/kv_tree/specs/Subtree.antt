-- What a node and all below it hold.
use Rattle.kv_index.specs.Places.{HasRisingKeys}
use Rattle.std.specs.Prelude.{◌^◌, ◌<◌, ◌≡◌, ℕ, zero, suc, not, ◌+◌, ◌-◌, ◌*◌, ◌≤◌, List, [], ◌∷◌}
use Rattle.std.specs.Prelude.{◌++◌, length, Option, None, Some, Bool, true, false, cond, refl}
use Rattle.std.specs.Prelude.{vec_capacity}
use Rattle.std.specs.declared.cmp.Ordering.TheVariants.{Greater}
use Rattle.std.specs.Coded.{Coded, code_by, coded×, coded_list, coded_ℕ}
use Rattle.std.specs.Ordering.{nat_cmp, is_gt, eq_by_cmp}
use Rattle.std.specs.Cmp.Lexicographic.{slice_cmp}
use Rattle.std.specs.FinMap.{empty, find}
use Rattle.std.specs.Global.{Vec}
use Rattle.std.specs.FinMap.Entries.{where_key}
use Rattle.kv_index.specs.declared.entry.Entry.{Entry}
use Rattle.kv_index.specs.Entries.{Indexed, entry_code}

-- a key with its entry
abbrev pub Pair : Type 0
Pair = List ℕ × Entry

-- a node and all below it: its pairs in order, how many stand in the node itself, how many levels
-- are below it, how many nodes there are, and how many of them have kids
pub record Subtree : Type 0 where
  pub pairs : List Pair
  pub own : ℕ
  pub depth : ℕ
  pub nodes : ℕ
  pub inner : ℕ

-- a pair is stored as its key and its entry
abbrev pub pair_code : Coded Pair
pair_code = coded× (coded_list coded_ℕ) entry_code

-- a node is stored as its pairs and its four numbers
abbrev pub subtree_code : Coded Subtree
subtree_code =
    code_by (List Pair × (ℕ × (ℕ × (ℕ × ℕ))))
    (coded× (coded_list pair_code) (coded× coded_ℕ (coded× coded_ℕ (coded× coded_ℕ coded_ℕ))))
    (λ s. (s.pairs, (s.own, (s.depth, (s.nodes, s.inner)))))
    (λ p. record {
      pairs = p.0;
      own = p.1.0;
      depth = p.1.1.0;
      nodes = p.1.1.1.0;
      inner = p.1.1.1.1;
    }) (λ _. refl)

-- what the kids hold, with a pair of the node's own between each two
abbrev pub weave : List Subtree → List Pair → List Pair
weave [] own = own
weave (kid ∷ kids) [] = kid.pairs
weave (kid ∷ kids) (pair ∷ own) = kid.pairs ++ pair ∷ weave kids own

-- how many levels are below a node with these kids
abbrev pub depth_over : List Subtree → ℕ
depth_over [] = 0
depth_over (kid ∷ kids) = kid.depth + 1

-- the level at which the kids of a node stand
abbrev pub level_of : List Subtree → ℕ
level_of [] = 0
level_of (kid ∷ kids) = kid.depth

-- the sum of a number of each of these kids
abbrev pub sum_in : (Subtree → ℕ) → List Subtree → ℕ
sum_in number [] = 0
sum_in number (kid ∷ kids) = number kid + sum_in number kids

-- how many nodes there are in these kids
abbrev pub nodes_in : List Subtree → ℕ
nodes_in = sum_in (λ kid. kid.nodes)

-- how many nodes with kids there are in these kids
abbrev pub inner_in : List Subtree → ℕ
inner_in = sum_in (λ kid. kid.inner)

-- how many nodes with kids there are, the node over these kids counted
abbrev pub inner_over : List Subtree → ℕ
inner_over [] = 0
inner_over (kid ∷ kids) = inner_in (kid ∷ kids) + 1

-- a node with these kids and pairs of its own
abbrev pub subtree : List Subtree → List Pair → Subtree
subtree kids own = record {
  pairs = weave kids own;
  own = length own;
  depth = depth_over kids;
  nodes = nodes_in kids + 1;
  inner = inner_over kids;
}

-- a node that may stand below another: at this depth, half full, with 15 pairs a node in all, and
-- with 16 nodes for each that has kids
pub record IsKid (level : ℕ) (kid : Subtree) : Type 0 where
  pub depth : kid.depth ≡ level
  pub low : 15 ≤ kid.own
  pub high : kid.own ≤ 31
  pub full : 15 * kid.nodes ≤ length kid.pairs
  pub wide : 16 * kid.inner + 1 ≤ kid.nodes

-- each is such a node
abbrev pub AreKids : ℕ → List Subtree → Type 0
AreKids level [] = Unit {0}
AreKids level (kid ∷ kids) = IsKid level kid × AreKids level kids

-- a leaf has no kids, and any other node one more than pairs of its own
abbrev pub IsShape : List Subtree → List Pair → Type 0
IsShape [] own = Unit {0}
IsShape (kid ∷ kids) own = length kids ≡ length own

-- a node with all its leaves at one depth, with one pair more at most than it may have below
-- another, and with room for those and, unless it is a leaf, for their kids
pub record IsNode (below : List Subtree) (own : List Pair) (kids_fit items_fit : ℕ) : Type 0 where
  pub kids : AreKids (level_of below) below
  pub shape : IsShape below own
  pub few : length own ≤ 32
  pub kid_room : 0 < length below → 33 ≤ kids_fit
  pub item_room : 32 ≤ items_fit

-- the entry of a key
abbrev pub entry_of : List Pair → List ℕ → Option Entry
entry_of pairs key = find (slice_cmp nat_cmp) key pairs

-- the first pair at or after a key
abbrev pub next_from : List ℕ → List Pair → Option Pair
next_from key [] = None
next_from key (pair ∷ pairs) =
    cond (is_gt (slice_cmp nat_cmp key pair.0)) (next_from key pairs) (Some pair)

-- each of these keys is less than this one
abbrev pub Past : List ℕ → List Pair → Type 0
Past key [] = Unit {0}
Past key (pair ∷ pairs) = (slice_cmp nat_cmp key pair.0 ≡ Greater) × Past key pairs

-- what a node holds behind one of its kids: nothing, or a pair of its own and what follows it
abbrev pub behind : List Subtree → List Pair → List Pair
behind kids [] = []
behind kids (pair ∷ own) = pair ∷ weave kids own

-- a leaf with no pairs
abbrev pub blank : Subtree
blank = subtree [] []

-- each is such a leaf
abbrev pub AreBlank : List Subtree → Type 0
AreBlank [] = Unit {0}
AreBlank (node ∷ nodes) = (node ≡ blank) × AreBlank nodes

-- each has no kids, and room for 33
abbrev pub AreKidRooms : List (Vec Subtree) → Type 0
AreKidRooms [] = Unit {0}
AreKidRooms (room ∷ rooms) = ((room.items ≡ []) × (33 ≤ vec_capacity room)) × AreKidRooms rooms

-- how many spare nodes there are, to how many of them kids can be given, and how many of each the
-- pool can hold
pub record Spares : Type 0 where
  pub nodes : ℕ
  pub inner : ℕ
  pub room : ℕ

-- spare nodes are stored as their numbers
abbrev pub spares_code : Coded Spares
spares_code =
    code_by (ℕ × (ℕ × ℕ)) (coded× coded_ℕ (coded× coded_ℕ coded_ℕ))
    (λ s. (s.nodes, (s.inner, s.room)))
    (λ p. record { nodes = p.0; inner = p.1.0; room = p.1.1 }) (λ _. refl)

-- the pairs of a node, and of what was split off to its right
abbrev pub joined_pairs : Subtree → Option (Pair × Subtree) → List Pair
joined_pairs left None = left.pairs
joined_pairs left (Some split) = left.pairs ++ split.0 ∷ split.1.pairs

-- the nodes of both
abbrev pub joined_nodes : Subtree → Option (Pair × Subtree) → ℕ
joined_nodes left None = left.nodes
joined_nodes left (Some split) = left.nodes + split.1.nodes

-- the nodes with kids of both
abbrev pub joined_inner : Subtree → Option (Pair × Subtree) → ℕ
joined_inner left None = left.inner
joined_inner left (Some split) = left.inner + split.1.inner

-- the spare nodes serve one more key: there are more of them than of those with kids, or else, a
-- node counted as half full at least, there are more nodes than so many pairs can fill
abbrev pub HasRoom : Subtree → Spares → Type 0
HasRoom s spares =
    spares.nodes ≤ spares.inner
    → length s.pairs + 1 + (15 - s.own) < 15 * (s.nodes + spares.nodes + 1)

-- there are more nodes with kids than so many nodes can fill
abbrev pub HasWidth : Subtree → Spares → Type 0
HasWidth s spares =
    s.nodes + spares.nodes + (15 - s.own) ≤ 16 * (s.inner + spares.inner + 1)

-- no more nodes were taken than nodes with kids, and so many
abbrev pub TakesAtMost : ℕ → Spares → Spares → Type 0
TakesAtMost more old new = old.nodes + new.inner ≤ new.nodes + old.inner + more

-- what a search found counts as no new key
abbrev pub new_keys : Bool → ℕ
new_keys true = 0
new_keys false = 1

-- a tree of a map with so many keys, of which so many nodes in all and so many with kids, with the
-- spare ones, serve so many more and one beside
pub record IsTree (root : Subtree) (pool : Spares) (count more all all_inner : ℕ) : Type 0 where
  pub rising : HasRisingKeys (slice_cmp nat_cmp) root.pairs
  pub keys : count ≡ length root.pairs
  pub few : count < 2 ^ 32
  pub nodes : root.nodes + pool.nodes ≡ all
  pub inner : root.inner + pool.inner ≡ all_inner
  pub few_nodes : all ≤ 2 ^ 30
  pub room : all ≤ pool.room
  pub wide : all ≤ 16 * all_inner + 1
  pub fewer : all_inner ≤ all
  pub enough : pool.nodes ≤ more + pool.inner → count + more + 1 < 15 * all
  pub own : root.own ≤ 31
  pub has_own : 0 < root.depth → 0 < root.own

-- what the tree holds; where there is none, no key
abbrev pub indexed_of : Option Indexed → Indexed
indexed_of None = record { entries = empty; spare = 0 }
indexed_of (Some tree) = tree

-- the pairs of all other keys
abbrev pub without : List ℕ → List Pair → List Pair
without key = where_key (slice_cmp nat_cmp) (λ other. not (eq_by_cmp (slice_cmp nat_cmp) key other))

-- a node holds 15 pairs for each node below it, and its own; if it has kids, there are 16 nodes
-- below it for each of those that have some, and one for each pair of its own
pub record IsFilled (s : Subtree) : Type 0 where
  pub full : 15 * s.nodes + s.own ≤ length s.pairs + 15
  pub wide : 0 < s.depth → 16 * s.inner + s.own ≤ s.nodes + 14
  pub leaf : s.depth ≡ 0 → (s.inner ≡ 0) × (s.nodes ≡ 1)
