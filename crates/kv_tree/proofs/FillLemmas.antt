-- How many pairs and nodes there are below a node, and what a split and a join keep.
use Rattle.std.proofs.Common.{◌≡◌, ℕ, zero, suc, ◌+◌, ◌*◌, ◌<◌, ◌≤◌, List, [], ◌∷◌, ◌++◌}
use Rattle.std.proofs.Common.{length, get_or, length-append}
use Rattle.std.proofs.Common.{refl, sym, ap, ◌∙◌, subst, arith}
use Rattle.std.proofs.lemmas.List.{append_assoc}
use Rattle.kv_tree.specs.Subtree.{Pair, Subtree, weave, subtree, blank, AreBlank}
use Rattle.kv_tree.specs.Subtree.{depth_over, level_of, sum_in, nodes_in, inner_in, inner_over}
use Rattle.kv_tree.specs.Subtree.{IsKid, AreKids, IsShape}
use Rattle.kv_tree.specs.Subtree.{AreKidRooms, IsFilled}
use Rattle.std.specs.Global.{Vec}
use Rattle.std.specs.Prelude.{vec_capacity}
use Rattle.kv_tree.proofs.WeaveLemmas.{shape_length}

pub blank_last : (nodes : List Subtree) (node : Subtree) → AreBlank (nodes ++ node ∷ [])
    → AreBlank nodes × (node ≡ blank)
blank_last [] node h = (tt, h.0)
blank_last (n ∷ nodes) node h = let rest = blank_last nodes node h.1 in ((h.0, rest.0), rest.1)

-- the pairs are the node's own and the kids'; each kid has 15 a node
pub weave_full : (level : ℕ) (kids : List Subtree) (own : List Pair) → AreKids level kids
    → IsShape kids own
    → 15 * nodes_in kids + length own ≤ length (weave kids own)
weave_full level [] own h n = omega arith
weave_full level (kid ∷ []) [] h n = omega (arith, h.0.full)
weave_full level (kid ∷ kid2 ∷ kids) [] h n = absurd (omega arith)
weave_full level (kid ∷ []) (x ∷ own) h n = absurd (omega arith)
weave_full level (kid ∷ kid2 ∷ kids) (x ∷ own) h n =
    omega (
      arith,
      h.0.full,
      length-append kid.pairs (x ∷ weave (kid2 ∷ kids) own),
      weave_full level (kid2 ∷ kids) own h.1 (omega arith),
    )

-- the same, with one kid counted exactly
pub weave_full_at : (level : ℕ) (kids : List Subtree) (own : List Pair) (at : ℕ) (d : Subtree)
    → AreKids level kids → IsShape kids own → at < length kids
    → 15 * nodes_in kids + length own + length (get_or kids at d).pairs ≤ length (weave kids own) +
    15 * (get_or kids at d).nodes
weave_full_at level [] own at d h n lt = absurd (omega arith)
weave_full_at level (kid ∷ []) [] zero d h n lt = omega arith
weave_full_at level (kid ∷ []) [] (suc at) d h n lt = absurd (omega arith)
weave_full_at level (kid ∷ kid2 ∷ kids) [] at d h n lt = absurd (omega arith)
weave_full_at level (kid ∷ []) (x ∷ own) at d h n lt = absurd (omega arith)
weave_full_at level (kid ∷ kid2 ∷ kids) (x ∷ own) zero d h n lt =
    omega (
      arith,
      length-append kid.pairs (x ∷ weave (kid2 ∷ kids) own),
      weave_full level (kid2 ∷ kids) own h.1 (omega arith),
    )
weave_full_at level (kid ∷ kid2 ∷ kids) (x ∷ own) (suc at) d h n lt =
    omega (
      arith,
      h.0.full,
      length-append kid.pairs (x ∷ weave (kid2 ∷ kids) own),
      weave_full_at level (kid2 ∷ kids) own at d h.1 (omega arith) (omega arith),
    )

-- each kid has 16 nodes for one that has kids
pub inner_wide : (level : ℕ) (kids : List Subtree) → AreKids level kids
    → 16 * inner_in kids + length kids ≤ nodes_in kids
inner_wide level [] h = omega arith
inner_wide level (kid ∷ kids) h = omega (arith, h.0.wide, inner_wide level kids h.1)

-- the same, with one kid counted exactly
pub inner_wide_at : (level : ℕ) (kids : List Subtree) (at : ℕ) (d : Subtree) → AreKids level kids
    → at < length kids
    → 16 * inner_in kids + length kids + (get_or kids at d).nodes ≤ nodes_in kids + 16 *
    (get_or kids at d).inner + 1
inner_wide_at level [] at d h lt = absurd (omega arith)
inner_wide_at level (kid ∷ kids) zero d h lt = omega (arith, inner_wide level kids h.1)
inner_wide_at level (kid ∷ kids) (suc at) d h lt =
    omega (arith, h.0.wide, inner_wide_at level kids at d h.1 (omega arith))

-- a node over kids counts itself
pub inner_is : (kids : List Subtree) → 0 < length kids → inner_over kids ≡ inner_in kids + 1
inner_is [] lt = absurd (omega arith)
inner_is (kid ∷ kids) lt = refl

pub inner_leaf : (kids : List Subtree) → length kids ≤ 0 → inner_over kids ≡ 0
inner_leaf [] le = refl
inner_leaf (kid ∷ kids) le = absurd (omega arith)

node_wide : (level : ℕ) (kids : List Subtree) (own : List Pair) → AreKids level kids
    → IsShape kids own → 15 ≤ length own
    → 16 * inner_over kids + 1 ≤ nodes_in kids + 1
node_wide level [] own h n low = omega arith
node_wide level (kid ∷ kids) own h n low = omega (arith, inner_wide level (kid ∷ kids) h)

filled_kids : (kids : List Subtree) (own : List Pair) → AreKids (level_of kids) kids
    → IsShape kids own → IsFilled (subtree kids own)
filled_kids [] own level shape = record {
  full = omega arith;
  wide = λ some. absurd (omega arith);
  leaf = λ none. (refl, refl);
}
filled_kids (kid ∷ kids) own level shape = record {
  full = omega (arith, weave_full kid.depth (kid ∷ kids) own level shape);
  wide = λ some. omega (arith, inner_wide kid.depth (kid ∷ kids) level, shape);
  leaf = λ none. absurd (omega arith);
}

-- each node is filled
pub filled : (s : Subtree) (kids : List Subtree) (own : List Pair) → subtree kids own ≡ s
    → AreKids (level_of kids) kids → IsShape kids own → IsFilled s
filled s kids own view level shape = subst IsFilled view (filled_kids kids own level shape)

-- two nodes of one depth are both leaves or both not
pub same_kind : (kids kids2 : List Subtree) → depth_over kids ≡ depth_over kids2 → 0 < length kids
    → 0 < length kids2
same_kind [] kids2 e lt = absurd (omega arith)
same_kind (kid ∷ kids) [] e lt = absurd (omega (arith, e))
same_kind (kid ∷ kids) (kid2 ∷ kids2) e lt = omega arith

-- a split of a node takes room for kids, unless it is a leaf
pub split_counts : (n both all old new : ℕ) → (0 < n → both ≡ all + 1) → (n ≡ 0 → both ≡ all)
    → (0 < n → new + 1 ≡ old) → (n ≡ 0 → new ≡ old)
    → both + new ≡ all + old
split_counts zero both all old new inner leaf some none = omega (arith, leaf refl, none refl)
split_counts (suc n) both all old new inner leaf some none =
    omega (arith, inner (omega arith), some (omega arith))

-- and a merge of two gives it back
pub merge_counts : (n all both old new : ℕ) → (0 < n → all + 1 ≡ both) → (n ≡ 0 → all ≡ both)
    → (0 < n → new ≡ old + 1) → (n ≡ 0 → new ≡ old)
    → all + new ≡ both + old
merge_counts zero all both old new inner leaf some none = omega (arith, leaf refl, none refl)
merge_counts (suc n) all both old new inner leaf some none =
    omega (arith, inner (omega arith), some (omega arith))

-- a node with 15 pairs of its own or more may stand below another
pub node_kid : (kids : List Subtree) (own : List Pair) → AreKids (level_of kids) kids
    → IsShape kids own → 15 ≤ length own → length own ≤ 31
    → IsKid (depth_over kids) (subtree kids own)
node_kid kids own h n low high = record {
  depth = refl;
  low = low;
  high = high;
  full = omega (arith, weave_full (level_of kids) kids own h n);
  wide = node_wide (level_of kids) kids own h n low;
}

-- two nodes of one depth and a pair between them are one node
pub weave_join : (kids kids2 : List Subtree) (own : List Pair) (m : Pair) (own2 : List Pair)
    → IsShape kids own → (length kids ≡ 0 → length kids2 ≡ 0)
    → weave (kids ++ kids2) (own ++ m ∷ own2) ≡ weave kids own ++ m ∷ weave kids2 own2
weave_join [] [] own m own2 n h = refl
weave_join [] (kid ∷ kids2) own m own2 n h = absurd (omega (arith, h refl))
weave_join (kid ∷ []) kids2 [] m own2 n h = refl
weave_join (kid ∷ kid2 ∷ kids) kids2 [] m own2 n h = absurd (omega arith)
weave_join (kid ∷ []) kids2 (x ∷ own) m own2 n h = absurd (omega arith)
weave_join (kid ∷ kid2 ∷ kids) kids2 (x ∷ own) m own2 n h =
    ap (λ rest. kid.pairs ++ x ∷ rest) (weave_join (kid2 ∷ kids) kids2 own m own2 (omega arith)
    (λ e. absurd (omega arith)))
    ∙ sym (append_assoc kid.pairs _ _)

pub sum_join : (number : Subtree → ℕ) (kids kids2 : List Subtree)
    → sum_in number (kids ++ kids2) ≡ sum_in number kids + sum_in number kids2
sum_join number [] kids2 = omega arith
sum_join number (kid ∷ kids) kids2 = omega (arith, sum_join number kids kids2)

pub nodes_join : (kids kids2 : List Subtree)
    → nodes_in (kids ++ kids2) ≡ nodes_in kids + nodes_in kids2
nodes_join = sum_join (λ kid. kid.nodes)

pub inner_join : (kids kids2 : List Subtree)
    → inner_in (kids ++ kids2) ≡ inner_in kids + inner_in kids2
inner_join = sum_join (λ kid. kid.inner)

pub kids_left : (level : ℕ) (kids kids2 : List Subtree) → AreKids level (kids ++ kids2)
    → AreKids level kids
kids_left level [] kids2 h = tt
kids_left level (kid ∷ kids) kids2 h = (h.0, kids_left level kids kids2 h.1)

pub kids_right : (level : ℕ) (kids kids2 : List Subtree) → AreKids level (kids ++ kids2)
    → AreKids level kids2
kids_right level [] kids2 h = h
kids_right level (kid ∷ kids) kids2 h = kids_right level kids kids2 h.1

pub kids_join : (level : ℕ) (kids kids2 : List Subtree) → AreKids level kids → AreKids level kids2
    → AreKids level (kids ++ kids2)
kids_join level [] kids2 h k = k
kids_join level (kid ∷ kids) kids2 h k = (h.0, kids_join level kids kids2 h.1 k)

-- the level of kids that are there is the level that they are known at
pub level_is : (level : ℕ) (kids : List Subtree) → AreKids level kids → 0 < length kids
    → level_of kids ≡ level
level_is level [] h lt = absurd (omega arith)
level_is level (kid ∷ kids) h lt = h.0.depth

pub own_level : (level : ℕ) (kids : List Subtree) → AreKids level kids
    → AreKids (level_of kids) kids
own_level level [] h = tt
own_level level (kid ∷ kids) h = subst (λ (l : ℕ). AreKids l (kid ∷ kids)) (sym h.0.depth) h

pub depth_is : (level : ℕ) (kids : List Subtree) → AreKids level kids → 0 < length kids
    → depth_over kids ≡ level + 1
depth_is level [] h lt = absurd (omega arith)
depth_is level (kid ∷ kids) h lt = omega (arith, h.0.depth)

pub no_kids : (kids : List Subtree) → length kids ≡ 0 → kids ≡ []
no_kids [] e = refl
no_kids (kid ∷ kids) e = absurd (omega arith)

pub shape_inner : (kids : List Subtree) (own : List Pair) → length kids ≡ length own + 1
    → IsShape kids own
shape_inner [] own e = tt
shape_inner (kid ∷ kids) own e = omega arith

-- a node with too many pairs, cut in two
pub record IsCut (kids kids1 kids2 : List Subtree) (own own1 : List Pair) (m : Pair)
    (own2 : List Pair) : Type 0 where
  pub kids_are : kids ≡ kids1 ++ kids2
  pub own_are : own ≡ (own1 ++ m ∷ []) ++ own2
  pub own1_len : length own1 ≡ 16
  pub own_len : length own ≡ 32
  pub long : 17 ≤ length kids → length kids1 ≡ 17
  pub short : length kids ≤ 17 → kids2 ≡ []
  pub level : AreKids (level_of kids) kids
  pub shape : IsShape kids own

pub record IsCutWell (kids kids1 kids2 : List Subtree) (own own1 : List Pair) (m : Pair)
    (own2 : List Pair) : Type 0 where
  pub pairs : weave kids1 own1 ++ m ∷ weave kids2 own2 ≡ weave kids own
  pub nodes : nodes_in kids1 + nodes_in kids2 ≡ nodes_in kids
  pub inner : 0 < length kids → inner_over kids1 + inner_over kids2 ≡ inner_over kids + 1
  pub leaf : length kids ≡ 0 → inner_over kids1 + inner_over kids2 ≡ inner_over kids
  pub own2_len : length own2 ≡ 15
  pub left : IsKid (depth_over kids) (subtree kids1 own1)
  pub right : IsKid (depth_over kids) (subtree kids2 own2)
  pub shape1 : IsShape kids1 own1
  pub shape2 : IsShape kids2 own2
  pub level1 : AreKids (level_of kids1) kids1
  pub level2 : AreKids (level_of kids2) kids2

cut_inner : {kids kids1 kids2 : List Subtree} {own own1 : List Pair} {m : Pair} {own2 : List Pair}
    → IsCut kids kids1 kids2 own own1 m own2 → 0 < length kids
    → IsCutWell kids kids1 kids2 own own1 m own2
cut_inner {kids} {kids1} {kids2} {own} {own1} {m} {own2} c lt =
    let n : length kids ≡ 33 = omega (arith, shape_length kids own c.shape lt, c.own_len) in
    let n1 : length kids1 ≡ 17 = c.long (omega arith) in
    let n2 : length kids2 ≡ 16 = omega (arith, ap length c.kids_are, length-append kids1 kids2) in
    let all : AreKids (level_of kids) (kids1 ++ kids2) = subst (AreKids (level_of kids)) c.kids_are
    c.level in
    let l1 = kids_left (level_of kids) kids1 kids2 all in
    let l2 = kids_right (level_of kids) kids1 kids2 all in
    let o2 : length own2 ≡ 15 = omega (
      arith,
      ap length c.own_are,
      length-append (own1 ++ m ∷ []) own2,
      length-append own1 (m ∷ []),
      c.own1_len,
      c.own_len,
    ) in
    let s1 : IsShape kids1 own1 = shape_inner kids1 own1 (omega (arith, c.own1_len)) in
    let s2 : IsShape kids2 own2 = shape_inner kids2 own2 (omega arith) in
    let d0 : depth_over kids ≡ level_of kids + 1 = depth_is (level_of kids) kids c.level
    (omega arith) in
    let d1 : depth_over kids1 ≡ depth_over kids = depth_is (level_of kids) kids1 l1 (omega arith)
    ∙ sym d0 in
    let d2 : depth_over kids2 ≡ depth_over kids = depth_is (level_of kids) kids2 l2 (omega arith)
    ∙ sym d0 in
    record {
      pairs = sym
          (ap (λ (ks : List Subtree). weave ks own) c.kids_are
          ∙ ap (λ (ps : List Pair). weave (kids1 ++ kids2) ps)
          (c.own_are ∙ append_assoc own1 (m ∷ []) own2)
          ∙ weave_join kids1 kids2 own1 m own2 s1 (λ e. absurd (omega arith)));
      nodes = sym (ap nodes_in c.kids_are ∙ nodes_join kids1 kids2);
      inner = λ _. omega (
        arith,
        inner_is kids lt,
        inner_is kids1 (omega arith),
        inner_is kids2 (omega arith),
        ap inner_in c.kids_are,
        inner_join kids1 kids2,
      );
      leaf = λ none. absurd (omega arith);
      own2_len = o2;
      left = subst (λ (d : ℕ). IsKid d (subtree kids1 own1)) d1
          (node_kid kids1 own1 (own_level _ kids1 l1) s1 (omega (arith, c.own1_len))
          (omega (arith, c.own1_len)));
      right = subst (λ (d : ℕ). IsKid d (subtree kids2 own2)) d2
          (node_kid kids2 own2 (own_level _ kids2 l2) s2 (omega arith) (omega arith));
      shape1 = s1;
      shape2 = s2;
      level1 = own_level _ kids1 l1;
      level2 = own_level _ kids2 l2;
    }

cut_both : (kids kids1 kids2 : List Subtree) {own own1 : List Pair} {m : Pair} {own2 : List Pair}
    → IsCut kids kids1 kids2 own own1 m own2
    → IsCutWell kids kids1 kids2 own own1 m own2
cut_both (kid ∷ kids) kids1 kids2 c = cut_inner c (omega arith)
cut_both [] (kid ∷ kids1) kids2 c = absurd (omega (arith, ap length c.kids_are))
cut_both [] [] (kid ∷ kids2) c = absurd (omega (arith, ap length c.kids_are))
cut_both [] [] [] {own} {own1} {m} {own2} c =
    let o2 : length own2 ≡ 15 = omega (
      arith,
      ap length c.own_are,
      length-append (own1 ++ m ∷ []) own2,
      length-append own1 (m ∷ []),
      c.own1_len,
      c.own_len,
    ) in
    record {
      pairs = sym (c.own_are ∙ append_assoc own1 (m ∷ []) own2);
      nodes = refl;
      inner = λ some. absurd (omega arith);
      leaf = λ _. refl;
      own2_len = o2;
      left = node_kid [] own1 tt tt (omega (arith, c.own1_len)) (omega (arith, c.own1_len));
      right = node_kid [] own2 tt tt (omega arith) (omega arith);
      shape1 = tt;
      shape2 = tt;
      level1 = tt;
      level2 = tt;
    }

pub cut : {kids kids1 kids2 : List Subtree} {own own1 : List Pair} {m : Pair} {own2 : List Pair}
    → IsCut kids kids1 kids2 own own1 m own2
    → IsCutWell kids kids1 kids2 own own1 m own2
cut {kids} {kids1} {kids2} c = cut_both kids kids1 kids2 c

pub blank_push : (nodes : List Subtree) (node : Subtree) → AreBlank nodes → node ≡ blank
    → AreBlank (nodes ++ node ∷ [])
blank_push [] node h is = (is, tt)
blank_push (n ∷ nodes) node h is = (h.0, blank_push nodes node h.1 is)

pub rooms_push : (rooms : List (Vec Subtree)) (room : Vec Subtree) → AreKidRooms rooms
    → room.items ≡ [] → 33 ≤ vec_capacity room
    → AreKidRooms (rooms ++ room ∷ [])
rooms_push [] room h is fits = ((is, fits), tt)
rooms_push (r ∷ rooms) room h is fits = (h.0, rooms_push rooms room h.1 is fits)

pub rooms_last : (rooms : List (Vec Subtree)) (room : Vec Subtree)
    → AreKidRooms (rooms ++ room ∷ [])
    → AreKidRooms rooms × ((room.items ≡ []) × (33 ≤ vec_capacity room))
rooms_last [] room h = (tt, h.0)
rooms_last (r ∷ rooms) room h = let rest = rooms_last rooms room h.1 in ((h.0, rest.0), rest.1)

-- the same pairs and kids in two nodes of one depth, cut at another place
pub record IsRecut (kids1 : List Subtree) (own1 : List Pair) (m : Pair) (kids2 : List Subtree)
    (own2 : List Pair)
    (new1 : List Subtree) (new_own1 : List Pair) (n : Pair) (new2 : List Subtree)
    (new_own2 : List Pair) : Type 0 where
  pub kids : new1 ++ new2 ≡ kids1 ++ kids2
  pub own : new_own1 ++ n ∷ new_own2 ≡ own1 ++ m ∷ own2
  pub depth : depth_over kids1 ≡ depth_over kids2
  pub level1 : AreKids (level_of kids1) kids1
  pub level2 : AreKids (level_of kids2) kids2
  pub shape1 : IsShape kids1 own1
  pub shape2 : IsShape kids2 own2
  pub low1 : 15 ≤ length new_own1
  pub high1 : length new_own1 ≤ 31
  pub low2 : 15 ≤ length new_own2
  pub high2 : length new_own2 ≤ 31
  pub inner : 0 < length kids1 → 0 < length kids2
      → (length new1 ≡ length new_own1 + 1) × (length new2 ≡ length new_own2 + 1)

pub record IsRecutWell (kids1 : List Subtree) (own1 : List Pair) (m : Pair) (kids2 : List Subtree)
    (own2 : List Pair)
    (new1 : List Subtree) (new_own1 : List Pair) (n : Pair) (new2 : List Subtree)
    (new_own2 : List Pair) : Type 0 where
  pub pairs : weave new1 new_own1 ++ n ∷ weave new2 new_own2 ≡ weave kids1 own1
      ++ m ∷ weave kids2 own2
  pub nodes : nodes_in new1 + nodes_in new2 ≡ nodes_in kids1 + nodes_in kids2
  pub inner : inner_over new1 + inner_over new2 ≡ inner_over kids1 + inner_over kids2
  pub same : depth_over kids2 ≡ depth_over kids1
  pub left : IsKid (depth_over kids1) (subtree new1 new_own1)
  pub right : IsKid (depth_over kids1) (subtree new2 new_own2)
  pub new_shape1 : IsShape new1 new_own1
  pub new_shape2 : IsShape new2 new_own2
  pub new_level1 : AreKids (level_of new1) new1
  pub new_level2 : AreKids (level_of new2) new2

recut_leaf : {own1 : List Pair} {m : Pair} {own2 : List Pair} {new_own1 : List Pair} {n : Pair}
    {new_own2 : List Pair} (new1 new2 : List Subtree)
    → IsRecut [] own1 m [] own2 new1 new_own1 n new2 new_own2
    → IsRecutWell [] own1 m [] own2 new1 new_own1 n new2 new_own2
recut_leaf [] [] c = record {
  pairs = c.own;
  nodes = refl;
  inner = refl;
  same = refl;
  left = node_kid [] _ tt tt c.low1 c.high1;
  right = node_kid [] _ tt tt c.low2 c.high2;
  new_shape1 = tt;
  new_shape2 = tt;
  new_level1 = tt;
  new_level2 = tt;
}
recut_leaf [] (kid ∷ new2) c = absurd (omega (arith, ap length c.kids))
recut_leaf (kid ∷ new1) new2 c = absurd (omega (arith, ap length c.kids))

recut_inner : {kids1 : List Subtree} {own1 : List Pair} {m : Pair} {kids2 : List Subtree}
    {own2 : List Pair}
    {new1 : List Subtree} {new_own1 : List Pair} {n : Pair} {new2 : List Subtree}
    {new_own2 : List Pair}
    → IsRecut kids1 own1 m kids2 own2 new1 new_own1 n new2 new_own2 → 0 < length kids1
    → 0 < length kids2
    → IsRecutWell kids1 own1 m kids2 own2 new1 new_own1 n new2 new_own2
recut_inner {kids1} {own1} {m} {kids2} {own2} {new1} {new_own1} {n} {new2} {new_own2} c lt1 lt2 =
    let len = c.inner lt1 lt2 in
    let d1 : depth_over kids1 ≡ level_of kids1 + 1 = depth_is _ kids1 c.level1 lt1 in
    let d2 : depth_over kids2 ≡ level_of kids2 + 1 = depth_is _ kids2 c.level2 lt2 in
    let same : level_of kids2 ≡ level_of kids1 = omega (arith, c.depth) in
    let level2 : AreKids (level_of kids1) kids2 = subst (λ (l : ℕ). AreKids l kids2) same
    c.level2 in
    let all : AreKids (level_of kids1) (new1 ++ new2) = subst (AreKids (level_of kids1))
    (sym c.kids) (kids_join _ kids1 kids2 c.level1 level2) in
    let l1 = kids_left (level_of kids1) new1 new2 all in
    let l2 = kids_right (level_of kids1) new1 new2 all in
    let s1 : IsShape new1 new_own1 = shape_inner new1 new_own1 len.0 in
    let s2 : IsShape new2 new_own2 = shape_inner new2 new_own2 len.1 in
    let e1 : depth_over new1 ≡ depth_over kids1 = depth_is (level_of kids1) new1 l1
    (omega (arith, len.0)) ∙ sym d1 in
    let e2 : depth_over new2 ≡ depth_over kids1 = depth_is (level_of kids1) new2 l2
    (omega (arith, len.1)) ∙ sym d1 in
    record {
      pairs = sym (weave_join new1 new2 new_own1 n new_own2 s1 (λ e. absurd (omega (arith, len.0))))
          ∙ ap (λ (ks : List Subtree). weave ks (new_own1 ++ n ∷ new_own2)) c.kids
          ∙ ap (λ (ps : List Pair). weave (kids1 ++ kids2) ps) c.own
          ∙ weave_join kids1 kids2 own1 m own2 c.shape1 (λ e. absurd (omega arith));
      nodes = sym (nodes_join new1 new2) ∙ ap nodes_in c.kids ∙ nodes_join kids1 kids2;
      inner = omega (
        arith,
        inner_is new1 (omega (arith, len.0)),
        inner_is new2 (omega (arith, len.1)),
        inner_is kids1 lt1,
        inner_is kids2 lt2,
        inner_join new1 new2,
        ap inner_in c.kids,
        inner_join kids1 kids2,
      );
      same = sym c.depth;
      left = subst (λ (d : ℕ). IsKid d (subtree new1 new_own1)) e1
          (node_kid new1 new_own1 (own_level _ new1 l1) s1 c.low1 c.high1);
      right = subst (λ (d : ℕ). IsKid d (subtree new2 new_own2)) e2
          (node_kid new2 new_own2 (own_level _ new2 l2) s2 c.low2 c.high2);
      new_shape1 = s1;
      new_shape2 = s2;
      new_level1 = own_level _ new1 l1;
      new_level2 = own_level _ new2 l2;
    }

recut_both : (kids1 kids2 : List Subtree) {own1 : List Pair} {m : Pair} {own2 : List Pair}
    {new1 : List Subtree} {new_own1 : List Pair} {n : Pair} {new2 : List Subtree}
    {new_own2 : List Pair}
    → IsRecut kids1 own1 m kids2 own2 new1 new_own1 n new2 new_own2
    → IsRecutWell kids1 own1 m kids2 own2 new1 new_own1 n new2 new_own2
recut_both [] [] {new1 = new1} {new2 = new2} c = recut_leaf new1 new2 c
recut_both [] (kid ∷ kids2) c = absurd (omega (arith, c.depth))
recut_both (kid ∷ kids1) [] c = absurd (omega (arith, c.depth))
recut_both (kid ∷ kids1) (kid2 ∷ kids2) c = recut_inner c (omega arith) (omega arith)

pub recut : {kids1 : List Subtree} {own1 : List Pair} {m : Pair} {kids2 : List Subtree}
    {own2 : List Pair}
    {new1 : List Subtree} {new_own1 : List Pair} {n : Pair} {new2 : List Subtree}
    {new_own2 : List Pair}
    → IsRecut kids1 own1 m kids2 own2 new1 new_own1 n new2 new_own2
    → IsRecutWell kids1 own1 m kids2 own2 new1 new_own1 n new2 new_own2
recut {kids1 = kids1} {kids2 = kids2} c = recut_both kids1 kids2 c

-- two nodes and a pair as one node
pub record IsMerged (kids1 : List Subtree) (own1 : List Pair) (m : Pair) (kids2 : List Subtree)
    (own2 : List Pair) : Type 0 where
  pub pairs : weave (kids1 ++ kids2) (own1 ++ m ∷ own2) ≡ weave kids1 own1 ++ m ∷ weave kids2 own2
  pub nodes : nodes_in (kids1 ++ kids2) ≡ nodes_in kids1 + nodes_in kids2
  pub inner : 0 < length kids2
      → inner_over (kids1 ++ kids2) + 1 ≡ inner_over kids1 + inner_over kids2
  pub leaf : length kids2 ≡ 0 → inner_over (kids1 ++ kids2) ≡ inner_over kids1 + inner_over kids2
  pub kid : IsKid (depth_over kids1) (subtree (kids1 ++ kids2) (own1 ++ m ∷ own2))
  pub shape : IsShape (kids1 ++ kids2) (own1 ++ m ∷ own2)
  pub level : AreKids (level_of (kids1 ++ kids2)) (kids1 ++ kids2)
  pub kids_len : length (kids1 ++ kids2) ≤ length own1 + length own2 + 2

pub merged : (kids1 : List Subtree) (own1 : List Pair) (m : Pair) (kids2 : List Subtree)
    (own2 : List Pair)
    → AreKids (level_of kids1) kids1 → AreKids (level_of kids2) kids2 → IsShape kids1 own1
    → IsShape kids2 own2
    → depth_over kids1 ≡ depth_over kids2 → 14 ≤ length own1 + length own2
    → length own1 + length own2 ≤ 30
    → IsMerged kids1 own1 m kids2 own2
merged [] own1 m [] own2 l1 l2 s1 s2 d low high = record {
  pairs = refl;
  nodes = refl;
  inner = λ some. absurd (omega arith);
  leaf = λ _. refl;
  kid = node_kid [] (own1 ++ m ∷ own2) tt tt (omega (arith, length-append own1 (m ∷ own2)))
      (omega (arith, length-append own1 (m ∷ own2)));
  shape = tt;
  level = tt;
  kids_len = omega arith;
}
merged [] own1 m (kid ∷ kids2) own2 l1 l2 s1 s2 d low high = absurd (omega arith)
merged (kid ∷ kids1) own1 m [] own2 l1 l2 s1 s2 d low high = absurd (omega arith)
merged (kid ∷ kids1) own1 m (kid2 ∷ kids2) own2 l1 l2 s1 s2 d low high =
    let same : kid2.depth ≡ kid.depth = omega arith in
    let level2 : AreKids kid.depth (kid2 ∷ kids2) = subst (λ (l : ℕ). AreKids l (kid2 ∷ kids2)) same
    l2 in
    let all = kids_join kid.depth (kid ∷ kids1) (kid2 ∷ kids2) l1 level2 in
    let shape : IsShape ((kid ∷ kids1) ++ (kid2 ∷ kids2)) (own1 ++ m ∷ own2) = shape_inner
    ((kid ∷ kids1) ++ (kid2 ∷ kids2)) (own1 ++ m ∷ own2)
    (omega (
      arith,
      length-append (kid ∷ kids1) (kid2 ∷ kids2),
      length-append own1 (m ∷ own2),
    )) in
    record {
      pairs = weave_join (kid ∷ kids1) (kid2 ∷ kids2) own1 m own2 s1 (λ e. absurd (omega arith));
      nodes = nodes_join (kid ∷ kids1) (kid2 ∷ kids2);
      inner = λ _. omega (arith, inner_join (kid ∷ kids1) (kid2 ∷ kids2));
      leaf = λ none. absurd (omega arith);
      kid = node_kid ((kid ∷ kids1) ++ (kid2 ∷ kids2)) (own1 ++ m ∷ own2) all shape
          (omega (arith, length-append own1 (m ∷ own2)))
          (omega (arith, length-append own1 (m ∷ own2)));
      shape = shape;
      level = all;
      kids_len = omega (arith, length-append (kid ∷ kids1) (kid2 ∷ kids2));
    }
