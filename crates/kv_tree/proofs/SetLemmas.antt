-- A node after one of its own pairs or kids is replaced, or after a pair and a kid are inserted.
use Rattle.std.proofs.Common.{◌≡◌, ℕ, zero, suc, ◌+◌, ◌*◌, ◌<◌, ◌≤◌, List, [], ◌∷◌, ◌++◌}
use Rattle.std.proofs.Common.{length, get_or, set, take, drop, length-append}
use Rattle.std.proofs.Common.{Option, Some, None, IfNone, Less, Equal, Greater}
use Rattle.std.proofs.Common.{refl, sym, ap, ◌∙◌, subst, arith}
use Rattle.std.proofs.Common.{inl, inr, Bool, T, true, false}
use Rattle.std.proofs.lemmas.Bool.{cases_lt}
use Rattle.std.proofs.lemmas.List.{append_assoc}
use Rattle.std.specs.List.{insert}
use Rattle.std.specs.FinMap.Entries.{put, by_order}
use Rattle.std.proofs.lemmas.Cmp.{nat_list_cmp_total}
use Rattle.kv_index.specs.declared.entry.Entry.{Entry}
use Rattle.kv_index.specs.Places.{HasRisingKeys, IsGap}
use Rattle.kv_index.proofs.PlacesLemmas.{put_gap}
use Rattle.kv_tree.specs.Subtree.{Pair, Subtree, weave, behind, subtree, depth_over, level_of}
use Rattle.kv_tree.specs.Subtree.{sum_in, nodes_in, inner_in, inner_over, IsKid, AreKids, IsShape}
use Rattle.kv_tree.specs.Subtree.{Spares, HasRoom, HasWidth, TakesAtMost, new_keys, IsFilled}
use Rattle.kv_tree.proofs.WeaveLemmas.{append_none, order, AtKid, AtItem, put_focus}
use Rattle.kv_tree.proofs.WeaveLemmas.{put_item}
use Rattle.kv_tree.proofs.WeaveLemmas.{leaf_weave}
use Rattle.kv_tree.proofs.WeaveLemmas.{shape_length}
use Rattle.kv_tree.proofs.FillLemmas.{weave_full, weave_full_at, node_kid, shape_inner}
use Rattle.kv_tree.proofs.FillLemmas.{own_level, depth_is, inner_wide, inner_wide_at}
use Rattle.kv_tree.proofs.FillLemmas.{inner_is}

-- the pairs after one of the node's own is replaced
weave_set_item : (kids : List Subtree) (own : List Pair) (at : ℕ) (y : Pair) → IsShape kids own
    → at < length own
    → weave kids (set own at y) ≡ weave (take (suc at) kids) (take at own)
    ++ y ∷ weave (drop (suc at) kids) (drop (suc at) own)
weave_set_item [] [] at y n lt = absurd (omega arith)
weave_set_item [] (x ∷ own) zero y n lt = refl
weave_set_item [] (x ∷ own) (suc at) y n lt =
    ap (λ rest. x ∷ rest) (weave_set_item [] own at y tt (omega arith))
weave_set_item (kid ∷ kids) [] at y n lt = absurd (omega arith)
weave_set_item (kid ∷ kids) (x ∷ own) zero y n lt = refl
weave_set_item (kid ∷ []) (x ∷ own) (suc at) y n lt = absurd (omega arith)
weave_set_item (kid ∷ kid2 ∷ kids) (x ∷ own) (suc at) y n lt =
    ap (λ rest. kid.pairs ++ x ∷ rest) (weave_set_item (kid2 ∷ kids) own at y (omega arith)
    (omega arith))
    ∙ sym (append_assoc kid.pairs _ _)

pub put_own : {q : List ℕ} {s : Subtree} {x : Pair} {kids : List Subtree} {own : List Pair} {at : ℕ}
    → (v : Entry) (y : Pair) → AtItem q s x kids own at
    → IsShape kids own → at < length own → HasRisingKeys order s.pairs → y ≡ (x.0, v)
    → weave kids (set own at y) ≡ put order q v s.pairs
put_own {q} {s} {x} {kids} {own} {at} v y i n lt rising is =
    weave_set_item kids own at y n lt
    ∙ ap (λ (p : Pair). weave (take (suc at) kids) (take at own)
    ++ p ∷ weave (drop (suc at) kids) (drop (suc at) own)) is
    ∙ sym (put_item q v s.pairs _ x _ i.is rising i.ties)

pub length_set : {A : Type 0} (xs : List A) (at : ℕ) (y : A) → length (set xs at y) ≡ length xs
length_set [] at y = elim at as (λ (k : ℕ). length (set [] k y) ≡ 0) [ zero ↦ refl | suc k ↦ refl ]
length_set (x ∷ xs) zero y = refl
length_set (x ∷ xs) (suc at) y = omega (arith, length_set xs at y)

pub length_insert : {A : Type 0} (xs : List A) (at : ℕ) (y : A) → at ≤ length xs
    → length (insert xs at y) ≡ length xs + 1
length_insert [] zero y le = refl
length_insert [] (suc at) y le = absurd (omega arith)
length_insert (x ∷ xs) zero y le = omega arith
length_insert (x ∷ xs) (suc at) y le = omega (arith, length_insert xs at y (omega arith))

pub shape_set : (kids : List Subtree) (own : List Pair) (at : ℕ) (y : Pair) → IsShape kids own
    → IsShape kids (set own at y)
shape_set [] own at y n = tt
shape_set (kid ∷ kids) own at y n = omega (arith, length_set own at y)

-- the pairs after a kid is replaced
pub weave_set_kid : (kids : List Subtree) (own : List Pair) (at : ℕ) (new : Subtree)
    → length kids ≡ length own + 1 → at ≤ length own
    → weave (set kids at new) own ≡ weave (take at kids) (take at own)
    ++ (new.pairs ++ behind (drop (suc at) kids) (drop at own))
weave_set_kid [] own at new n le = absurd (omega arith)
weave_set_kid (kid ∷ kids) [] zero new n le = sym (append_none new.pairs)
weave_set_kid (kid ∷ kids) [] (suc at) new n le = absurd (omega arith)
weave_set_kid (kid ∷ kids) (x ∷ own) zero new n le = refl
weave_set_kid (kid ∷ kids) (x ∷ own) (suc at) new n le =
    ap (λ rest. kid.pairs ++ x ∷ rest) (weave_set_kid kids own at new (omega arith) (omega arith))
    ∙ sym (append_assoc kid.pairs _ _)

pub put_kid : {q : List ℕ} {s kid : Subtree} {kids : List Subtree} {own : List Pair} {at : ℕ}
    → (v : Entry) (new : Subtree) → AtKid q s kid kids own at
    → at ≤ length own → new.pairs ≡ put order q v kid.pairs
    → weave (set kids at new) own ≡ put order q v s.pairs
put_kid {q} {s} {kid} {kids} {own} {at} v new k le is =
    weave_set_kid kids own at new k.lengths le
    ∙ ap (λ (mid : List Pair). weave (take at kids) (take at own)
    ++ (mid ++ behind (drop (suc at) kids) (drop at own))) is
    ∙ sym (put_focus v k.focus)

-- the pairs after a kid is split
pub weave_split_kid : (kids : List Subtree) (own : List Pair) (at : ℕ) (left : Subtree) (m : Pair)
    (right : Subtree) → length kids ≡ length own + 1 → at ≤ length own
    → weave (insert (set kids at left) (suc at) right) (insert own at m)
    ≡ weave (take at kids) (take at own) ++ ((left.pairs ++ m ∷ right.pairs)
    ++ behind (drop (suc at) kids) (drop at own))
weave_split_kid [] own at left m right n le = absurd (omega arith)
weave_split_kid (kid ∷ []) [] zero left m right n le =
    sym (append_assoc left.pairs (m ∷ right.pairs) [] ∙ ap (λ rest. left.pairs ++ m ∷ rest)
    (append_none right.pairs))
weave_split_kid (kid ∷ kid2 ∷ kids) [] zero left m right n le = absurd (omega arith)
weave_split_kid (kid ∷ kids) [] (suc at) left m right n le = absurd (omega arith)
weave_split_kid (kid ∷ kids) (x ∷ own) zero left m right n le =
    sym (append_assoc left.pairs (m ∷ right.pairs) (x ∷ weave kids own))
weave_split_kid (kid ∷ kids) (x ∷ own) (suc at) left m right n le =
    ap (λ rest. kid.pairs ++ x ∷ rest) (weave_split_kid kids own at left m right (omega arith)
    (omega arith))
    ∙ sym (append_assoc kid.pairs _ _)

pub sum_set : (number : Subtree → ℕ) (kids : List Subtree) (at : ℕ) (d new : Subtree)
    → at < length kids
    → sum_in number (set kids at new) + number (get_or kids at d) ≡ sum_in number kids + number new
sum_set number [] at d new lt = absurd (omega arith)
sum_set number (kid ∷ kids) zero d new lt = omega arith
sum_set number (kid ∷ kids) (suc at) d new lt =
    omega (arith, sum_set number kids at d new (omega arith))

sum_insert : (number : Subtree → ℕ) (kids : List Subtree) (at : ℕ) (new : Subtree)
    → at ≤ length kids
    → sum_in number (insert kids at new) ≡ sum_in number kids + number new
sum_insert number [] zero new le = omega arith
sum_insert number [] (suc at) new le = absurd (omega arith)
sum_insert number (kid ∷ kids) zero new le = omega arith
sum_insert number (kid ∷ kids) (suc at) new le =
    omega (arith, sum_insert number kids at new (omega arith))

kids_set : (level : ℕ) (kids : List Subtree) (at : ℕ) (new : Subtree) → AreKids level kids
    → IsKid level new → AreKids level (set kids at new)
kids_set level [] at new h k =
    elim at as (λ (i : ℕ). AreKids level (set [] i new)) [ zero ↦ tt | suc i ↦ tt ]
kids_set level (kid ∷ kids) zero new h k = (k, h.1)
kids_set level (kid ∷ kids) (suc at) new h k = (h.0, kids_set level kids at new h.1 k)

kids_insert : (level : ℕ) (kids : List Subtree) (at : ℕ) (new : Subtree) → AreKids level kids
    → IsKid level new → AreKids level (insert kids at new)
kids_insert level [] at new h k =
    elim at as (λ (i : ℕ). AreKids level (insert [] i new)) [ zero ↦ (k, tt) | suc i ↦ (k, tt) ]
kids_insert level (kid ∷ kids) zero new h k = (k, h)
kids_insert level (kid ∷ kids) (suc at) new h k = (h.0, kids_insert level kids at new h.1 k)

-- a node that has grown by a key below it
pub record Grown (q : List ℕ) (v : Entry) (s : Subtree) (kids : List Subtree) (own : List Pair) :
    Type 0 where
  pub pairs : weave kids own ≡ put order q v s.pairs
  pub level : AreKids (level_of kids) kids
  pub shape : IsShape kids own
  pub depth : depth_over kids ≡ s.depth

-- by a kid
pub grown_kid : (q : List ℕ) (v : Entry) (s kid : Subtree) (kids : List Subtree) (own : List Pair)
    (at : ℕ) (new : Subtree) → AtKid q s kid kids own at
    → subtree kids own ≡ s → AreKids (level_of kids) kids → at ≤ length own → IsKid kid.depth new
    → new.pairs ≡ put order q v kid.pairs
    → Grown q v s (set kids at new) own
grown_kid q v s kid kids own at new k view level le fits is =
    let low : IsKid (level_of kids) new = subst (λ (d : ℕ). IsKid d new) k.fits.depth fits in
    let all = kids_set (level_of kids) kids at new level low in
    let n : length (set kids at new) ≡ length own + 1 = length_set kids at new ∙ k.lengths in
    record {
      pairs = put_kid v new k le is;
      level = own_level _ _ all;
      shape = shape_inner _ _ n;
      depth = depth_is (level_of kids) (set kids at new) all (omega arith)
          ∙ sym (depth_is (level_of kids) kids level (omega (arith, k.lengths)))
          ∙ ap (λ (t : Subtree). t.depth) view;
    }

pub sum_renewed : (number : Subtree → ℕ) (kids : List Subtree) (kid new : Subtree) (at : ℕ)
    → kid ≡ get_or kids at kid → at < length kids
    → sum_in number (set kids at new) + number kid ≡ sum_in number kids + number new
sum_renewed number kids kid new at is lt =
    subst (λ (k : Subtree). sum_in number (set kids at new) + number k
    ≡ sum_in number kids + number new) (sym is) (sum_set number kids at kid new lt)

pub grown_nodes : (kids : List Subtree) (kid new : Subtree) (at : ℕ) → kid ≡ get_or kids at kid
    → at < length kids
    → nodes_in (set kids at new) + kid.nodes ≡ nodes_in kids + new.nodes
grown_nodes = sum_renewed (λ kid. kid.nodes)

pub grown_inner : (kids : List Subtree) (kid new : Subtree) (at : ℕ) → kid ≡ get_or kids at kid
    → at < length kids
    → inner_over (set kids at new) + kid.inner ≡ inner_over kids + new.inner
grown_inner kids kid new at is lt =
    omega (
      arith,
      sum_renewed (λ kid. kid.inner) kids kid new at is lt,
      inner_is kids (omega arith),
      inner_is (set kids at new) (omega (arith, length_set kids at new)),
    )

sum_split : (number : Subtree → ℕ) (kids : List Subtree) (kid left right : Subtree) (at : ℕ)
    → kid ≡ get_or kids at kid → at < length kids
    → sum_in number (insert (set kids at left) (suc at) right) + number kid
    ≡ sum_in number kids + (number left + number right)
sum_split number kids kid left right at is lt =
    omega (
      arith,
      sum_renewed number kids kid left at is lt,
      sum_insert number (set kids at left) (suc at) right
          (omega (arith, length_set kids at left)),
    )

pub split_nodes : (kids : List Subtree) (kid left right : Subtree) (at : ℕ)
    → kid ≡ get_or kids at kid → at < length kids
    → nodes_in (insert (set kids at left) (suc at) right) + kid.nodes
    ≡ nodes_in kids + (left.nodes + right.nodes)
split_nodes = sum_split (λ kid. kid.nodes)

pub split_inner : (kids : List Subtree) (kid left right : Subtree) (at : ℕ)
    → kid ≡ get_or kids at kid → at < length kids
    → inner_over (insert (set kids at left) (suc at) right) + kid.inner
    ≡ inner_over kids + (left.inner + right.inner)
split_inner kids kid left right at is lt =
    omega (
      arith,
      sum_split (λ kid. kid.inner) kids kid left right at is lt,
      inner_is kids (omega arith),
      inner_is (insert (set kids at left) (suc at) right)
          (omega (
            arith,
            length_set kids at left,
            length_insert (set kids at left) (suc at) right
                (omega (arith, length_set kids at left)),
          )),
    )

-- a leaf that has grown by a pair of its own
pub grown_leaf : (q : List ℕ) (v : Entry) (s : Subtree) (kids : List Subtree) (own : List Pair)
    (at : ℕ) → subtree kids own ≡ s
    → IsGap order q own at → length kids ≤ 0
    → weave kids (insert own at (q, v)) ≡ put order q v s.pairs
grown_leaf q v s kids own at view gap none =
    leaf_weave kids (insert own at (q, v)) none
    ∙ sym (put_gap nat_list_cmp_total q v own at gap)
    ∙ ap (put order q v) (sym (leaf_weave kids own none) ∙ ap (λ (t : Subtree). t.pairs) view)

-- spare nodes that serve a node serve its kid
pub kid_room : (s kid : Subtree) (kids : List Subtree) (own : List Pair) (at : ℕ) (spares : Spares)
    → subtree kids own ≡ s → AreKids (level_of kids) kids → IsShape kids own
    → at < length kids → kid ≡ get_or kids at kid → IsKid (level_of kids) kid → HasRoom s spares
    → HasRoom kid spares
kid_room s kid kids own at spares view level shape lt is fits room few =
    let sum = subst (λ (k : Subtree). 15 * nodes_in kids + length own + length k.pairs ≤ length
    (weave kids own) + 15 * k.nodes) (sym is)
    (weave_full_at (level_of kids) kids own at kid level shape lt) in
    let here = room few in
    omega (
      arith,
      sum,
      fits.low,
      ap (λ (t : Subtree). length t.pairs) view,
      ap (λ (t : Subtree). t.own) view,
      ap (λ (t : Subtree). t.nodes) view,
    )

pub kid_width : (s kid : Subtree) (kids : List Subtree) (own : List Pair) (at : ℕ) (spares : Spares)
    → subtree kids own ≡ s → AreKids (level_of kids) kids → IsShape kids own
    → at < length kids → kid ≡ get_or kids at kid → IsKid (level_of kids) kid → HasWidth s spares
    → HasWidth kid spares
kid_width s kid kids own at spares view level shape lt is fits width =
    let sum = subst (λ (k : Subtree). 16 * inner_in kids + length kids + k.nodes ≤ nodes_in kids +
    16 * k.inner + 1) (sym is)
    (inner_wide_at (level_of kids) kids at kid level lt) in
    omega (
      arith,
      sum,
      fits.low,
      shape_length kids own shape (omega arith),
      inner_is kids (omega arith),
      ap (λ (t : Subtree). t.own) view,
      ap (λ (t : Subtree). t.nodes) view,
      ap (λ (t : Subtree). t.inner) view,
    )

pub length_put : (q : List ℕ) (v : Entry) (es : List Pair)
    → length (put order q v es) ≤ length es + 1
length_put q v [] = omega arith
length_put q v (e ∷ es) =
    elim (order q e.0) as (λ r. length (by_order r ((q, v) ∷ e ∷ es) ((e.0, v) ∷ es)
    (e ∷ put order q v es)) ≤ length (e ∷ es) + 1) [
      | Less ↦ omega arith
      | Equal ↦ omega arith
      | Greater ↦ omega (arith, length_put q v es)
    ]

-- a node that was given a pair, and now has one too many to stand below another
pub record IsOverfull (q : List ℕ) (v : Entry) (old new : Subtree) (spares left : Spares) :
    Type 0 where
  pub pairs : new.pairs ≡ put order q v old.pairs
  pub filled : IsFilled new
  pub many : 31 < new.own
  pub nodes : new.nodes + left.nodes ≡ old.nodes + spares.nodes
  pub inner : new.inner + left.inner ≡ old.inner + spares.inner
  pub takes : TakesAtMost 1 spares left
  pub leaf : new.depth ≡ 0 → TakesAtMost 0 spares left

-- where a node overflows, unless it is a leaf, room for kids is left
pub inner_left : {q : List ℕ} {v : Entry} {old new : Subtree} {spares left : Spares}
    → IsOverfull q v old new spares left → 15 ≤ old.own → HasWidth old spares → 0 < new.depth
    → 0 < left.inner
inner_left o low width some = omega (arith, o.filled.wide some, o.many, o.nodes, o.inner)

more_left : (depth : ℕ) (spares left : Spares) → spares.inner < spares.nodes
    → TakesAtMost 1 spares left → (depth ≡ 0 → TakesAtMost 0 spares left)
    → (0 < depth → 0 < left.inner)
    → 0 < left.nodes
more_left zero spares left more takes leaf inner = omega (arith, leaf refl)
more_left (suc depth) spares left more takes leaf inner = omega (arith, inner (omega arith))

-- and a spare node
pub spare_left : {q : List ℕ} {v : Entry} {old new : Subtree} {spares left : Spares}
    → IsOverfull q v old new spares left → 15 ≤ old.own → HasRoom old spares → HasWidth old spares
    → 0 < left.nodes
spare_left {q} {v} {old} {new} {spares} {left} o low room width =
    elim (cases_lt spares.inner spares.nodes) as (λ _. 0 < left.nodes) [
      | inl more ↦ more_left new.depth spares left more o.takes o.leaf (inner_left o low width)
      | inr few ↦
          let here = room few in
          omega (
            arith,
            o.filled.full,
            o.many,
            o.nodes,
            ap length o.pairs,
            length_put q v old.pairs,
          )
    ]

-- what is taken for a kid and then to split it is at most one node more than room for kids, where
-- the key is new
pub takes_both : (found : Bool) (depth : ℕ) (first second third : Spares)
    → TakesAtMost (new_keys found) first second → (depth ≡ 0 → TakesAtMost 0 first second)
    → TakesAtMost 1 second third → (0 < depth → TakesAtMost 0 second third) → found ≡ false
    → TakesAtMost (new_keys found) first third
takes_both true depth first second third takes leaf split inner new =
    absurd (subst T new tt)
takes_both false zero first second third takes leaf split inner new = omega (arith, leaf refl)
takes_both false (suc depth) first second third takes leaf split inner new =
    omega (arith, inner (omega arith))

-- a node that has grown and has pairs enough may stand where it stood
pub grown_fits : (q : List ℕ) (v : Entry) (s : Subtree) (kids : List Subtree) (own : List Pair)
    → Grown q v s kids own → s.own ≤ length own → length own ≤ 31
    → IsKid s.depth s → IsKid s.depth (subtree kids own)
grown_fits q v s kids own g more few fits =
    subst (λ (d : ℕ). IsKid d (subtree kids own)) g.depth
    (node_kid kids own g.level g.shape (omega (arith, fits.low)) few)

-- as many pairs of its own, and the same kids
pub kid_again : (s : Subtree) (kids : List Subtree) (own own2 : List Pair) → subtree kids own ≡ s
    → AreKids (level_of kids) kids → IsShape kids own2
    → length own2 ≡ length own → length own ≤ 31 → IsKid s.depth s
    → IsKid s.depth (subtree kids own2)
kid_again s kids own own2 view level shape len few fits =
    subst (λ (d : ℕ). IsKid d (subtree kids own2)) (ap (λ (t : Subtree). t.depth) view)
    (node_kid kids own2 level shape (omega (arith, fits.low, ap (λ (t : Subtree). t.own) view))
    (omega arith))

-- where a root that has kids overflows, room for kids is left twice
pub top_twice : {q : List ℕ} {v : Entry} {old new : Subtree} {spares left : Spares}
    → IsOverfull q v old new spares left
    → old.nodes + spares.nodes ≤ 16 * (old.inner + spares.inner) + 1 → 0 < new.depth
    → 1 < left.inner
top_twice o wide some = omega (arith, o.filled.wide some, o.many, o.nodes, o.inner)

more_twice : {q : List ℕ} {v : Entry} {old new : Subtree} {spares left : Spares} (depth : ℕ)
    → new.depth ≡ depth → IsOverfull q v old new spares left
    → old.nodes + spares.nodes ≤ 16 * (old.inner + spares.inner) + 1 → spares.inner < spares.nodes
    → 1 < left.nodes
more_twice zero is o wide more =
    let alone = o.filled.leaf is in
    omega (arith, o.leaf is, alone.0, alone.1, o.nodes, o.inner)
more_twice (suc depth) is o wide more =
    omega (arith, top_twice o wide (omega arith), o.takes)

-- and two spare nodes are
pub top_nodes : {q : List ℕ} {v : Entry} {old new : Subtree} {spares left : Spares}
    → IsOverfull q v old new spares left
    → old.nodes + spares.nodes ≤ 16 * (old.inner + spares.inner) + 1
    → (spares.nodes ≤ spares.inner → length old.pairs + 1 < 15 * (old.nodes + spares.nodes))
    → 1 < left.nodes
top_nodes {q} {v} {old} {new} {spares} {left} o wide enough =
    elim (cases_lt spares.inner spares.nodes) as (λ _. 1 < left.nodes) [
      | inl more ↦ more_twice new.depth refl o wide more
      | inr few ↦
          let here = enough few in
          omega (
            arith,
            o.filled.full,
            o.many,
            o.nodes,
            ap length o.pairs,
            length_put q v old.pairs,
          )
    ]

kids_left : {q : List ℕ} {v : Entry} {old new : Subtree} {spares left : Spares} (depth : ℕ)
    → new.depth ≡ depth → IsOverfull q v old new spares left
    → old.nodes + spares.nodes ≤ 16 * (old.inner + spares.inner) + 1 → 1 < left.nodes
    → 0 < left.inner
kids_left zero is o wide more =
    let alone = o.filled.leaf is in omega (arith, alone.0, alone.1, o.nodes, o.inner)
kids_left (suc depth) is o wide more = omega (arith, top_twice o wide (omega arith))

-- and room for the kids of a new root is, whatever the root is
pub top_inner : {q : List ℕ} {v : Entry} {old new : Subtree} {spares left : Spares}
    → IsOverfull q v old new spares left
    → old.nodes + spares.nodes ≤ 16 * (old.inner + spares.inner) + 1 → 1 < left.nodes
    → 0 < left.inner
top_inner {new = new} o wide more = kids_left new.depth refl o wide more

-- a search takes at most one node more than room for kids
pub one_key_more : (found : Bool) → new_keys found ≤ 1
one_key_more true = omega arith
one_key_more false = omega arith
