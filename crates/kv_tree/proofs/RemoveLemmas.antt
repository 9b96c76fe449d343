-- A node before and after a key is taken out of it.
use Rattle.std.proofs.Common.{◌≡◌, ℕ, zero, suc, ◌+◌, ◌<◌, ◌≤◌}
use Rattle.std.proofs.Common.{List, [], ◌∷◌, ◌++◌, length, get_or, set, take, drop}
use Rattle.std.proofs.Common.{Less, Equal, Greater, refl, sym, ap}
use Rattle.std.proofs.Common.{◌∙◌, subst, arith}
use Rattle.std.proofs.lemmas.List.{append_assoc}
use Rattle.std.specs.List.{remove}
use Rattle.std.specs.Ordering.{is_lt}
use Rattle.std.specs.FinMap.{is_sorted}
use Rattle.std.specs.FinMap.Entries.{below_all}
use Rattle.std.proofs.lemmas.Cmp.{nat_list_cmp_total}
use Rattle.kv_index.specs.Places.{HasRisingKeys, IsAt, IsGap}
use Rattle.kv_index.proofs.EntriesLemmas.{one_key}
use Rattle.kv_index.proofs.PlacesLemmas.{at-lt, gap-le, without_at, without_gap, first, second}
use Rattle.kv_index.proofs.PlacesLemmas.{less, kept}
use Rattle.kv_tree.specs.Subtree.{Pair, Subtree, weave, behind, subtree, depth_over, level_of}
use Rattle.kv_tree.specs.Subtree.{sum_in, nodes_in, inner_over, IsKid, AreKids}
use Rattle.kv_tree.specs.Subtree.{IsShape, IsNode, without}
use Rattle.kv_tree.proofs.WeaveLemmas.{kid_level, order, IsBelow, Rises, IsFocus, AtKid}
use Rattle.kv_tree.specs.Subtree.{Past}
use Rattle.kv_tree.specs.Uneven.{AreKidsBut, IsThin}
use Rattle.kv_tree.proofs.WeaveLemmas.{AtItem, yes}
use Rattle.kv_tree.proofs.WeaveLemmas.{past_item, rises_right, leaf_weave}
use Rattle.kv_tree.proofs.WeaveLemmas.{shape_length}
use Rattle.kv_tree.proofs.FillLemmas.{node_kid, depth_is}
use Rattle.kv_tree.proofs.FillLemmas.{inner_is}
use Rattle.kv_tree.proofs.SetLemmas.{weave_set_kid, grown_nodes, grown_inner}

-- other keys stay
pub without_past : (q : List ℕ) (a b : List Pair) → Past q a → without q (a ++ b) ≡ a ++ without q b
without_past q [] b p = refl
without_past q (e ∷ a) b p =
    ap (λ r. kept r e (without q (a ++ b))) {x = order q e.0} p.0
    ∙ ap (λ rest. e ∷ rest) (without_past q a b p.1)

without_none : (q : List ℕ) (b : List Pair) → IsBelow q b → without q b ≡ b
without_none q [] h = refl
without_none q (e ∷ b) h =
    ap (λ r. kept r e (without q b)) {x = order q e.0} (less _
    (first (is_lt (order q e.0)) (below_all order q b) h))
    ∙ ap (λ rest. e ∷ rest) (without_none q b (second (is_lt (order q e.0)) (below_all order q b)
    h))

without_before : (q : List ℕ) (m b : List Pair) → IsBelow q b
    → without q (m ++ b) ≡ without q m ++ b
without_before q [] b h = without_none q b h
without_before q (e ∷ m) b h =
    elim (order q e.0) as (λ r. kept r e (without q (m ++ b)) ≡ kept r e (without q m) ++ b) [
      | Less ↦ ap (λ rest. e ∷ rest) (without_before q m b h)
      | Equal ↦ without_before q m b h
      | Greater ↦ ap (λ rest. e ∷ rest) (without_before q m b h)
    ]

pub without_focus : {q : List ℕ} {es before mid after : List Pair} → IsFocus q es before mid after
    → without q es ≡ before ++ (without q mid ++ after)
without_focus {q} {es} {before} {mid} {after} f =
    ap (without q) f.is ∙ without_past q before (mid ++ after) f.past
    ∙ ap (λ rest. before ++ rest) (without_before q mid after f.below)

pub without_item : (q : List ℕ) (es a : List Pair) (x : Pair) (b : List Pair) → es ≡ a ++ x ∷ b
    → HasRisingKeys order es → order q x.0 ≡ Equal
    → without q es ≡ a ++ b
without_item q es a x b is s e =
    let rises : Rises (x ∷ b) = rises_right a (x ∷ b) (subst Rises is (yes _ s)) in
    let below : IsBelow x.0 b = first (below_all order x.0 b) (is_sorted order b) rises in
    let below2 : IsBelow q b = subst (λ (k : List ℕ). IsBelow k b) (sym (one_key q x.0 e)) below in
    ap (without q) is ∙ without_past q a (x ∷ b) (past_item q es a x b is s e)
    ∙ ap (λ rest. a ++ rest) (ap (λ r. kept r x (without q b)) {x = order q x.0} e
    ∙ without_none q b below2)

-- the greatest pair is the greatest of the last kid
pub weave_set_last : (kids : List Subtree) (own : List Pair) (at : ℕ) (d new : Subtree) (x : Pair)
    → length kids ≡ length own + 1 → at ≡ length own
    → (get_or kids at d).pairs ≡ new.pairs ++ x ∷ []
    → weave kids own ≡ weave (set kids at new) own ++ x ∷ []
weave_set_last [] own at d new x n e is = absurd (omega arith)
weave_set_last (kid ∷ kids) [] zero d new x n e is = is
weave_set_last (kid ∷ kids) [] (suc at) d new x n e is = absurd (omega arith)
weave_set_last (kid ∷ kids) (y ∷ own) zero d new x n e is = absurd (omega arith)
weave_set_last (kid ∷ kids) (y ∷ own) (suc at) d new x n e is =
    ap (λ rest. kid.pairs ++ y ∷ rest) (weave_set_last kids own at d new x (omega arith)
    (omega arith) is)
    ∙ sym (append_assoc kid.pairs (y ∷ weave (set kids at new) own) (x ∷ []))

-- the greatest pair of a kid in place of the node's own behind it
pub weave_pull : (kids : List Subtree) (own : List Pair) (at : ℕ) (d new : Subtree) (x : Pair)
    → length kids ≡ length own + 1 → at < length own
    → (get_or kids at d).pairs ≡ new.pairs ++ x ∷ []
    → weave (set kids at new) (set own at x) ≡ weave (take (suc at) kids) (take at own)
    ++ weave (drop (suc at) kids) (drop (suc at) own)
weave_pull [] own at d new x n lt is = absurd (omega arith)
weave_pull (kid ∷ kids) [] at d new x n lt is = absurd (omega arith)
weave_pull (kid ∷ kids) (y ∷ own) zero d new x n lt is =
    sym (ap (λ (l : List Pair). l ++ weave kids own) is
    ∙ append_assoc new.pairs (x ∷ []) (weave kids own))
weave_pull (kid ∷ kids) (y ∷ own) (suc at) d new x n lt is =
    ap (λ rest. kid.pairs ++ y ∷ rest) (weave_pull kids own at d new x (omega arith) (omega arith)
    is)
    ∙ sym (append_assoc kid.pairs _ _)

-- a kid that may want a pair
pub thin_kid : (level : ℕ) (old new : Subtree) → IsKid level old → new.depth ≡ old.depth
    → new.own ≤ old.own → old.own ≤ new.own + 1
    → (IsKid old.depth old → 15 ≤ new.own → IsKid old.depth new) → IsThin level new
thin_kid level old new k depth fewer own kid = record {
  depth = depth ∙ k.depth;
  low = omega (arith, k.low);
  high = omega (arith, k.high);
  full = λ enough. (kid (subst (λ (d : ℕ). IsKid d old) (sym k.depth) k) enough).full;
  wide = λ enough. (kid (subst (λ (d : ℕ). IsKid d old) (sym k.depth) k) enough).wide;
}

but_set : (Is : ℕ → Subtree → Type 0) (level : ℕ) (kids : List Subtree) (at : ℕ) (new : Subtree)
    → AreKids level kids → Is level new → AreKidsBut Is at level (set kids at new)
but_set Is level [] at new h k =
    elim at as (λ (i : ℕ). AreKidsBut Is i level (set [] i new)) [ zero ↦ tt | suc i ↦ tt ]
but_set Is level (kid ∷ kids) zero new h k = (k, h.1)
but_set Is level (kid ∷ kids) (suc at) new h k = (h.0, but_set Is level kids at new h.1 k)

pub level_set : (level : ℕ) (kids : List Subtree) (at : ℕ) (new : Subtree) → AreKids level kids
    → new.depth ≡ level → at < length kids → level_of (set kids at new) ≡ level
level_set level [] at new h e lt = absurd (omega arith)
level_set level (kid ∷ kids) zero new h e lt = e
level_set level (kid ∷ kids) (suc at) new h e lt = h.0.depth

pub depth_set : (kids : List Subtree) (at : ℕ) (new : Subtree) → AreKids (level_of kids) kids
    → new.depth ≡ level_of kids → at < length kids → depth_over (set kids at new) ≡ depth_over kids
depth_set [] at new h e lt = absurd (omega arith)
depth_set (kid ∷ kids) zero new h e lt = omega (arith, e)
depth_set (kid ∷ kids) (suc at) new h e lt = refl

pub level_but : (Is : ℕ → Subtree → Type 0) (kids : List Subtree) (at : ℕ) (new : Subtree)
    → AreKids (level_of kids) kids → Is (level_of kids) new → new.depth ≡ level_of kids
    → at < length kids → AreKidsBut Is at (level_of (set kids at new)) (set kids at new)
level_but Is kids at new h k depth lt =
    subst (λ (l : ℕ). AreKidsBut Is at l (set kids at new))
    (sym (level_set (level_of kids) kids at new h depth lt))
    (but_set Is (level_of kids) kids at new h k)

-- a node that has pairs enough may stand where it stood
pub still_kid : (d : ℕ) (kids : List Subtree) (own : List Pair) (a b : ℕ) → IsNode kids own a b
    → depth_over kids ≡ d → 15 ≤ length own → length own ≤ 31 → IsKid d (subtree kids own)
still_kid d kids own a b n is enough few =
    subst (λ (l : ℕ). IsKid l (subtree kids own)) is (node_kid kids own n.kids n.shape enough few)

pub leaf_shape : (kids : List Subtree) (own : List Pair) → length kids ≤ 0 → IsShape kids own
leaf_shape [] own h = tt
leaf_shape (kid ∷ kids) own h = absurd (omega arith)

-- a leaf without its last pair
pub leaf_last : (kids : List Subtree) (own new : List Pair) (x : Pair) → length kids ≤ 0
    → own ≡ new ++ x ∷ [] → weave kids own ≡ weave kids new ++ x ∷ []
leaf_last [] own new x none is = is
leaf_last (kid ∷ kids) own new x none is = absurd (omega arith)

-- a leaf without a pair
pub leaf_without : (q : List ℕ) (s : Subtree) (kids : List Subtree) (own : List Pair) (at : ℕ)
    → subtree kids own ≡ s → HasRisingKeys order s.pairs
    → IsAt order q own at → length kids ≤ 0 → weave kids (remove own at) ≡ without q s.pairs
leaf_without q s kids own at view rising is none =
    let leaf : own ≡ s.pairs = sym (leaf_weave kids own none)
    ∙ ap (λ (t : Subtree). t.pairs) view in
    leaf_weave kids (remove own at) none
    ∙ sym (without_at nat_list_cmp_total q own at (subst Rises (sym leaf) (yes _ rising)) is)
    ∙ ap (without q) leaf

pub leaf_same : (q : List ℕ) (s : Subtree) (kids : List Subtree) (own : List Pair) (at : ℕ)
    → subtree kids own ≡ s → HasRisingKeys order s.pairs
    → IsGap order q own at → length kids ≤ 0 → s.pairs ≡ without q s.pairs
leaf_same q s kids own at view rising gap none =
    let leaf : own ≡ s.pairs = sym (leaf_weave kids own none)
    ∙ ap (λ (t : Subtree). t.pairs) view in
    sym leaf
    ∙ sym (without_gap nat_list_cmp_total q own at (subst Rises (sym leaf) (yes _ rising)) gap)
    ∙ ap (without q) leaf

pub without_kid : {q : List ℕ} {s kid : Subtree} {kids : List Subtree} {own : List Pair} {at : ℕ}
    → (new : Subtree) → AtKid q s kid kids own at
    → at ≤ length own → new.pairs ≡ without q kid.pairs
    → weave (set kids at new) own ≡ without q s.pairs
without_kid {q} {s} {kid} {kids} {own} {at} new k le is =
    weave_set_kid kids own at new k.lengths le
    ∙ ap (λ (mid : List Pair). weave (take at kids) (take at own)
    ++ (mid ++ behind (drop (suc at) kids) (drop at own))) is
    ∙ sym (without_focus k.focus)

sum_le : (number : Subtree → ℕ) (kids : List Subtree) (at : ℕ) (d : Subtree) → at < length kids
    → number (get_or kids at d) ≤ sum_in number kids
sum_le number [] at d lt = absurd (omega arith)
sum_le number (kid ∷ kids) zero d lt = omega arith
sum_le number (kid ∷ kids) (suc at) d lt = omega (arith, sum_le number kids at d (omega arith))

-- what is known of a kid
pub record IsKidOf (s kid : Subtree) (kids : List Subtree) (own : List Pair) (at : ℕ) : Type 0 where
  pub view : subtree kids own ≡ s
  pub level : AreKids (level_of kids) kids
  pub is : kid ≡ get_or kids at kid
  pub lt : at < length kids
  pub lengths : length kids ≡ length own + 1
  pub fits : IsKid (level_of kids) kid
  pub falls : kid.depth < s.depth
  pub nodes : kid.nodes + 1 ≤ s.nodes
  pub inner : kid.inner + 1 ≤ s.inner

pub kid_of : (s kid : Subtree) (kids : List Subtree) (own : List Pair) (at a b : ℕ)
    → subtree kids own ≡ s → IsNode kids own a b
    → kid ≡ get_or kids at kid → at < length kids → IsKidOf s kid kids own at
kid_of s kid kids own at a b view node is lt =
    let low : IsKid (level_of kids) kid = subst (IsKid (level_of kids)) (sym is)
    (kid_level (level_of kids) kids at kid node.kids lt) in
    record {
      view = view;
      level = node.kids;
      is = is;
      lt = lt;
      lengths = shape_length kids own node.shape (omega arith);
      fits = low;
      falls = omega (
        arith,
        low.depth,
        depth_is (level_of kids) kids node.kids (omega arith),
        ap (λ (t : Subtree). t.depth) view,
      );
      nodes = omega (
        arith,
        sum_le (λ kid. kid.nodes) kids at kid lt,
        ap (λ (t : Subtree). t.nodes) is,
        ap (λ (t : Subtree). t.nodes) view,
      );
      inner = omega (
        arith,
        sum_le (λ kid. kid.inner) kids at kid lt,
        inner_is kids (omega arith),
        ap (λ (t : Subtree). t.inner) is,
        ap (λ (t : Subtree). t.inner) view,
      );
    }

-- a kid that one pair was taken out of
pub record IsShrunk (old new : Subtree) : Type 0 where
  pub depth : new.depth ≡ old.depth
  pub fewer : new.own ≤ old.own
  pub own : old.own ≤ new.own + 1
  pub kid : IsKid old.depth old → 15 ≤ new.own → IsKid old.depth new

pub shrunk_level : {s kid : Subtree} {kids : List Subtree} {own : List Pair} {at : ℕ}
    → IsKidOf s kid kids own at → (new : Subtree) → IsShrunk kid new
    → AreKidsBut IsThin at (level_of (set kids at new)) (set kids at new)
shrunk_level {s} {kid} {kids} {own} {at} k new h =
    level_but IsThin kids at new k.level (thin_kid (level_of kids) kid new k.fits h.depth h.fewer
    h.own h.kid) (h.depth ∙ k.fits.depth) k.lt

pub shrunk_nodes : {s kid : Subtree} {kids : List Subtree} {own : List Pair} {at : ℕ}
    → IsKidOf s kid kids own at → (new : Subtree)
    → nodes_in (set kids at new) + 1 + kid.nodes ≡ s.nodes + new.nodes
shrunk_nodes {s} {kid} {kids} {own} {at} k new =
    omega (arith, grown_nodes kids kid new at k.is k.lt, ap (λ (t : Subtree). t.nodes) k.view)

pub shrunk_inner : {s kid : Subtree} {kids : List Subtree} {own : List Pair} {at : ℕ}
    → IsKidOf s kid kids own at → (new : Subtree)
    → inner_over (set kids at new) + kid.inner ≡ s.inner + new.inner
shrunk_inner {s} {kid} {kids} {own} {at} k new =
    omega (arith, grown_inner kids kid new at k.is k.lt, ap (λ (t : Subtree). t.inner) k.view)

pub shrunk_depth : {s kid : Subtree} {kids : List Subtree} {own : List Pair} {at : ℕ}
    → IsKidOf s kid kids own at → (new : Subtree) → IsShrunk kid new
    → depth_over (set kids at new) ≡ s.depth
shrunk_depth {s} {kid} {kids} {own} {at} k new h =
    depth_set kids at new k.level (h.depth ∙ k.fits.depth) k.lt
    ∙ ap (λ (t : Subtree). t.depth) k.view

pub shrunk_last : {s kid : Subtree} {kids : List Subtree} {own : List Pair} {at : ℕ}
    → IsKidOf s kid kids own at → (new : Subtree) (x : Pair) → at ≡ length own
    → kid.pairs ≡ new.pairs ++ x ∷ [] → s.pairs ≡ weave (set kids at new) own ++ x ∷ []
shrunk_last {s} {kid} {kids} {own} {at} k new x last is =
    ap (λ (t : Subtree). t.pairs) (sym k.view)
    ∙ weave_set_last kids own at kid new x k.lengths last
    (ap (λ (t : Subtree). t.pairs) (sym k.is) ∙ is)

pub shrunk_pull : {q : List ℕ} {s kid : Subtree} {m : Pair} {kids : List Subtree} {own : List Pair}
    {at : ℕ} → IsKidOf s kid kids own at → AtItem q s m kids own at
    → (new : Subtree) (x : Pair) → at < length own → HasRisingKeys order s.pairs
    → kid.pairs ≡ new.pairs ++ x ∷ [] → weave (set kids at new) (set own at x) ≡ without q s.pairs
shrunk_pull {q} {s} {kid} {m} {kids} {own} {at} k i new x lt rising is =
    weave_pull kids own at kid new x k.lengths lt (ap (λ (t : Subtree). t.pairs) (sym k.is) ∙ is)
    ∙ sym (without_item q s.pairs _ m _ i.is rising i.ties)

pub ok_kid : (q : List ℕ) (s kid : Subtree) (kids : List Subtree) (own : List Pair) (at a b : ℕ)
    → subtree kids own ≡ s → IsNode kids own a b
    → IsAt order q own at → 0 < length kids → kid ≡ get_or kids at kid → IsKidOf s kid kids own at
ok_kid q s kid kids own at a b view node place some is =
    kid_of s kid kids own at a b view node is (omega (
      arith,
      at-lt nat_list_cmp_total q own at place,
      shape_length kids own node.shape some,
    ))

pub err_kid : (q : List ℕ) (s kid : Subtree) (kids : List Subtree) (own : List Pair) (at a b : ℕ)
    → subtree kids own ≡ s → IsNode kids own a b
    → IsGap order q own at → 0 < length kids → kid ≡ get_or kids at kid → IsKidOf s kid kids own at
err_kid q s kid kids own at a b view node gap some is =
    kid_of s kid kids own at a b view node is (omega (
      arith,
      gap-le nat_list_cmp_total q own at gap,
      shape_length kids own node.shape some,
    ))
