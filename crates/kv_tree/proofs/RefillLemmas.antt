-- A node before and after two of its kids are evened out.
use Rattle.std.proofs.Common.{◌≡◌, ℕ, zero, suc, ◌+◌, ◌<◌, ◌≤◌, List, [], ◌∷◌, ◌++◌}
use Rattle.std.proofs.Common.{length, get_or, set, take, drop}
use Rattle.std.proofs.Common.{refl, sym, ap, ◌∙◌, subst, add-one, arith}
use Rattle.std.proofs.lemmas.List.{append_assoc}
use Rattle.std.specs.List.{insert, remove}
use Rattle.kv_tree.specs.Subtree.{Pair, Subtree, weave, behind, depth_over, level_of}
use Rattle.kv_tree.specs.Subtree.{sum_in, nodes_in, inner_over, IsKid, AreKids}
use Rattle.kv_tree.specs.Subtree.{IsShape}
use Rattle.kv_tree.specs.Uneven.{AreKidsBut, IsThin, IsThinAt}
use Rattle.kv_tree.proofs.WeaveLemmas.{append_none}
use Rattle.kv_tree.proofs.FillLemmas.{shape_inner, own_level, depth_is, inner_is}
use Rattle.kv_tree.proofs.SetLemmas.{length_set, length_insert}

pub length_remove : {A : Type 0} (xs : List A) (at : ℕ) → at < length xs
    → length (remove xs at) + 1 ≡ length xs
length_remove [] at lt = absurd (omega arith)
length_remove (x ∷ xs) zero lt = omega arith
length_remove (x ∷ xs) (suc at) lt = omega (arith, length_remove xs at (omega arith))

-- an item that stands before the one that is taken out stays
pub get_remove : {A : Type 0} (xs : List A) (i : ℕ) (d : A) → suc i < length xs
    → get_or (remove xs (suc i)) i d ≡ get_or xs i d
get_remove [] i d lt = absurd (omega arith)
get_remove (x ∷ xs) zero d lt = refl
get_remove (x ∷ xs) (suc i) d lt = get_remove xs i d (omega arith)

weave_pair : (kids : List Subtree) (own : List Pair) (i : ℕ) (d e : Subtree) (m : Pair)
    → length kids ≡ length own + 1 → i < length own
    → weave kids own ≡ weave (take i kids) (take i own)
    ++ (((get_or kids i d).pairs ++ get_or own i m ∷ (get_or kids (suc i) e).pairs)
    ++ behind (drop (suc (suc i)) kids) (drop (suc i) own))
weave_pair [] own i d e m n lt = absurd (omega arith)
weave_pair (k ∷ []) [] i d e m n lt = absurd (omega arith)
weave_pair (k ∷ kids) [] i d e m n lt = absurd (omega arith)
weave_pair (k ∷ []) (x ∷ own) i d e m n lt = absurd (omega arith)
weave_pair (k ∷ k2 ∷ kids) (x ∷ []) zero d e m n lt = sym (append_none (k.pairs ++ x ∷ k2.pairs))
weave_pair (k ∷ k2 ∷ kids) (x ∷ y ∷ own) zero d e m n lt =
    sym (append_assoc k.pairs (x ∷ k2.pairs) (y ∷ weave kids own))
weave_pair (k ∷ k2 ∷ kids) (x ∷ own) (suc i) d e m n lt =
    ap (λ rest. k.pairs ++ x ∷ rest) (weave_pair (k2 ∷ kids) own i d e m (omega arith)
    (omega arith))
    ∙ sym (append_assoc k.pairs _ _)

weave_merged : (kids : List Subtree) (own : List Pair) (i : ℕ) (new : Subtree)
    → length kids ≡ length own + 1 → i < length own
    → weave (set (remove kids (suc i)) i new) (remove own i) ≡ weave (take i kids) (take i own)
    ++ (new.pairs ++ behind (drop (suc (suc i)) kids) (drop (suc i) own))
weave_merged [] own i new n lt = absurd (omega arith)
weave_merged (k ∷ kids) [] i new n lt = absurd (omega arith)
weave_merged (k ∷ []) (x ∷ own) i new n lt = absurd (omega arith)
weave_merged (k ∷ k2 ∷ []) (x ∷ []) zero new n lt = sym (append_none new.pairs)
weave_merged (k ∷ k2 ∷ k3 ∷ kids) (x ∷ []) zero new n lt = absurd (omega arith)
weave_merged (k ∷ k2 ∷ kids) (x ∷ y ∷ own) zero new n lt = refl
weave_merged (k ∷ k2 ∷ kids) (x ∷ own) (suc i) new n lt =
    ap (λ rest. k.pairs ++ x ∷ rest) (weave_merged (k2 ∷ kids) own i new (omega arith)
    (omega arith))
    ∙ sym (append_assoc k.pairs _ _)

weave_evened : (kids : List Subtree) (own : List Pair) (i : ℕ) (left : Subtree) (m : Pair)
    (right : Subtree) → length kids ≡ length own + 1 → i < length own
    → weave (insert (set (remove kids (suc i)) i left) (suc i) right) (insert (remove own i) i m)
    ≡ weave (take i kids) (take i own) ++ ((left.pairs ++ m ∷ right.pairs)
    ++ behind (drop (suc (suc i)) kids) (drop (suc i) own))
weave_evened [] own i left m right n lt = absurd (omega arith)
weave_evened (k ∷ kids) [] i left m right n lt = absurd (omega arith)
weave_evened (k ∷ []) (x ∷ own) i left m right n lt = absurd (omega arith)
weave_evened (k ∷ k2 ∷ []) (x ∷ []) zero left m right n lt =
    sym (append_none (left.pairs ++ m ∷ right.pairs))
weave_evened (k ∷ k2 ∷ k3 ∷ kids) (x ∷ []) zero left m right n lt = absurd (omega arith)
weave_evened (k ∷ k2 ∷ kids) (x ∷ y ∷ own) zero left m right n lt =
    sym (append_assoc left.pairs (m ∷ right.pairs) (y ∷ weave kids own))
weave_evened (k ∷ k2 ∷ kids) (x ∷ own) (suc i) left m right n lt =
    ap (λ rest. k.pairs ++ x ∷ rest) (weave_evened (k2 ∷ kids) own i left m right (omega arith)
    (omega arith))
    ∙ sym (append_assoc k.pairs _ _)

sum_merged : (number : Subtree → ℕ) (kids : List Subtree) (i : ℕ) (d e new : Subtree)
    → suc i < length kids
    → sum_in number (set (remove kids (suc i)) i new) + number (get_or kids i d) + number
    (get_or kids (suc i) e) ≡ sum_in number kids + number new
sum_merged number [] i d e new lt = absurd (omega arith)
sum_merged number (k ∷ []) i d e new lt = absurd (omega arith)
sum_merged number (k ∷ k2 ∷ kids) zero d e new lt = omega arith
sum_merged number (k ∷ k2 ∷ kids) (suc i) d e new lt =
    omega (arith, sum_merged number (k2 ∷ kids) i d e new (omega arith))

sum_evened : (number : Subtree → ℕ) (kids : List Subtree) (i : ℕ) (d e left right : Subtree)
    → suc i < length kids
    → sum_in number (insert (set (remove kids (suc i)) i left) (suc i) right) + number
    (get_or kids i d) + number (get_or kids (suc i) e)
    ≡ sum_in number kids + number left + number right
sum_evened number [] i d e left right lt = absurd (omega arith)
sum_evened number (k ∷ []) i d e left right lt = absurd (omega arith)
sum_evened number (k ∷ k2 ∷ kids) zero d e left right lt = omega arith
sum_evened number (k ∷ k2 ∷ kids) (suc i) d e left right lt =
    omega (arith, sum_evened number (k2 ∷ kids) i d e left right (omega arith))

kids_merged : (level : ℕ) (kids : List Subtree) (at i : ℕ) (new : Subtree)
    → AreKidsBut IsThin at level kids → i ≤ at → at ≤ i + 1 → suc i < length kids → IsKid level new
    → AreKids level (set (remove kids (suc i)) i new)
kids_merged level [] at i new h ge le lt k = absurd (omega arith)
kids_merged level (k0 ∷ []) at i new h ge le lt k = absurd (omega arith)
kids_merged level (k0 ∷ k1 ∷ kids) zero zero new h ge le lt k = (k, h.1.1)
kids_merged level (k0 ∷ k1 ∷ kids) (suc zero) zero new h ge le lt k = (k, h.1.1)
kids_merged level (k0 ∷ k1 ∷ kids) (suc (suc at)) zero new h ge le lt k = absurd (omega arith)
kids_merged level (k0 ∷ k1 ∷ kids) zero (suc i) new h ge le lt k = absurd (omega arith)
kids_merged level (k0 ∷ k1 ∷ kids) (suc at) (suc i) new h ge le lt k =
    (h.0, kids_merged level (k1 ∷ kids) at i new h.1 (omega arith) (omega arith) (omega arith) k)

kids_evened : (level : ℕ) (kids : List Subtree) (at i : ℕ) (left right : Subtree)
    → AreKidsBut IsThin at level kids → i ≤ at → at ≤ i + 1 → suc i < length kids → IsKid level left
    → IsKid level right
    → AreKids level (insert (set (remove kids (suc i)) i left) (suc i) right)
kids_evened level [] at i left right h ge le lt k l = absurd (omega arith)
kids_evened level (k0 ∷ []) at i left right h ge le lt k l = absurd (omega arith)
kids_evened level (k0 ∷ k1 ∷ kids) zero zero left right h ge le lt k l = (k, (l, h.1.1))
kids_evened level (k0 ∷ k1 ∷ kids) (suc zero) zero left right h ge le lt k l = (k, (l, h.1.1))
kids_evened level (k0 ∷ k1 ∷ kids) (suc (suc at)) zero left right h ge le lt k l =
    absurd (omega arith)
kids_evened level (k0 ∷ k1 ∷ kids) zero (suc i) left right h ge le lt k l = absurd (omega arith)
kids_evened level (k0 ∷ k1 ∷ kids) (suc at) (suc i) left right h ge le lt k l = (
  h.0,
  kids_evened level (k1 ∷ kids) at i left right h.1 (omega arith) (omega arith)
      (omega arith) k l,
)

-- what is known of the two
pub record IsUneven (level : ℕ) (left right : Subtree) : Type 0 where
  pub left_depth : left.depth ≡ level
  pub right_depth : right.depth ≡ level
  pub low_left : 14 ≤ left.own
  pub low_right : 14 ≤ right.own
  pub few : left.own + right.own ≤ 45

pub uneven : (level : ℕ) (kids : List Subtree) (at i : ℕ) (d e : Subtree) → AreKidsBut IsThin at level kids
    → IsThinAt at kids → i ≤ at → at ≤ i + 1 → suc i < length kids
    → IsUneven level (get_or kids i d) (get_or kids (suc i) e)
uneven level [] at i d e h thin ge le lt = absurd (omega arith)
uneven level (k0 ∷ []) at i d e h thin ge le lt = absurd (omega arith)
uneven level (k0 ∷ k1 ∷ kids) zero zero d e h thin ge le lt =
    record {
      left_depth = h.0.depth;
      right_depth = h.1.0.depth;
      low_left = h.0.low;
      low_right = omega (arith, h.1.0.low);
      few = omega (arith, h.1.0.high);
    }
uneven level (k0 ∷ k1 ∷ kids) (suc zero) zero d e h thin ge le lt =
    record {
      left_depth = h.0.depth;
      right_depth = h.1.0.depth;
      low_left = omega (arith, h.0.low);
      low_right = h.1.0.low;
      few = omega (arith, h.0.high);
    }
uneven level (k0 ∷ k1 ∷ kids) (suc (suc at)) zero d e h thin ge le lt = absurd (omega arith)
uneven level (k0 ∷ k1 ∷ kids) zero (suc i) d e h thin ge le lt = absurd (omega arith)
uneven level (k0 ∷ k1 ∷ kids) (suc at) (suc i) d e h thin ge le lt =
    uneven level (k1 ∷ kids) at i d e h.1 thin (omega arith) (omega arith) (omega arith)

pub thin_at : (kids : List Subtree) (at : ℕ) (d : Subtree) → (get_or kids at d).own < 15
    → IsThinAt at kids
thin_at [] at d h = tt
thin_at (kid ∷ kids) zero d h = h
thin_at (kid ∷ kids) (suc at) d h = thin_at kids at d h

pub but_enough : (level : ℕ) (kids : List Subtree) (at : ℕ) (d : Subtree) → AreKidsBut IsThin at level kids
    → 15 ≤ (get_or kids at d).own → AreKids level kids
but_enough level [] at d h enough = tt
but_enough level (kid ∷ kids) zero d h enough = (
  record {
    depth = h.0.depth;
    low = enough;
    high = h.0.high;
    full = h.0.full enough;
    wide = h.0.wide enough;
  },
  h.1,
)
but_enough level (kid ∷ kids) (suc at) d h enough = (h.0, but_enough level kids at d h.1 enough)

but_level : (level : ℕ) (kids : List Subtree) (at : ℕ) → AreKidsBut IsThin at level kids → 0 < length kids
    → depth_over kids ≡ level + 1
but_level level [] at h lt = absurd (omega arith)
but_level level (kid ∷ kids) zero h lt = omega (arith, h.0.depth)
but_level level (kid ∷ kids) (suc at) h lt = omega (arith, h.0.depth)

-- a node that was evened out holds the same
pub record IsEvened (kids : List Subtree) (own : List Pair) (new : List Subtree)
    (new_own : List Pair) : Type 0 where
  pub pairs : weave new new_own ≡ weave kids own
  pub level : AreKids (level_of new) new
  pub shape : IsShape new new_own
  pub depth : depth_over new ≡ depth_over kids

pub merged_well : (kids : List Subtree) (own : List Pair) (at i : ℕ) (left : Subtree) (m : Pair)
    (right new : Subtree) → AreKidsBut IsThin at (level_of kids) kids
    → length kids ≡ length own + 1 → i ≤ at → at ≤ i + 1 → i < length own
    → left ≡ get_or kids i left → m ≡ get_or own i m → right ≡ get_or kids (suc i) right
    → IsKid (level_of kids) new
    → new.pairs ≡ left.pairs ++ m ∷ right.pairs
    → IsEvened kids own (set (remove kids (suc i)) i new) (remove own i)
merged_well kids own at i left m right new h n ge le lt is1 is2 is3 k same =
    let all = kids_merged (level_of kids) kids at i new h ge le (omega arith) k in
    let len : length (set (remove kids (suc i)) i new) + 1
    ≡ length kids = omega (
      arith,
      length_set (remove kids (suc i)) i new,
      length_remove kids (suc i) (omega arith),
    ) in
    let len2 : length (remove own i) + 1 ≡ length own = length_remove own i lt in
    record {
      pairs = weave_merged kids own i new n lt
          ∙ ap (λ (mid : List Pair). weave (take i kids) (take i own)
          ++ (mid ++ behind (drop (suc (suc i)) kids) (drop (suc i) own)))
          (same
          ∙ ap (λ (s : Subtree). s.pairs ++ m ∷ right.pairs) is1
          ∙ ap (λ (p : Pair). (get_or kids i left).pairs ++ p ∷ right.pairs) is2
          ∙ ap (λ (s : Subtree). (get_or kids i left).pairs ++ get_or own i m ∷ s.pairs) is3)
          ∙ sym (weave_pair kids own i left right m n lt);
      level = own_level _ _ all;
      shape = shape_inner _ _ (omega arith);
      depth = depth_is (level_of kids) _ all (omega arith)
          ∙ sym (but_level (level_of kids) kids at h (omega arith));
    }

pub evened_well : (kids : List Subtree) (own : List Pair) (at i : ℕ) (left : Subtree) (m : Pair)
    (right new : Subtree) (n2 : Pair) (new2 : Subtree) → AreKidsBut IsThin at (level_of kids) kids
    → length kids ≡ length own + 1 → i ≤ at → at ≤ i + 1 → i < length own
    → left ≡ get_or kids i left → m ≡ get_or own i m → right ≡ get_or kids (suc i) right
    → IsKid (level_of kids) new → IsKid (level_of kids) new2
    → new.pairs ++ n2 ∷ new2.pairs ≡ left.pairs ++ m ∷ right.pairs
    → IsEvened kids own (insert (set (remove kids (suc i)) i new) (suc i) new2)
    (insert (remove own i) i n2)
evened_well kids own at i left m right new n2 new2 h n ge le lt is1 is2 is3 k l same =
    let all = kids_evened (level_of kids) kids at i new new2 h ge le (omega arith) k l in
    let len : length (set (remove kids (suc i)) i new) + 1
    ≡ length kids = omega (
      arith,
      length_set (remove kids (suc i)) i new,
      length_remove kids (suc i) (omega arith),
    ) in
    let len2 : length (remove own i) + 1 ≡ length own = length_remove own i lt in
    let len3 : length (insert (set (remove kids (suc i)) i new) (suc i) new2)
    ≡ length kids = omega (
      arith,
      length_insert (set (remove kids (suc i)) i new) (suc i) new2
          (omega arith),
    ) in
    let len4 : length (insert (remove own i) i n2) ≡ length own = omega
    (arith, length_insert (remove own i) i n2 (omega arith)) in
    record {
      pairs = weave_evened kids own i new n2 new2 n lt
          ∙ ap (λ (mid : List Pair). weave (take i kids) (take i own)
          ++ (mid ++ behind (drop (suc (suc i)) kids) (drop (suc i) own)))
          (same
          ∙ ap (λ (s : Subtree). s.pairs ++ m ∷ right.pairs) is1
          ∙ ap (λ (p : Pair). (get_or kids i left).pairs ++ p ∷ right.pairs) is2
          ∙ ap (λ (s : Subtree). (get_or kids i left).pairs ++ get_or own i m ∷ s.pairs) is3)
          ∙ sym (weave_pair kids own i left right m n lt);
      level = own_level _ _ all;
      shape = shape_inner _ _ (omega arith);
      depth = depth_is (level_of kids) _ all (omega arith)
          ∙ sym (but_level (level_of kids) kids at h (omega arith));
    }

merged_sum : (number : Subtree → ℕ) (kids : List Subtree) (i : ℕ) (left right new : Subtree)
    → suc i < length kids → left ≡ get_or kids i left → right ≡ get_or kids (suc i) right
    → sum_in number (set (remove kids (suc i)) i new) + number left + number right
    ≡ sum_in number kids + number new
merged_sum number kids i left right new lt is1 is3 =
    omega (arith, sum_merged number kids i left right new lt, ap number is1, ap number is3)

evened_sum : (number : Subtree → ℕ) (kids : List Subtree) (i : ℕ) (left right new new2 : Subtree)
    → suc i < length kids → left ≡ get_or kids i left → right ≡ get_or kids (suc i) right
    → sum_in number (insert (set (remove kids (suc i)) i new) (suc i) new2) + number left + number
    right ≡ sum_in number kids + number new + number new2
evened_sum number kids i left right new new2 lt is1 is3 =
    omega (arith, sum_evened number kids i left right new new2 lt, ap number is1, ap number is3)

pub left_is : (kids rest : List Subtree) (i : ℕ) (left : Subtree) → rest ≡ remove kids (i + 1)
    → left ≡ get_or rest i left → i + 1 < length kids → left ≡ get_or kids i left
left_is kids rest i left e is lt =
    let e2 : rest ≡ remove kids (suc i) = rw add-one at e in
    is ∙ ap (λ (l : List Subtree). get_or l i left) e2 ∙ get_remove kids i left (omega arith)

pub uneven_two : (level : ℕ) (kids : List Subtree) (at i : ℕ) (left right : Subtree)
    → AreKidsBut IsThin at level kids → IsThinAt at kids → i ≤ at → at ≤ i + 1 → suc i < length kids
    → left ≡ get_or kids i left → right ≡ get_or kids (suc i) right → IsUneven level left right
uneven_two level kids at i left right h thin ge le lt is1 is3 =
    let u = uneven level kids at i left right h thin ge le lt in
    subst (λ (l : Subtree). IsUneven level l right) (sym is1)
    (subst (IsUneven level (get_or kids i left)) (sym is3) u)

-- two kids that were taken apart
pub record Two (kids : List Subtree) (own : List Pair) (at i : ℕ) (left : Subtree) (m : Pair)
    (right : Subtree) : Type 0 where
  pub but : AreKidsBut IsThin at (level_of kids) kids
  pub lengths : length kids ≡ length own + 1
  pub ge : i ≤ at
  pub le : at ≤ i + 1
  pub behind : i < length own
  pub left_at : left ≡ get_or kids i left
  pub middle_at : m ≡ get_or own i m
  pub right_at : right ≡ get_or kids (suc i) right
  pub uneven : IsUneven (level_of kids) left right

pub two_kids : (kids rest : List Subtree) (own : List Pair) (at i : ℕ) (left : Subtree) (m : Pair)
    (right : Subtree)
    → AreKidsBut IsThin at (level_of kids) kids → IsThinAt at kids → length kids ≡ length own + 1
    → i < length own → i ≤ at → at ≤ i + 1
    → rest ≡ remove kids (i + 1) → left ≡ get_or rest i left → m ≡ get_or own i m
    → right ≡ get_or kids (i + 1) right
    → Two kids own at i left m right
two_kids kids rest own at i left m right h thin n lt ge le e is1 is2 is3 =
    let l = left_is kids rest i left e is1 (omega arith) in
    let r : right ≡ get_or kids (suc i) right = rw add-one at is3 in
    record {
      but = h;
      lengths = n;
      ge = ge;
      le = le;
      behind = lt;
      left_at = l;
      middle_at = is2;
      right_at = r;
      uneven = uneven_two (level_of kids) kids at i left right h thin ge le (omega arith) l r;
    }

pub two_merged : {kids : List Subtree} {own : List Pair} {at i : ℕ} {left : Subtree} {m : Pair}
    {right : Subtree} → Two kids own at i left m right
    → (new : Subtree) → IsKid left.depth new → new.pairs ≡ left.pairs ++ m ∷ right.pairs
    → IsEvened kids own (set (remove kids (i + 1)) i new) (remove own i)
two_merged {kids} {own} {at} {i} {left} {m} {right} w new kid same =
    rw add-one (merged_well kids own at i left m right new w.but w.lengths w.ge w.le w.behind
    w.left_at w.middle_at w.right_at (subst (λ (d : ℕ). IsKid d new) w.uneven.left_depth kid)
    same)

pub two_evened : {kids : List Subtree} {own : List Pair} {at i : ℕ} {left : Subtree} {m : Pair}
    {right : Subtree} → Two kids own at i left m right
    → (new : Subtree) (n : Pair) (new2 : Subtree) → IsKid left.depth new → IsKid left.depth new2
    → new.pairs ++ n ∷ new2.pairs ≡ left.pairs ++ m ∷ right.pairs
    → IsEvened kids own (insert (set (remove kids (i + 1)) i new) (i + 1) new2)
    (insert (remove own i) i n)
two_evened {kids} {own} {at} {i} {left} {m} {right} w new n new2 kid kid2 same =
    rw add-one (evened_well kids own at i left m right new n new2 w.but w.lengths w.ge w.le w.behind
    w.left_at w.middle_at w.right_at
    (subst (λ (d : ℕ). IsKid d new) w.uneven.left_depth kid)
    (subst (λ (d : ℕ). IsKid d new2) w.uneven.left_depth kid2) same)

two_merged_sum : (number : Subtree → ℕ) {kids : List Subtree} {own : List Pair} {at i : ℕ}
    {left : Subtree} {m : Pair} {right : Subtree} → Two kids own at i left m right
    → (new : Subtree)
    → sum_in number (set (remove kids (i + 1)) i new) + number left + number right
    ≡ sum_in number kids + number new
two_merged_sum number {kids} {own} {at} {i} {left} {m} {right} w new =
    rw add-one (merged_sum number kids i left right new (omega (arith, w.lengths, w.behind))
    w.left_at w.right_at)

two_evened_sum : (number : Subtree → ℕ) {kids : List Subtree} {own : List Pair} {at i : ℕ}
    {left : Subtree} {m : Pair} {right : Subtree} → Two kids own at i left m right
    → (new new2 : Subtree)
    → sum_in number (insert (set (remove kids (i + 1)) i new) (i + 1) new2) + number left + number
    right ≡ sum_in number kids + number new + number new2
two_evened_sum number {kids} {own} {at} {i} {left} {m} {right} w new new2 =
    rw add-one (evened_sum number kids i left right new new2 (omega (arith, w.lengths, w.behind))
    w.left_at w.right_at)

pub two_merged_nodes : {kids : List Subtree} {own : List Pair} {at i : ℕ} {left : Subtree}
    {m : Pair} {right : Subtree} → Two kids own at i left m right
    → (new : Subtree)
    → nodes_in (set (remove kids (i + 1)) i new) + left.nodes + right.nodes
    ≡ nodes_in kids + new.nodes
two_merged_nodes w new = two_merged_sum (λ kid. kid.nodes) w new

pub two_evened_nodes : {kids : List Subtree} {own : List Pair} {at i : ℕ} {left : Subtree}
    {m : Pair} {right : Subtree} → Two kids own at i left m right
    → (new new2 : Subtree)
    → nodes_in (insert (set (remove kids (i + 1)) i new) (i + 1) new2) + left.nodes + right.nodes
    ≡ nodes_in kids + new.nodes + new2.nodes
two_evened_nodes w new new2 = two_evened_sum (λ kid. kid.nodes) w new new2

pub two_merged_inner : {kids : List Subtree} {own : List Pair} {at i : ℕ} {left : Subtree}
    {m : Pair} {right : Subtree} → Two kids own at i left m right
    → (new : Subtree)
    → inner_over (set (remove kids (i + 1)) i new) + left.inner + right.inner
    ≡ inner_over kids + new.inner
two_merged_inner {kids} {own} {at} {i} {left} {m} {right} w new =
    let gone : length (remove kids (i + 1)) + 1 ≡ length kids = length_remove kids (i + 1)
    (omega (arith, w.lengths, w.behind)) in
    omega (
      arith,
      two_merged_sum (λ kid. kid.inner) w new,
      inner_is kids (omega (arith, w.lengths)),
      inner_is (set (remove kids (i + 1)) i new) (omega
          (arith, w.lengths, w.behind, length_set (remove kids (i + 1)) i new)),
    )

pub two_evened_inner : {kids : List Subtree} {own : List Pair} {at i : ℕ} {left : Subtree}
    {m : Pair} {right : Subtree} → Two kids own at i left m right
    → (new new2 : Subtree)
    → inner_over (insert (set (remove kids (i + 1)) i new) (i + 1) new2) + left.inner + right.inner
    ≡ inner_over kids + new.inner + new2.inner
two_evened_inner {kids} {own} {at} {i} {left} {m} {right} w new new2 =
    let gone : length (remove kids (i + 1)) + 1 ≡ length kids = length_remove kids (i + 1)
    (omega (arith, w.lengths, w.behind)) in
    let less : length (set (remove kids (i + 1)) i new)
    ≡ length (remove kids (i + 1)) = length_set (remove kids (i + 1)) i new in
    omega (
      arith,
      two_evened_sum (λ kid. kid.inner) w new new2,
      inner_is kids (omega (arith, w.lengths)),
      inner_is (insert (set (remove kids (i + 1)) i new) (i + 1) new2)
          (omega (
            arith,
            length_insert (set (remove kids (i + 1)) i new) (i + 1) new2
                (omega (arith, w.lengths, w.behind)),
          )),
    )
