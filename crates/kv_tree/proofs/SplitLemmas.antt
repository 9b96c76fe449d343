-- A node before and after one of its kids is cut in two.
use Rattle.std.proofs.Common.{◌≡◌, ℕ, zero, suc, ◌+◌, ◌<◌, ◌≤◌, List, [], ◌∷◌, ◌++◌}
use Rattle.std.proofs.Common.{length, get_or, set, take, drop, sym, ap, ◌∙◌, subst, arith}
use Rattle.std.specs.List.{insert}
use Rattle.kv_tree.specs.Subtree.{Pair, Subtree, behind, weave, level_of}
use Rattle.kv_tree.specs.Subtree.{IsKid, AreKids}
use Rattle.kv_tree.specs.Uneven.{AreKidsBut, IsOver}
use Rattle.kv_tree.proofs.WeaveLemmas.{weave_kid, depth_level}
use Rattle.kv_tree.proofs.FillLemmas.{shape_inner, own_level, depth_is}
use Rattle.kv_tree.proofs.SetLemmas.{length_set, length_insert, weave_split_kid}
use Rattle.kv_tree.proofs.RefillLemmas.{IsEvened}

but_at : (level : ℕ) (kids : List Subtree) (at : ℕ) (d : Subtree) → AreKidsBut IsOver at level kids
    → at < length kids → IsOver level (get_or kids at d)
but_at level [] at d h lt = absurd (omega arith)
but_at level (kid ∷ kids) zero d h lt = h.0
but_at level (kid ∷ kids) (suc at) d h lt = but_at level kids at d h.1 (omega arith)

-- the kid at the place has one pair too many
pub over_at : (kids : List Subtree) (at : ℕ) (kid : Subtree)
    → AreKidsBut IsOver at (level_of kids) kids → at < length kids → kid ≡ get_or kids at kid
    → IsOver (level_of kids) kid
over_at kids at kid h lt is =
    subst (IsOver (level_of kids)) (sym is) (but_at (level_of kids) kids at kid h lt)

kids_split : (level : ℕ) (kids : List Subtree) (at : ℕ) (left right : Subtree)
    → AreKidsBut IsOver at level kids → at < length kids → IsKid level left → IsKid level right
    → AreKids level (insert (set kids at left) (suc at) right)
kids_split level [] at left right h lt k l = absurd (omega arith)
kids_split level (kid ∷ kids) zero left right h lt k l = (k, (l, h.1))
kids_split level (kid ∷ kids) (suc at) left right h lt k l =
    (h.0, kids_split level kids at left right h.1 (omega arith) k l)

-- the two halves hold what the kid held
pub parted : (kids : List Subtree) (own : List Pair) (at : ℕ) (kid left : Subtree) (m : Pair)
    (right : Subtree) → AreKidsBut IsOver at (level_of kids) kids
    → length kids ≡ length own + 1 → at < length kids → kid ≡ get_or kids at kid
    → IsKid kid.depth left → IsKid kid.depth right
    → left.pairs ++ m ∷ right.pairs ≡ kid.pairs
    → IsEvened kids own (insert (set kids at left) (suc at) right) (insert own at m)
parted kids own at kid left m right h n lt is fits fits2 same =
    let level : kid.depth ≡ level_of kids = (over_at kids at kid h lt is).depth in
    let all = kids_split (level_of kids) kids at left right h lt
    (subst (λ (d : ℕ). IsKid d left) level fits)
    (subst (λ (d : ℕ). IsKid d right) level fits2) in
    let n1 : length (set kids at left) ≡ length own + 1 = length_set kids at left ∙ n in
    let n2 : length (insert (set kids at left) (suc at) right)
    ≡ length own + 1 + 1 = length_insert (set kids at left) (suc at) right (omega arith)
    ∙ omega (arith, n1) in
    let n3 : length (insert own at m) ≡ length own + 1 = length_insert own at m (omega arith) in
    record {
      pairs = weave_split_kid kids own at left m right n (omega arith)
          ∙ ap (λ (mid : List Pair). weave (take at kids) (take at own)
          ++ (mid ++ behind (drop (suc at) kids) (drop at own)))
          (same ∙ ap (λ (s : Subtree). s.pairs) is)
          ∙ sym (weave_kid kids own at kid n (omega arith));
      level = own_level _ _ all;
      shape = shape_inner _ _ (omega arith);
      depth = depth_is (level_of kids) _ all (omega arith)
          ∙ sym (depth_level kids (omega arith));
    }
