-- The pairs of a node are those before one of its kids, the kid's, and those behind it.
use Rattle.std.proofs.Common.{◌≡◌, ℕ, zero, suc, ◌+◌, ◌<◌, ◌≤◌, T, Bool, true, false, cond}
use Rattle.std.proofs.Common.{List, [], ◌∷◌, ◌++◌, length, get_or, take, drop}
use Rattle.std.proofs.Common.{Some, None, Ordering, Less, Equal, Greater, IsTrue, refl, sym}
use Rattle.std.proofs.Common.{ap, ◌∙◌, subst, arith}
use Rattle.std.proofs.lemmas.List.{append_assoc}
use Rattle.std.specs.Ordering.{nat_cmp, is_lt, is_eq, is_gt, ordering_reverse}
use Rattle.std.specs.Cmp.Lexicographic.{slice_cmp}
use Rattle.std.specs.FinMap.{find, is_sorted}
use Rattle.std.specs.FinMap.Entries.{put, below_all}
use Rattle.std.proofs.lemmas.Cmp.{nat_list_cmp_total}
use Rattle.kv_index.specs.declared.entry.Entry.{Entry}
use Rattle.kv_index.specs.Places.{HasRisingKeys, IsAt, IsGap}
use Rattle.kv_index.proofs.EntriesLemmas.{one_key}
use Rattle.kv_index.proofs.PlacesLemmas.{at_ties, at-lt, gap-le, find_gap, both, first, second}
use Rattle.kv_index.proofs.PlacesLemmas.{less, is_less, by}
use Rattle.kv_tree.specs.Subtree.{Past, Pair, Subtree, weave, behind, IsShape, IsNode, IsKid}
use Rattle.kv_tree.specs.Subtree.{AreKids}
use Rattle.kv_tree.specs.Subtree.{subtree, depth_over, level_of, next_from}

abbrev pub order : List ℕ → List ℕ → Ordering
order = slice_cmp nat_cmp

pub yes : (b : Bool) → IsTrue b → T b
yes b is = subst T (sym is) tt

pub is_yes : (b : Bool) → T b → IsTrue b
is_yes true h = refl
is_yes false h = absurd h

-- this key is less than each
abbrev pub IsBelow : List ℕ → List Pair → Type 0
IsBelow q es = T (below_all order q es)

abbrev pub Rises : List Pair → Type 0
Rises es = T (is_sorted order es)

below_left : (x : List ℕ) (a b : List Pair) → IsBelow x (a ++ b) → IsBelow x a
below_left x [] b h = tt
below_left x (e ∷ a) b h =
    both (is_lt (order x e.0)) (below_all order x a) (first _ _ h)
    (below_left x a b (second (is_lt (order x e.0)) (below_all order x (a ++ b)) h))

below_right : (x : List ℕ) (a b : List Pair) → IsBelow x (a ++ b) → IsBelow x b
below_right x [] b h = h
below_right x (e ∷ a) b h =
    below_right x a b (second (is_lt (order x e.0)) (below_all order x (a ++ b)) h)

pub rises_left : (a b : List Pair) → Rises (a ++ b) → Rises a
rises_left [] b h = tt
rises_left (e ∷ a) b h =
    both (below_all order e.0 a) (is_sorted order a)
    (below_left e.0 a b (first (below_all order e.0 (a ++ b)) (is_sorted order (a ++ b)) h))
    (rises_left a b (second (below_all order e.0 (a ++ b)) (is_sorted order (a ++ b)) h))

pub rises_right : (a b : List Pair) → Rises (a ++ b) → Rises b
rises_right [] b h = h
rises_right (e ∷ a) b h =
    rises_right a b (second (below_all order e.0 (a ++ b)) (is_sorted order (a ++ b)) h)

-- what stands before a pair that is at or below q is past
pub past_upto : (q : List ℕ) (a : List Pair) (x : Pair) (b : List Pair) → Rises (a ++ x ∷ b)
    → ((y : List ℕ) → order y x.0 ≡ Less → order q y ≡ Greater) → Past q a
past_upto q [] x b s h = tt
past_upto q (e ∷ a) x b s h =
    let below = below_right e.0 a (x ∷ b) (first (below_all order e.0 (a ++ x ∷ b))
    (is_sorted order (a ++ x ∷ b)) s) in (
      h e.0 (less _ (first (is_lt (order e.0 x.0)) (below_all order e.0 b) below)),
      past_upto q a x b (second (below_all order e.0 (a ++ x ∷ b)) (is_sorted order (a ++ x ∷ b)) s)
          h,
    )

pub upto_greater : (q x : List ℕ) → order q x ≡ Greater → (y : List ℕ) → order y x ≡ Less
    → order q y ≡ Greater
upto_greater q x is y h =
    nat_list_cmp_total.antisymm q y
    ∙ ap ordering_reverse (nat_list_cmp_total.trans y x q h
    (nat_list_cmp_total.antisymm x q ∙ ap ordering_reverse is))

upto_equal : (q x : List ℕ) → order q x ≡ Equal → (y : List ℕ) → order y x ≡ Less
    → order q y ≡ Greater
upto_equal q x is y h =
    let same : q ≡ x = one_key q x is in
    nat_list_cmp_total.antisymm q y ∙ ap ordering_reverse (ap (order y) same ∙ h)

past_append : (q : List ℕ) (a b : List Pair) → Past q a → Past q b → Past q (a ++ b)
past_append q [] b p r = r
past_append q (e ∷ a) b p r = (p.0, past_append q a b p.1 r)

below_rest : (q x : List ℕ) (es : List Pair) → order q x ≡ Less → IsBelow x es → IsBelow q es
below_rest q x [] p h = tt
below_rest q x (e ∷ es) p h =
    both (is_lt (order q e.0)) (below_all order q es)
    (is_less _ (nat_list_cmp_total.trans q x e.0 p (less _
    (first (is_lt (order x e.0)) (below_all order x es) h))))
    (below_rest q x es p (second (is_lt (order x e.0)) (below_all order x es) h))

pub below_from : (q : List ℕ) (x : Pair) (b : List Pair) → Rises (x ∷ b) → order q x.0 ≡ Less
    → IsBelow q (x ∷ b)
below_from q x b s is =
    both (is_lt (order q x.0)) (below_all order q b) (is_less _ is)
    (below_rest q x.0 b is (first (below_all order x.0 b) (is_sorted order b) s))

-- searches pass over what is past, and end before what is not reached
pub find_past : (q : List ℕ) (a b : List Pair) → Past q a → find order q (a ++ b) ≡ find order q b
find_past q [] b p = refl
find_past q (e ∷ a) b p =
    ap (λ r. cond (is_eq r) (Some e.1) (find order q (a ++ b))) {x = order q e.0} p.0
    ∙ find_past q a b p.1

pub find_none : (q : List ℕ) (b : List Pair) → IsBelow q b → find order q b ≡ None
find_none q [] h = refl
find_none q (e ∷ b) h =
    ap (λ r. cond (is_eq r) (Some e.1) (find order q b)) {x = order q e.0}
    (less _ (first (is_lt (order q e.0)) (below_all order q b) h))
    ∙ find_none q b (second (is_lt (order q e.0)) (below_all order q b) h)

pub find_before : (q : List ℕ) (m b : List Pair) → IsBelow q b
    → find order q (m ++ b) ≡ find order q m
find_before q [] b h = find_none q b h
find_before q (e ∷ m) b h = ap (cond (is_eq (order q e.0)) (Some e.1)) (find_before q m b h)

pub next_past : (q : List ℕ) (a b : List Pair) → Past q a → next_from q (a ++ b) ≡ next_from q b
next_past q [] b p = refl
next_past q (e ∷ a) b p =
    ap (λ r. cond (is_gt r) (next_from q (a ++ b)) (Some e)) {x = order q e.0} p.0
    ∙ next_past q a b p.1

pub next_some : (q : List ℕ) (m b : List Pair) (e : Pair) → next_from q m ≡ Some e
    → next_from q (m ++ b) ≡ Some e
next_some q [] b e is = cc
next_some q (x ∷ m) b e is =
    elim (is_gt (order q x.0)) as (λ t. cond t (next_from q m) (Some x) ≡ Some e
    → cond t (next_from q (m ++ b)) (Some x) ≡ Some e) [
      | true ↦ λ h. next_some q m b e h
      | false ↦ λ h. h
    ] is

pub next_none : (q : List ℕ) (m b : List Pair) → next_from q m ≡ None
    → next_from q (m ++ b) ≡ next_from q b
next_none q [] b is = refl
next_none q (x ∷ m) b is =
    elim (is_gt (order q x.0)) as (λ t. cond t (next_from q m) (Some x) ≡ None
    → cond t (next_from q (m ++ b)) (Some x) ≡ next_from q b) [
      | true ↦ λ h. next_none q m b h
      | false ↦ λ h. cc
    ] is

pub put_past : (q : List ℕ) (v : Entry) (a b : List Pair) → Past q a
    → put order q v (a ++ b) ≡ a ++ put order q v b
put_past q v [] b p = refl
put_past q v (e ∷ a) b p =
    ap (λ r. by r ((q, v) ∷ e ∷ (a ++ b)) ((e.0, v) ∷ (a ++ b)) (e ∷ put order q v (a ++ b)))
    {x = order q e.0} p.0
    ∙ ap (λ rest. e ∷ rest) (put_past q v a b p.1)

put_first : (q : List ℕ) (v : Entry) (b : List Pair) → IsBelow q b → put order q v b ≡ (q, v) ∷ b
put_first q v [] h = refl
put_first q v (e ∷ b) h =
    ap (λ r. by r ((q, v) ∷ e ∷ b) ((e.0, v) ∷ b) (e ∷ put order q v b)) {x = order q e.0}
    (less _ (first (is_lt (order q e.0)) (below_all order q b) h))

pub put_before : (q : List ℕ) (v : Entry) (m b : List Pair) → IsBelow q b
    → put order q v (m ++ b) ≡ put order q v m ++ b
put_before q v [] b h = put_first q v b h
put_before q v (e ∷ m) b h =
    elim (order q e.0) as (λ r. by r ((q, v) ∷ e ∷ (m ++ b)) ((e.0, v) ∷ (m ++ b))
    (e ∷ put order q v (m ++ b)) ≡ by r ((q, v) ∷ e ∷ m) ((e.0, v) ∷ m) (e ∷ put order q v m)
    ++ b) [
      | Less ↦ refl
      | Equal ↦ refl
      | Greater ↦ ap (λ rest. e ∷ rest) (put_before q v m b h)
    ]

-- a list of pairs in three parts, where q can stand in the middle one alone
pub record IsFocus (q : List ℕ) (es before mid after : List Pair) : Type 0 where
  pub is : es ≡ before ++ (mid ++ after)
  pub past : Past q before
  pub below : IsBelow q after

pub find_focus : {q : List ℕ} {es before mid after : List Pair} → IsFocus q es before mid after
    → find order q es ≡ find order q mid
find_focus {q} {es} {before} {mid} {after} f =
    ap (find order q) f.is ∙ find_past q before (mid ++ after) f.past
    ∙ find_before q mid after f.below

pub put_focus : {q : List ℕ} {es before mid after : List Pair} → (v : Entry)
    → IsFocus q es before mid after
    → put order q v es ≡ before ++ (put order q v mid ++ after)
put_focus {q} {es} {before} {mid} {after} v f =
    ap (put order q v) f.is ∙ put_past q v before (mid ++ after) f.past
    ∙ ap (λ rest. before ++ rest) (put_before q v mid after f.below)

pub append_none : (a : List Pair) → a ++ [] ≡ a
append_none [] = refl
append_none (e ∷ a) = ap (λ rest. e ∷ rest) (append_none a)

-- the pairs of a node at one of its kids
pub weave_kid : (kids : List Subtree) (own : List Pair) (at : ℕ) (d : Subtree)
    → length kids ≡ length own + 1 → at ≤ length own
    → weave kids own ≡ weave (take at kids) (take at own)
    ++ ((get_or kids at d).pairs ++ behind (drop (suc at) kids) (drop at own))
weave_kid [] own at d n le = absurd (omega arith)
weave_kid (kid ∷ kids) [] zero d n le = sym (append_none kid.pairs)
weave_kid (kid ∷ kids) [] (suc at) d n le = absurd (omega arith)
weave_kid (kid ∷ kids) (x ∷ own) zero d n le = refl
weave_kid (kid ∷ kids) (x ∷ own) (suc at) d n le =
    ap (λ rest. kid.pairs ++ x ∷ rest) (weave_kid kids own at d (omega arith) (omega arith))
    ∙ sym (append_assoc kid.pairs _ _)

past_kid : (q : List ℕ) (kids : List Subtree) (own : List Pair) (at : ℕ) → Rises (weave kids own)
    → length kids ≡ length own + 1
    → IsGap order q own at → Past q (weave (take at kids) (take at own))
past_kid q kids own zero s n g = tt
past_kid q [] own (suc at) s n g = absurd (omega arith)
past_kid q (kid ∷ kids) [] (suc at) s n g = absurd (omega arith)
past_kid q (kid ∷ kids) (x ∷ own) (suc at) s n g =
    past_append q kid.pairs (x ∷ weave (take at kids) (take at own))
    (past_upto q kid.pairs x (weave kids own) s (upto_greater q x.0 g.0)) (
      g.0,
      past_kid q kids own at (second (below_all order x.0 (weave kids own))
          (is_sorted order (weave kids own)) (rises_right kid.pairs (x ∷ weave kids own) s))
          (omega arith) g.1,
    )

below_kid : (q : List ℕ) (kids : List Subtree) (own : List Pair) (at : ℕ) → Rises (weave kids own)
    → length kids ≡ length own + 1
    → IsGap order q own at → IsBelow q (behind (drop (suc at) kids) (drop at own))
below_kid q [] own at s n g = absurd (omega arith)
below_kid q (kid ∷ kids) [] zero s n g = tt
below_kid q (kid ∷ kids) [] (suc at) s n g = absurd (omega arith)
below_kid q (kid ∷ kids) (x ∷ own) zero s n g =
    below_from q x (weave kids own) (rises_right kid.pairs (x ∷ weave kids own) s) g
below_kid q (kid ∷ kids) (x ∷ own) (suc at) s n g =
    below_kid q kids own at (second (below_all order x.0 (weave kids own))
    (is_sorted order (weave kids own)) (rises_right kid.pairs (x ∷ weave kids own) s))
    (omega arith) g.1

-- a key that stands in a gap of the node's own pairs can stand below in the kid there alone
pub focus_kid : (q : List ℕ) (kids : List Subtree) (own : List Pair) (at : ℕ) (d : Subtree)
    → Rises (weave kids own) → length kids ≡ length own + 1
    → IsGap order q own at → at ≤ length own
    → IsFocus q (weave kids own) (weave (take at kids) (take at own)) (get_or kids at d).pairs
    (behind (drop (suc at) kids) (drop at own))
focus_kid q kids own at d s n g le = record {
  is = weave_kid kids own at d n le;
  past = past_kid q kids own at s n g;
  below = below_kid q kids own at s n g;
}

-- the pairs of a node at one of its own
pub weave_item : (kids : List Subtree) (own : List Pair) (at : ℕ) (d : Pair) → IsShape kids own
    → at < length own
    → weave kids own ≡ weave (take (suc at) kids) (take at own)
    ++ get_or own at d ∷ weave (drop (suc at) kids) (drop (suc at) own)
weave_item [] [] at d n lt = absurd (omega arith)
weave_item [] (x ∷ own) zero d n lt = refl
weave_item [] (x ∷ own) (suc at) d n lt =
    ap (λ rest. x ∷ rest) (weave_item [] own at d tt (omega arith))
weave_item (kid ∷ kids) [] at d n lt = absurd (omega arith)
weave_item (kid ∷ kids) (x ∷ own) zero d n lt = refl
weave_item (kid ∷ []) (x ∷ own) (suc at) d n lt = absurd (omega arith)
weave_item (kid ∷ kid2 ∷ kids) (x ∷ own) (suc at) d n lt =
    ap (λ rest. kid.pairs ++ x ∷ rest) (weave_item (kid2 ∷ kids) own at d (omega arith)
    (omega arith))
    ∙ sym (append_assoc kid.pairs _ _)

-- a node's own pairs rise
own_below : (x : List ℕ) (kids : List Subtree) (own : List Pair) → IsBelow x (weave kids own)
    → IsBelow x own
own_below x [] own h = h
own_below x (kid ∷ kids) [] h = tt
own_below x (kid ∷ kids) (e ∷ own) h =
    let rest = below_right x kid.pairs (e ∷ weave kids own) h in
    both (is_lt (order x e.0)) (below_all order x own) (first _ _ rest)
    (own_below x kids own (second (is_lt (order x e.0)) (below_all order x (weave kids own)) rest))

own_rises : (kids : List Subtree) (own : List Pair) → Rises (weave kids own) → Rises own
own_rises [] own s = s
own_rises (kid ∷ kids) [] s = tt
own_rises (kid ∷ kids) (e ∷ own) s =
    let rest = rises_right kid.pairs (e ∷ weave kids own) s in
    both (below_all order e.0 own) (is_sorted order own)
    (own_below e.0 kids own (first (below_all order e.0 (weave kids own))
    (is_sorted order (weave kids own)) rest))
    (own_rises kids own (second (below_all order e.0 (weave kids own))
    (is_sorted order (weave kids own)) rest))

pub own_rising : (kids : List Subtree) (own : List Pair) → HasRisingKeys order (weave kids own)
    → HasRisingKeys order own
own_rising kids own s = is_yes _ (own_rises kids own (yes _ s))

-- a kid's pairs rise
pub kid_rising : (q : List ℕ) (es before mid after : List Pair) → IsFocus q es before mid after
    → HasRisingKeys order es → HasRisingKeys order mid
kid_rising q es before mid after f s =
    is_yes _ (rises_left mid after (rises_right before (mid ++ after) (subst Rises f.is (yes _ s))))

-- before the node's own pair with this key all is past
pub past_item : (q : List ℕ) (es a : List Pair) (x : Pair) (b : List Pair) → es ≡ a ++ x ∷ b
    → HasRisingKeys order es → order q x.0 ≡ Equal → Past q a
past_item q es a x b is s e = past_upto q a x b (subst Rises is (yes _ s)) (upto_equal q x.0 e)

pub find_item : (q : List ℕ) (es a : List Pair) (x : Pair) (b : List Pair) → es ≡ a ++ x ∷ b
    → HasRisingKeys order es → order q x.0 ≡ Equal
    → find order q es ≡ Some x.1
find_item q es a x b is s e =
    ap (find order q) is ∙ find_past q a (x ∷ b) (past_item q es a x b is s e)
    ∙ ap (λ r. cond (is_eq r) (Some x.1) (find order q b)) {x = order q x.0} e

pub next_item : (q : List ℕ) (es a : List Pair) (x : Pair) (b : List Pair) → es ≡ a ++ x ∷ b
    → HasRisingKeys order es → order q x.0 ≡ Equal
    → next_from q es ≡ Some x
next_item q es a x b is s e =
    ap (next_from q) is ∙ next_past q a (x ∷ b) (past_item q es a x b is s e)
    ∙ ap (λ r. cond (is_gt r) (next_from q b) (Some x)) {x = order q x.0} e

pub put_item : (q : List ℕ) (v : Entry) (es a : List Pair) (x : Pair) (b : List Pair)
    → es ≡ a ++ x ∷ b → HasRisingKeys order es → order q x.0 ≡ Equal
    → put order q v es ≡ a ++ (x.0, v) ∷ b
put_item q v es a x b is s e =
    ap (put order q v) is ∙ put_past q v a (x ∷ b) (past_item q es a x b is s e)
    ∙ ap (λ r. a ++ by r ((q, v) ∷ x ∷ b) ((x.0, v) ∷ b) (x ∷ put order q v b)) {x = order q x.0} e

-- a node with kids has one more than pairs of its own
pub shape_length : (kids : List Subtree) (own : List Pair) → IsShape kids own → 0 < length kids
    → length kids ≡ length own + 1
shape_length [] own h lt = absurd (omega arith)
shape_length (kid ∷ kids) own h lt = omega arith

-- a leaf holds its own pairs
pub leaf_weave : (kids : List Subtree) (own : List Pair) → length kids ≤ 0 → weave kids own ≡ own
leaf_weave [] own h = refl
leaf_weave (kid ∷ kids) own h = absurd (omega arith)

pub kid_level : (level : ℕ) (kids : List Subtree) (at : ℕ) (d : Subtree) → AreKids level kids
    → at < length kids → IsKid level (get_or kids at d)
kid_level level [] at d h lt = absurd (omega arith)
kid_level level (kid ∷ kids) zero d h lt = h.0
kid_level level (kid ∷ kids) (suc at) d h lt = kid_level level kids at d h.1 (omega arith)

pub depth_level : (kids : List Subtree) → 0 < length kids → depth_over kids ≡ level_of kids + 1
depth_level [] lt = absurd (omega arith)
depth_level (kid ∷ kids) lt = refl

-- what is known of a node at the kid where a key can stand
pub record AtKid (q : List ℕ) (s kid : Subtree) (kids : List Subtree) (own : List Pair) (at : ℕ) :
    Type 0 where
  pub focus : IsFocus q s.pairs (weave (take at kids) (take at own)) kid.pairs
      (behind (drop (suc at) kids) (drop at own))
  pub rising : HasRisingKeys order kid.pairs
  pub fits : IsKid (level_of kids) kid
  pub falls : kid.depth < s.depth
  pub lengths : length kids ≡ length own + 1

pub at_kid : (q : List ℕ) (s kid : Subtree) (kids : List Subtree) (own : List Pair)
    (at kids_fit items_fit : ℕ) → subtree kids own ≡ s
    → IsNode kids own kids_fit items_fit → HasRisingKeys order s.pairs → IsGap order q own at
    → 0 < length kids
    → kid ≡ get_or kids at kid → AtKid q s kid kids own at
at_kid q s kid kids own at a b view node rising gap some is =
    let n : length kids ≡ length own + 1 = shape_length kids own node.shape some in
    let le : at ≤ length own = gap-le nat_list_cmp_total q own at gap in
    let rising2 : HasRisingKeys order (weave kids own) =
    subst (λ (t : Subtree). HasRisingKeys order t.pairs) (sym view) rising in
    let f = focus_kid q kids own at kid (yes _ rising2) n gap le in
    let f2 : IsFocus q (weave kids own) (weave (take at kids) (take at own)) kid.pairs
    (behind (drop (suc at) kids) (drop at own))
    = subst (λ (k : Subtree). IsFocus q (weave kids own) (weave (take at kids) (take at own))
    k.pairs (behind (drop (suc at) kids) (drop at own))) (sym is) f in
    let low : IsKid (level_of kids) kid = subst (IsKid (level_of kids)) (sym is)
    (kid_level (level_of kids) kids at kid node.kids (omega arith)) in
    record {
      focus = subst (λ (t : Subtree). IsFocus q t.pairs (weave (take at kids) (take at own))
          kid.pairs (behind (drop (suc at) kids) (drop at own))) view f2;
      rising = kid_rising q _ _ _ _ f2 rising2;
      fits = low;
      falls = subst (λ (t : Subtree). kid.depth < t.depth) view
          (omega (arith, low.depth, depth_level kids some));
      lengths = n;
    }

-- what is known of a node at the pair of its own that has the key
pub record AtItem (q : List ℕ) (s : Subtree) (x : Pair) (kids : List Subtree) (own : List Pair)
    (at : ℕ) : Type 0 where
  pub is : s.pairs ≡ weave (take (suc at) kids) (take at own)
      ++ x ∷ weave (drop (suc at) kids) (drop (suc at) own)
  pub ties : order q x.0 ≡ Equal

pub at_item : (q : List ℕ) (s : Subtree) (x : Pair) (kids : List Subtree) (own : List Pair)
    (at kids_fit items_fit : ℕ) → subtree kids own ≡ s
    → IsNode kids own kids_fit items_fit → IsAt order q own at → x ≡ get_or own at x
    → AtItem q s x kids own at
at_item q s x kids own at a b view node place is =
    let lt : at < length own = at-lt nat_list_cmp_total q own at place in
    record {
      is = ap (λ (t : Subtree). t.pairs) (sym view) ∙ weave_item kids own at x node.shape lt
          ∙ ap (λ (y : Pair). weave (take (suc at) kids) (take at own)
          ++ y ∷ weave (drop (suc at) kids) (drop (suc at) own)) (sym is);
      ties = ap (λ (y : Pair). order q y.0) is ∙ at_ties nat_list_cmp_total q own at x place;
    }

-- in a leaf a key that stands in a gap is not there
pub find_leaf : (q : List ℕ) (s : Subtree) (kids : List Subtree) (own : List Pair) (at : ℕ)
    → subtree kids own ≡ s
    → HasRisingKeys order s.pairs → IsGap order q own at → length kids ≤ 0
    → find order q s.pairs ≡ None
find_leaf q s kids own at view rising gap none =
    let leaf : own ≡ s.pairs = sym (leaf_weave kids own none)
    ∙ ap (λ (t : Subtree). t.pairs) view in
    subst (λ (es : List Pair). find order q es ≡ None) leaf
    (find_gap nat_list_cmp_total q own at (subst Rises (sym leaf) (yes _ rising)) gap)

pub next_focus_some : {q : List ℕ} {es before mid after : List Pair} → IsFocus q es before mid after
    → (x : Pair) → next_from q mid ≡ Some x
    → next_from q es ≡ Some x
next_focus_some {q} {es} {before} {mid} {after} f x is =
    ap (next_from q) f.is ∙ next_past q before (mid ++ after) f.past ∙ next_some q mid after x is

pub next_focus_none : {q : List ℕ} {es before mid after : List Pair} → IsFocus q es before mid after
    → next_from q mid ≡ None
    → next_from q es ≡ next_from q after
next_focus_none {q} {es} {before} {mid} {after} f is =
    ap (next_from q) f.is ∙ next_past q before (mid ++ after) f.past ∙ next_none q mid after is

-- where the kid has no next pair, the node's own at that place is the next
next_behind : (q : List ℕ) (kids : List Subtree) (own : List Pair) (at : ℕ) (x : Pair)
    → IsGap order q own at → at < length own
    → x ≡ get_or own at x → next_from q (behind (drop (suc at) kids) (drop at own)) ≡ Some x
next_behind q kids [] at x gap lt is = absurd (omega arith)
next_behind q [] (y ∷ own) zero x gap lt is =
    rw is (ap (λ r. cond (is_gt r) (next_from q own) (Some y)) {x = order q y.0} gap)
next_behind q (kid ∷ kids) (y ∷ own) zero x gap lt is =
    rw is (ap (λ r. cond (is_gt r) (next_from q (weave kids own)) (Some y)) {x = order q y.0} gap)
next_behind q [] (y ∷ own) (suc at) x gap lt is = next_behind q [] own at x gap.1 (omega arith) is
next_behind q (kid ∷ kids) (y ∷ own) (suc at) x gap lt is =
    next_behind q kids own at x gap.1 (omega arith) is

nothing_behind : (q : List ℕ) (kids : List Subtree) (own : List Pair) (at : ℕ) → length own ≤ at
    → next_from q (behind kids (drop at own)) ≡ None
nothing_behind q kids [] at le =
    elim at as (λ (k : ℕ). next_from q (behind kids (drop k [])) ≡ None)
    [ zero ↦ refl | suc k ↦ refl ]
nothing_behind q kids (y ∷ own) zero le = absurd (omega arith)
nothing_behind q kids (y ∷ own) (suc at) le = nothing_behind q kids own at (omega arith)

next_in_leaf : (q : List ℕ) (own : List Pair) (at : ℕ) (x : Pair) → IsGap order q own at
    → at < length own
    → x ≡ get_or own at x → next_from q own ≡ Some x
next_in_leaf q [] at x gap lt is = absurd (omega arith)
next_in_leaf q (y ∷ own) zero x gap lt is =
    rw is (ap (λ r. cond (is_gt r) (next_from q own) (Some y)) {x = order q y.0} gap)
next_in_leaf q (y ∷ own) (suc at) x gap lt is =
    ap (λ r. cond (is_gt r) (next_from q own) (Some y)) {x = order q y.0} gap.0
    ∙ next_in_leaf q own at x gap.1 (omega arith) is

none_in_leaf : (q : List ℕ) (own : List Pair) (at : ℕ) → IsGap order q own at → length own ≤ at
    → next_from q own ≡ None
none_in_leaf q [] at gap le = refl
none_in_leaf q (y ∷ own) zero gap le = absurd (omega arith)
none_in_leaf q (y ∷ own) (suc at) gap le =
    ap (λ r. cond (is_gt r) (next_from q own) (Some y)) {x = order q y.0} gap.0
    ∙ none_in_leaf q own at gap.1 (omega arith)

pub next_at_kid : (q : List ℕ) (s kid : Subtree) (kids : List Subtree) (own : List Pair) (at : ℕ)
    (x : Pair) → AtKid q s kid kids own at → IsGap order q own at
    → next_from q kid.pairs ≡ None → at < length own → x ≡ get_or own at x
    → next_from q s.pairs ≡ Some x
next_at_kid q s kid kids own at x k gap none lt is =
    next_focus_none k.focus none ∙ next_behind q kids own at x gap lt is

pub none_at_kid : (q : List ℕ) (s kid : Subtree) (kids : List Subtree) (own : List Pair) (at : ℕ)
    → AtKid q s kid kids own at
    → next_from q kid.pairs ≡ None → length own ≤ at → next_from q s.pairs ≡ None
none_at_kid q s kid kids own at k none le =
    next_focus_none k.focus none ∙ nothing_behind q (drop (suc at) kids) own at le

pub next_at_leaf : (q : List ℕ) (s : Subtree) (kids : List Subtree) (own : List Pair) (at : ℕ)
    (x : Pair) → subtree kids own ≡ s → IsGap order q own at
    → length kids ≤ 0 → at < length own → x ≡ get_or own at x → next_from q s.pairs ≡ Some x
next_at_leaf q s kids own at x view gap none lt is =
    ap (λ (t : Subtree). next_from q t.pairs) (sym view)
    ∙ ap (next_from q) (leaf_weave kids own none) ∙ next_in_leaf q own at x gap lt is

pub none_at_leaf : (q : List ℕ) (s : Subtree) (kids : List Subtree) (own : List Pair) (at : ℕ)
    → subtree kids own ≡ s → IsGap order q own at
    → length kids ≤ 0 → length own ≤ at → next_from q s.pairs ≡ None
none_at_leaf q s kids own at view gap none le =
    ap (λ (t : Subtree). next_from q t.pairs) (sym view)
    ∙ ap (next_from q) (leaf_weave kids own none) ∙ none_in_leaf q own at gap le
