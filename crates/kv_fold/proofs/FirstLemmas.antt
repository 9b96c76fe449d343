-- What a fold of the first items does to its state.
use Rattle.std.proofs.Common.{◌≡◌, ℕ, T, true, false, cond, List, [], ◌∷◌}
use Rattle.std.proofs.Common.{◌++◌, Some, refl, sym, ap, ◌∙◌, subst, arith}
use Rattle.std.proofs.Common.{is_some, take, drop, All, length-take}
use Rattle.std.specs.List.{sum_by}
use Rattle.std.specs.FinMap.{find, is_sorted, entries, insert}
use Rattle.std.specs.FinMap.Entries.{put}
use Rattle.std.proofs.lemmas.List.{take-append-drop}
use Rattle.std.proofs.lemmas.List.Sums.{sum_by-take-le}
use Rattle.kv_model.specs.Fold.{KeyValue, FoldKind, Counting, AddingLengths, AddingBytes}
use Rattle.kv_model.specs.Fold.{TakingFirst, item_size, most_bytes}
use Rattle.kv_fold.specs.Bags.{Bag, order, IsItem}
use Rattle.kv_fold.specs.States.{State, Prefix, prefix, prefix_of, state_of, first_state, Adds}
use Rattle.kv_fold.specs.States.{Merges}
use Rattle.kv_fold.specs.Prefixes.{below, trim, is_past, take_in, accept, accept_all, close}
use Rattle.kv_fold.specs.Firsts.{AreFirst}
use Rattle.kv_fold.proofs.OrderLemmas.{yes, is_yes, sorted_front, All-front}
use Rattle.kv_fold.proofs.BagLemmas.{union_is}
use Rattle.kv_fold.proofs.KindLemmas.{kind_of_state}
use Rattle.kv_fold.proofs.UnionLemmas.{prefix_insert, prefix_union}

pub first_state_of : (most : ℕ) (bag : Bag)
    → first_state most (prefix_of most most_bytes (entries bag)) ≡ state_of (TakingFirst most) bag
unfolding state_of
first_state_of most bag = refl

pub first_is : (most : ℕ) (old : Prefix) (bag : Bag)
    → first_state most old ≡ state_of (TakingFirst most) bag
    → old ≡ prefix_of most most_bytes (entries bag)
unfolding state_of
first_is most old bag was = ap (λ (s : State). s.first) was

-- a item that is added to a fold of the first items
pub first_adds : (most : ℕ) (key value : List ℕ) (old new : Prefix)
    → new ≡ accept most most_bytes key value old
    → Adds key value (first_state most old) (first_state most new)
first_adds most key value old new is bag was none =
    ap (first_state most)
    (is ∙ ap (accept most most_bytes key value) (first_is most old bag was)
    ∙ sym (prefix_insert most most_bytes bag key value none))
    ∙ first_state_of most (insert bag key value)

-- a fold of the first items that takes in another
pub first_merges : (most : ℕ) (old other new : Prefix)
    → new ≡ close other.cut (accept_all most most_bytes other.items old)
    → Merges (first_state most old) (first_state most other) (first_state most new)
first_merges most old other new is bag more all was its apart union =
    let mine = first_is most old bag was in
    let theirs = first_is most other more its in
    ap (first_state most)
    (is
    ∙ ap (λ p. close p.cut (accept_all most most_bytes p.items old)) theirs
    ∙ ap (λ p. close (prefix_of most most_bytes (entries more)).cut
    (accept_all most most_bytes (prefix_of most most_bytes (entries more)).items p)) mine
    ∙ sym (prefix_union most most_bytes bag more apart)
    ∙ ap (λ b. prefix_of most most_bytes (entries b)) (sym (union_is bag more all apart union)))
    ∙ first_state_of most all

pub most_of : FoldKind → ℕ
most_of Counting = 0
most_of AddingLengths = 0
most_of AddingBytes = 0
most_of (TakingFirst most) = most

-- folds of other numbers of items are not merged
pub other_most : (most more : ℕ) (old other : Prefix) (new : State) → (most ≡ more → ⊥)
    → Merges (first_state most old) (first_state more other) new
unfolding most_of
other_most most more old other new apart bag two all was its distinct union =
    let same = ap (λ (s : State). most_of s.kind) its
    ∙ ap most_of (kind_of_state (TakingFirst most) two) in
    absurd (apart (sym same))

pub accept_past : (most : ℕ) (key value : List ℕ) (old : Prefix) → is_past old.cut key ≡ true
    → old ≡ accept most most_bytes key value old
accept_past most key value old past =
    elim (is_some (find order key old.items)) as
    (λ b. old ≡ cond b old (take_in most most_bytes key value old)) [
      | true ↦ refl
      | false ↦ ap (λ b. cond b old
          (trim most most_bytes (prefix (put order key value old.items) old.cut))) {x = true}
          {y = is_past old.cut key} (sym past)
    ]

pub accept_all-push : (n r : ℕ) (es : List KeyValue) (e : KeyValue) (old : Prefix)
    → accept_all n r (es ++ e ∷ []) old ≡ accept n r e.0 e.1 (accept_all n r es old)
accept_all-push n r [] e old = refl
accept_all-push n r (x ∷ xs) e old = accept_all-push n r xs e (accept n r x.0 x.1 old)

-- the front of first items
pub shorter_first : (most bytes at : ℕ) (es : List KeyValue) → AreFirst most bytes es
    → AreFirst most (sum_by item_size (take at es)) (take at es)
shorter_first most bytes at es h = record {
  rising =
      is_yes _ (sorted_front (take at es) (drop at es)
      (subst (λ l. T (is_sorted order l)) (sym (take-append-drop at es)) (yes _ h.rising)));
  each =
      All-front (λ (item : KeyValue). IsItem item.0 item.1) (take at es) (drop at es)
      (subst (λ l. All (λ (item : KeyValue). IsItem item.0 item.1) l)
      (sym (take-append-drop at es)) h.each);
  counted = refl;
  few = omega (arith, h.few, length-take {A = KeyValue});
  small = omega (arith, h.small, h.counted, sum_by-take-le item_size es at);
}

-- a prefix that is not past the key is closed at it
pub close_in : (key : List ℕ) (old : Prefix) (items : List KeyValue) → is_past old.cut key ≡ false
    → items ≡ below key old.items
    → prefix items (Some key) ≡ close (Some key) old
close_in key old items in_it is =
    ap (λ l. prefix l (Some key)) is
    ∙ ap (λ b. cond b old
    (prefix (below key old.items) (Some key))) {x = false} {y = is_past old.cut key} (sym in_it)

pub merges_by : (most more theirs : ℕ) (old other new mid : Prefix) → more ≡ most → most ≡ theirs
    → mid ≡ accept_all most most_bytes other.items old → new ≡ close other.cut mid
    → Merges (first_state most old) (first_state theirs other) (first_state more new)
merges_by most more theirs old other new mid e p at is =
    rw (e, ← p) (first_merges most old other new (is ∙ ap (close other.cut) at))

-- the same where the most items are named twice
pub adds_by : (most more : ℕ) (key value : List ℕ) (old new : Prefix) → more ≡ most
    → new ≡ accept most most_bytes key value old
    → Adds key value (first_state most old) (first_state more new)
adds_by most more key value old new same is = rw same (first_adds most key value old new is)
