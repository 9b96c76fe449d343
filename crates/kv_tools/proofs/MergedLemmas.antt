-- Two lists of items are merged, the greatest keys first.
use Rattle.std.proofs.Common.{◌≡◌, ◌≢◌, ◌⊎◌, inl, inr, ℕ, ◌+◌, ◌-◌, ◌<◌, true, false}
use Rattle.std.proofs.Common.{List, [], ◌∷◌, ◌++◌, length, map, slice_get, Contains, Option, None, Some}
use Rattle.std.proofs.Common.{IsSome, refl, sym, ap, ◌∙◌, subst, arith, length-append}
use Rattle.std.specs.Prelude.{◌↔◌, option_to_list, reverse}
use Rattle.std.proofs.lemmas.Bool.{false≢true, true≢false}
use Rattle.std.proofs.lemmas.List.{map-append, reverse-append}
use Rattle.std.proofs.lemmas.List.Elements.{Contains-push}
use Rattle.std.proofs.lemmas.Option.{same_Some}
use Rattle.kv_model.specs.Items.{IsLess}
use Rattle.kv_model.specs.Lookup.{IsAtMost}
use Rattle.kv_model.proofs.ContainsLemmas.{Contains-cons, Contains-first, Contains-behind}
use Rattle.kv_model.proofs.ContainsLemmas.{Contains-before, Contains-split, All-members, All-member}
use Rattle.kv_model.proofs.KeyLemmas.{up_to-less, up_to-splits, less-trans, behind-otherwise}
use Rattle.kv_recover.specs.declared.entries.Kept.{Kept}
use Rattle.kv_recover.proofs.FilteredLemmas.{get-last}
use Rattle.kv_tools.specs.declared.merge.Listed.{Listed}
use Rattle.kv_tools.specs.Merged.{listed_of, Rises, AreApart, IsMerged, is_last_greater}
use Rattle.kv_tools.specs.Merged.{TakesLast, TakesGreatest}

-- the last item of a list
last_of : {A : Type 0} (xs : List A) (x : A)
    → slice_get (xs ++ x ∷ []) (length (xs ++ x ∷ []) - 1) ≡ Some x
last_of xs x =
    let at : length (xs ++ x ∷ []) - 1 ≡ length xs = omega (arith, length-append xs (x ∷ [])) in
    ap (slice_get (xs ++ x ∷ [])) at ∙ get-last xs x

-- a list is empty, or has a last item
ends : {A : Type 0} (xs : List A) → (xs ≡ []) ⊎ ((front : List A) × (x : A) × (xs ≡ front ++ x ∷ []))
ends [] = inl refl
ends (x ∷ xs) = elim (ends xs) [
  | inl none ↦ inr ([], x, ap (λ t. x ∷ t) none)
  | inr last ↦ inr (x ∷ last.0, last.1, ap (λ t. x ∷ t) last.2)
]

last_is : {A : Type 0} (front : List A) (x : A) (xs : List A) (y : A) → xs ≡ front ++ x ∷ []
    → slice_get xs (length xs - 1) ≡ Some y → x ≡ y
last_is front x xs y is at =
    same_Some x y (sym (last_of front x) ∙ sym (ap (λ l. slice_get l (length l - 1)) is) ∙ at)

-- the last item of a mapped list
last_mapped : {A B : Type 0} (f : A → B) (xs : List A) (front : List B) (y : B)
    → map f xs ≡ front ++ y ∷ [] → (x : A) × (slice_get xs (length xs - 1) ≡ Some x) × (f x ≡ y)
last_mapped f xs front y is = elim (ends xs) [
  | inl none ↦ absurd (let size : 0 ≡ length (front ++ y ∷ []) = ap length (sym (ap (map f) none) ∙ is) in
      omega (arith, length-append front (y ∷ []), size))
  | inr last ↦ (
    last.1,
    ap (λ l. slice_get l (length l - 1)) last.2 ∙ last_of last.0 last.1,
    same_Some (f last.1) y (sym (last_of (map f last.0) (f last.1))
        ∙ ap (λ l. slice_get l (length l - 1)) (sym (map-append f last.0 (last.1 ∷ []))
        ∙ sym (ap (map f) last.2) ∙ is) ∙ last_of front y),
  )
]

-- the last item of the first list was taken, whose key isn't before the last one of the other
pub takes_first : (worker : ℕ) (list left : List Listed) (others : List Kept)
    (result : Option Listed) → list ≡ left ++ option_to_list result
    → (0 < length list → IsSome result)
    → is_last_greater (slice_get list (length list - 1)) (slice_get others (length others - 1)) ≡ true
    → TakesGreatest list (map (listed_of worker) others) left (map (listed_of worker) others) result
takes_first worker [] left others None is some greater = absurd (false≢true greater)
takes_first worker (x ∷ xs) left others None is some greater =
    absurd (let yes = some (omega arith) in false≢true yes)
takes_first worker list left others (Some item) is some greater = inl (
  record {
    taken = is;
    greatest = λ front last at.
        let found = last_mapped (listed_of worker) others front last at in
        let here : slice_get list (length list - 1) ≡ Some item =
        ap (λ l. slice_get l (length l - 1)) is ∙ last_of left item in
        subst (λ (l : Listed). IsAtMost l.kept.key item.kept.key) found.2
        (sym (ap (λ o. is_last_greater o (Some found.0)) here)
        ∙ sym (ap (is_last_greater (slice_get list (length list - 1))) found.1) ∙ greater);
  },
  refl,
)

-- the last item of the second list was taken, whose key is behind the last one of the first
pub takes_second : (worker : ℕ) (list : List Listed) (others right : List Kept) (kept : Kept)
    → others ≡ right ++ kept ∷ []
    → is_last_greater (slice_get list (length list - 1)) (slice_get others (length others - 1)) ≡ false
    → TakesGreatest list (map (listed_of worker) others) list (map (listed_of worker) right)
    (Some (listed_of worker kept))
takes_second worker list others right kept is less = inr (
  record {
    taken = ap (map (listed_of worker)) is ∙ map-append (listed_of worker) right (kept ∷ []);
    greatest = λ front last at.
        let here : slice_get others (length others - 1) ≡ Some kept =
        ap (λ l. slice_get l (length l - 1)) is ∙ last_of right kept in
        let there : slice_get list (length list - 1) ≡ Some last =
        ap (λ l. slice_get l (length l - 1)) at ∙ last_of front last in
        up_to-less last.kept.key kept.key (behind-otherwise kept.key last.kept.key
        (sym (ap (λ o. is_last_greater o (Some kept)) there)
        ∙ sym (ap (is_last_greater (slice_get list (length list - 1))) here) ∙ less));
  },
  refl,
)

-- both lists are empty
pub takes_none : (worker : ℕ) (list : List Listed) (others right : List Kept) → others ≡ []
    → right ≡ []
    → is_last_greater (slice_get list (length list - 1)) (slice_get others (length others - 1)) ≡ false
    → TakesGreatest list (map (listed_of worker) others) list (map (listed_of worker) right) None
takes_none worker list others right none none_left less = (
  empty (ends list),
  ap (map (listed_of worker)) none,
  empty (ends list),
  ap (map (listed_of worker)) none_left,
) where
  empty : (list ≡ []) ⊎ ((front : List Listed) × (x : Listed) × (list ≡ front ++ x ∷ [])) → list ≡ []
  empty (inl is) = is
  empty (inr last) = absurd (true≢false (sym (ap (is_last_greater (Some last.1))
      (ap (λ l. slice_get l (length l - 1)) none))
      ∙ sym (ap (λ o. is_last_greater o (slice_get others (length others - 1)))
      (ap (λ l. slice_get l (length l - 1)) last.2 ∙ last_of last.0 last.1)) ∙ less))

-- a list whose last item isn't there
pub none_left : {A : Type 0} (xs : List A) → (0 < length xs → IsSome {T = A} None) → xs ≡ []
none_left [] some = refl
none_left (x ∷ xs) some = absurd (false≢true (some (omega arith)))

-- each key of the first list is before each of the second
abbrev AreBelow : List Listed → List Listed → Type 0
AreBelow list others = (item other : Listed) → Contains list item → Contains others other
    → IsLess item.kept.key other.kept.key

-- all rise: what is left of two lists, and what was taken from them, which is behind that
pub record AllRise (left right done : List Listed) : Type 0 where
  pub left_rises : Rises left
  pub right_rises : Rises right
  pub apart : AreApart left right
  pub done_rises : Rises done
  pub left_below : AreBelow left done
  pub right_below : AreBelow right done

-- of two lists these are left, and those were taken
pub record IsMerging (list others left right done : List Listed) : Type 0 where
  pub each : (item : Listed) → ((Contains left item ⊎ Contains right item) ⊎ Contains done item)
      ↔ (Contains list item ⊎ Contains others item)
  pub rising : Rises list → Rises others → AreApart list others → AllRise left right done

swapped : {A B : Type 0} → A ⊎ B → B ⊎ A
swapped (inl a) = inr a
swapped (inr b) = inl b

swapped_in : {A B C : Type 0} → (A ⊎ B) ⊎ C → (B ⊎ A) ⊎ C
swapped_in (inl ab) = inl (swapped ab)
swapped_in (inr c) = inr c

no_item : {A : Type 0} (x : A) → Contains [] x → ⊥
no_item x has = omega (arith, has.1)

-- nothing was taken yet
pub merging-none : (list others : List Listed) → IsMerging list others list others []
merging-none list others = record {
  each = λ item. (
    (λ some. elim some [ inl has ↦ has | inr none ↦ absurd (no_item item none) ]),
    (λ has. inl has),
  );
  rising = λ rises also apart. record {
    left_rises = rises;
    right_rises = also;
    apart = apart;
    done_rises = tt;
    left_below = λ item other has none. absurd (no_item other none);
    right_below = λ item other has none. absurd (no_item other none);
  };
}

turned : {list others left right done : List Listed} → IsMerging list others left right done
    → IsMerging others list right left done
turned is = record {
  each = λ item. (
    (λ some. swapped ((is.each item).0 (swapped_in some))),
    (λ some. swapped_in ((is.each item).1 (swapped some))),
  );
  rising = λ rises also apart.
      let all = is.rising also rises (λ item other has also_has same. apart other item also_has has (sym same)) in
      record {
        left_rises = all.right_rises;
        right_rises = all.left_rises;
        apart = λ item other has also_has same. all.apart other item also_has has (sym same);
        done_rises = all.done_rises;
        left_below = all.right_below;
        right_below = all.left_below;
      };
}

-- the items before the last one
front_rises : (list : List Listed) (last : Listed) → Rises (list ++ last ∷ [])
    → Rises list × ((item : Listed) → Contains list item → IsLess item.kept.key last.kept.key)
front_rises [] last rises = (tt, λ item has. absurd (no_item item has))
front_rises (x ∷ xs) last rises =
    let rest = front_rises xs last rises.1 in (
      (
        All-members (λ next. IsLess x.kept.key next.kept.key) xs (λ y has.
            All-member (λ next. IsLess x.kept.key next.kept.key) (xs ++ last ∷ []) y rises.0
            (Contains-before xs last y has)),
        rest.0,
      ),
      (λ item has. elim (Contains-cons x xs item has) [
        | inl same ↦ subst (λ (i : Listed). IsLess i.kept.key last.kept.key) same
            (All-member (λ next. IsLess x.kept.key next.kept.key) (xs ++ last ∷ []) last rises.0
            (Contains-push xs last))
        | inr later ↦ rest.1 item later
      ]),
    )

-- the keys of the other list are before that of the item that was taken
others_below : (others : List Listed) (item : Listed) → Rises others
    → ((other : Listed) → Contains others other → other.kept.key ≢ item.kept.key)
    → ((front : List Listed) (last : Listed) → others ≡ front ++ last ∷ []
    → IsAtMost last.kept.key item.kept.key) → (other : Listed) → Contains others other
    → IsLess other.kept.key item.kept.key
others_below others item rises apart greatest other has = elim (ends others) [
  | inl none ↦ absurd (no_item other (subst (λ l. Contains l other) none has))
  | inr split ↦
      let front = split.0 in
      let last = split.1 in
      let rest = front_rises front last (subst Rises split.2 rises) in
      let last_in : Contains others last =
      subst (λ l. Contains l last) (sym split.2) (Contains-push front last) in
      let last_less : IsLess last.kept.key item.kept.key =
      elim (up_to-splits last.kept.key item.kept.key (greatest front last split.2)) [
        | inl same ↦ absurd (apart last last_in same)
        | inr less ↦ less
      ] in
      elim (Contains-split front last other (subst (λ l. Contains l other) split.2 has)) [
        | inl earlier ↦ less-trans other.kept.key last.kept.key item.kept.key (rest.1 other earlier)
            last_less
        | inr same ↦ subst (λ (o : Listed). IsLess o.kept.key item.kept.key) same last_less
      ]
]

-- the last item of the first list was taken
merging-first : (list others left new right done : List Listed) (item : Listed)
    → IsMerging list others left right done → TakesLast left new right item
    → IsMerging list others new right (item ∷ done)
merging-first list others left new right done item is takes =
    let item_in : Contains left item = subst (λ l. Contains l item) (sym takes.taken)
    (Contains-push new item) in
    let in_left : (x : Listed) → Contains new x → Contains left x = λ x has.
    subst (λ l. Contains l x) (sym takes.taken) (Contains-before new item x has) in
    record {
      each = λ x. (
        (λ some. (is.each x).0 (elim some [
          | inl (inl has) ↦ inl (inl (in_left x has))
          | inl (inr has) ↦ inl (inr has)
          | inr has ↦ elim (Contains-cons item done x has) [
            | inl same ↦ inl (inl (subst (Contains left) same item_in))
            | inr later ↦ inr later
          ]
        ])),
        (λ some. elim ((is.each x).1 some) [
          | inl (inl has) ↦ elim (Contains-split new item x (subst (λ l. Contains l x) takes.taken has)) [
            | inl earlier ↦ inl (inl earlier)
            | inr same ↦ inr (subst (Contains (item ∷ done)) same (Contains-first item done))
          ]
          | inl (inr has) ↦ inl (inr has)
          | inr has ↦ inr (Contains-behind item done x has)
        ]),
      );
      rising = λ rises also apart.
          let all = is.rising rises also apart in
          let front = front_rises new item (subst Rises takes.taken all.left_rises) in
          let below = others_below right item all.right_rises
          (λ other has same. all.apart item other item_in has (sym same)) takes.greatest in
          record {
            left_rises = front.0;
            right_rises = all.right_rises;
            apart = λ x y has. all.apart x y (in_left x has);
            done_rises = (
              All-members (λ next. IsLess item.kept.key next.kept.key) done
                  (λ y has. all.left_below item y item_in has),
              all.done_rises,
            );
            left_below = λ x y has also_has. elim (Contains-cons item done y also_has) [
              | inl same ↦ subst (λ (o : Listed). IsLess x.kept.key o.kept.key) same (front.1 x has)
              | inr later ↦ all.left_below x y (in_left x has) later
            ];
            right_below = λ x y has also_has. elim (Contains-cons item done y also_has) [
              | inl same ↦ subst (λ (o : Listed). IsLess x.kept.key o.kept.key) same (below x has)
              | inr later ↦ all.right_below x y has later
            ];
          };
    }

-- one item more was taken and put behind the others, whose order is turned round at the end
pub merging-next : (list others left right next_left next_right taken more : List Listed)
    (item : Listed) → more ≡ taken ++ item ∷ []
    → IsMerging list others left right (reverse taken)
    → TakesGreatest left right next_left next_right (Some item)
    → IsMerging list others next_left next_right (reverse more)
merging-next list others left right next_left next_right taken more item more_is is takes =
    subst (IsMerging list others next_left next_right)
    (sym (ap reverse more_is ∙ reverse-append taken (item ∷ []))) (by takes)
  where
    by : (TakesLast left next_left right item × (next_right ≡ right))
        ⊎ (TakesLast right next_right left item × (next_left ≡ left))
        → IsMerging list others next_left next_right (item ∷ reverse taken)
    by (inl first) = subst (λ r. IsMerging list others next_left r (item ∷ reverse taken))
        (sym first.1) (merging-first list others left next_left right (reverse taken) item is first.0)
    by (inr second) = subst (λ l. IsMerging list others l next_right (item ∷ reverse taken))
        (sym second.1)
        (turned (merging-first others list right next_right left (reverse taken) item (turned is) second.0))

-- one item less is left
pub fewer_left : (left right next_left next_right : List Listed) (item : Listed)
    → TakesGreatest left right next_left next_right (Some item)
    → length next_left + length next_right < length left + length right
fewer_left left right next_left next_right item (inl first) = omega (
  arith,
  ap length first.0.taken,
  ap length first.1,
  length-append next_left (item ∷ []),
)
fewer_left left right next_left next_right item (inr second) = omega (
  arith,
  ap length second.0.taken,
  ap length second.1,
  length-append next_right (item ∷ []),
)

-- all were taken
pub merging-all : (list others left right next_left next_right taken : List Listed)
    → IsMerging list others left right (reverse taken)
    → TakesGreatest left right next_left next_right None → IsMerged list others (reverse taken)
merging-all list others left right next_left next_right taken is none = record {
  each = λ item. (
    (λ has. (is.each item).0 (inr has)),
    (λ some. elim ((is.each item).1 some) [
      | inl (inl has) ↦ absurd (no_item item (subst (λ l. Contains l item) none.0 has))
      | inl (inr has) ↦ absurd (no_item item (subst (λ l. Contains l item) none.1 has))
      | inr has ↦ has
    ]),
  );
  rising = λ rises also apart. (is.rising rises also apart).done_rises;
}
