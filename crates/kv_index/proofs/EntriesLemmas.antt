-- The finite map of a list of pairs whose keys rise, under an edit of the list.
use Rattle.std.proofs.Common.{◌≡◌, ℕ, ◌<◌, ◌≤◌, T, Bool, true, false, cond, not, List, length}
use Rattle.std.proofs.Common.{get_or, set, Option, Some, None, Result, IfOk, IfErr, IsTrue, IsSome}
use Rattle.std.proofs.Common.{Ordering, Less, Equal, Greater, refl, sym, ap, ◌∙◌, subst, arith}
use Rattle.std.specs.List.{insert, remove}
use Rattle.std.specs.Ordering.{nat_cmp, is_le, is_eq, ordering_reverse, eq_by_cmp}
use Rattle.std.specs.List.Sorted.{IsBinarySearchResult, IsSearchInRange}
use Rattle.std.specs.Cmp.{IsTotalOrder, alike_right, tied_itself, eq_by_cmp_equiv}
use Rattle.std.specs.Cmp.Lexicographic.{slice_cmp}
use Rattle.std.specs.FinMap as finite
use Rattle.std.specs.FinMap.{find, is_sorted, from_sorted, entries-from_sorted, get-from_sorted}
use Rattle.std.specs.FinMap.{entries-insert, same_entries_map, len-entries, same_map, get-remove}
use Rattle.std.specs.FinMap.{slice_cmp-IsAntisymmetric, nat_cmp-IsAntisymmetric}
use Rattle.std.specs.FinMap.Entries.{put, where_key, is_sorted-put, is_sorted-where_key}
use Rattle.std.specs.FinMap.Entries.{find-where_key}
use Rattle.std.proofs.lemmas.Bool.{false≢true}
use Rattle.std.proofs.lemmas.Cmp.{nat_list_cmp_total}
use Rattle.kv_index.specs.declared.entry.Entry.{Entry}
use Rattle.kv_index.specs.Entries.{Entries, HasNoneFrom, IsNext, IsUpTo}
use Rattle.kv_index.specs.Places.{HasRisingKeys, IsAt, IsGap}
use Rattle.kv_index.proofs.PlacesLemmas.{find_at, find_gap, put_at, put_gap, without_at}
use Rattle.kv_index.proofs.PlacesLemmas.{without_gap, find_between, at_own, at_ties, gap_below}
use Rattle.kv_index.proofs.PlacesLemmas.{searched}

abbrev order : List ℕ → List ℕ → Ordering
order = slice_cmp nat_cmp

abbrev total : IsTotalOrder order
total = nat_list_cmp_total

abbrev pub Pairs : Type 0
Pairs = List (List ℕ × Entry)

-- the map of these pairs
abbrev map_of : Pairs → Entries
map_of = from_sorted

yes : (b : Bool) → IsTrue b → T b
yes b is = subst T (sym is) tt

is_yes : (b : Bool) → T b → IsTrue b
is_yes true h = refl
is_yes false h = absurd h

turned : {A : Type 0} (b : Bool) (x y : A) → cond (not b) x y ≡ cond b y x
turned true x y = refl
turned false x y = refl

-- keys that compare alike are one
pub one_key : (a b : List ℕ) → order a b ≡ Equal → a ≡ b
one_key = slice_cmp-IsAntisymmetric nat_cmp-IsAntisymmetric

-- a list that is what putting a pair makes is the map with it
put_is : (q : List ℕ) (v : Entry) (es new : Pairs) → HasRisingKeys order es
    → put order q v es ≡ new
    → HasRisingKeys order new × (map_of new ≡ finite.insert (map_of es) q v)
put_is q v es new rising is =
    let sorted = yes _ rising in
    let rises : T (is_sorted order new) =
    subst (λ l. T (is_sorted order l)) is (is_sorted-put order total q v es sorted) in
    let there = ap (put order q v) (entries-from_sorted order es sorted) ∙ is in (
      is_yes _ rises,
      same_entries_map _ _
          (entries-from_sorted order new rises
          ∙ sym (entries-insert total (map_of es) q v ∙ there)),
    )

-- a list that is what the pairs of all other keys make is the map without the key
without_is : (q : List ℕ) (es left : Pairs) → HasRisingKeys order es
    → where_key order (λ x. not (eq_by_cmp order q x)) es ≡ left
    → HasRisingKeys order left × (map_of left ≡ finite.remove (map_of es) q)
without_is q es left rising is =
    let sorted = yes _ rising in
    let rises : T (is_sorted order left) =
    subst (λ l. T (is_sorted order l)) is
    (is_sorted-where_key order (λ x. not (eq_by_cmp order q x)) es sorted) in (
      is_yes _ rises,
      same_map total one_key _ _ (λ k.
          get-from_sorted order left k rises
          ∙ ap (find order k) (sym is)
          ∙ find-where_key order (λ x. not (eq_by_cmp order q x)) k
          (λ x t. ap (λ r. not (is_eq r)) (sym (alike_right total k x q t))) es
          ∙ turned (eq_by_cmp order q k) _ _
          ∙ ap (λ b. cond b None (find order k es)) ((eq_by_cmp_equiv total).symm q k)
          ∙ sym
          (get-remove total (map_of es) q k
          ∙ ap (cond (eq_by_cmp order k q) None) (get-from_sorted order es k sorted))),
    )

pub len_is : (es : Pairs) → HasRisingKeys order es → finite.len (map_of es) ≡ length es
len_is es rising = len-entries _ ∙ ap length (entries-from_sorted order es (yes _ rising))

module _ (q : List ℕ) (es : Pairs) (i : ℕ) (rising : HasRisingKeys order es)
    (is : IsAt order q es i) where
  pub get_at : (d : List ℕ × Entry) → finite.get (map_of es) q ≡ Some (get_or es i d).1
  get_at d = get-from_sorted order es q (yes _ rising) ∙ find_at total q es i is d

  pub set_at : (v : Entry) (x : List ℕ × Entry) → x ≡ get_or es i x
      → HasRisingKeys order (set es i (x.0, v))
      × (map_of (set es i (x.0, v)) ≡ finite.insert (map_of es) q v)
  set_at v x here =
      put_is q v es _ rising
      (put_at total q v es i x is ∙ ap (λ pair. set es i (pair.0, v)) (sym here))

  pub remove_at : HasRisingKeys order (remove es i)
      × (map_of (remove es i) ≡ finite.remove (map_of es) q)
  remove_at = without_is q es _ rising (without_at total q es i (yes _ rising) is)

  pub next_at : (x : List ℕ × Entry) → x ≡ get_or es i x → IsNext (map_of es) q x.0 x.1
  next_at x here =
      let ties = at_ties total q es i x is in
      let same : q ≡ x.0 = one_key _ _ ties ∙ sym (ap (λ pair. pair.0) here) in
      record {
        found =
            ap (finite.get (map_of es)) (sym same) ∙ get_at x ∙ sym (ap (λ pair. Some pair.1) here);
        from = subst (λ k. IsUpTo q k) same (ap is_le (tied_itself total q));
        least = λ other up some. subst (λ k. IsUpTo k other) same up;
      }

module _ (q : List ℕ) (es : Pairs) (i : ℕ) (rising : HasRisingKeys order es)
    (gap : IsGap order q es i) where
  pub get_gap : finite.get (map_of es) q ≡ None
  get_gap = get-from_sorted order es q (yes _ rising) ∙ find_gap total q es i (yes _ rising) gap

  pub insert_gap : (v : Entry) → let new = insert es i (q, v) in
      HasRisingKeys order new × (map_of new ≡ finite.insert (map_of es) q v)
  insert_gap v = put_is q v es _ rising (put_gap total q v es i gap)

  pub remove_gap : map_of es ≡ finite.remove (map_of es) q
  remove_gap = (without_is q es _ rising (without_gap total q es i (yes _ rising) gap)).1

  pub none_from : length es ≤ i → HasNoneFrom (map_of es) q
  none_from past k up =
      let d : List ℕ × Entry = (q, record { stamp = 0; place = record { class = 0; slot = 0 } }) in
      get-from_sorted order es k (yes _ rising)
      ∙ find_between total q k es i d (yes _ rising) gap (yes _ up) (λ lt. absurd (omega arith))

  pub next_gap : (x : List ℕ × Entry) → x ≡ get_or es i x → i < length es
      → IsNext (map_of es) q x.0 x.1
  next_gap x here lt =
      let key : x.0 ≡ (get_or es i x).0 = ap (λ pair. pair.0) here in
      let below : order q x.0 ≡ Less =
      ap (order q) key ∙ gap_below total q es i x (yes _ rising) gap lt in
      let own : IsAt order x.0 es i =
      subst (λ k. IsAt order k es i) (sym key) (at_own total es i x (yes _ rising) lt) in
      record {
        found = get_at x.0 es i rising own x ∙ sym (ap (λ pair. Some pair.1) here);
        from = ap is_le below;
        least =
            λ other up some. elim (order x.0 other) as
            (λ r. order x.0 other ≡ r → IsTrue (is_le r)) [
              | Less ↦ λ _. refl
              | Equal ↦ λ _. refl
              | Greater ↦ λ after.
                  let before : order other x.0 ≡ Less =
                  total.antisymm other x.0 ∙ ap ordering_reverse after in
                  let none = get-from_sorted order es other (yes _ rising)
                  ∙ find_between total q other es i x (yes _ rising) gap (yes _ up)
                  (λ _. ap (order other) (sym key) ∙ before) in
                  absurd (false≢true (subst (λ (o : Option Entry). IsSome o) none some))
            ] refl;
      }

-- a binary search among the pairs ends at the key's place, or at its gap
pub placed : (q : List ℕ) (es : Pairs) (r : Result ℕ ℕ) → HasRisingKeys order es
    → IsSearchInRange r (length es) → IsBinarySearchResult (λ e. order e.0 q) es r
    → record { found : IfOk r (IsAt order q es); absent : IfErr r (IsGap order q es) }
placed q es r rising = searched total q es r (yes _ rising)
