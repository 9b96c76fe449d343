-- Lemmas on looking for the next item.
use Rattle.std.proofs.Common.{◌≡◌, ℕ, ◌+◌, ◌≤◌, ◌<◌, ◌⊎◌, inl, inr, Bool, true, false, cond, List}
use Rattle.std.proofs.Common.{[]}
use Rattle.std.proofs.Common.{◌∷◌, ◌++◌, Option, None, Some, refl, sym, ap, ◌∙◌, subst, arith}
use Rattle.std.proofs.Common.{is_some}
use Rattle.std.proofs.Common.{true≢false, IsTrue, IsSome, Contains, ◌&&◌, nat_le, option_and_then}
use Rattle.std.specs.List.{AllByRecursion, count_by}
use Rattle.std.specs.Str.{bytes_eq}
use Rattle.std.proofs.lemmas.Slice.Eq.{bytes_eq-Decides}
use Rattle.std.specs.Ordering.{nat_cmp, is_le}
use Rattle.std.specs.Cmp.Lexicographic.{slice_cmp}
use Rattle.std.proofs.lemmas.List.Sums.{sum_by-cons}
use Rattle.kv_model.specs.History.{Write, latest, later_of, value_at}
use Rattle.kv_model.specs.Items.{KeyValue, AreItems, IsLess, is_in_range}
use Rattle.kv_model.specs.Lookup.{Lookup, IsWanted, IsLeastOf, IsNext, IsAtMost, IsPassed}
use Rattle.kv_model.specs.Lookup.{AreItemsSoFar}
use Rattle.kv_model.specs.Lookup.{is_behind, is_up_to}
use Rattle.kv_model.proofs.PairwiseLemmas.{All-append, All-map, Pairwise-append}
use Rattle.kv_model.proofs.ContainsLemmas.{Contains-before, Contains-split, All-members}
use Rattle.std.proofs.lemmas.List.Elements.{Contains-push}
use Rattle.kv_model.proofs.KeyLemmas.{less-trans, less-apart, behind-otherwise, up_to-splits}
use Rattle.kv_model.proofs.KeyLemmas.{up_to-less, up_to-itself, less-up_to, up_to-less-trans}
use Rattle.kv_model.proofs.KeyLemmas.{not-both}

-- the next item stays it where the write's key isn't looked for, or isn't less
pub next-stays : (lookup : Lookup) (seen : List Write) (next : Option KeyValue) (write : Write)
    → IsNext lookup seen next → (IsWanted lookup write.key → is_up_to next write.key ≡ true)
    → IsNext lookup (seen ++ write ∷ []) next
next-stays lookup seen None write is up_to =
    All-append (λ w. IsWanted lookup w.key → ⊥) seen (write ∷ []) is
    ((λ wanted. true≢false (sym (up_to wanted))), tt)
next-stays lookup seen (Some item) write is up_to = record {
  wanted = is.wanted;
  value = is.value;
  least = All-append (λ w. IsWanted lookup w.key → IsAtMost item.0 w.key) seen (write ∷ []) is.least
      (up_to, tt);
}

-- the write's key is looked for, and is less than that of the next item so far
pub next-nearer : (lookup : Lookup) (seen : List Write) (next : Option KeyValue) (write : Write)
    (value : List ℕ) → IsNext lookup seen next → IsWanted lookup write.key
    → value_at lookup.history lookup.stamp write.key ≡ Some value
    → is_up_to next write.key ≡ false
    → IsNext lookup (seen ++ write ∷ []) (Some (write.key, value))
next-nearer lookup seen next write value is wanted has nearer = record {
  wanted = wanted;
  value = has;
  least = All-append (λ w. IsWanted lookup w.key → IsAtMost write.key w.key) seen (write ∷ [])
      (before next is nearer) ((λ again. up_to-itself write.key), tt);
} where
  before : (other : Option KeyValue) → IsNext lookup seen other
      → is_up_to other write.key ≡ false
      → AllByRecursion (λ w. IsWanted lookup w.key → IsAtMost write.key w.key) seen
  before None none e = All-map (λ w. IsWanted lookup w.key → ⊥)
      (λ w. IsWanted lookup w.key → IsAtMost write.key w.key) seen (λ w no good. absurd (no good))
      none
  before (Some item) least e = All-map (λ w. IsWanted lookup w.key → IsAtMost item.0 w.key)
      (λ w. IsWanted lookup w.key → IsAtMost write.key w.key) seen
      (λ w le good. up_to-less write.key w.key (less-up_to write.key item.0 w.key
      (behind-otherwise item.0 write.key e) (le good))) least.least

-- a key with a value was written
pub written-key : (P : List ℕ → Type 0) (writes : List Write) (stamp : ℕ) (key : List ℕ)
    → IsSome (value_at writes stamp key) → AllByRecursion (λ write. P write.key) writes → P key
written-key P [] stamp key has all = absurd (true≢false (sym has))
written-key P (write ∷ writes) stamp key has all =
    by (bytes_eq write.key key) refl has (λ later. written-key P writes stamp key later all.1)
  where
    by : (same : Bool) → bytes_eq write.key key ≡ same
        → IsSome (option_and_then (λ w. w.value) (cond (same && nat_le write.stamp stamp)
        (Some (later_of write (latest writes stamp key))) (latest writes stamp key)))
        → (IsSome (value_at writes stamp key) → P key) → P key
    by true e some later = subst P ((bytes_eq-Decides write.key key).0 e) all.0
    by false e some later = later some

-- a key isn't behind the last one, or it is
passed-or-behind : (last : Option (List ℕ)) (key : List ℕ)
    → IsPassed last key ⊎ IsTrue (is_behind last key)
passed-or-behind None key = inr refl
passed-or-behind (Some last) key = by (is_le (slice_cmp nat_cmp key last)) refl
  where
    by : (le : Bool) → is_le (slice_cmp nat_cmp key last) ≡ le
        → IsAtMost key last ⊎ IsLess last key
    by true e = inl e
    by false e = inr (behind-otherwise key last e)

passed-below : (last : Option (List ℕ)) (key next : List ℕ) → IsPassed last key
    → IsTrue (is_behind last next) → IsLess key next
passed-below None key next passed behind = absurd passed
passed-below (Some last) key next passed behind = up_to-less-trans key last next passed behind

-- where nothing more is looked for, the items are all
pub items-are-all : (lookup : Lookup) (items : List KeyValue) → AreItemsSoFar lookup items
    → IsNext lookup lookup.history None
    → AreItems lookup.history lookup.stamp lookup.low lookup.high items
items-are-all lookup items are none = record {
  rising = are.rising;
  each = λ item. (
    λ has. (((are.each item).0 has).0, ((are.each item).0 has).1),
    λ is. (are.each item).1 (is.0, is.1, by item is.0 is.1 (passed-or-behind lookup.last item.0)),
  );
} where
  by : (item : KeyValue) → IsTrue (is_in_range lookup.low lookup.high item.0)
      → value_at lookup.history lookup.stamp item.0 ≡ Some item.1
      → IsPassed lookup.last item.0 ⊎ IsTrue (is_behind lookup.last item.0)
      → IsPassed lookup.last item.0
  by item inside value (inl passed) = passed
  by item inside value (inr behind) = absurd (written-key (λ key. IsWanted lookup key → ⊥)
      lookup.history lookup.stamp item.0 (ap is_some value) none (record {
        inside = inside;
        behind = behind;
        has = ap is_some value;
      }))

-- the same lookup behind this key
abbrev pub behind_key : Lookup → List ℕ → Lookup
behind_key lookup key = record lookup { last = Some key }

-- before anything was found
pub no-items : (lookup : Lookup) → lookup.last ≡ None → AreItemsSoFar lookup []
no-items lookup none = record {
  rising = tt;
  each = λ item. (
    λ has. absurd (omega (arith, has.1)),
    λ is. absurd (subst (λ last. IsPassed last item.0) none is.2),
  );
}

-- with the next item there are all items up to its key
pub items-grow : (lookup : Lookup) (items : List KeyValue) (next : KeyValue)
    → AreItemsSoFar lookup items → IsLeastOf lookup lookup.history next
    → AreItemsSoFar (behind_key lookup next.0) (items ++ next ∷ [])
items-grow lookup items next are least = record {
  rising = Pairwise-append (λ item other. IsLess item.0 other.0) items (next ∷ []) are.rising (
    tt,
    tt,
  )
      (All-members (λ item. IsLess item.0 next.0 × Unit {0}) items
      (λ item has. (
        passed-below lookup.last item.0 next.0 ((are.each item).0 has).2
            least.wanted.behind,
        tt,
      )));
  each = λ item. (
    λ has. there item (Contains-split items next item has),
    λ is. back item is.0 is.1 (up_to-splits item.0 next.0 is.2),
  );
} where
  there : (item : KeyValue) → Contains items item ⊎ (next ≡ item)
      → IsTrue (is_in_range lookup.low lookup.high item.0)
      × (value_at lookup.history lookup.stamp item.0 ≡ Some item.1) × IsAtMost item.0 next.0
  there item (inl has) = let known = (are.each item).0 has in (
    known.0,
    known.1,
    up_to-less item.0 next.0 (passed-below lookup.last item.0 next.0 known.2 least.wanted.behind),
  )
  there item (inr same) = subst (λ i. IsTrue (is_in_range lookup.low lookup.high i.0)
      × (value_at lookup.history lookup.stamp i.0 ≡ Some i.1) × IsAtMost i.0 next.0) same
      (least.wanted.inside, least.value, up_to-itself next.0)

  same_value : (a b : List ℕ) → Some a ≡ Some b → a ≡ b
  same_value a b e = cc

  same_item : (a b : KeyValue) → a.0 ≡ b.0 → a.1 ≡ b.1 → a ≡ b
  same_item a b key value =
      let make : List ℕ → List ℕ → KeyValue = λ k v. (k, v) in
      ap (λ k. make k a.1) key ∙ ap (make b.0) value

  back : (item : KeyValue) → IsTrue (is_in_range lookup.low lookup.high item.0)
      → value_at lookup.history lookup.stamp item.0 ≡ Some item.1
      → (item.0 ≡ next.0) ⊎ IsLess item.0 next.0 → Contains (items ++ next ∷ []) item
  back item inside value (inl same) =
      subst (Contains (items ++ next ∷ [])) (same_item next item (sym same) (same_value next.1
      item.1 (sym least.value ∙ ap (value_at lookup.history lookup.stamp) (sym same) ∙ value)))
      (Contains-push items next)
  back item inside value (inr less) = by (passed-or-behind lookup.last item.0)
    where
      by : IsPassed lookup.last item.0 ⊎ IsTrue (is_behind lookup.last item.0)
          → Contains (items ++ next ∷ []) item
      by (inl passed) = Contains-before items next item ((are.each item).1 (inside, value, passed))
      by (inr behind) = absurd (not-both next.0 item.0 (written-key (λ key. IsWanted lookup key
          → IsAtMost next.0 key) lookup.history lookup.stamp item.0 (ap is_some value) least.least
          (record { inside = inside; behind = behind; has = ap is_some value })) less)

count-le : (p q : List ℕ → Bool) (writes : List Write) → ((key : List ℕ) → p key ≡ true
    → q key ≡ true) → count_by (λ w. p w.key) writes ≤ count_by (λ w. q w.key) writes
count-le p q [] implies = omega arith
count-le p q (write ∷ writes) implies =
    let first = sum_by-cons (λ (w : Write). cond (p w.key) 1 0) write writes in
    let second = sum_by-cons (λ (w : Write). cond (q w.key) 1 0) write writes in
    let both = by (p write.key) refl (q write.key) refl (count-le p q writes implies) in
    omega (arith, first, second, both)
  where
    by : (a : Bool) → p write.key ≡ a → (b : Bool) → q write.key ≡ b
        → count_by (λ w. p w.key) writes ≤ count_by (λ w. q w.key) writes
        → cond a 1 0 + count_by (λ w. p w.key) writes
        ≤ cond b 1 0 + count_by (λ w. q w.key) writes
    by true e true f le = omega (arith, le)
    by true e false f le = absurd (true≢false (sym (implies write.key e) ∙ f))
    by false e true f le = omega (arith, le)
    by false e false f le = omega (arith, le)

-- where a written key passes the one test and not the other, fewer pass the other
pub count-less : (p q : List ℕ → Bool) (writes : List Write) (stamp : ℕ) (key : List ℕ)
    → ((other : List ℕ) → p other ≡ true → q other ≡ true) → p key ≡ false → q key ≡ true
    → IsSome (value_at writes stamp key)
    → count_by (λ w. p w.key) writes < count_by (λ w. q w.key) writes
count-less p q [] stamp key implies out in_ has = absurd (true≢false (sym has))
count-less p q (write ∷ writes) stamp key implies out in_ has =
    let first = sum_by-cons (λ (w : Write). cond (p w.key) 1 0) write writes in
    let second = sum_by-cons (λ (w : Write). cond (q w.key) 1 0) write writes in
    let both = by (bytes_eq write.key key) refl has (p write.key) refl (q write.key) refl
    (λ later. count-less p q writes stamp key implies out in_ later)
    (count-le p q writes implies) in
    omega (arith, first, second, both)
  where
    by : (same : Bool) → bytes_eq write.key key ≡ same
        → IsSome (option_and_then (λ w. w.value) (cond (same && nat_le write.stamp stamp)
        (Some (later_of write (latest writes stamp key))) (latest writes stamp key)))
        → (a : Bool) → p write.key ≡ a → (b : Bool) → q write.key ≡ b
        → (IsSome (value_at writes stamp key) → count_by (λ w. p w.key) writes
        < count_by (λ w. q w.key) writes)
        → count_by (λ w. p w.key) writes ≤ count_by (λ w. q w.key) writes
        → cond a 1 0 + count_by (λ w. p w.key) writes
        < cond b 1 0 + count_by (λ w. q w.key) writes
    by true e some true f b g later le = absurd (true≢false (sym f ∙ ap p ((bytes_eq-Decides
        write.key key).0 e) ∙ out))
    by true e some false f true g later le = omega (arith, le)
    by true e some false f false g later le = absurd (true≢false (sym in_ ∙ ap q (sym
        ((bytes_eq-Decides write.key key).0 e)) ∙ g))
    by false e some true f true g later le = let more = later some in omega (arith, more)
    by false e some true f false g later le = absurd (true≢false (sym (implies write.key f) ∙ g))
    by false e some false f true g later le = omega (arith, le)
    by false e some false f false g later le = let more = later some in omega (arith, more)

-- fewer keys are behind the next item's than behind the last
pub behind-less : (lookup : Lookup) (next : KeyValue) → IsLeastOf lookup lookup.history next
    → count_by (λ w. is_behind (Some next.0) w.key) lookup.history
    < count_by (λ w. is_behind lookup.last w.key) lookup.history
behind-less lookup next least =
    count-less (is_behind (Some next.0)) (is_behind lookup.last) lookup.history lookup.stamp next.0
    (λ key behind. further lookup.last key least.wanted.behind behind)
    (not_itself next.0) least.wanted.behind least.wanted.has
  where
    further : (last : Option (List ℕ)) (key : List ℕ) → IsTrue (is_behind last next.0)
        → IsLess next.0 key → is_behind last key ≡ true
    further None key first second = refl
    further (Some last) key first second = less-trans last next.0 key first second

    not_itself : (key : List ℕ) → is_behind (Some key) key ≡ false
    not_itself key = by (is_behind (Some key) key) refl
      where
        by : (b : Bool) → is_behind (Some key) key ≡ b → is_behind (Some key) key ≡ false
        by true e = absurd (less-apart key e)
        by false e = e

-- a key that was tested, and has a value
pub nearer-found : (lookup : Lookup) (seen : List Write) (next : Option KeyValue) (write : Write)
    (key value : List ℕ) → key ≡ write.key → IsNext lookup seen next
    → is_in_range lookup.low lookup.high key ≡ true → is_behind lookup.last key ≡ true
    → is_up_to next key ≡ false → value_at lookup.history lookup.stamp key ≡ Some value
    → IsLeastOf lookup (seen ++ write ∷ []) (key, value)
nearer-found lookup seen next write key value same is inside behind nearer has =
    subst (λ k. IsLeastOf lookup (seen ++ write ∷ []) (k, value)) (sym same)
    (next-nearer lookup seen next write value is (record {
      inside = subst (λ k. is_in_range lookup.low lookup.high k ≡ true) same inside;
      behind = subst (λ k. is_behind lookup.last k ≡ true) same behind;
      has = ap is_some (ap (value_at lookup.history lookup.stamp) (sym same) ∙ has);
    }) (ap (value_at lookup.history lookup.stamp) (sym same) ∙ has)
    (subst (λ k. is_up_to next k ≡ false) same nearer))
