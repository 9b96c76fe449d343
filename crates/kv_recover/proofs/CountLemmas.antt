-- How many entries of a class there are once a key has a new one.
use Rattle.std.proofs.Common.{◌≡◌, inl, inr, ℕ, ◌+◌, ◌<◌, ◌≤◌, Bool, true, false, cond, eqb}
use Rattle.std.proofs.Common.{List, [], ◌∷◌, length, get_or, replicate, Option, None, Some, Ordering, Less, Equal}
use Rattle.std.proofs.Common.{Greater, IfSome, refl, sym, ap, ◌∙◌, subst, arith}
use Rattle.std.specs.Prelude.{count_by, ◌&&◌, T}
use Rattle.std.specs.Ordering.{nat_cmp, is_eq, is_lt, eq_by_cmp}
use Rattle.std.specs.Cmp.Lexicographic.{slice_cmp}
use Rattle.std.specs.FinMap as finite
use Rattle.std.specs.FinMap.Entries.{put, find, is_sorted, below_all, by_order, find_tied}
use Rattle.std.specs.Cmp.{tied_itself}
use Rattle.std.proofs.lemmas.Bool.{cases_Bool, cases_eq, eq-eqb, ne_eqb, cond-true, cond-false, false≢true}
use Rattle.std.proofs.lemmas.Cmp.{nat_list_cmp_total}
use Rattle.std.proofs.lemmas.List.Sums.{count_by-le-length, sum_by-cons}
use Rattle.kv_index.specs.declared.entry.Entry.{Entry}
use Rattle.kv_index.specs.Entries.{Entries}
use Rattle.kv_slab.specs.Memory.{items_in}
use Rattle.kv_recover.specs.Placed.{one_of, HasCounts}
use Rattle.kv_recover.proofs.FoundLemmas.{get_put}
use Rattle.kv_recover.proofs.SlabLemmas.{zero_at}

-- a list without items
no_items : {A : Type 0} (xs : List A) → length xs ≡ 0 → xs ≡ []
no_items [] none = refl
no_items (x ∷ xs) none = absurd (omega arith)

-- the order of keys
abbrev order : List ℕ → List ℕ → Ordering
order = slice_cmp nat_cmp

both_parts : (a b : Bool) → T (a && b) → T a × T b
both_parts true b h = (tt, h)
both_parts false b h = absurd h

is_less : (r : Ordering) → T (is_lt r) → r ≡ Less
is_less Less h = refl
is_less Equal h = absurd h
is_less Greater h = absurd h

-- a key below all others has no entry
find_below : (k : List ℕ) (es : List (List ℕ × Entry)) → T (below_all order k es)
    → find order k es ≡ None
find_below k [] h = refl
find_below k (e ∷ es) h =
    let parts = both_parts (is_lt (order k e.0)) (below_all order k es) h in
    ap (λ r. cond (is_eq r) (Some e.1) (find order k es)) (is_less (order k e.0) parts.0)
    ∙ find_below k es parts.1

lt_true : (r : Ordering) → r ≡ Less → T (is_lt r)
lt_true r is = subst (λ x. T (is_lt x)) (sym is) tt

and_true : (a b : Bool) → T a → T b → T (a && b)
and_true true b p q = q
and_true false b p q = p

-- what is below a key that is below all is below all
below_less : (x y : List ℕ) (es : List (List ℕ × Entry)) → order x y ≡ Less
    → T (below_all order y es) → T (below_all order x es)
below_less x y [] p h = tt
below_less x y (e ∷ es) p h =
    let parts = both_parts (is_lt (order y e.0)) (below_all order y es) h in
    and_true (is_lt (order x e.0)) (below_all order x es)
    (lt_true (order x e.0) (nat_list_cmp_total.trans x y e.0 p (is_less (order y e.0) parts.0)))
    (below_less x y es p parts.1)

-- how many of these are of the class
abbrev of_class : ℕ → List (List ℕ × Entry) → ℕ
of_class class es = count_by (λ pair. eqb pair.1.place.class class) es

count_cons : (class : ℕ) (e : List ℕ × Entry) (es : List (List ℕ × Entry))
    → of_class class (e ∷ es) ≡ one_of (Some e.1) class + of_class class es
count_cons class e es = sum_by-cons (λ pair. cond (eqb pair.1.place.class class) 1 0) e es

put_less : (class : ℕ) (k : List ℕ) (v : Entry) (e : List ℕ × Entry) (es : List (List ℕ × Entry))
    → one_of (find order k es) class ≡ 0
    → of_class class ((k, v) ∷ e ∷ es) + one_of (find order k es) class
    ≡ of_class class (e ∷ es) + one_of (Some v) class
put_less class k v e es none =
    let all : of_class class ((k, v) ∷ e ∷ es) ≡ one_of (Some v) class + of_class class (e ∷ es) =
    count_cons class (k, v) (e ∷ es) in
    omega (arith, all, none)

put_equal : (class : ℕ) (v : Entry) (e : List ℕ × Entry) (es : List (List ℕ × Entry))
    → of_class class ((e.0, v) ∷ es) + one_of (Some e.1) class
    ≡ of_class class (e ∷ es) + one_of (Some v) class
put_equal class v e es =
    let new : of_class class ((e.0, v) ∷ es) ≡ one_of (Some v) class + of_class class es =
    count_cons class (e.0, v) es in
    let old = count_cons class e es in
    omega (arith, new, old)

put_greater : (class : ℕ) (v : Entry) (e : List ℕ × Entry) (es now : List (List ℕ × Entry))
    (was : ℕ) → of_class class now + was ≡ of_class class es + one_of (Some v) class
    → of_class class (e ∷ now) + was ≡ of_class class (e ∷ es) + one_of (Some v) class
put_greater class v e es now was rest =
    let new = count_cons class e now in
    let old = count_cons class e es in
    omega (arith, new, old, rest)

-- the entries of a class once one is put
count_put : (class : ℕ) (k : List ℕ) (v : Entry) (es : List (List ℕ × Entry))
    → T (is_sorted order es)
    → of_class class (put order k v es) + one_of (find order k es) class
    ≡ of_class class es + one_of (Some v) class
count_put class k v [] h =
    let all : of_class class ((k, v) ∷ []) ≡ one_of (Some v) class + of_class class [] =
    count_cons class (k, v) [] in
    let none : one_of (find order k []) class ≡ 0 = refl in
    omega (arith, all, none)
count_put class k v (e ∷ es) h =
    let parts = both_parts (below_all order e.0 es) (is_sorted order es) h in
    elim (order k e.0) as (λ r. order k e.0 ≡ r
    → of_class class (by_order r ((k, v) ∷ e ∷ es) ((e.0, v) ∷ es) (e ∷ put order k v es))
    + one_of (cond (is_eq r) (Some e.1) (find order k es)) class
    ≡ of_class class (e ∷ es) + one_of (Some v) class) [
      | Less ↦ λ p. put_less class k v e es
          (ap (λ o. one_of o class) (find_below k es (below_less k e.0 es p parts.0)))
      | Equal ↦ λ p. put_equal class v e es
      | Greater ↦ λ p. put_greater class v e es (put order k v es) (one_of (find order k es) class)
          (count_put class k v es parts.1)
    ] refl

-- a key's new entry counts, and its old one doesn't
pub items_in-insert : (entries : Entries) (key : List ℕ) (entry : Entry) (class : ℕ)
    → items_in (finite.insert entries key entry) class + one_of (finite.get entries key) class
    ≡ items_in entries class + one_of (Some entry) class
items_in-insert entries key entry class =
    ap (λ es. count_by (λ pair. eqb pair.1.place.class class) es
    + one_of (finite.get entries key) class) (finite.entries-insert nat_list_cmp_total entries key
    entry)
    ∙ ap (λ o. count_by (λ pair. eqb pair.1.place.class class)
    (put order key entry (finite.entries entries)) + one_of o class) (finite.get-entries entries key)
    ∙ count_put class key entry (finite.entries entries) (finite.entries_sorted entries)

-- a class has no more entries than there are
pub items_in-len : (entries : Entries) (class : ℕ) → items_in entries class ≤ finite.len entries
items_in-len entries class = omega (
  arith,
  finite.len-entries entries,
  count_by-le-length (λ (pair : List ℕ × Entry). eqb pair.1.place.class class)
      (finite.entries entries),
)

-- a class of which a key has an entry has one at least
count_found : (class : ℕ) (k : List ℕ) (v : Entry) (es : List (List ℕ × Entry))
    → find order k es ≡ Some v → v.place.class ≡ class → 1 ≤ of_class class es
count_found class k v [] is at = absurd (cc)
count_found class k v (e ∷ es) is at =
    let all = count_cons class e es in
    elim (cases_Bool (eq_by_cmp order k e.0)) [
      | inl tied ↦
          let here : Some e.1 ≡ Some v =
          sym (cond-true (eq_by_cmp order k e.0) (Some e.1) (find order k es) tied) ∙ is in
          let same : e.1 ≡ v = cc in
          let one : one_of (Some e.1) class ≡ 1 = cond-true {A = ℕ}
          (eqb e.1.place.class class) 1 0
          (eq-eqb e.1.place.class class (ap (λ x. x.place.class) same ∙ at)) in
          omega (arith, all, one)
      | inr apart ↦
          let later : find order k es ≡ Some v =
          sym (cond-false (eq_by_cmp order k e.0) (Some e.1) (find order k es) apart) ∙ is in
          let rest = count_found class k v es later at in
          omega (arith, all, rest)
    ]

pub counted-some : (entries : Entries) (counts key : List ℕ) (found : Option Entry)
    → HasCounts entries counts → found ≡ finite.get entries key
    → IfSome found (λ entry. 0 < get_or counts entry.place.class 0)
counted-some entries counts key None counted is = tt
counted-some entries counts key (Some entry) counted is =
    let within = counted.within key entry (sym is) in
    let some = count_found entry.place.class key entry (finite.entries entries)
    (sym (finite.get-entries entries key) ∙ sym is) refl in
    omega (arith, counted.count entry.place.class within)

-- the counts follow the entries
pub counted-next : (entries : Entries) (counts key : List ℕ) (entry : Entry)
    (dropped added : List ℕ) (later : Entries)
    → HasCounts entries counts → entry.place.class < 12
    → ((class : ℕ) → class < 12
    → get_or dropped class 0 + one_of (finite.get entries key) class ≡ get_or counts class 0)
    → length added ≡ 12
    → get_or added entry.place.class 0 ≡ get_or dropped entry.place.class 0 + 1
    → ((c : ℕ) → (c ≡ entry.place.class → ⊥) → get_or added c 0 ≡ get_or dropped c 0)
    → later ≡ finite.insert entries key entry
    → HasCounts later added
counted-next entries counts key entry dropped added later counted low drops size here others is = record {
  size = size;
  within = λ other e has. elim (get_put entries key entry other) [
    | inl same ↦ let at : Some e ≡ Some entry = sym (sym (ap (λ m. finite.get m other) is) ∙ has)
        ∙ same.1 in
        let same_entry : e ≡ entry = cc in
        subst (λ x. x.place.class < 12) (sym same_entry) low
    | inr differ ↦ counted.within other e (sym differ.1 ∙ sym (ap (λ m. finite.get m other) is)
        ∙ has)
  ];
  count = λ class within.
      let total = items_in-insert entries key entry class in
      let before = counted.count class within in
      let drop = drops class within in
      (elim (cases_eq class entry.place.class) [
        | inl same ↦
            let added_is : get_or added class 0 ≡ get_or dropped class 0 + 1 =
            ap (λ c. get_or added c 0) same ∙ here ∙ ap (λ c. get_or dropped c 0 + 1) (sym same) in
            let one : one_of (Some entry) class ≡ 1 =
            cond-true {A = ℕ} (eqb entry.place.class class) 1 0
            (eq-eqb entry.place.class class (sym same)) in
            let now : get_or added class 0 ≡ items_in (finite.insert entries key entry) class =
            omega (arith, total, before, drop, added_is, one) in now
        | inr other ↦
            let added_is = others class other in
            let none : one_of (Some entry) class ≡ 0 =
            cond-false {A = ℕ} (eqb entry.place.class class) 1 0
            (ne_eqb entry.place.class class (λ at. other (sym at))) in
            let now : get_or added class 0 ≡ items_in (finite.insert entries key entry) class =
            omega (arith, total, before, drop, added_is, none) in now
      ]) ∙ ap (λ m. items_in m class) (sym is);
}

-- no entries, and no counts
pub counted-none : (entries : Entries) → entries ≡ finite.empty
    → HasCounts entries (replicate 12 0)
counted-none entries none = record {
  size = refl;
  within = λ key entry has. absurd (let nothing : None ≡ Some entry =
      sym (finite.get-empty {X = Entry} order key) ∙ sym (ap (λ m. finite.get m key) none) ∙ has in
      cc);
  count = λ class within.
      let empty : finite.entries entries ≡ [] = ap finite.entries none
      ∙ no_items (finite.entries finite.empty) (sym (finite.len-entries finite.empty)
      ∙ finite.len-empty order Entry) in
      zero_at 12 class ∙ sym (ap (of_class class) empty);
}

is_equal : (r : Ordering) → is_eq r ≡ true → r ≡ Equal
is_equal Less h = absurd (false≢true h)
is_equal Equal h = refl
is_equal Greater h = absurd (false≢true h)

-- what is found behind the first of some is found among all
find_behind : (e : List ℕ × Entry) (es : List (List ℕ × Entry)) (k : List ℕ) (v : Entry)
    → T (below_all order e.0 es) → find order k es ≡ Some v → find order k (e ∷ es) ≡ Some v
find_behind e es k v first is = elim (cases_Bool (eq_by_cmp order k e.0)) [
  | inl tied ↦
      let equal = is_equal (order k e.0) tied in
      absurd (let nothing : None ≡ Some v =
      sym (find_below e.0 es first) ∙ find_tied order nat_list_cmp_total k e.0 equal es ∙ is in cc)
  | inr apart ↦ cond-false (eq_by_cmp order k e.0) (Some e.1) (find order k es) apart ∙ is
]

-- no entries of a class
count_none : (class : ℕ) (es : List (List ℕ × Entry)) → T (is_sorted order es)
    → ((k : List ℕ) (v : Entry) → find order k es ≡ Some v → v.place.class ≡ class → ⊥)
    → of_class class es ≡ 0
count_none class [] h none = refl
count_none class (e ∷ es) h none =
    let parts = both_parts (below_all order e.0 es) (is_sorted order es) h in
    let here : find order e.0 (e ∷ es) ≡ Some e.1 =
    cond-true (eq_by_cmp order e.0 e.0) (Some e.1) (find order e.0 es)
    (ap is_eq (tied_itself nat_list_cmp_total e.0)) in
    let other : one_of (Some e.1) class ≡ 0 = cond-false {A = ℕ} (eqb e.1.place.class class) 1 0
    (ne_eqb e.1.place.class class (λ is. none e.0 e.1 here is)) in
    let rest = count_none class es parts.1
    (λ k v is. none k v (find_behind e es k v parts.0 is)) in
    omega (arith, count_cons class e es, other, rest)

-- a class of which no key has an entry has none
pub items_in-none : (entries : Entries) (class : ℕ)
    → ((key : List ℕ) (entry : Entry) → finite.get entries key ≡ Some entry
    → entry.place.class ≡ class → ⊥) → items_in entries class ≡ 0
items_in-none entries class none =
    count_none class (finite.entries entries) (finite.entries_sorted entries)
    (λ k v is. none k v (finite.get-entries entries k ∙ is))
