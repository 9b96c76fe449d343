-- The finite map of rising pairs, under what a tree does to them.
use Rattle.std.proofs.Common.{◌≡◌, ℕ, ◌<◌, Bool, true, false, cond, not, List, [], ◌∷◌}
use Rattle.std.proofs.Common.{◌++◌, length, ◌+◌}
use Rattle.std.proofs.Common.{Option, Some, None, IfNone, MatchOption, IsTrue, IsSome, is_some}
use Rattle.std.proofs.Common.{Ordering, Less, Equal, Greater, refl, sym, ap, ◌∙◌, subst, arith}
use Rattle.std.specs.Ordering.{is_le, is_gt, is_eq, eq_by_cmp, ordering_reverse}
use Rattle.std.specs.Cmp.{tied_itself, alike_right, eq_by_cmp_equiv}
use Rattle.std.specs.FinMap as finite
use Rattle.std.specs.FinMap.{find, from_sorted, entries-from_sorted, get-from_sorted}
use Rattle.std.specs.FinMap.{entries-insert, same_entries_map, len-insert}
use Rattle.std.specs.FinMap.{empty_of_len, same_map, get-remove}
use Rattle.std.specs.FinMap.{get-empty, len-empty}
use Rattle.std.specs.FinMap.Entries.{put, is_sorted-put, is_sorted-where_key, find-where_key}
use Rattle.std.specs.FinMap.Entries.{length_without}
use Rattle.std.proofs.lemmas.Bool.{false≢true}
use Rattle.std.proofs.lemmas.Cmp.{nat_list_cmp_total}
use Rattle.kv_index.specs.declared.entry.Entry.{Entry}
use Rattle.kv_index.specs.Entries.{Entries, Indexed, HasNoneFrom, IsNext, IsUpTo}
use Rattle.kv_index.specs.Places.{HasRisingKeys}
use Rattle.kv_index.proofs.EntriesLemmas.{one_key, len_is}
use Rattle.kv_tree.specs.Subtree.{Pair, next_from, entry_of, without, indexed_of}
use Rattle.kv_tree.proofs.WeaveLemmas.{append_none}
use Rattle.kv_tree.proofs.WeaveLemmas.{order, Rises, yes, is_yes, find_past}
use Rattle.kv_tree.specs.Subtree.{Past}
use Rattle.kv_tree.proofs.WeaveLemmas.{find_none, rises_right, below_from}

abbrev map_of : List Pair → Entries
map_of = from_sorted

pub get_is : (es : List Pair) (q : List ℕ) → HasRisingKeys order es
    → finite.get (map_of es) q ≡ find order q es
get_is es q rising = get-from_sorted order es q (yes _ rising)

pub put_rising : (q : List ℕ) (v : Entry) (es new : List Pair) → HasRisingKeys order es
    → new ≡ put order q v es → HasRisingKeys order new
put_rising q v es new rising is =
    is_yes _ (subst Rises (sym is) (is_sorted-put order nat_list_cmp_total q v es (yes _ rising)))

pub put_map : (q : List ℕ) (v : Entry) (es new : List Pair) → HasRisingKeys order es
    → new ≡ put order q v es
    → map_of new ≡ finite.insert (map_of es) q v
put_map q v es new rising is =
    let rises : Rises new = yes _ (put_rising q v es new rising is) in
    same_entries_map _ _
    (entries-from_sorted order new rises
    ∙ (is ∙ ap (put order q v) (sym (entries-from_sorted order es (yes _ rising))))
    ∙ sym (entries-insert nat_list_cmp_total (map_of es) q v))

-- a new key makes one pair more, and an old one none
put_len : (q : List ℕ) (v : Entry) (es new : List Pair) (found : Bool) → HasRisingKeys order es
    → new ≡ put order q v es → is_some (find order q es) ≡ found
    → length new ≡ cond found (length es) (length es + 1)
put_len q v es new found rising is told =
    sym (len_is new (put_rising q v es new rising is))
    ∙ ap finite.len (put_map q v es new rising is)
    ∙ len-insert nat_list_cmp_total (map_of es) q v
    ∙ ap (λ (b : Bool). cond b (finite.len (map_of es)) (finite.len (map_of es) + 1))
    (ap is_some (get_is es q rising) ∙ told)
    ∙ ap (λ (n : ℕ). cond found n (n + 1)) (len_is es rising)

pub put_new : (q : List ℕ) (v : Entry) (es new : List Pair) → HasRisingKeys order es
    → new ≡ put order q v es → is_some (find order q es) ≡ false
    → length new ≡ length es + 1
put_new q v es new rising is told = put_len q v es new false rising is told

pub put_old : (q : List ℕ) (v : Entry) (es new : List Pair) → HasRisingKeys order es
    → new ≡ put order q v es → is_some (find order q es) ≡ true
    → length new ≡ length es
put_old q v es new rising is told = put_len q v es new true rising is told

-- what an item says is what its key and entry say
pub told : (found : Bool) (item : Pair) (q : List ℕ) (v : Entry) (es : List Pair)
    → found ≡ is_some (entry_of es item.0) → item ≡ (q, v)
    → is_some (find order q es) ≡ found
told found item q v es is same = sym (is ∙ ap (λ (p : Pair). is_some (find order p.0 es)) same)

pub put_is : (new : List Pair) (item : Pair) (q : List ℕ) (v : Entry) (es : List Pair)
    → new ≡ put order item.0 item.1 es → item ≡ (q, v)
    → new ≡ put order q v es
put_is new item q v es is same = is ∙ ap (λ (p : Pair). put order p.0 p.1 es) same

is_none : (o : Option Entry) → is_some o ≡ false → o ≡ None
is_none None e = refl
is_none (Some v) e = absurd (false≢true (sym e))

-- the map has no entry of a key that was not found
pub get_none : (es : List Pair) (q : List ℕ) → HasRisingKeys order es
    → is_some (find order q es) ≡ false → finite.get (map_of es) q ≡ None
get_none es q rising told = get_is es q rising ∙ is_none _ told

-- the first pair at or after a key is the next
pub record IsFirst (q : List ℕ) (es a : List Pair) (x : Pair) (b : List Pair) : Type 0 where
  pub is : es ≡ a ++ x ∷ b
  pub past : Past q a
  pub upto : IsTrue (is_le (order q x.0))

record First (q : List ℕ) (es : List Pair) (x : Pair) : Type 0 where
  a : List Pair
  b : List Pair
  first : IsFirst q es a x b

first_at : (q : List ℕ) (es : List Pair) (x : Pair) → next_from q es ≡ Some x → First q es x
first_at q [] x is = absurd (false≢true (ap is_some is))
first_at q (e ∷ es) x is =
    elim (order q e.0) as (λ r. order q e.0 ≡ r → cond (is_gt r) (next_from q es) (Some e) ≡ Some x
    → First q (e ∷ es) x) [
      | Less ↦ λ p s. let same : e ≡ x = cc in record {
        a = [];
        b = es;
        first = record {
          is = ap (λ (y : Pair). y ∷ es) same;
          past = tt;
          upto = subst (λ (y : Pair). IsTrue (is_le (order q y.0))) same (ap is_le p);
        };
      }
      | Equal ↦ λ p s. let same : e ≡ x = cc in record {
        a = [];
        b = es;
        first = record {
          is = ap (λ (y : Pair). y ∷ es) same;
          past = tt;
          upto = subst (λ (y : Pair). IsTrue (is_le (order q y.0))) same (ap is_le p);
        };
      }
      | Greater ↦ λ p s. let rest = first_at q es x s in record {
        a = e ∷ rest.a;
        b = rest.b;
        first = record {
          is = ap (λ (l : List Pair). e ∷ l) rest.first.is;
          past = (p, rest.first.past);
          upto = rest.first.upto;
        };
      }
    ] refl is

past_all : (q : List ℕ) (es : List Pair) → next_from q es ≡ None → Past q es
past_all q [] is = tt
past_all q (e ∷ es) is =
    elim (order q e.0) as (λ r. order q e.0 ≡ r → cond (is_gt r) (next_from q es) (Some e) ≡ None
    → Past q (e ∷ es)) [
      | Less ↦ λ p s. absurd (false≢true (sym (ap is_some s)))
      | Equal ↦ λ p s. absurd (false≢true (sym (ap is_some s)))
      | Greater ↦ λ p s. (p, past_all q es s)
    ] refl is

-- what is past a key is past each that is at or after it
past_upto_key : (q k : List ℕ) (es : List Pair) → IsUpTo q k → Past q es → Past k es
past_upto_key q k [] up p = tt
past_upto_key q k (e ∷ es) up p =
    let here : order e.0 q ≡ Less = nat_list_cmp_total.antisymm e.0 q ∙ ap ordering_reverse p.0 in
    let there : order e.0 k ≡ Less = elim (order q k) as (λ r. order q k ≡ r → IsTrue (is_le r)
    → order e.0 k ≡ Less) [
      | Less ↦ λ is _. nat_list_cmp_total.trans e.0 q k here is
      | Equal ↦ λ is _. sym (ap (order e.0) (one_key q k is)) ∙ here
      | Greater ↦ λ is no. absurd (false≢true no)
    ] refl up in
    (nat_list_cmp_total.antisymm k e.0 ∙ ap ordering_reverse there, past_upto_key q k es up p.1)

pub none_next : (q : List ℕ) (es : List Pair) → HasRisingKeys order es → next_from q es ≡ None
    → HasNoneFrom (map_of es) q
none_next q es rising is k up =
    get_is es k rising ∙ ap (find order k) (sym (append_none es))
    ∙ find_past k es [] (past_upto_key q k es up (past_all q es is))

pub some_next : (q : List ℕ) (es : List Pair) (x : Pair) → HasRisingKeys order es
    → next_from q es ≡ Some x → IsNext (map_of es) q x.0 x.1
some_next q es x rising is =
    let all = first_at q es x is in
    let a = all.a in
    let b = all.b in
    let f = all.first in
    let rises : Rises (a ++ x ∷ b) = subst Rises f.is (yes _ rising) in
    record {
      found = get_is es x.0 rising ∙ ap (find order x.0) f.is
          ∙ find_past x.0 a (x ∷ b) (past_upto_key q x.0 a f.upto f.past)
          ∙ ap (λ (r : Ordering). cond (is_eq r) (Some x.1) (find order x.0 b)) {x = order x.0 x.0}
          (tied_itself nat_list_cmp_total x.0);
      from = f.upto;
      least = λ other up some. elim (order x.0 other) as (λ r. order x.0 other ≡ r
          → IsTrue (is_le r)) [
            | Less ↦ λ _. refl
            | Equal ↦ λ _. refl
            | Greater ↦ λ after.
                let before : order other x.0 ≡ Less = nat_list_cmp_total.antisymm other x.0
                ∙ ap ordering_reverse after in
                let none = get_is es other rising ∙ ap (find order other) f.is
                ∙ find_past other a (x ∷ b) (past_upto_key q other a up f.past)
                ∙ find_none other (x ∷ b) (below_from other x b (rises_right a (x ∷ b) rises)
                before) in
                absurd (false≢true (subst (λ (o : Option Entry). IsSome o) none some))
          ] refl;
    }

pub next_is : {N : Type 0} (q : List ℕ) (es : List Pair) (r : Option N) (f : N → Pair)
    → HasRisingKeys order es
    → MatchOption r (next_from q es ≡ None) (λ n. next_from q es ≡ Some (f n))
    → MatchOption r (HasNoneFrom (map_of es) q) (λ n. IsNext (map_of es) q (f n).0 (f n).1)
next_is q es None f rising is = none_next q es rising is
next_is q es (Some x) f rising is = some_next q es (f x) rising is

-- the pairs of all other keys are the map without the key
pub without_rising : (q : List ℕ) (es new : List Pair) → HasRisingKeys order es → new ≡ without q es
    → HasRisingKeys order new
without_rising q es new rising is =
    is_yes _ (subst Rises (sym is) (is_sorted-where_key order (λ x. not (eq_by_cmp order q x)) es
    (yes _ rising)))

turned : {A : Type 0} (b : Bool) (x y : A) → cond (not b) x y ≡ cond b y x
turned true x y = refl
turned false x y = refl

pub without_map : (q : List ℕ) (es new : List Pair) → HasRisingKeys order es → new ≡ without q es
    → map_of new ≡ finite.remove (map_of es) q
without_map q es new rising is =
    same_map nat_list_cmp_total one_key _ _ (λ k.
    get_is new k (without_rising q es new rising is)
    ∙ ap (find order k) is
    ∙ find-where_key order (λ x. not (eq_by_cmp order q x)) k
    (λ x t. ap (λ r. not (is_eq r)) (sym (alike_right nat_list_cmp_total k x q t))) es
    ∙ turned (eq_by_cmp order q k) _ _
    ∙ ap (λ b. cond b None (find order k es)) ((eq_by_cmp_equiv nat_list_cmp_total).symm q k)
    ∙ sym
    (get-remove nat_list_cmp_total (map_of es) q k
    ∙ ap (cond (eq_by_cmp order k q) None) (get_is es k rising)))

pub without_some : (q : List ℕ) (es new : List Pair) (v : Entry) → HasRisingKeys order es
    → new ≡ without q es → find order q es ≡ Some v → length new + 1 ≡ length es
without_some q es new v rising is found =
    let all : cond (is_some (find order q es)) 1 0 + length (without q es)
    ≡ length es = length_without order nat_list_cmp_total q es (yes _ rising) in
    let all2 : 1 + length (without q es) ≡ length es = subst (λ (o : Option Entry). cond (is_some o)
    1 0 + length (without q es) ≡ length es) found all in
    omega (arith, all2, ap length is)

pub without_none : (q : List ℕ) (es new : List Pair) → HasRisingKeys order es → new ≡ without q es
    → find order q es ≡ None → length new ≡ length es
without_none q es new rising is found =
    let all : cond (is_some (find order q es)) 1 0 + length (without q es)
    ≡ length es = length_without order nat_list_cmp_total q es (yes _ rising) in
    let all2 : 0 + length (without q es) ≡ length es = subst (λ (o : Option Entry). cond (is_some o)
    1 0 + length (without q es) ≡ length es) found all in
    omega (arith, all2, ap length is)

-- where there is no tree, there is no key
module _ (tree : Option Indexed) (s : Indexed) (view : indexed_of tree ≡ s) (none : tree ≡ None)
  where
    nothing : record { entries = finite.empty; spare = 0 } ≡ s
    nothing = sym (ap indexed_of none) ∙ view

    pub nothing_found : (q : List ℕ) → finite.get s.entries q ≡ None
    nothing_found q = ap (λ (i : Indexed). finite.get i.entries q) (sym nothing) ∙ get-empty order q

    pub nothing_counted : finite.len s.entries ≡ 0
    nothing_counted = ap (λ (i : Indexed). finite.len i.entries) (sym nothing)
        ∙ len-empty order Entry

    pub nothing_removed : (q : List ℕ) → finite.remove s.entries q ≡ s.entries
    nothing_removed q =
        let e : map_of [] ≡ finite.empty = empty_of_len (map_of []) (len_is [] refl) in
        let r : finite.remove finite.empty q ≡ finite.empty {X = Entry} {R = order}
        = ap (λ m. finite.remove m q) (sym e) ∙ sym (without_map q [] [] refl refl) ∙ e in
        ap (λ (i : Indexed). finite.remove i.entries q) (sym nothing) ∙ r
        ∙ ap (λ (i : Indexed). i.entries) nothing

    pub nothing_spare : (q : List ℕ) → IfNone (finite.get s.entries q) (0 < s.spare) → ⊥
    nothing_spare q room =
        let here : 0 < s.spare = subst (λ (o : Option Entry). IfNone o (0 < s.spare))
        (nothing_found q) room in
        absurd (omega (arith, ap (λ (i : Indexed). i.spare) nothing))
