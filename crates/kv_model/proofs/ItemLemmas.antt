-- Lemmas on the items of a history.
use Rattle.std.proofs.Common.{◌≡◌, ℕ, ◌⊎◌, inl, inr, true, List, [], ◌∷◌, ◌-◌, Option, None, Some}
use Rattle.std.proofs.Common.{refl, sym, ap, ◌∙◌}
use Rattle.std.proofs.Common.{subst, arith, Contains}
use Rattle.kv_model.specs.Pairwise.{Pairwise}
use Rattle.kv_model.specs.History.{Write, value_at}
use Rattle.kv_model.specs.Batch.{Start}
use Rattle.kv_model.specs.Items.{KeyValue, AreItems, IsLess, SameValue, BeginsAt, class_with}
use Rattle.kv_model.specs.Items.{count_of_class}
use Rattle.kv_model.proofs.ContainsLemmas.{Contains-cons, Contains-first, Contains-behind}
use Rattle.kv_model.proofs.ContainsLemmas.{All-member}
use Rattle.kv_model.proofs.KeyLemmas.{less-trans, less-apart}

-- by rising key
abbrev Rises : List KeyValue → Type 0
Rises items = Pairwise (λ item next. IsLess item.0 next.0) items

-- each element of the first is one of the second
abbrev IsWithin : List KeyValue → List KeyValue → Type 0
IsWithin items others = (item : KeyValue) → Contains items item → Contains others item

less_behind : (first : KeyValue) (rest : List KeyValue) (item : KeyValue) → Rises (first ∷ rest)
    → Contains rest item → IsLess first.0 item.0
less_behind first rest item rising has =
    All-member (λ next. IsLess first.0 next.0) rest item rising.0 has

-- the first elements are one
first_same : (x y : KeyValue) (xs ys : List KeyValue) → Rises (x ∷ xs) → Rises (y ∷ ys)
    → Contains (y ∷ ys) x → Contains (x ∷ xs) y → x ≡ y
first_same x y xs ys rising also here there =
    by (Contains-cons y ys x here) (Contains-cons x xs y there)
  where
    by : (y ≡ x) ⊎ Contains ys x → (x ≡ y) ⊎ Contains xs y → x ≡ y
    by (inl same) other = sym same
    by (inr later) (inl same) = same
    by (inr later) (inr behind) = absurd (less-apart x.0 (less-trans x.0 y.0 x.0
        (less_behind x xs y rising behind) (less_behind y ys x also later)))

-- the rests have the same elements
rest_within : (x y : KeyValue) (xs ys : List KeyValue) → Rises (x ∷ xs) → x ≡ y
    → IsWithin (x ∷ xs) (y ∷ ys) → IsWithin xs ys
rest_within x y xs ys rising same within item has =
    by (Contains-cons y ys item (within item (Contains-behind x xs item has)))
  where
    by : (y ≡ item) ⊎ Contains ys item → Contains ys item
    by (inl first) = absurd (less-apart x.0 (subst (λ i. IsLess x.0 i.0) (sym (same ∙ first))
        (less_behind x xs item rising has)))
    by (inr later) = later

-- lists that rise and have the same elements are one
pub rising_same : (xs ys : List KeyValue) → Rises xs → Rises ys → IsWithin xs ys → IsWithin ys xs
    → xs ≡ ys
rising_same [] [] rising also within back = refl
rising_same [] (y ∷ ys) rising also within back =
    let none = back y (Contains-first y ys) in absurd (omega (arith, none.1))
rising_same (x ∷ xs) [] rising also within back =
    let none = within x (Contains-first x xs) in absurd (omega (arith, none.1))
rising_same (x ∷ xs) (y ∷ ys) rising also within back =
    let first : x ≡ y = first_same x y xs ys rising also (within x (Contains-first x xs))
    (back y (Contains-first y ys)) in
    let rest : xs ≡ ys = rising_same xs ys rising.1 also.1
    (rest_within x y xs ys rising first within) (rest_within y x ys xs also (sym first) back) in
    ap (λ i. i ∷ xs) first ∙ ap (λ is. y ∷ is) rest

-- a history has one list of items in a range
pub items_same : (history : List Write) (stamp : ℕ) (low high : List ℕ)
    (items others : List KeyValue) → AreItems history stamp low high items
    → AreItems history stamp low high others → items ≡ others
items_same history stamp low high items others are also =
    rising_same items others are.rising also.rising
    (λ item has. (also.each item).1 ((are.each item).0 has))
    (λ item has. (are.each item).1 ((also.each item).0 has))

-- what both find is one value
same_values : (a b kept : Option (List ℕ)) → SameValue true a kept → SameValue true b kept → a ≡ b
same_values None None kept first second = refl
same_values None (Some b) None first second = absurd second
same_values None (Some b) (Some kept) first second = absurd first
same_values (Some a) None None first second = absurd first
same_values (Some a) None (Some kept) first second = absurd second
same_values (Some a) (Some b) None first second = absurd first
same_values (Some a) (Some b) (Some kept) first second = ap Some (first refl ∙ sym (second refl))

-- two batches that begin at one stamp of a history find the same
pub one_start : (history : List Write) (base : ℕ) (start other : Start)
    → BeginsAt true history base start → BeginsAt true history base other
    → start.layout ≡ other.layout → start.limit ≡ other.limit → start ≡ other
one_start history base start other begins also layout limit = λ i. record {
  layout = layout i;
  limit = limit i;
  value = λ key. values key i;
  class = λ key. classes key i;
  items = λ class. counts class i;
} where
  values : (key : List ℕ) → start.value key ≡ other.value key
  values key = same_values (start.value key) (other.value key) (value_at history (base - 1) key)
      (begins.follows.value key) (also.follows.value key)

  classes : (key : List ℕ) → start.class key ≡ other.class key
  classes key = begins.follows.class refl key
      ∙ ap (λ l. class_with l key (value_at history (base - 1) key)) layout
      ∙ sym (also.follows.class refl key)

  counts : (class : ℕ) → start.items class ≡ other.items class
  counts class =
      let first = begins.items class in
      let second = also.items class in
      let one : first.items ≡ second.items = items_same history (base - 1) [] [] first.items
      second.items first.are second.are in
      first.counted ∙ ap (λ l. count_of_class l class first.items) layout
      ∙ ap (count_of_class other.layout class) one ∙ sym second.counted
