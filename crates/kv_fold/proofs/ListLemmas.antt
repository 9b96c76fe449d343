-- Lists of the same items with distinct keys are one bag.
use Rattle.std.proofs.Common.{◌≡◌, ℕ, zero, suc, ◌<◌, true, false, cond, List, [], ◌∷◌}
use Rattle.std.proofs.Common.{length, get_or, None, Some, refl, sym, ap, ◌∙◌, arith}
use Rattle.std.specs.Prelude.{Contains, ◌↔◌}
use Rattle.std.specs.Ordering.{is_eq, eq_by_cmp}
use Rattle.std.specs.Cmp.{tied_itself}
use Rattle.std.specs.FinMap.{find, from_entries, get-from_entries, same_map}
use Rattle.std.proofs.lemmas.Cmp.{nat_list_cmp_total as total}
use Rattle.kv_model.specs.Fold.{KeyValue}
use Rattle.kv_fold.specs.Bags.{order}
use Rattle.kv_fold.specs.States.{state_of}
use Rattle.kv_fold.specs.Laws.{HasDistinctKeys, OrderIsFree}
use Rattle.kv_fold.proofs.OrderLemmas.{one_key, none_some, equal_of}
use Rattle.kv_fold.proofs.PrefixLemmas.{same_Some}

-- the first item's key has its value
find_own : (item : KeyValue) (es : List KeyValue) → find order item.0 (item ∷ es) ≡ Some item.1
find_own item es =
    ap (λ r. cond (is_eq r) (Some item.1) (find order item.0 es)) (tied_itself total item.0)

-- where an item stands among distinct keys, its key has its value
find_index : (es : List KeyValue) (i : ℕ) (item : KeyValue) → HasDistinctKeys es → i < length es
    → get_or es i item ≡ item → find order item.0 es ≡ Some item.1
find_index [] i item distinct lt is = absurd (omega arith)
find_index (e ∷ es) zero item distinct lt is =
    ap (λ x. find order item.0 (x ∷ es)) is ∙ find_own item es
find_index (e ∷ es) (suc i) item distinct lt is =
    let rest = find_index es i item distinct.1 (omega arith) is in
    elim (eq_by_cmp order item.0 e.0) as
    (λ b. eq_by_cmp order item.0 e.0 ≡ b
    → cond b (Some e.1) (find order item.0 es) ≡ Some item.1) [
      | true ↦ λ tied.
          let same = one_key item.0 e.0 (equal_of _ tied) in
          absurd (none_some item.1 (sym distinct.0 ∙ ap (λ k. find order k es) (sym same) ∙ rest))
      | false ↦ λ apart. rest
    ] refl

-- a value that is found stands with its key
found_index : (es : List KeyValue) (key value : List ℕ) → find order key es ≡ Some value
    → Contains es (key, value)
found_index [] key value is = absurd (none_some value is)
found_index (e ∷ es) key value is =
    elim (eq_by_cmp order key e.0) as
    (λ b. eq_by_cmp order key e.0 ≡ b → cond b (Some e.1) (find order key es) ≡ Some value
    → Contains (e ∷ es) (key, value)) [
      | true ↦ λ tied at.
          let own = ap (λ k. (k, e.1)) (sym (one_key key e.0 (equal_of _ tied))) in
          (0, omega arith, own ∙ ap (λ v. (key, v)) (same_Some e.1 value at))
      | false ↦ λ apart at.
          let rest = found_index es key value at in
          (suc rest.0, omega (arith, rest.1), rest.2)
    ] refl is

same_find : (es more : List KeyValue) → HasDistinctKeys es → HasDistinctKeys more
    → ((item : KeyValue) → Contains es item ↔ Contains more item) → (key : List ℕ)
    → find order key es ≡ find order key more
same_find es more distinct others same key =
    elim (find order key es) as (λ o. find order key es ≡ o → o ≡ find order key more) [
      | None ↦ λ none.
          elim (find order key more) as (λ o. find order key more ≡ o → None ≡ o) [
            | None ↦ λ _. refl
            | Some value ↦ λ is.
                let there = (same (key, value)).1 (found_index more key value is) in
                let found = find_index es there.0 (key, value) distinct there.1 there.2 in
                absurd (none_some value (sym none ∙ found))
          ] refl
      | Some value ↦ λ is.
          let there = (same (key, value)).0 (found_index es key value is) in
          sym (find_index more there.0 (key, value) others there.1 there.2)
    ] refl

pub any_order : OrderIsFree
any_order kind es more distinct others same =
    ap (state_of kind)
    (same_map total one_key (from_entries es) (from_entries more)
    (λ key. get-from_entries total es key ∙ same_find es more distinct others same key
    ∙ sym (get-from_entries total more key)))
