-- Folds that keep a number or a sum.
use Rattle.std.proofs.Common.{◌≡◌, ℕ, ◌+◌, ◌%◌, ◌^◌, List, [], ◌∷◌, length, sum}
use Rattle.std.proofs.Common.{refl, sym, ap, ◌∙◌, arith}
use Rattle.std.specs.List.{sum_by}
use Rattle.std.specs.FinMap.{entries, insert, empty, len-empty, len-entries}
use Rattle.std.proofs.lemmas.List.Sums.{sum_by-cons}
use Rattle.kv_model.specs.Fold.{KeyValue, FoldKind, Counting, AddingLengths, AddingBytes}
use Rattle.kv_model.specs.Fold.{TakingFirst, total_of}
use Rattle.kv_fold.specs.Bags.{Bag, order}
use Rattle.kv_fold.specs.States.{State, first_of, nothing, sum_state, state_of, Adds, Merges}
use Rattle.kv_fold.proofs.BagLemmas.{sum_insert, sum_with_all, more_are_new, union_is}

-- what one item adds to a fold's number or sum
abbrev pub weight : FoldKind → KeyValue → ℕ
weight Counting item = 1
weight AddingLengths item = length item.1
weight AddingBytes item = sum item.1
weight (TakingFirst most) item = 0

sum_zero : (es : List KeyValue) → sum_by (λ (item : KeyValue). 0) es ≡ 0
sum_zero [] = refl
sum_zero (e ∷ es) = sum_by-cons (λ (item : KeyValue). 0) e es ∙ omega (arith, sum_zero es)

pub ones_length : (es : List KeyValue) → sum_by (λ (item : KeyValue). 1) es ≡ length es
ones_length [] = refl
ones_length (e ∷ es) = omega (arith, sum_by-cons (λ (item : KeyValue). 1) e es, ones_length es)

-- each number is a sum of weights
pub total_is : (kind : FoldKind) (es : List KeyValue) → total_of kind es ≡ sum_by (weight kind) es
total_is Counting es = sym (ones_length es)
total_is AddingLengths es = refl
total_is AddingBytes es = refl
total_is (TakingFirst most) es = sym (sum_zero es)

-- the state of a fold that keeps a sum alone
sum_state_of : (kind : FoldKind) (total : ℕ) (bag : Bag)
    → ((es : List KeyValue) → first_of kind es ≡ nothing)
    → total ≡ sum_by (weight kind) (entries bag) % 2 ^ 64 → sum_state kind total ≡ state_of kind bag
unfolding state_of
sum_state_of kind total bag plain is =
    ap (sum_state kind) (is ∙ ap (λ n. n % 2 ^ 64) (sym (total_is kind (entries bag))))
    ∙ ap (λ first. record {
      kind = kind;
      total = total_of kind
          (entries bag) % 2 ^ 64;
      first = first;
    })
    (sym (plain (entries bag)))

-- the sum that a state keeps
sum_of : (kind : FoldKind) (total : ℕ) (bag : Bag) → sum_state kind total ≡ state_of kind bag
    → total ≡ sum_by (weight kind) (entries bag) % 2 ^ 64
unfolding state_of
sum_of kind total bag was =
    ap (λ (s : State). s.total) was ∙ ap (λ n. n % 2 ^ 64) (total_is kind (entries bag))

no_items : (es : List KeyValue) → length es ≡ 0 → es ≡ []
no_items [] is = refl
no_items (e ∷ es) is = absurd (omega arith)

of_no_items : (kind : FoldKind)
    → record { kind = kind; total = total_of kind [] % 2 ^ 64; first = first_of kind [] }
    ≡ sum_state kind 0
of_no_items Counting = refl
of_no_items AddingLengths = refl
of_no_items AddingBytes = refl
of_no_items (TakingFirst most) = refl

-- the fold of no item
pub empty_state : (kind : FoldKind) → sum_state kind 0 ≡ state_of kind empty
unfolding state_of
empty_state kind =
    let none : entries (empty {X = List ℕ} {R = order}) ≡ [] =
    no_items _ (sym (len-entries (empty {X = List ℕ} {R = order})) ∙ len-empty order (List ℕ)) in
    sym (of_no_items kind)
    ∙ ap (λ (es : List KeyValue). record
    { kind = kind; total = total_of kind es % 2 ^ 64; first = first_of kind es })
    (sym none)

-- a sum takes one more item in
pub sum_adds : (kind : FoldKind) (key value : List ℕ) (total : ℕ)
    → ((es : List KeyValue) → first_of kind es ≡ nothing)
    → Adds key value (sum_state kind total) (sum_state kind
    ((total + weight kind (key, value)) % 2 ^ 64))
sum_adds kind key value total plain bag was none =
    let before = sum_of kind total bag was in
    let sums = sum_insert (weight kind) bag key value none in
    sum_state_of kind ((total + weight kind (key, value)) % 2 ^ 64) (insert bag key value) plain
    (omega (arith, before, sums))

-- a sum takes another in
pub sum_merges : (kind : FoldKind) (total more : ℕ)
    → ((es : List KeyValue) → first_of kind es ≡ nothing)
    → Merges (sum_state kind total) (sum_state kind more) (sum_state kind ((total + more) % 2 ^ 64))
sum_merges kind total more plain bag other all was its apart is =
    let one = sum_of kind total bag was in
    let two = sum_of kind more other its in
    let sums =
    ap (λ b. sum_by (weight kind) (entries b)) (union_is bag other all apart is)
    ∙ sum_with_all (weight kind) bag (entries other) (more_are_new bag other apart) in
    sum_state_of kind ((total + more) % 2 ^ 64) all plain (omega (arith, one, two, sums))
