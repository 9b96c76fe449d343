-- both are the last write's value, or what was there
use Rattle.std.proofs.Common.{◌≡◌, [], ◌+◌, ◌-◌, length, arith, sym, ◌∙◌, ap, is_some}
use Rattle.std.proofs.Common.{refl}
use Rattle.std.proofs.Common.{subst, ◌++◌, ◌∷◌, List, ℕ, Option, Some, None, Bool, true, false}
use Rattle.std.proofs.Common.{cond}
use Rattle.std.specs.Option.{option_or}
use Rattle.std.specs.Str.{bytes_eq}
use Rattle.std.proofs.lemmas.Slice.Eq.{bytes_eq-Decides}
use Rattle.kv_model.specs.Layout.{Layout}
use Rattle.kv_model.specs.History.{Write, value_at}
use Rattle.kv_model.specs.Batch.{accepted_writes, last_write, value_or, net}
use Rattle.kv_model.specs.Items.{SameValue, class_with, class_or}
use Rattle.kv_model.proofs.ReadingLemmas.{value_at-rises}
use Rattle.kv_model.proofs.AgreementLemmas.{same-some, value-same, SameValue-or}
use Rattle.kv_model.proofs.AgreementLemmas.{SameValue-trans}
use Rattle.kv_model.proofs.NetLemmas.{net-reads}
use Rattle.kv_model.proofs.AnswersLemmas.{acknowledged-reads, acknowledged_in}
use Rattle.kv_model.proofs.AnswersLemmas.{RiseBetween-acknowledged_in}
use Rattle.kv_model.proofs.laws.store_follows_history.Goals as goal

-- what the class of the last write is
class-is : (layout : Layout) (last : Option Write) (key : List ℕ) (before : Option (List ℕ))
    → ((write : Write) → last ≡ Some write → write.key ≡ key)
    → class_or layout last (class_with layout key before) ≡ class_with layout key (value_or last
    before)
class-is layout None key before own = refl
class-is layout (Some write) key before own =
    ap (λ k. class_with layout k write.value) (own write refl)

last-key : (writes : List Write) (key : List ℕ) (write : Write) → last_write writes key ≡ Some write
    → write.key ≡ key
last-key [] key write is = absurd (none is)
  where
    none : None ≡ Some write → ⊥
    none e = cc
last-key (first ∷ writes) key write is = by (last_write writes key) refl (bytes_eq first.key key)
    refl
    is (last-key writes key write)
  where
    same : (a b : Write) → Some a ≡ Some b → a ≡ b
    same a b e = cc

    none : None ≡ Some write → ⊥
    none e = cc

    by : (last : Option Write) → last_write writes key ≡ last → (hit : Bool)
        → bytes_eq first.key key ≡ hit → option_or last (cond hit (Some first) None) ≡ Some write
        → (last_write writes key ≡ Some write → write.key ≡ key) → write.key ≡ key
    by (Some other) e hit f is rest = rest (e ∙ is)
    by None e true f is rest = ap (λ w. w.key) (sym (same first write is))
        ∙ (bytes_eq-Decides first.key key).0 f
    by None e false f is rest = absurd (none is)

pub returns : goal.returns
returns c = λ told history base start after requests stamp begins below ends is_after.
    let all = accepted_writes start [] base requests in
    let changes = net start all in
    let total = history ++ acknowledged_in start [] base requests in
    let some : (key : List ℕ) → is_some (value_at history (base - 1) key) ≡ is_some (start.value
    key) =
    λ key. same-some told (start.value key) (value_at history (base - 1) key) (begins.value key) in
    let still : (key : List ℕ) → value_at history stamp key ≡ value_at history (base - 1) key =
    λ key. value-same history base stamp (base - 1) key below (omega arith) (omega arith) in
    let right : (key : List ℕ) → value_at total stamp key ≡ value_or (last_write all key)
    (value_at history (base - 1) key) = λ key.
    value_at-rises (acknowledged_in start [] base requests) history base (base + length requests)
    stamp key below (RiseBetween-acknowledged_in requests start [] base) ends
    ∙ acknowledged-reads requests start [] base key (value_at history stamp key) (ap is_some
    (still key) ∙ some key) ∙ ap (value_or (last_write all key)) (still key) in
    record {
      value = λ key. SameValue-trans told (after.value key) (value_or (last_write all key)
          (start.value key)) (value_at total stamp key)
          (subst (SameValue told (after.value key)) (net-reads all start key (start.value key) refl)
          (is_after.value key))
          (subst (SameValue told (value_or (last_write all key) (start.value key))) (sym (right
          key))
          (SameValue-or told (last_write all key) (start.value key) (value_at history (base - 1)
          key)
          (begins.value key)));
      class = λ yes key. is_after.class key
          ∙ ap (class_or start.layout (last_write changes key)) (begins.class yes key)
          ∙ class-is start.layout (last_write changes key) key (value_at history (base - 1) key)
          (λ write is. last-key changes key write is)
          ∙ ap (class_with start.layout key) (net-reads all start key (value_at history (base - 1)
          key) (some key) ∙ sym (right key))
          ∙ ap (λ l. class_with l key (value_at total stamp key)) (sym is_after.layout);
    }
