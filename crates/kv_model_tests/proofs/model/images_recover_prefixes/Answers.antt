-- by the one item that stands on the disk
use Rattle.std.proofs.Common.{◌≡◌, ℕ, List, Bool, true, false, refl, sym, ap}
use Rattle.std.proofs.Common.{◌∙◌}
use Rattle.std.proofs.Common.{subst, arith, inr, true≢false, Contains}
use Rattle.std.specs.Str.{bytes_eq}
use Rattle.std.proofs.lemmas.Slice.Eq.{bytes_eq-Decides}
use Rattle.kv_model.specs.History.{value_at}
use Rattle.kv_model.specs.Recovery.{GivesValue}
use Rattle.kv_model.specs.Examples.{key_a, value_1}
use Rattle.kv_model.specs.BatchExamples.{key_b, value_2}
use Rattle.kv_model.specs.RecoveryExamples.{reading_with_a, two_puts}
use Rattle.kv_model.proofs.RecoveryLemmas.{the_copy, is_kept, others_missing, heads-low}
use Rattle.kv_model.proofs.RecoveryLemmas.{heads-first}
use Rattle.kv_model.proofs.RecoveryLemmas.{opens, second_value, no_value, one_item, owned}
use Rattle.kv_model_tests.proofs.model.images_recover_prefixes.Goals as goal

apart : (key other : List ℕ) → bytes_eq key other ≡ false → bytes_eq other other ≡ true
    → key ≡ other → ⊥
apart key other differs itself same =
    true≢false (sym itself ∙ sym (ap (λ k. bytes_eq k other) same) ∙ differs)

pub returns-clause-gives : goal.returns-clause-gives
returns-clause-gives c = record {
  found = (the_copy, is_kept, refl, refl);
  missing = λ copy found. others_missing key_b copy (apart key_b key_a refl refl) found;
  floor = record {
    above = heads-low;
    one = inr (7, 0, subst (λ heads. Contains heads 1) (sym heads-first) (0, omega arith, refl));
  };
}

-- the key is a, or it has no value
prefix_of : (key : List ℕ) (same : Bool) → bytes_eq key_a key ≡ same
    → GivesValue reading_with_a 0 1 key (value_at two_puts 1 key)
prefix_of key true e = subst (λ k. GivesValue reading_with_a 0 1 k (value_at two_puts 1 k))
    ((bytes_eq-Decides key_a key).0 e) (the_copy, is_kept, refl)
prefix_of key false e = subst (GivesValue reading_with_a 0 1 key) (sym (no_value key e))
    (λ copy found. others_missing key copy (λ same. true≢false (sym (ap (bytes_eq key_a) same)
    ∙ e)) found)

pub returns-clause-recovers : goal.returns-clause-recovers
returns-clause-recovers c = record {
  opens = opens;
  prefix = λ key owner. (1, ((λ same. omega arith), tt), prefix_of key (bytes_eq key_a key) refl);
}

pub returns-clause-stale : goal.returns-clause-stale
returns-clause-stale c = λ recovers.
    let owes = recovers.prefix key_a (owned key_a) in
    let gives = subst (GivesValue reading_with_a 0 1 key_a)
    (second_value owes.0 (owes.1.1.0 refl)) owes.2 in
    let is = one_item gives.0.class gives.0.slot gives.0.stamp key_a gives.0.value
    gives.1.found.stands in
    apart value_1 value_2 refl refl (sym is.value_is ∙ gives.2)
