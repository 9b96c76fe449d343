-- What a caller finds in the map of an index after a change.
use Rattle.std.proofs.Common.{◌≡◌, ℕ, ◌+◌, ◌-◌, ◌≢◌, ◌⊎◌, true, false, cond, List, Option, Some}
use Rattle.std.proofs.Common.{None, is_some, Ordering, Less, Equal, Greater, inl, inr, refl, sym}
use Rattle.std.proofs.Common.{ap, ◌∙◌}
use Rattle.std.specs.Ordering.{nat_cmp, is_eq, eq_by_cmp}
use Rattle.std.specs.Cmp.{tied_itself}
use Rattle.std.specs.Cmp.Lexicographic.{slice_cmp}
use Rattle.std.specs.FinMap.{get, insert, remove, len, get-insert, get-remove, len-insert}
use Rattle.std.specs.FinMap.{len-remove}
use Rattle.std.proofs.lemmas.Bool.{false≢true}
use Rattle.std.proofs.lemmas.Cmp.{nat_list_cmp_total}
use Rattle.kv_index.specs.declared.entry.Entry.{Entry}
use Rattle.kv_index.specs.Entries.{Entries}
use Rattle.kv_index.proofs.EntriesLemmas.{one_key}

-- two keys are one key, or they are not
pub same_or_other : (a b : List ℕ) → (a ≡ b) ⊎ (a ≢ b)
same_or_other a b =
    elim (slice_cmp nat_cmp a b) as (λ r. slice_cmp nat_cmp a b ≡ r → (a ≡ b) ⊎ (a ≢ b)) [
      | Less ↦ λ is. inr (apart is false≢true)
      | Equal ↦ λ is. inl (one_key a b is)
      | Greater ↦ λ is. inr (apart is false≢true)
    ] refl where
      apart : {r : Ordering} → slice_cmp nat_cmp a b ≡ r → (is_eq r ≡ true → ⊥) → a ≢ b
      apart is differs same =
          differs
          (sym (ap is_eq is) ∙ ap (λ k. is_eq (slice_cmp nat_cmp a k)) (sym same)
          ∙ ap is_eq (tied_itself nat_list_cmp_total a))

same : (key : List ℕ) → eq_by_cmp (slice_cmp nat_cmp) key key ≡ true
same key = ap is_eq (tied_itself nat_list_cmp_total key)

other : (q key : List ℕ) → q ≢ key → eq_by_cmp (slice_cmp nat_cmp) q key ≡ false
other q key apart =
    elim (slice_cmp nat_cmp q key) as (λ r. slice_cmp nat_cmp q key ≡ r → is_eq r ≡ false) [
      | Less ↦ λ is. refl
      | Equal ↦ λ is. absurd (apart (one_key q key is))
      | Greater ↦ λ is. refl
    ] refl

-- a key that was set has its entry, and every other key what it had
pub get_set : (m : Entries) (key : List ℕ) (entry : Entry)
    → get (insert m key entry) key ≡ Some entry
get_set m key entry =
    get-insert nat_list_cmp_total m key entry key
    ∙ ap (λ b. cond b (Some entry) (get m key)) (same key)

pub get_set_other : (m : Entries) (key : List ℕ) (entry : Entry) (q : List ℕ) → q ≢ key
    → get (insert m key entry) q ≡ get m q
get_set_other m key entry q apart =
    get-insert nat_list_cmp_total m key entry q
    ∙ ap (λ b. cond b (Some entry) (get m q)) (other q key apart)

-- a key that was removed has no entry, and every other key what it had
pub get_removed : (m : Entries) (key : List ℕ) → get (remove m key) key ≡ None
get_removed m key =
    get-remove nat_list_cmp_total m key key ∙ ap (λ b. cond b None (get m key)) (same key)

pub get_removed_other : (m : Entries) (key q : List ℕ) → q ≢ key → get (remove m key) q ≡ get m q
get_removed_other m key q apart =
    get-remove nat_list_cmp_total m key q ∙ ap (λ b. cond b None (get m q)) (other q key apart)

-- how many keys there are after a new key, an old one, and a removal
pub len_new : (m : Entries) (key : List ℕ) (entry : Entry) → get m key ≡ None
    → len (insert m key entry) ≡ len m + 1
len_new m key entry none =
    len-insert nat_list_cmp_total m key entry
    ∙ ap (λ (o : Option Entry). cond (is_some o) (len m) (len m + 1)) none

pub len_renewed : (m : Entries) (key : List ℕ) (entry old : Entry) → get m key ≡ Some old
    → len (insert m key entry) ≡ len m
len_renewed m key entry old some =
    len-insert nat_list_cmp_total m key entry
    ∙ ap (λ (o : Option Entry). cond (is_some o) (len m) (len m + 1)) some

pub len_removed : (m : Entries) (key : List ℕ) (old : Entry) → get m key ≡ Some old
    → len (remove m key) ≡ len m - 1
len_removed m key old some =
    len-remove nat_list_cmp_total m key
    ∙ ap (λ (o : Option Entry). cond (is_some o) (len m - 1) (len m)) some

pub len_kept : (m : Entries) (key : List ℕ) → get m key ≡ None → len (remove m key) ≡ len m
len_kept m key none =
    len-remove nat_list_cmp_total m key
    ∙ ap (λ (o : Option Entry). cond (is_some o) (len m - 1) (len m)) none
