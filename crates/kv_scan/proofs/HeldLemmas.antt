-- What held versions give, and what is pending.
use Rattle.std.proofs.Common.{◌≡◌, ◌≢◌, ℕ, ◌<◌, ◌≤◌, Bool, true, false, cond, List, [], ◌∷◌}
use Rattle.std.proofs.Common.{◌&&◌, Option, None, Some, refl, sym, ap, ◌∙◌}
use Rattle.std.proofs.Common.{arith, nat_le, nat_lt, max}
use Rattle.std.proofs.lemmas.Bool.Decides.{nat_tests}
use Rattle.std.specs.Ordering.{eq_by_cmp}
use Rattle.std.specs.FinMap.{get}
use Rattle.kv_fold.specs.Bags.{order, Bag, or_else}
use Rattle.kv_fold.specs.States.{State, state_of}
use Rattle.kv_scan.specs.declared.held.Held.{Held}
use Rattle.kv_scan.specs.Scans.{Contents, Scan, reaches, pending, held_at, held_until}
use Rattle.kv_scan.specs.Scans.{AreRising}
use Rattle.kv_scan.specs.Owes.{Owes, Follows}
use Rattle.kv_scan.proofs.KeyLemmas.{tied, untied}

pub no_le : (a s : ℕ) → s < a → nat_le a s ≡ false
no_le a s h = grind (arith, nat_tests)

pub yes_le : (a s : ℕ) → a ≤ s → nat_le a s ≡ true
yes_le a s h = grind (arith, nat_tests)

pub is_le_of : (a s : ℕ) → nat_le a s ≡ true → a ≤ s
is_le_of a s h = grind (arith, nat_tests)

pub yes_lt : (a b : ℕ) → a < b → nat_lt a b ≡ true
yes_lt a b h = grind (arith, nat_tests)

pub no_lt : (a b : ℕ) → b ≤ a → nat_lt a b ≡ false
no_lt a b h = grind (arith, nat_tests)

-- of a key that is reached or not, what is held or else what the map has
abbrev pub of_parts : Bool → Option (List ℕ) → Option (List ℕ) → Option (List ℕ)
of_parts reached held mapped = cond reached (or_else held mapped) None

-- no version covers a stamp from which on none is held
pub held_none : (hs : List Held) (s : ℕ) (key : List ℕ) → held_until hs key ≤ s
    → held_at hs s key ≡ None
held_none [] s key h = refl
held_none (x ∷ hs) s key h =
    elim (eq_by_cmp order key x.key) as
    (λ b. cond b (max x.until (held_until hs key)) (held_until hs key) ≤ s
    → cond (b && (nat_le x.since s && nat_lt s x.until)) (Some x.value) (held_at hs s key)
    ≡ None) [
      | true ↦ λ at.
          let late : nat_lt s x.until ≡ false = no_lt s x.until (omega arith) in
          elim (nat_le x.since s) as
          (λ b. cond (b && nat_lt s x.until) (Some x.value) (held_at hs s key) ≡ None) [
            | true ↦
                ap (λ b. cond b (Some x.value) (held_at hs s key)) late
                ∙ held_none hs s key (omega arith)
            | false ↦ held_none hs s key (omega arith)
          ]
      | false ↦ λ at. held_none hs s key at
    ] h

-- one more held version
pub held_more : (x : Held) (hs : List Held) → held_until (x ∷ hs) x.key
    ≡ max x.until (held_until hs x.key)
held_more x hs =
    ap (λ b. cond b (max x.until (held_until hs x.key)) (held_until hs x.key)) (tied x.key)

pub held_less : (x : Held) (hs : List Held) (k : List ℕ)
    → held_until hs k ≤ held_until (x ∷ hs) k
held_less x hs k =
    elim (eq_by_cmp order k x.key) as
    (λ b. held_until hs k ≤ cond b (max x.until (held_until hs k)) (held_until hs k)) [
      | true ↦ omega arith
      | false ↦ omega arith
    ]

pub held_other : (x : Held) (hs : List Held) (k : List ℕ) → k ≢ x.key
    → held_until (x ∷ hs) k ≡ held_until hs k
held_other x hs k apart =
    ap (λ b. cond b (max x.until (held_until hs k)) (held_until hs k)) (untied k x.key apart)

pub held_at_other : (x : Held) (hs : List Held) (s : ℕ) (k : List ℕ) → k ≢ x.key
    → held_at (x ∷ hs) s k ≡ held_at hs s k
held_at_other x hs s k apart =
    ap (λ b. cond (b && (nat_le x.since s && nat_lt s x.until)) (Some x.value) (held_at hs s k))
    (untied k x.key apart)

-- what is held now of the key, where the map had it before
pub held_now : (key : List ℕ) (old new : ℕ) (value : List ℕ) (hs : List Held) (s : ℕ) → s < new
    → held_until hs key ≤ old
    → or_else (held_at (record { key = key; since = old; until = new; value = value } ∷ hs) s key)
    None
    ≡ or_else (held_at hs s key) (cond (nat_le old s) (Some value) None)
held_now key old new value hs s early before =
    let more = held_at hs s key in
    ap (λ b. or_else (cond (b && (nat_le old s && nat_lt s new)) (Some value) more) None)
    (tied key)
    ∙ ap (λ b. or_else (cond (nat_le old s && b) (Some value) more) None) (yes_lt s new early)
    ∙ elim (nat_le old s) as
    (λ b. nat_le old s ≡ b → or_else (cond (b && true) (Some value) more) None
    ≡ or_else more (cond b (Some value) None)) [
      | true ↦ λ is.
          let le : old ≤ s = is_le_of old s is in
          ap (λ o. or_else o (Some value)) {x = None} {y = more}
          (sym (held_none hs s key (omega arith)))
      | false ↦ λ is. refl
    ] refl

-- the same is folded and the same is pending
pub renew : (scan new : Scan) (map after : Contents) (s : ℕ) (share : Bag)
    → Owes scan map s share → new.refusal ≡ scan.refusal → new.state ≡ scan.state
    → ((k : List ℕ) → pending new after s k ≡ pending scan map s k)
    → AreRising new.held → Follows new.held after
    → ((k v : List ℕ) → held_at new.held s k ≡ Some v → reaches new k ≡ true)
    → (new.stamp ≡ None → scan.stamp ≡ None)
    → ((at : ℕ) → new.stamp ≡ Some at → (s ≡ at) × (new.held ≡ []))
    → Owes new after s share
renew scan new map after s share owes runs same pend rising follows within fresh started = record {
  running = runs ∙ owes.running;
  done = owes.done;
  state = same ∙ owes.state ∙ ap (λ (t : State). state_of t.kind owes.done) (sym same);
  parts = λ k. owes.parts k ∙ ap (or_else (get owes.done k)) (sym (pend k));
  once = λ k v is. owes.once k v (sym (pend k) ∙ is);
  rising = rising;
  follows = follows;
  within = within;
  fresh = λ none. owes.fresh (fresh none);
  started = started;
}

-- of another map, with the scan as it is
pub renew_map : (scan : Scan) (map after : Contents) (s : ℕ) (share : Bag)
    → Owes scan map s share → ((k : List ℕ) → pending scan after s k ≡ pending scan map s k)
    → Follows scan.held after → Owes scan after s share
renew_map scan map after s share owes pend follows =
    renew scan scan map after s share owes refl refl pend owes.rising follows owes.within
    (λ none. none) owes.started
