-- The laws of what a scan owes.
use Rattle.std.proofs.Common.{◌≡◌, ℕ, ◌⊎◌, inl, inr, true, false, cond}
use Rattle.std.proofs.Common.{List, [], ◌∷◌, Option, None, Some, refl, sym, ap, ◌∙◌, arith}
use Rattle.std.proofs.Common.{nat_le}
use Rattle.std.specs.Ordering.{eq_by_cmp}
use Rattle.std.specs.FinMap.{get, empty, get-empty}
use Rattle.kv_fold.specs.Bags.{order, or_else}
use Rattle.kv_fold.proofs.OrderLemmas.{none_some, one_key, equal_of}
use Rattle.kv_scan.specs.declared.held.Held.{Held}
use Rattle.kv_scan.specs.Scans.{Scan, Contents, pending, reaches, covers, covers_stamp, held_at}
use Rattle.kv_scan.specs.Scans.{value_up_to, held_until, AreRising, prepared_scan}
use Rattle.kv_scan.specs.Owes.{Follows}
use Rattle.kv_scan.specs.Laws.{OwesView, RenewsView, PendingIs, OwesSameMap, IsHeldAt}
use Rattle.kv_scan.specs.Laws.{IsMapped}
use Rattle.kv_scan.proofs.KeyLemmas.{left_true, right_true}
use Rattle.kv_scan.proofs.HeldLemmas.{yes_le, is_le_of, of_parts, held_none, renew_map}
use Rattle.kv_scan.proofs.ChangeLemmas.{pend_other}
use Rattle.kv_scan.proofs.DrainLemmas.{same_Some, mapped}

-- the fold of no item owes the view
pub owes_prepared : OwesView
owes_prepared state low high map s share none view =
    record {
      running = refl;
      done = empty;
      state = none;
      parts =
          λ k. view k
          ∙ ap (λ o. or_else o (pending (prepared_scan state low high) map s k)) {x = None}
          {y = get (empty {X = List ℕ} {R = order}) k} (sym (get-empty order k));
      once = λ k v due. get-empty order k;
      rising = tt;
      follows = λ k v is. omega arith;
      within = λ k v at. absurd (none_some v at);
      fresh = λ is k. get-empty order k;
      started = λ at is. absurd (none_some at is);
    }

pub renews : RenewsView
renews scan map earlier other stamp share owes none up view = record {
  running = owes.running;
  done = owes.done;
  state = owes.state;
  parts =
      λ k. view k
      ∙ ap (λ o. or_else o (pending scan map stamp k)) {x = None} {y = get owes.done k}
      (sym (owes.fresh none k));
  once = λ k v due. owes.fresh none k;
  rising = owes.rising;
  follows = owes.follows;
  within = λ k v at. absurd (none_some v (sym (held_none scan.held stamp k (up k)) ∙ at));
  fresh = owes.fresh;
  started = λ at is. absurd (none_some at (sym none ∙ is));
}

pub same_map_owes : OwesSameMap
same_map_owes scan map after s share owes same =
    renew_map scan map after s share owes (λ k. pend_other scan map after s k (same k))
    (λ k v is. owes.follows k v (sym (same k) ∙ is))

held_in : (hs : List Held) (s : ℕ) (k v : List ℕ) → held_at hs s k ≡ Some v → IsHeldAt hs s k v
held_in [] s k v is = absurd (none_some v is)
held_in (h ∷ hs) s k v is =
    elim (covers h s k) as
    (λ b. covers h s k ≡ b → cond b (Some h.value) (held_at hs s k) ≡ Some v
    → ((covers h s k ≡ true) × (h.value ≡ v)) ⊎ IsHeldAt hs s k v) [
      | true ↦ λ at same. inl (at, same_Some h.value v same)
      | false ↦ λ at same. inr (held_in hs s k v same)
    ] refl is

in_held : (hs : List Held) (s : ℕ) (k v : List ℕ) → AreRising hs → IsHeldAt hs s k v
    → held_at hs s k ≡ Some v
in_held [] s k v rising h = absurd h
in_held (h ∷ hs) s k v rising (inl here) =
    ap (λ b. cond b (Some h.value) (held_at hs s k)) here.0 ∙ ap Some here.1
in_held (h ∷ hs) s k v rising (inr there) =
    let found = in_held hs s k v rising.2 there in
    elim (covers h s k) as
    (λ b. covers h s k ≡ b → cond b (Some h.value) (held_at hs s k) ≡ Some v) [
      | true ↦ λ at.
          let same = one_key k h.key (equal_of _ (left_true (eq_by_cmp order k h.key) _ at)) in
          let current = right_true (eq_by_cmp order k h.key) (covers_stamp h s) at in
          let up = is_le_of h.since s (left_true (nat_le h.since s) _ current) in
          let moved = ap (held_until hs) same in
          let none = held_none hs s k (omega (arith, moved, up, rising.0)) in
          absurd (none_some v (sym none ∙ found))
      | false ↦ λ at. found
    ] refl

either : (h m : Option (List ℕ)) (v : List ℕ) → or_else h m ≡ Some v
    → (h ≡ Some v) ⊎ (m ≡ Some v)
either None m v is = inr is
either (Some w) m v is = inl is

pending_only : (scan : Scan) (map : Contents) (s : ℕ) (k v : List ℕ)
    → pending scan map s k ≡ Some v
    → (reaches scan k ≡ true) × (IsHeldAt scan.held s k v ⊎ IsMapped map s k v)
pending_only scan map s k v is =
    elim (reaches scan k) as
    (λ b. reaches scan k ≡ b → of_parts b (held_at scan.held s k) (value_up_to s (map k)) ≡ Some v
    → (reaches scan k ≡ true) × (IsHeldAt scan.held s k v ⊎ IsMapped map s k v)) [
      | true ↦ λ reached at. (
        reached,
        elim (either (held_at scan.held s k) (value_up_to s (map k)) v at) [
          | inl held ↦ inl (held_in scan.held s k v held)
          | inr there ↦ inr (mapped (map k) s v there)
        ],
      )
      | false ↦ λ away at. absurd (none_some v at)
    ] refl is

pending_all : (scan : Scan) (map : Contents) (s : ℕ) (k v : List ℕ) → AreRising scan.held
    → Follows scan.held map → reaches scan k ≡ true
    → (IsHeldAt scan.held s k v ⊎ IsMapped map s k v) → pending scan map s k ≡ Some v
pending_all scan map s k v rising follows reached (inl held) =
    ap (λ b. of_parts b (held_at scan.held s k) (value_up_to s (map k))) reached
    ∙ ap (λ o. or_else o (value_up_to s (map k))) (in_held scan.held s k v rising held)
pending_all scan map s k v rising follows reached (inr there) =
    let low = follows k there.0 there.1 in
    ap (λ b. of_parts b (held_at scan.held s k) (value_up_to s (map k))) reached
    ∙ ap (λ o. or_else o (value_up_to s (map k)))
    (held_none scan.held s k (omega (arith, low, there.2)))
    ∙ ap (value_up_to s) there.1
    ∙ ap (λ b. cond b (Some there.0.1) None) (yes_le there.0.0 s there.2)
    ∙ ap Some there.3

pub pendings : PendingIs
pendings scan map s k v rising follows = record {
  only = pending_only scan map s k v;
  all = pending_all scan map s k v rising follows;
}
