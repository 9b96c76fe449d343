-- Starting a scan: its held versions are folded or dropped.
use Rattle.std.proofs.Common.{◌≡◌, ℕ, ◌<◌, ◌≤◌, Bool, true, false, cond, List, [], ◌∷◌}
use Rattle.std.proofs.Common.{◌++◌, ◌&&◌, Option, None, Some, refl, sym, ap, ◌∙◌, subst}
use Rattle.std.proofs.Common.{arith, nat_le, reverse, length, All}
use Rattle.std.proofs.lemmas.Grind.{common_steps}
use Rattle.std.proofs.lemmas.List.{reverse-append}
use Rattle.std.proofs.lemmas.Bool.Decides.{nat_tests}
use Rattle.std.specs.Ordering.{eq_by_cmp}
use Rattle.std.specs.FinMap.{get, insert}
use Rattle.kv_model.specs.Fold.{FoldKind}
use Rattle.kv_fold.specs.Bags.{order, Bag, or_else}
use Rattle.kv_fold.specs.States.{State, state_of, Adds}
use Rattle.kv_fold.proofs.OrderLemmas.{none_some}
use Rattle.kv_scan.specs.declared.held.Held.{Held}
use Rattle.kv_scan.specs.Scans.{Version, Contents, Scan, pending, reaches, held_at, held_until}
use Rattle.kv_scan.specs.Scans.{covers_stamp, value_up_to, started_scan}
use Rattle.kv_scan.specs.Owes.{Owes}
use Rattle.kv_scan.specs.Drains.{with_held, IsReady, IsDraining, Drains, TakesOne}
use Rattle.kv_scan.proofs.KeyLemmas.{one, two, same_or_not, tied, untied, and_false}
use Rattle.kv_scan.proofs.HeldLemmas.{is_le_of, of_parts, held_none, held_more, held_less}
use Rattle.kv_scan.proofs.ChangeLemmas.{got_own, got_other}

at_since : (held : Held) (s : ℕ) → covers_stamp held s ≡ true → held.since ≤ s
at_since held s h = grind (arith, nat_tests)

at_until : (held : Held) (s : ℕ) → covers_stamp held s ≡ true → s < held.until
at_until held s h = grind (arith, nat_tests)

ready_absent : (s : ℕ) (h : Held) (hs : List Held) (done : Bag) → covers_stamp h s ≡ true
    → IsReady s (h ∷ hs) done → get done h.key ≡ None
ready_absent s h hs done at ready =
    elim (get done h.key) as (λ o. get done h.key ≡ o → o ≡ None) [
      | None ↦ λ is. refl
      | Some v ↦ λ is.
          let low = ready.free h.key v is in
          absurd (omega (arith, low, held_more h hs, at_until h s at))
    ] refl

ready_more : (s : ℕ) (h : Held) (hs : List Held) (done : Bag) → covers_stamp h s ≡ true
    → IsReady s (h ∷ hs) done → IsReady s hs (insert done h.key h.value)
ready_more s h hs done at ready = record {
  rising = ready.rising.2;
  free =
      λ k v is. elim (same_or_not k h.key) [
        | one e ↦
            let moved = ap (held_until hs) e in
            omega (arith, moved, ready.rising.0, at_since h s at)
        | two apart ↦
            let low = ready.free k v (sym (got_other done h.key h.value k apart) ∙ is) in
            omega (arith, low, held_less h hs k)
      ];
}

ready_rest : (s : ℕ) (h : Held) (hs : List Held) (done : Bag) → IsReady s (h ∷ hs) done
    → IsReady s hs done
ready_rest s h hs done ready = record {
  rising = ready.rising.2;
  free = λ k v is. let low = ready.free k v is in omega (arith, low, held_less h hs k);
}

-- what follows where the version was current at the stamp, or wasn't
with_first : (s : ℕ) (h : Held) (hs : List Held) (done whole : Bag) (b : Bool)
    → covers_stamp h s ≡ b → with_held s (h ∷ hs) done ≡ whole
    → cond b (with_held s hs (insert done h.key h.value)) (with_held s hs done) ≡ whole
with_first s h hs done whole b at rest =
    ap (λ q. cond q (with_held s hs (insert done h.key h.value)) (with_held s hs done)) {x = b}
    {y = covers_stamp h s} (sym at)
    ∙ rest

-- a held version is folded
drain_one : (s : ℕ) (h : Held) (hs : List Held) (state new : State) (kind : FoldKind) (whole : Bag)
    → IsDraining s (h ∷ hs) state kind whole → state.kind ≡ kind → covers_stamp h s ≡ true
    → Adds h.key h.value state new → IsDraining s hs new kind whole
drain_one s h hs state new kind whole draining same at adds =
    let more : Bag = insert draining.done h.key h.value in
    record {
      done = more;
      state_is =
          adds draining.done
          (draining.state_is ∙ ap (λ k. state_of k draining.done) (sym same))
          (ready_absent s h hs draining.done at draining.ready)
          ∙ ap (λ k. state_of k more) same;
      ready = ready_more s h hs draining.done at draining.ready;
      rest = with_first s h hs draining.done whole true at draining.rest;
    }

-- a held version is dropped
drop_one : (s : ℕ) (h : Held) (hs : List Held) (state : State) (kind : FoldKind) (whole : Bag)
    → IsDraining s (h ∷ hs) state kind whole → covers_stamp h s ≡ false
    → IsDraining s hs state kind whole
drop_one s h hs state kind whole draining at = record {
  done = draining.done;
  state_is = draining.state_is;
  ready = ready_rest s h hs draining.done draining.ready;
  rest = with_first s h hs draining.done whole false at draining.rest;
}

or_some : (o : Option (List ℕ)) (v : List ℕ) → o ≡ None → or_else o (Some v) ≡ Some v
or_some o v e = ap (λ p. or_else p (Some v)) e

or_itself : (o : Option (List ℕ)) → o ≡ or_else o None
or_itself None = refl
or_itself (Some v) = refl

-- what the bag has once a held version is folded
get_one : (s : ℕ) (h : Held) (hs : List Held) (done : Bag) (k : List ℕ) → get done h.key ≡ None
    → or_else (get (insert done h.key h.value) k) (held_at hs s k)
    ≡ or_else (get done k) (cond (eq_by_cmp order k h.key && true) (Some h.value) (held_at hs s k))
get_one s h hs done k absent =
    elim (same_or_not k h.key) [
      | one e ↦
          let P : List ℕ → Type 0 =
          λ q. or_else (get (insert done h.key h.value) q) (held_at hs s q)
          ≡ or_else (get done q)
          (cond (eq_by_cmp order q h.key && true) (Some h.value) (held_at hs s q)) in
          subst P (sym e)
          (ap (λ o. or_else o (held_at hs s h.key)) (got_own done h.key h.value)
          ∙ sym (or_some (get done h.key) h.value absent)
          ∙ ap (λ b. or_else (get done h.key)
          (cond (b && true) (Some h.value) (held_at hs s h.key))) {x = true}
          {y = eq_by_cmp order h.key h.key} (sym (tied h.key)))
      | two apart ↦
          ap (λ o. or_else o (held_at hs s k)) (got_other done h.key h.value k apart)
          ∙ ap (λ b. or_else (get done k) (cond (b && true) (Some h.value) (held_at hs s k)))
          {x = false} {y = eq_by_cmp order k h.key} (sym (untied k h.key apart))
    ]

-- what the bag with the held versions has
get_with_held : (s : ℕ) (hs : List Held) (done : Bag) (k : List ℕ) → IsReady s hs done
    → get (with_held s hs done) k ≡ or_else (get done k) (held_at hs s k)
get_with_held s [] done k ready = or_itself (get done k)
get_with_held s (h ∷ hs) done k ready =
    elim (covers_stamp h s) as
    (λ b. covers_stamp h s ≡ b
    → get (cond b (with_held s hs (insert done h.key h.value)) (with_held s hs done)) k
    ≡ or_else (get done k) (cond (eq_by_cmp order k h.key && b) (Some h.value) (held_at hs s k))) [
      | true ↦ λ at.
          get_with_held s hs (insert done h.key h.value) k (ready_more s h hs done at ready)
          ∙ get_one s h hs done k (ready_absent s h hs done at ready)
      | false ↦ λ at.
          get_with_held s hs done k (ready_rest s h hs done ready)
          ∙ ap (λ b. or_else (get done k) (cond b (Some h.value) (held_at hs s k))) {x = false}
          {y = eq_by_cmp order k h.key && false} (sym (and_false (eq_by_cmp order k h.key)))
    ] refl

split_parts : (d h m : Option (List ℕ)) (r : Bool) → ((v : List ℕ) → h ≡ Some v → r ≡ true)
    → or_else d (of_parts r h m) ≡ or_else (or_else d h) (of_parts r None m)
split_parts (Some x) h m r w = refl
split_parts None None m r w = refl
split_parts None (Some v) m r w = ap (λ b. cond b (Some v) None) (w v refl)

pub same_Some : {A : Type 0} (x y : A) → Some x ≡ Some y → x ≡ y
same_Some x y e = cc

-- what gives a value up to the stamp
pub mapped : (o : Option Version) (s : ℕ) (v : List ℕ) → value_up_to s o ≡ Some v
    → (version : Version) × (o ≡ Some version) × (version.0 ≤ s) × (version.1 ≡ v)
mapped None s v is = absurd (none_some v is)
mapped (Some version) s v is =
    elim (nat_le version.0 s) as
    (λ b. nat_le version.0 s ≡ b → cond b (Some version.1) None ≡ Some v
    → (found : Version) × (Some version ≡ Some found) × (found.0 ≤ s) × (found.1 ≡ v)) [
      | true ↦ λ at same. (version, refl, is_le_of version.0 s at, same_Some version.1 v same)
      | false ↦ λ at same. absurd (none_some v same)
    ] refl is

-- what was owed at the stamp is owed by the started scan
pub owes_started : (scan : Scan) (map : Contents) (s : ℕ) (share : Bag) (state : State)
    → scan.stamp ≡ None → Owes scan map s share → state.kind ≡ scan.state.kind
    → Drains s scan.state scan.held state [] → Owes (started_scan s state scan) map s share
owes_started scan map s share state none owes kind drains =
    let ready : IsReady s scan.held owes.done = record {
      rising = owes.rising;
      free = λ k v is. absurd (none_some v (sym (owes.fresh none k) ∙ is));
    } in
    let drained = drains owes.done owes.state ready in
    let whole : Bag = with_held s scan.held owes.done in
    let now : Scan = started_scan s state scan in
    let has = λ (k : List ℕ). get_with_held s scan.held owes.done k ready in
    record {
      running = owes.running;
      done = whole;
      state =
          drained.state_is ∙ ap (state_of scan.state.kind) drained.rest
          ∙ ap (λ k. state_of k whole) (sym kind);
      parts =
          λ k. owes.parts k
          ∙ split_parts (get owes.done k) (held_at scan.held s k) (value_up_to s (map k))
          (reaches scan k) (owes.within k)
          ∙ ap (λ o. or_else o (pending now map s k)) (sym (has k));
      once =
          λ k v due. elim (reaches scan k) as
          (λ b. reaches scan k ≡ b → cond b (value_up_to s (map k)) None ≡ Some v
          → get whole k ≡ None) [
            | true ↦ λ reached at.
                let found = mapped (map k) s v at in
                let low = owes.follows k found.0 found.1 in
                let free = held_none scan.held s k (omega (arith, low, found.2)) in
                has k
                ∙ ap (λ o. or_else o (held_at scan.held s k)) (owes.fresh none k)
                ∙ free
            | false ↦ λ away at. absurd (none_some v at)
          ] refl due;
      rising = tt;
      follows = λ k v is. omega arith;
      within = λ k v is. absurd (none_some v is);
      fresh = λ is. absurd (none_some s (sym is));
      started = λ at is. (same_Some s at is, refl);
    }

pub takes_in : (s : ℕ) (h : Held) (old new : State) → covers_stamp h s ≡ true
    → Adds h.key h.value old new → TakesOne s h old new
takes_in s h old new at adds more whole draining =
    drain_one s h more old new old.kind whole draining refl at adds

pub takes_none : (s : ℕ) (h : Held) (old : State) → covers_stamp h s ≡ false → TakesOne s h old old
takes_none s h old at more whole draining = drop_one s h more old old.kind whole draining at

-- one version more is taken
pub drains_more : (s : ℕ) (start mid new : State) (held rest items : List Held) (h : Held)
    → Drains s start held mid (reverse items) → mid.kind ≡ start.kind → items ≡ rest ++ h ∷ []
    → TakesOne s h mid new → Drains s start held new (reverse rest)
drains_more s start mid new held rest items h drains kind is takes done was ready =
    let before = drains done was ready in
    let whole : Bag = with_held s held done in
    let turned : reverse items ≡ h ∷ reverse rest =
    ap reverse is ∙ reverse-append rest (h ∷ []) in
    let P : FoldKind → Type 0 = λ k. IsDraining s (reverse rest) new k whole in
    let Q : List Held → Type 0 = λ l. IsDraining s l mid start.kind whole in
    let R : FoldKind → Type 0 = λ k. IsDraining s (h ∷ reverse rest) mid k whole in
    subst P kind (takes (reverse rest) whole (subst R (sym kind) (subst Q turned before)))

pub drains_start : (s : ℕ) (start : State) (held : List Held) → Drains s start held start held
drains_start s start held done was ready = record {
  done = done;
  state_is = was;
  ready = ready;
  rest = refl;
}

pub All-front : {X : Type 0} (P : X → Type 0) (xs ys : List X) → All P (xs ++ ys) → All P xs
All-front P xs ys all k d h = grind (arith, common_steps, all k d)

pub no_items : {X : Type 0} (xs : List X) → length xs ≡ 0 → xs ≡ []
no_items [] e = refl
no_items (x ∷ xs) e = absurd (omega arith)
