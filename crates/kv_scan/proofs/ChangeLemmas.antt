-- What a scan owes under a change of a key.
use Rattle.std.proofs.Common.{◌≡◌, ◌≢◌, ℕ, ◌<◌, ◌≤◌, true, false, cond, List, ◌∷◌}
use Rattle.std.proofs.Common.{Option, None, Some, refl, sym, ap, ◌∙◌, subst}
use Rattle.std.proofs.Common.{arith, nat_le}
use Rattle.std.specs.FinMap.{get, insert, get-insert}
use Rattle.std.proofs.lemmas.Cmp.{nat_list_cmp_total as total}
use Rattle.kv_fold.specs.Bags.{Bag, or_else}
use Rattle.kv_fold.specs.States.{State, state_of, Adds}
use Rattle.kv_fold.proofs.OrderLemmas.{none_some}
use Rattle.kv_scan.specs.declared.held.Held.{Held}
use Rattle.kv_scan.specs.Scans.{Version, Contents, Scan, reaches, pending, held_at, held_until}
use Rattle.kv_scan.specs.Scans.{value_up_to, hold, refold}
use Rattle.kv_scan.specs.Owes.{Follows, Changes, Outlives}
use Rattle.kv_scan.specs.Laws.{OutlivesQuietly}
use Rattle.kv_scan.proofs.KeyLemmas.{tied, untied, one, two, same_or_not}
use Rattle.kv_scan.proofs.HeldLemmas.{no_le, yes_le, of_parts, held_more, held_other}
use Rattle.kv_scan.proofs.HeldLemmas.{held_at_other, held_now, renew_map, renew}

-- a version that is later than the stamp gives nothing there
late : (o : Option Version) (s new : ℕ) → ((v : Version) → o ≡ Some v → v.0 ≡ new) → s < new
    → value_up_to s o ≡ None
late None s new h lt = refl
late (Some v) s new h lt =
    let own = h v refl in
    ap (λ b. cond b (Some v.1) None) (no_le v.0 s (omega (arith, own)))

pub pend_other : (scan : Scan) (map after : Contents) (s : ℕ) (k : List ℕ) → after k ≡ map k
    → pending scan after s k ≡ pending scan map s k
pend_other scan map after s k same =
    ap (λ o. of_parts (reaches scan k) (held_at scan.held s k) (value_up_to s o)) same

pend_after : (scan : Scan) (key : List ℕ) (new : ℕ) (map after : Contents) (s : ℕ)
    → Changes key new map after → s < new
    → pending scan after s key ≡ of_parts (reaches scan key) (held_at scan.held s key) None
pend_after scan key new map after s changes lt =
    ap (of_parts (reaches scan key) (held_at scan.held s key))
    (late (after key) s new changes.own lt)

pub pend_before : (scan : Scan) (key : List ℕ) (old : ℕ) (value : List ℕ) (map : Contents) (s : ℕ)
    → map key ≡ Some (old, value)
    → pending scan map s key
    ≡ of_parts (reaches scan key) (held_at scan.held s key) (cond (nat_le old s) (Some value) None)
pend_before scan key old value map s is =
    ap (λ o. of_parts (reaches scan key) (held_at scan.held s key) (value_up_to s o)) is

-- where nothing differs at the changed key, nothing is pending otherwise
pend_each : (scan new : Scan) (key : List ℕ) (map after : Contents) (s : ℕ)
    → pending new after s key ≡ pending scan map s key
    → ((k : List ℕ) → k ≢ key → pending new after s k ≡ pending scan map s k)
    → (k : List ℕ) → pending new after s k ≡ pending scan map s k
pend_each scan new key map after s own others k =
    elim (same_or_not k key) [
      | one e ↦ ap (pending new after s) e ∙ own ∙ ap (pending scan map s) (sym e)
      | two apart ↦ others k apart
    ]

-- a change of a version keeps each held version no later than the map
follows_change : (hs : List Held) (key : List ℕ) (old new : ℕ) (value : List ℕ)
    (map after : Contents) → Follows hs map → map key ≡ Some (old, value) → old < new
    → Changes key new map after → Follows hs after
follows_change hs key old new value map after follows is lt changes k v at =
    elim (same_or_not k key) [
      | one e ↦
          let before = follows key (old, value) is in
          let own = changes.own v (ap after (sym e) ∙ at) in
          let moved = ap (held_until hs) e in
          omega (arith, before, own, moved)
      | two apart ↦ follows k v (sym (changes.others k apart) ∙ at)
    ]

-- a scan that a batch has ended owes nothing
pub outlives_ended : (key : List ℕ) (old new : ℕ) (value : List ℕ) (scan : Scan)
    → (scan.refusal ≡ None → ⊥) → Outlives key old new value scan scan
outlives_ended key old new value scan ended map after s share owes is changes early =
    absurd (ended owes.running)

-- a key that the scan doesn't reach
pub outlives_unreached : (key : List ℕ) (old new : ℕ) (value : List ℕ) (scan : Scan) → old < new
    → reaches scan key ≡ false → Outlives key old new value scan scan
outlives_unreached key old new value scan lt away map after s share owes is changes early =
    let held = held_at scan.held s key in
    renew_map scan map after s share owes
    (pend_each scan scan key map after s
    (ap (λ b. of_parts b held (value_up_to s (after key))) away
    ∙ ap (λ b. of_parts b held (value_up_to s (map key))) {x = false} {y = reaches scan key}
    (sym away))
    (λ k apart. pend_other scan map after s k (changes.others k apart)))
    (follows_change scan.held key old new value map after owes.follows is lt changes)

-- a version that the scan holds
pub outlives_held : (key : List ℕ) (old new : ℕ) (value : List ℕ) (scan : Scan) → old < new
    → scan.stamp ≡ None → reaches scan key ≡ true
    → Outlives key old new value scan
    (hold (record { key = key; since = old; until = new; value = value }) scan)
outlives_held key old new value scan lt none reached map after s share owes is changes early =
    let version : Held = record { key = key; since = old; until = new; value = value } in
    let now : Scan = hold version scan in
    let before = owes.follows key (old, value) is in
    renew scan now map after s share owes refl refl
    (pend_each scan now key map after s
    (pend_after now key new map after s changes early
    ∙ ap (λ o. cond (reaches scan key) o None)
    (held_now key old new value scan.held s early before)
    ∙ sym (pend_before scan key old value map s is))
    (λ k apart.
    ap (λ o. of_parts (reaches scan k) o (value_up_to s (after k)))
    (held_at_other version scan.held s k apart)
    ∙ pend_other scan map after s k (changes.others k apart)))
    (before, lt, owes.rising)
    (λ k v at. elim (same_or_not k key) [
      | one e ↦
          let own = changes.own v (ap after (sym e) ∙ at) in
          let moved = ap (held_until (version ∷ scan.held)) e in
          let top = held_more version scan.held in
          omega (arith, before, own, moved, top)
      | two apart ↦
          let same = held_other version scan.held k apart in
          let follows =
          follows_change scan.held key old new value map after owes.follows is lt changes k v at in
          omega (arith, same, follows)
    ])
    (λ k v at. elim (same_or_not k key) [
      | one e ↦ ap (reaches scan) e ∙ reached
      | two apart ↦ owes.within k v (sym (held_at_other version scan.held s k apart) ∙ at)
    ])
    (λ same. same)
    (λ at started. absurd (none_some at (sym none ∙ started)))

-- a version that came after the scan's stamp
pub outlives_late : (key : List ℕ) (old new : ℕ) (value : List ℕ) (scan : Scan) (at : ℕ)
    → old < new → scan.stamp ≡ Some at → at < old → Outlives key old new value scan scan
outlives_late key old new value scan at lt started behind map after s share owes is changes early =
    let settled = owes.started at started in
    let no : nat_le old s ≡ false = no_le old s (omega (arith, settled.0)) in
    let held = held_at scan.held s key in
    renew_map scan map after s share owes
    (pend_each scan scan key map after s
    (pend_after scan key new map after s changes early
    ∙ ap (λ b. of_parts (reaches scan key) held (cond b (Some value) None)) {x = false}
    {y = nat_le old s} (sym no)
    ∙ sym (pend_before scan key old value map s is))
    (λ k apart. pend_other scan map after s k (changes.others k apart)))
    (follows_change scan.held key old new value map after owes.follows is lt changes)

-- the state with one more item
pub kept_in : (state : State) (scan : Scan) (key value : List ℕ) (done : Bag)
    → state.kind ≡ scan.state.kind → Adds key value scan.state state
    → scan.state ≡ state_of scan.state.kind done → get done key ≡ None
    → state ≡ state_of state.kind (insert done key value)
kept_in state scan key value done kind adds was none =
    adds done was none ∙ ap (λ k. state_of k (insert done key value)) (sym kind)

pub got_own : (done : Bag) (key value : List ℕ) → get (insert done key value) key ≡ Some value
got_own done key value =
    get-insert total done key value key
    ∙ ap (λ b. cond b (Some value) (get done key)) (tied key)

pub got_other : (done : Bag) (key value k : List ℕ) → k ≢ key
    → get (insert done key value) k ≡ get done k
got_other done key value k apart =
    get-insert total done key value k
    ∙ ap (λ b. cond b (Some value) (get done k)) (untied k key apart)

-- where the key's value was pending and is folded now, each key still has its part
pub parts_folded : (scan new : Scan) (map after : Contents) (s : ℕ) (share done : Bag)
    (key value : List ℕ)
    → ((k : List ℕ) → get share k ≡ or_else (get done k) (pending scan map s k))
    → get done key ≡ None → pending scan map s key ≡ Some value
    → ((k : List ℕ) → k ≢ key → pending new after s k ≡ pending scan map s k)
    → (k : List ℕ) → get share k
    ≡ or_else (get (insert done key value) k) (pending new after s k)
parts_folded scan new map after s share done key value parts absent due others k =
    elim (same_or_not k key) [
      | one e ↦
          let P : List ℕ → Type 0 =
          λ q. get share q ≡ or_else (get (insert done key value) q) (pending new after s q) in
          subst P (sym e)
          (parts key ∙ ap (λ o. or_else o (pending scan map s key)) absent ∙ due
          ∙ ap (λ o. or_else o (pending new after s key)) {x = Some value}
          {y = get (insert done key value) key} (sym (got_own done key value)))
      | two apart ↦
          parts k
          ∙ ap (λ o. or_else o (pending scan map s k)) (sym (got_other done key value k apart))
          ∙ ap (or_else (get (insert done key value) k)) (sym (others k apart))
    ]

-- and no key is both folded and pending
pub once_folded : (scan new : Scan) (map after : Contents) (s : ℕ) (done : Bag)
    (key value : List ℕ)
    → ((k v : List ℕ) → pending scan map s k ≡ Some v → get done k ≡ None)
    → pending new after s key ≡ None
    → ((k : List ℕ) → k ≢ key → pending new after s k ≡ pending scan map s k)
    → (k v : List ℕ) → pending new after s k ≡ Some v → get (insert done key value) k ≡ None
once_folded scan new map after s done key value once over others k v due =
    elim (same_or_not k key) [
      | one e ↦ absurd (none_some v (sym over ∙ ap (pending new after s) (sym e) ∙ due))
      | two apart ↦ got_other done key value k apart ∙ once k v (sym (others k apart) ∙ due)
    ]

-- a version that is folded before it is overwritten
pub outlives_folded : (key : List ℕ) (old new : ℕ) (value : List ℕ) (scan : Scan) (at : ℕ)
    (state : State) → old < new → reaches scan key ≡ true → scan.stamp ≡ Some at → old ≤ at
    → state.kind ≡ scan.state.kind → Adds key value scan.state state
    → Outlives key old new value scan (refold state scan)
outlives_folded key old new value scan at state lt reached started up kind adds map after s share
    owes is changes early =
    let now : Scan = refold state scan in
    let settled = owes.started at started in
    let none_held : held_at scan.held s key ≡ None =
    ap (λ l. held_at l s key) settled.1 in
    let due : pending scan map s key ≡ Some value =
    pend_before scan key old value map s is
    ∙ ap (λ b. of_parts b (held_at scan.held s key) (cond (nat_le old s) (Some value) None)) reached
    ∙ ap (λ o. or_else o (cond (nat_le old s) (Some value) None)) none_held
    ∙ ap (λ b. cond b (Some value) None) (yes_le old s (omega (arith, settled.0))) in
    let over : pending now after s key ≡ None =
    pend_after now key new map after s changes early
    ∙ ap (λ o. of_parts (reaches scan key) o None) none_held
    ∙ ap (λ b. cond b None None) reached in
    let others = λ (k : List ℕ) (apart : k ≢ key).
    pend_other scan map after s k (changes.others k apart) in
    let absent = owes.once key value due in
    record {
      running = owes.running;
      done = insert owes.done key value;
      state = kept_in state scan key value owes.done kind adds owes.state absent;
      parts =
          parts_folded scan now map after s share owes.done key value owes.parts absent due others;
      once = once_folded scan now map after s owes.done key value owes.once over others;
      rising = owes.rising;
      follows = follows_change scan.held key old new value map after owes.follows is lt changes;
      within = owes.within;
      fresh = λ none. absurd (none_some at (sym none ∙ started));
      started = owes.started;
    }

-- a change that the scan need not hear of
pub owes_quiet : OutlivesQuietly
owes_quiet scan key new map after s share owes changes early upto absent =
    renew_map scan map after s share owes
    (pend_each scan scan key map after s
    (pend_after scan key new map after s changes early
    ∙ sym (elim (reaches scan key) as
    (λ b. reaches scan key ≡ b → of_parts b (held_at scan.held s key) (value_up_to s (map key))
    ≡ of_parts b (held_at scan.held s key) None) [
      | true ↦ λ reached.
          ap (λ o. or_else (held_at scan.held s key) (value_up_to s o)) (absent reached)
      | false ↦ λ away. refl
    ] refl))
    (λ k apart. pend_other scan map after s k (changes.others k apart)))
    (λ k v at. elim (same_or_not k key) [
      | one e ↦
          let own = changes.own v (ap after (sym e) ∙ at) in
          let up = upto k in
          omega (arith, own, up)
      | two apart ↦ owes.follows k v (sym (changes.others k apart) ∙ at)
    ])
