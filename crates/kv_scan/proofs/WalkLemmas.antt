-- What a scan owes along its walk.
use Rattle.std.proofs.Common.{◌≡◌, ◌≢◌, ℕ, ◌<◌, ◌≤◌, true, false, cond, List, []}
use Rattle.std.proofs.Common.{◌&&◌, Option, None, Some, Less, Equal, Greater, refl, sym, ap, ◌∙◌}
use Rattle.std.proofs.Common.{arith, nat_le}
use Rattle.std.specs.Ordering.{is_le}
use Rattle.std.specs.FinMap.{get, insert, same_map}
use Rattle.std.proofs.lemmas.Cmp.{nat_list_cmp_total as total}
use Rattle.kv_model.specs.Items.{is_in_range}
use Rattle.kv_fold.specs.Bags.{order, Bag, or_else}
use Rattle.kv_fold.specs.States.{State, state_of, Adds}
use Rattle.kv_fold.proofs.OrderLemmas.{one_key, none_some, turned, turned_back}
use Rattle.kv_scan.specs.Scans.{Contents, Scan, reaches, pending, held_at, value_up_to}
use Rattle.kv_scan.specs.Scans.{next_key, refold, pass, scan_at_end}
use Rattle.kv_scan.specs.Owes.{Owes, IsNextOf, KeepsOwing}
use Rattle.kv_scan.specs.Laws.{FoldsShare}
use Rattle.kv_scan.proofs.KeyLemmas.{greater_next, next_le, le_then_less, right_true, and_false}
use Rattle.kv_scan.proofs.KeyLemmas.{one, two, same_or_not}
use Rattle.kv_scan.proofs.HeldLemmas.{no_le, yes_le, of_parts, renew}
use Rattle.kv_scan.proofs.ChangeLemmas.{pend_before, kept_in, parts_folded, once_folded}

-- where a scan has walked past a key, it owes nothing of it
passed_by : (scan : Scan) (map : Contents) (s : ℕ) (cursor k : List ℕ)
    → is_le (order cursor k) ≡ false → pending (pass cursor scan) map s k ≡ None
passed_by scan map s cursor k gone =
    let held = held_at scan.held s k in
    ap (λ b. of_parts (is_in_range scan.low scan.high k && b) held (value_up_to s (map k))) gone
    ∙ ap (λ b. of_parts b held (value_up_to s (map k)))
    (and_false (is_in_range scan.low scan.high k))

-- where it has not, it owes what it owed
not_passed : (scan : Scan) (map : Contents) (s : ℕ) (cursor k : List ℕ)
    → is_le (order cursor k) ≡ true → is_le (order scan.cursor k) ≡ true
    → pending (pass cursor scan) map s k ≡ pending scan map s k
not_passed scan map s cursor k ahead before =
    ap (λ b. of_parts (is_in_range scan.low scan.high k && b) (held_at scan.held s k)
    (value_up_to s (map k))) (ahead ∙ sym before)

-- before the next key nothing was pending
pend_passed : (scan : Scan) (map : Contents) (s : ℕ) (key : List ℕ) → scan.held ≡ []
    → IsNextOf scan map key → (k : List ℕ) → order k key ≡ Less → pending scan map s k ≡ None
pend_passed scan map s key drained next k is =
    elim (reaches scan k) as
    (λ b. reaches scan k ≡ b → of_parts b (held_at scan.held s k) (value_up_to s (map k)) ≡ None) [
      | true ↦ λ reached.
          ap (λ l. or_else (held_at l s k) (value_up_to s (map k))) drained
          ∙ ap (value_up_to s) (next.least k reached is)
      | false ↦ λ away. refl
    ] refl

-- all that was pending beside the key that is walked stays pending
walked_rest : (scan : Scan) (map : Contents) (s : ℕ) (key : List ℕ) (state : State)
    → scan.held ≡ [] → IsNextOf scan map key → (k : List ℕ) → k ≢ key
    → pending (pass (next_key key) (refold state scan)) map s k ≡ pending scan map s k
walked_rest scan map s key state drained next k apart =
    let now : Scan = refold state scan in
    elim (order k key) as
    (λ r. order k key ≡ r → pending (pass (next_key key) now) map s k ≡ pending scan map s k) [
      | Less ↦ λ is.
          passed_by now map s (next_key key) k
          (ap is_le
          (turned k (next_key key) (total.trans k key (next_key key) is (greater_next key))))
          ∙ sym (pend_passed scan map s key drained next k is)
      | Equal ↦ λ is. absurd (apart (one_key k key is))
      | Greater ↦ λ is.
          not_passed now map s (next_key key) k (next_le key k is)
          (ap is_le (le_then_less scan.cursor key k
          (right_true (is_in_range scan.low scan.high key) _ next.reached) (turned_back k key is)))
    ] refl

walked_own : (scan : Scan) (map : Contents) (s : ℕ) (key : List ℕ) (state : State)
    → pending (pass (next_key key) (refold state scan)) map s key ≡ None
walked_own scan map s key state =
    passed_by (refold state scan) map s (next_key key) key
    (ap is_le (turned key (next_key key) (greater_next key)))

walked_due : (scan : Scan) (map : Contents) (s : ℕ) (key value : List ℕ) (stamp : ℕ)
    → scan.held ≡ [] → reaches scan key ≡ true → map key ≡ Some (stamp, value)
    → pending scan map s key ≡ cond (nat_le stamp s) (Some value) None
walked_due scan map s key value stamp drained reached is =
    let mapped = cond (nat_le stamp s) (Some value) None in
    pend_before scan key stamp value map s is
    ∙ ap (λ b. of_parts b (held_at scan.held s key) mapped) reached
    ∙ ap (λ l. or_else (held_at l s key) mapped) drained

-- a started scan holds nothing
pub nothing_held : (scan : Scan) (s : ℕ) → scan.held ≡ [] → (k v : List ℕ)
    → held_at scan.held s k ≡ Some v → ⊥
nothing_held scan s drained k v held =
    none_some v (ap (λ l. held_at l s k) (sym drained) ∙ held)

-- the walk passes over a key with a later stamp
pub owes_passed : (scan : Scan) (map : Contents) (s : ℕ) (share : Bag) (at : ℕ)
    (key value : List ℕ) (stamp : ℕ) → Owes scan map s share → scan.stamp ≡ Some at
    → IsNextOf scan map key → map key ≡ Some (stamp, value) → at < stamp
    → Owes (pass (next_key key) scan) map s share
owes_passed scan map s share at key value stamp owes started next is above =
    let settled = owes.started at started in
    let now : Scan = pass (next_key key) scan in
    let nothing : pending scan map s key ≡ None =
    walked_due scan map s key value stamp settled.1 next.reached is
    ∙ ap (λ b. cond b (Some value) None) (no_le stamp s (omega (arith, settled.0))) in
    renew scan now map map s share owes refl refl
    (λ k. elim (same_or_not k key) [
      | one e ↦
          ap (pending now map s) e ∙ walked_own scan map s key scan.state ∙ sym nothing
          ∙ ap (pending scan map s) (sym e)
      | two apart ↦ walked_rest scan map s key scan.state settled.1 next k apart
    ])
    owes.rising owes.follows
    (λ k v held. absurd (nothing_held scan s settled.1 k v held))
    (λ none. none) owes.started

-- the walk folds a key
pub owes_walked : (scan : Scan) (map : Contents) (s : ℕ) (share : Bag) (at : ℕ)
    (key value : List ℕ) (stamp : ℕ) (state : State) → Owes scan map s share
    → scan.stamp ≡ Some at → IsNextOf scan map key → map key ≡ Some (stamp, value)
    → stamp ≤ at → state.kind ≡ scan.state.kind → Adds key value scan.state state
    → Owes (pass (next_key key) (refold state scan)) map s share
owes_walked scan map s share at key value stamp state owes started next is up kind adds =
    let settled = owes.started at started in
    let now : Scan = pass (next_key key) (refold state scan) in
    let due : pending scan map s key ≡ Some value =
    walked_due scan map s key value stamp settled.1 next.reached is
    ∙ ap (λ b. cond b (Some value) None) (yes_le stamp s (omega (arith, settled.0))) in
    let others = walked_rest scan map s key state settled.1 next in
    let absent = owes.once key value due in
    record {
      running = owes.running;
      done = insert owes.done key value;
      state = kept_in state scan key value owes.done kind adds owes.state absent;
      parts =
          parts_folded scan now map map s share owes.done key value owes.parts absent due others;
      once =
          once_folded scan now map map s owes.done key value owes.once
          (walked_own scan map s key state) others;
      rising = owes.rising;
      follows = owes.follows;
      within = λ k v held. absurd (nothing_held scan s settled.1 k v held);
      fresh = λ none. absurd (none_some at (sym none ∙ started));
      started = owes.started;
    }

-- the walk hears that no key is left
pub owes_at_end : (scan : Scan) → KeepsOwing scan (scan_at_end scan)
owes_at_end scan map s share owes =
    renew scan (scan_at_end scan) map map s share owes refl refl (λ k. refl) owes.rising
    owes.follows owes.within (λ none. none) owes.started

or_none : (o : Option (List ℕ)) → or_else o None ≡ o
or_none None = refl
or_none (Some v) = refl

-- where nothing is left to walk, the fold is that of the share
pub owes_finished : FoldsShare
owes_finished scan map s share at owes started none =
    let settled = owes.started at started in
    let over : (k : List ℕ) → pending scan map s k ≡ None =
    λ k. elim (reaches scan k) as
    (λ b. reaches scan k ≡ b → of_parts b (held_at scan.held s k) (value_up_to s (map k)) ≡ None) [
      | true ↦ λ is.
          ap (λ l. or_else (held_at l s k) (value_up_to s (map k))) settled.1
          ∙ ap (value_up_to s) (none k is)
      | false ↦ λ is. refl
    ] refl in
    let same : share ≡ owes.done =
    same_map total one_key share owes.done
    (λ k. owes.parts k ∙ ap (or_else (get owes.done k)) (over k) ∙ or_none (get owes.done k)) in
    owes.state ∙ ap (state_of scan.state.kind) (sym same)
