-- The calls of an entry, from what they did.
use Rattle.std.proofs.Common.{◌≡◌, ℕ, ◌<◌, ◌≤◌, true, false, List, [], ◌&&◌, Option}
use Rattle.std.proofs.Common.{None, Some, refl, sym, ap, ◌∙◌, subst, arith, nat_lt}
use Rattle.std.proofs.Common.{IsSome, is_none}
use Rattle.std.proofs.lemmas.Bool.Decides.{nat_tests}
use Rattle.std.specs.Ordering.{is_le}
use Rattle.kv_model.specs.Items.{is_in_range}
use Rattle.kv_fold.specs.Bags.{order}
use Rattle.kv_fold.specs.States.{State, Adds}
use Rattle.kv_fold.proofs.OrderLemmas.{none_some}
use Rattle.kv_scan.specs.Scans.{Scan, reaches, wants, refold, pass, started_scan, next_key}
use Rattle.kv_scan.specs.Scans.{scan_at_end}
use Rattle.kv_scan.specs.Owes.{Owes, KeepsOwing, Outlives, Starts, Walks, is_later}
use Rattle.kv_scan.specs.Drains.{Drains}
use Rattle.kv_scan.proofs.KeyLemmas.{left_true, right_true, le_next}
use Rattle.kv_scan.proofs.ChangeLemmas.{outlives_unreached, outlives_ended}
use Rattle.kv_scan.proofs.WalkLemmas.{owes_passed, owes_walked, owes_at_end}
use Rattle.kv_scan.proofs.DrainLemmas.{owes_started}

-- a scan that doesn't want to hear of the key
pub outlives_unwanted : (key : List ℕ) (since until : ℕ) (value : List ℕ) (scan : Scan)
    → since < until → wants scan key ≡ false → Outlives key since until value scan scan
outlives_unwanted key since until value scan lt unwanted =
    elim scan.refusal as
    (λ o. scan.refusal ≡ o → (is_none o && reaches scan key) ≡ false
    → Outlives key since until value scan scan) [
      | None ↦ λ is away. outlives_unreached key since until value scan lt away
      | Some why ↦ λ is away.
          outlives_ended key since until value scan (λ none. none_some why (sym none ∙ is))
    ] refl unwanted

pub reached_of : (scan : Scan) (key : List ℕ) → wants scan key ≡ true → reaches scan key ≡ true
reached_of scan key h = right_true (is_none scan.refusal) (reaches scan key) h

pub starts_by : (s : ℕ) (view now new : Scan) (state : State) → view ≡ now → now.stamp ≡ None
    → state.kind ≡ view.state.kind → Drains s view.state view.held state []
    → new ≡ started_scan s state view → Starts s now new
starts_by s view now new state is none kind drains same map share owes =
    let P : Scan → Type 0 = λ q. Owes q map s share in
    subst P (sym same)
    (owes_started view map s share state (ap (λ (q : Scan). q.stamp) is ∙ none)
    (subst P (sym is) owes) kind drains)

some_stamp : (o : Option ℕ) → IsSome o → (at : ℕ) × (o ≡ Some at)
some_stamp None h = cc
some_stamp (Some at) h = (at, refl)

later_lt : (at stamp : ℕ) → nat_lt at stamp ≡ true → at < stamp
later_lt at stamp h = grind (arith, nat_tests)

later_le : (at stamp : ℕ) → nat_lt at stamp ≡ false → stamp ≤ at
later_le at stamp h = grind (arith, nat_tests)

pub walks_over : (key value : List ℕ) (stamp : ℕ) (scan new : Scan) → IsSome scan.stamp
    → is_later scan.stamp stamp ≡ true → new ≡ pass (next_key key) scan
    → Walks key (stamp, value) scan new
walks_over key value stamp scan new some late is map s share owes has next =
    let at = some_stamp scan.stamp some in
    let above = later_lt at.0 stamp (sym (ap (λ o. is_later o stamp) at.1) ∙ late) in
    let P : Scan → Type 0 = λ q. Owes q map s share in
    subst P (sym is) (owes_passed scan map s share at.0 key value stamp owes at.1 next has above)

pub walks_in : (key value : List ℕ) (stamp : ℕ) (scan new : Scan) (state : State)
    → IsSome scan.stamp → is_later scan.stamp stamp ≡ false → state.kind ≡ scan.state.kind
    → Adds key value scan.state state → new ≡ pass (next_key key) (refold state scan)
    → Walks key (stamp, value) scan new
walks_in key value stamp scan new state some late kind adds is map s share owes has next =
    let at = some_stamp scan.stamp some in
    let up = later_le at.0 stamp (sym (ap (λ o. is_later o stamp) at.1) ∙ late) in
    let P : Scan → Type 0 = λ q. Owes q map s share in
    subst P (sym is)
    (owes_walked scan map s share at.0 key value stamp state owes at.1 next has up kind adds)

pub outlives_by : (key : List ℕ) (since until : ℕ) (value : List ℕ) (scan new other : Scan)
    → new ≡ other → Outlives key since until value scan other
    → Outlives key since until value scan new
outlives_by key since until value scan new other is outlives =
    subst (λ q. Outlives key since until value scan q) (sym is) outlives

-- behind a key of the range the walk stands at or after the range's low end
pub from_next : (low high key next : List ℕ) → is_in_range low high key ≡ true
    → next ≡ next_key key → is_le (order low next) ≡ true
from_next low high key next inside is =
    ap (λ k. is_le (order low k)) is
    ∙ le_next low key (left_true (is_le (order low key)) _ inside)

pub ends_by : (view now new : Scan) → view ≡ now → new ≡ scan_at_end view → KeepsOwing now new
ends_by view now new is same map s share owes =
    let P : Scan → Type 0 = λ q. Owes q map s share in
    subst P (sym same) (owes_at_end view map s share (subst P (sym is) owes))
