-- What a batch draws, passes over and meets of the counter's numbers.
use Rattle.std.proofs.Common.{◌≡◌, ◌⊎◌, inl, inr, ℕ, zero, suc, ◌+◌, ◌-◌, ◌<◌, ◌≤◌, max, List}
use Rattle.std.proofs.Common.{[], ◌∷◌, ◌++◌, map, length, Option, Some, None, Bool, true, false, cond}
use Rattle.std.proofs.Common.{refl, sym, ap, subst, ◌∙◌, arith, append-nil, All, Contains}
use Rattle.std.specs.Prelude.{nat_lt}
use Rattle.std.proofs.lemmas.Bool.Decides.{nat_tests}
use Rattle.std.proofs.lemmas.List.Elements.{All-append}
use Rattle.std.proofs.lemmas.List.Sums.{sum_by_push}
use Rattle.kv_base.specs.Reserved.{Reserved}
use Rattle.kv_base.specs.declared.reply.Reply.{Reply}
use Rattle.kv_base.specs.declared.request.Request.{Request}
use Rattle.kv_disk.specs.declared.disk.Disk as disks
use Rattle.kv_index.specs.declared.index.Index as indexes
use Rattle.kv_parties.specs.Groups.{Asked}
use Rattle.kv_parties.specs.Setting.{Setting}
use Rattle.kv_parties.specs.Stamps.{size_of, IsForGroup, IsMet}
use Rattle.kv_ring.specs.declared.task.Task.{Task}
use Rattle.kv_stamps.specs.Ranges.{range}
use Rattle.kv_stamps.specs.Seats.{first_spent}
use Rattle.kv_stamps.specs.Steps.{Raises, Spends, gap_to}
use Rattle.kv_stamps.specs.declared.view.Range.{Range}
use Rattle.kv_stamps.specs.declared.view.View.{View}
use Rattle.kv_groups.specs.Batched.{in_hand, of_session}
use Rattle.kv_groups.specs.Gathering.{Intake, intake_of, taken_by, greatest}
use Rattle.kv_worker.specs.Worker.{WorkerView}
use Rattle.kv_worker_party.specs.Serving.{HasDrawn, HasMet, HasServed}
use Rattle.kv_worker_party.specs.Turns.{asked_seen, asked_seens, asked_tasks}

-- a gap that ends behind what was seen
abbrev pub IsGapBehind : ℕ → Range → Type 0
IsGapBehind seen gap = (1 ≤ gap.count) × (gap.first + gap.count ≡ seen + 1)

-- the numbers of a batch of so many requests, above what was seen
pub record Counted (seen count : ℕ) (view later : View) : Type 0 where
  pub sizes : size_of later.drawn + size_of later.spent
      ≤ size_of view.drawn + size_of view.spent + count
  pub limits : All IsMet view.spent → All IsMet later.spent
  pub more : List Range
  pub gaps : later.gaps ≡ view.gaps ++ more
  pub each : All (IsGapBehind seen) more
  pub some : (more ≡ []) ⊎ (1 ≤ count)

size-push : (ranges : List Range) (first count : ℕ)
    → size_of (ranges ++ range first count ∷ []) ≡ size_of ranges + count
size-push ranges first count = sum_by_push (λ (r : Range). r.count) ranges (range first count)

-- a list of one, or of none
one-all : (P : Range → Type 0) (gap : Range) → P gap → All P (gap ∷ [])
one-all P gap has zero d lt = has
one-all P gap has (suc k) d lt = absurd (omega (arith, lt))

none-all : (P : Range → Type 0) → All P []
none-all P k d lt = absurd (omega (arith, lt))

-- a gap that a raise leaves ends there
gap-behind : (seen next : ℕ) → All (IsGapBehind seen) (gap_to (seen + 1) next)
gap-behind seen next = by (nat_lt next (seen + 1)) refl
  where
    by : (b : Bool) → nat_lt next (seen + 1) ≡ b
        → All (IsGapBehind seen) (cond b (range next (seen + 1 - next) ∷ []) [])
    by true is =
        let lt : next < seen + 1 = grind (arith, nat_tests) in
        one-all (IsGapBehind seen) (range next (seen + 1 - next)) (omega arith, omega arith)
    by false is = none-all (IsGapBehind seen)

raised-gaps : (to next : ℕ) (old new : View) → Raises to old next new
    → new.gaps ≡ old.gaps ++ gap_to to next
raised-gaps to next old new h = ap (λ (v : View). v.gaps) h.view

none-more : (seen count : ℕ) (view : View) → Counted seen count view view
none-more seen count view = record {
  sizes = omega arith;
  limits = λ all. all;
  more = [];
  gaps = sym (append-nil view.gaps);
  each = none-all (IsGapBehind seen);
  some = inl refl;
}

drawn-counted : (seen count base : ℕ) (view later : View) → 1 ≤ count
    → HasDrawn seen count base view later → Counted seen count view later
drawn-counted seen count base view later some h = record {
  sizes =
      let a = ap (λ (v : View). size_of v.drawn) h.draws.view in
      let b = size-push h.between.drawn base count in
      let c = ap (λ (v : View). size_of v.drawn) h.raises.view in
      let e = ap (λ (v : View). size_of v.spent) h.draws.view in
      let f = ap (λ (v : View). size_of v.spent) h.raises.view in
      omega (arith, a, b, c, e, f);
  limits = λ all. subst (All IsMet) (sym (ap (λ (v : View). v.spent) h.draws.view
      ∙ ap (λ (v : View). v.spent) h.raises.view)) all;
  more = gap_to (seen + 1) h.found;
  gaps = ap (λ (v : View). v.gaps) h.draws.view
      ∙ raised-gaps (seen + 1) h.found view h.between h.raises;
  each = gap-behind seen h.found;
  some = inr some;
}

met-counted : (seen count number : ℕ) (view later : View) → 1 ≤ count → count ≤ 512
    → HasMet seen count number view later → Counted seen count view later
met-counted seen count number view later some few h = by h.spends
  where
    drawn_is : size_of h.between.drawn ≡ size_of view.drawn
    drawn_is = ap (λ (v : View). size_of v.drawn) h.raises.view

    spent_is : size_of h.between.spent ≡ size_of view.spent
    spent_is = ap (λ (v : View). size_of v.spent) h.raises.view

    by : ((first_spent h.between.spent ≡ Some number) × (later ≡ h.between))
        ⊎ ((h.between.spent ≡ []) × Spends count h.between number later)
        → Counted seen count view later
    by (inl kept) = record {
      sizes =
          let a = ap (λ (v : View). size_of v.drawn + size_of v.spent) kept.1 in
          omega (arith, a, drawn_is, spent_is);
      limits = λ all. subst (All IsMet) (sym (ap (λ (v : View). v.spent) kept.1
          ∙ ap (λ (v : View). v.spent) h.raises.view)) all;
      more = gap_to (seen + 1) h.found;
      gaps = ap (λ (v : View). v.gaps) kept.1
          ∙ raised-gaps (seen + 1) h.found view h.between h.raises;
      each = gap-behind seen h.found;
      some = inr some;
    }
    by (inr met) = record {
      sizes =
          let a = ap (λ (v : View). size_of v.drawn) met.1.view in
          let b = ap (λ (v : View). size_of v.spent) met.1.view in
          let c = size-push h.between.spent number count in
          omega (arith, a, b, c, drawn_is, spent_is);
      limits = λ all. subst (All IsMet) (sym (ap (λ (v : View). v.spent) met.1.view))
          (All-append IsMet h.between.spent (range number count ∷ [])
          (subst (All IsMet) (sym (ap (λ (v : View). v.spent) h.raises.view)) all)
          (one-all IsMet (range number count) (some, (met.1.passes, few))));
      more = gap_to (seen + 1) h.found;
      gaps = ap (λ (v : View). v.gaps) met.1.view
          ∙ raised-gaps (seen + 1) h.found view h.between h.raises;
      each = gap-behind seen h.found;
      some = inr some;
    }

-- so it is with a batch of any outcome
pub served-counted : {D I : Type 0} (d : disks.Ghosts D) (i : indexes.Ghosts I)
    (old now : WorkerView D I) (seen : ℕ) (view later : View) (requests : List Request)
    (replies : List Reply) → length requests ≤ 512
    → HasServed d i old now view later seen requests replies
    → Counted seen (length requests) view later
served-counted {D} {I} d i old now seen view later requests replies few served = by served
  where
    same : later ≡ view → Counted seen (length requests) view later
    same e = subst (Counted seen (length requests) view) (sym e)
        (none-more seen (length requests) view)

    by : HasServed d i old now view later seen requests replies
        → Counted seen (length requests) view later
    by (inl idle) = same idle.view_is
    by (inr (inl closed)) = same closed.view_is
    by (inr (inr (inl spent))) =
        met-counted seen (length requests) spent.number view later spent.some few spent.met
    by (inr (inr (inr stepped))) =
        drawn-counted seen (length requests) stepped.base view later stepped.some stepped.drawn

module _ {F : Type 0} where
  -- the greatest is 0, or was seen with a group that is taken
  attained : (worker workers : ℕ) (intakes : List (Intake F))
      → (greatest (asked_seens worker workers intakes) ≡ 0)
      ⊎ ((s : ℕ) × (s < length intakes)
      × (asked_seen (taken_by worker workers (intake_of intakes s))
      ≡ greatest (asked_seens worker workers intakes)))
  attained worker workers [] = inl refl
  attained worker workers (intake ∷ intakes) =
      by (attained worker workers intakes) (larger here rest)
    where
      here : ℕ
      here = asked_seen (taken_by worker workers intake)

      rest : ℕ
      rest = greatest (asked_seens worker workers intakes)

      larger : (m n : ℕ) → ((n ≤ m) × (max m n ≡ m)) ⊎ ((m < n) × (max m n ≡ n))
      larger m n = grind arith

      by : (rest ≡ 0) ⊎ ((s : ℕ) × (s < length intakes)
          × (asked_seen (taken_by worker workers (intake_of intakes s)) ≡ rest))
          → ((rest ≤ here) × (max here rest ≡ here)) ⊎ ((here < rest) × (max here rest ≡ rest))
          → (max here rest ≡ 0) ⊎ ((s : ℕ) × (s < suc (length intakes))
          × (asked_seen (taken_by worker workers (intake_of (intake ∷ intakes) s)) ≡ max here rest))
      by found (inl first) = inr (0, omega arith, sym first.1)
      by (inl none) (inr later) = absurd (omega (arith, none, later.0))
      by (inr found) (inr later) =
          inr (suc found.0, omega (arith, found.1), found.2 ∙ sym later.1)

  -- where there is a task, a group is taken
  some-taken : (worker workers from : ℕ) (intakes : List (Intake F))
      → ((s : ℕ) → s < length intakes
      → (intake_of intakes s).tasks ≡ asked_tasks (taken_by worker workers (intake_of intakes s)))
      → 1 ≤ length (in_hand from (map (λ intake. intake.tasks) intakes))
      → (s : ℕ) × (s < length intakes) × ((group : ℕ × Reserved Task)
      × (taken_by worker workers (intake_of intakes s) ≡ Some group))
  some-taken worker workers from [] each some = absurd (omega (arith, some))
  some-taken worker workers from (intake ∷ intakes) each some =
      by (taken_by worker workers intake) refl
      (λ rest. some-taken worker workers (from + 1) intakes
      (λ s lt. each (suc s) (omega (arith, lt))) rest)
    where
      Later : Type 0
      Later = (s : ℕ) × (s < length intakes) × ((group : ℕ × Reserved Task)
          × (taken_by worker workers (intake_of intakes s) ≡ Some group))

      by : (o : Option (ℕ × Reserved Task)) → taken_by worker workers intake ≡ o
          → (1 ≤ length (in_hand (from + 1) (map (λ (j : Intake F). j.tasks) intakes)) → Later)
          → (s : ℕ) × (s < suc (length intakes)) × ((group : ℕ × Reserved Task)
          × (taken_by worker workers (intake_of (intake ∷ intakes) s) ≡ Some group))
      by (Some group) is later = (0, omega arith, (group, is))
      by None is later =
          let none : intake.tasks ≡ [] = each 0 (omega arith) ∙ ap asked_tasks is in
          let found = later (subst (λ ts. 1 ≤ length (of_session from ts
          ++ in_hand (from + 1) (map (λ (j : Intake F). j.tasks) intakes))) none some) in
          (suc found.0, omega (arith, found.1), found.2)

  -- a group was taken whose session had seen the greatest
  pub greatest-taken : (worker workers : ℕ) (intakes : List (Intake F))
      → ((s : ℕ) → s < length intakes
      → (intake_of intakes s).tasks ≡ asked_tasks (taken_by worker workers (intake_of intakes s)))
      → ((s : ℕ) → s < length intakes → asked_seen (taken_by worker workers (intake_of intakes s))
      ≤ greatest (asked_seens worker workers intakes))
      → 1 ≤ length (in_hand 0 (map (λ intake. intake.tasks) intakes))
      → (s : ℕ) × (s < length intakes) × ((group : ℕ × Reserved Task)
      × ((taken_by worker workers (intake_of intakes s) ≡ Some group)
      × (group.0 ≡ greatest (asked_seens worker workers intakes))))
  greatest-taken worker workers intakes each most some = by (attained worker workers intakes)
    where
      top : ℕ
      top = greatest (asked_seens worker workers intakes)

      zero-top : top ≡ 0 → (s : ℕ) × (s < length intakes) × ((group : ℕ × Reserved Task)
          × ((taken_by worker workers (intake_of intakes s) ≡ Some group) × (group.0 ≡ top)))
      zero-top none =
          let found = some-taken worker workers 0 intakes each some in
          let low = most found.0 found.1 in
          let is = ap asked_seen found.2.1 in
          (found.0, found.1, (found.2.0, (found.2.1, omega (arith, low, is, none))))

      at : (s : ℕ) → s < length intakes → (o : Option (ℕ × Reserved Task))
          → taken_by worker workers (intake_of intakes s) ≡ o → asked_seen o ≡ top
          → (s : ℕ) × (s < length intakes) × ((group : ℕ × Reserved Task)
          × ((taken_by worker workers (intake_of intakes s) ≡ Some group) × (group.0 ≡ top)))
      at s lt None is same = zero-top (sym same)
      at s lt (Some group) is same = (s, lt, (group, (is, same)))

      by : (top ≡ 0) ⊎ ((s : ℕ) × (s < length intakes)
          × (asked_seen (taken_by worker workers (intake_of intakes s)) ≡ top))
          → (s : ℕ) × (s < length intakes) × ((group : ℕ × Reserved Task)
          × ((taken_by worker workers (intake_of intakes s) ≡ Some group) × (group.0 ≡ top)))
      by (inl none) = zero-top none
      by (inr found) = at found.0 found.1 (taken_by worker workers (intake_of intakes found.0)) refl
          found.2

-- a gap for a group stays one when more groups are taken
pub gaps-longer : (setting : Setting) (taken more : ℕ → List Asked) (gaps : List Range)
    → ((session : ℕ) (asked : Asked) → Contains (taken session) asked
    → Contains (more session) asked) → All (IsForGroup setting taken) gaps
    → All (IsForGroup setting more) gaps
gaps-longer setting taken more gaps there all k d lt =
    let g = all k d lt in record {
      some = g.some;
      session = g.session;
      known = g.known;
      asked = g.asked;
      there = there g.session g.asked g.there;
      last = g.last;
    }

-- gaps behind what was seen with a group that is taken
pub gaps-for : (setting : Setting) (taken : ℕ → List Asked) (gaps : List Range) (session : ℕ)
    (asked : Asked) → session < setting.sessions → Contains (taken session) asked
    → All (IsGapBehind asked.seen) gaps → All (IsForGroup setting taken) gaps
gaps-for setting taken gaps session asked known there all k d lt =
    let g = all k d lt in record {
      some = g.0;
      session = session;
      known = known;
      asked = asked;
      there = there;
      last = g.1;
    }
