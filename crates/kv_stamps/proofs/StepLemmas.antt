-- Each step on the counter's word keeps the rule.
use Rattle.std.proofs.Common.{◌≡◌, ℕ, ◌+◌, ◌*◌, ◌%◌, ◌^◌, ◌<◌, ◌≤◌, max, List, [], ◌∷◌}
use Rattle.std.proofs.Common.{length, set, refl, sym, ap, subst, ⊎_elim, arith, length-append}
use Rattle.std.proofs.Common.{le_refl}
use Rattle.std.specs.Prelude.{slice_index, slice_set}
use Rattle.std.proofs.lemmas.Bool.{cases_lt}
use Rattle.std.proofs.lemmas.List.Elements.{All-push}
use Rattle.std.proofs.lemmas.List.Sums.{sum_by-append, sum_by_push}
use Rattle.std.proofs.Math.Nat.{mod-eq_of_lt}
use Rattle.atomic_table.specs.Table.{State, Me, Act, keeps, Valid, carried_after, Allows}
use Rattle.kv_stamps.specs.declared.view.Origin.{Origin}
use Rattle.kv_stamps.specs.declared.view.View.{View}
use Rattle.kv_stamps.specs.Ranges.{range, below, within, EndsBy, IsOfStamps, PassesLimit}
use Rattle.kv_stamps.specs.Rule.{times_in, refusals, IsLive, IsSeat, PartitionsNumbers}
use Rattle.kv_stamps.specs.Steps.{seen_view, Looks, gap_to, raised_view, Raises, drawn_view, Draws}
use Rattle.kv_stamps.specs.Steps.{spent_view, Spends, HasNoNumberTwice}
use Rattle.kv_stamps.proofs.RangeLemmas.{within-range, among-gap_to, gap_to-EndsBy, EndsBy-later}
use Rattle.kv_stamps.proofs.RangeLemmas.{EndsBy-append}
use Rattle.kv_stamps.proofs.RuleLemmas.{Kept, live_seat, live_at, changes, next-le}
use Rattle.kv_stamps.proofs.RuleLemmas.{has_all_numbers, times_in-le}

module _ {S : Type 0} (origin : Origin) where
  -- the seat has a new view, which keeps the rule where the word becomes f of what it was
  abbrev Stepped : State S View → ℕ → Me S View → (ℕ → ℕ) → (ℕ → Me S View → Type 0) → List ℕ
      → Type 0
  Stepped state id me f then words =
      let next : ℕ = slice_index words 0 in
      (w : View) × (a : Act S) × Valid state.homes me.1 a
      × PartitionsNumbers origin (slice_set words 0 (f next)) (slice_set state.views id w)
      × then next (w, carried_after me.1 a)

  -- so it is enough to keep the rule at the next number
  goes : (state : State S View) (id : ℕ) (me : Me S View) (f : ℕ → ℕ)
      (then : ℕ → Me S View → Type 0) (h : Kept origin state) (new : View)
      → PartitionsNumbers origin (f h.next ∷ []) (set state.views id new)
      → then h.next (new, me.1)
      → Stepped state id me f then state.words
  goes state id me f then h new kept told =
      subst (Stepped state id me f then) (sym h.word) (new, keeps, tt, kept, told)

  -- a load that the seat notes
  pub looks : (slots id : ℕ) (me : Me S View) → 1 ≤ me.0.weight
      → Allows (Kept origin) slots id me 0 (λ next. next)
      (λ next new. (new.1 ≡ me.1) × Looks me.0 next new.0)
  looks slots id me has state h len at small =
      let old : View = me.0 in
      let was = live_at origin state.words state.views id old h at has in
      let l = was.1 in
      let new : View = seen_view h.next old in
      let live : IsLive h.next new = record {
        drawn = l.drawn;
        below = EndsBy-later old.seen h.next old.drawn l.seen l.below;
        spent = l.spent;
        started = omega (arith, l.started, l.seen);
        seen = le_refl h.next;
        raised = l.raised;
        gaps = l.gaps;
        share = l.share;
        few = l.few;
      } in
      goes state id me (λ next. next) (λ next new. (new.1 ≡ me.1) × Looks me.0 next new.0) h new
      (changes origin state.words state.views id old new h.next h at (le_refl h.next)
      (live_seat origin h.next new was.0 live) (λ number. refl) refl (λ others le. le)) (
        refl,
        record {
          view = refl;
          later = l.seen;
          rule = live;
          once = times_in-le origin state.words state.views id old h at;
          all = λ whole.
              let a = has_all_numbers origin state.words state.views id old h at has whole in
              record { numbers = a.numbers; limit = a.limit };
        },
      )

  -- a load that it doesn't note
  pub checks : (slots id : ℕ) (me : Me S View) → 1 ≤ me.0.weight
      → Allows (Kept origin) slots id me 0 (λ next. next)
      (λ next new. (new ≡ me) × HasNoNumberTwice me.0)
  checks slots id me has state h len at small =
      let was = live_at origin state.words state.views id me.0 h at has in
      goes state id me (λ next. next) (λ next new. (new ≡ me) × HasNoNumberTwice me.0) h me.0
      (changes origin state.words state.views id me.0 me.0 h.next h at (le_refl h.next)
      (live_seat origin h.next me.0 was.0 was.1) (λ number. refl) refl (λ others le. le))
      (refl, times_in-le origin state.words state.views id me.0 h at)

  -- a fetch_max
  pub raises : (slots id : ℕ) (me : Me S View) (to : ℕ) → 1 ≤ me.0.weight → to ≤ 2 ^ 62
      → Allows (Kept origin) slots id me 0 (λ next. max next to)
      (λ next new. (new.1 ≡ me.1) × Raises to me.0 next new.0)
  raises slots id me to has low state h len at small =
      let old : View = me.0 in
      let was = live_at origin state.words state.views id old h at has in
      let l = was.1 in
      let next : ℕ = max h.next to in
      let new : View = raised_view to h.next old in
      let live : IsLive next new = record {
        drawn = l.drawn;
        below = EndsBy-later old.seen next old.drawn (omega (arith, l.seen)) l.below;
        spent = l.spent;
        started = omega (arith, l.started, l.seen);
        seen = le_refl next;
        raised = omega (arith, l.raised);
        gaps = EndsBy-append old.raised to old.gaps (gap_to to h.next) l.gaps
            (gap_to-EndsBy to h.next);
        share = l.share;
        few = l.few;
      } in
      goes state id me (λ next. max next to)
      (λ next new. (new.1 ≡ me.1) × Raises to me.0 next new.0) h new
      (changes origin state.words state.views id old new next h at (omega arith)
      (live_seat origin next new was.0 live)
      (λ number. omega (
        arith,
        among-gap_to number to h.next,
        sum_by-append (within number) old.gaps (gap_to to h.next),
      ))
      refl (λ others le. omega arith))
      (refl, record { view = refl; later = l.seen; rule = live })

  -- a fetch_add, by a seat that met no StampsSpent
  pub draws : (slots id : ℕ) (me : Me S View) (count : ℕ) → 1 ≤ me.0.weight → me.0.spent ≡ []
      → 1 ≤ count → count ≤ 512
      → Allows (Kept origin) slots id me 0 (λ next. (next + count) % 2 ^ 64)
      (λ next new. (new.1 ≡ me.1) × (next + count ≤ 2 ^ 62 → Draws count me.0 next new.0)
      × (2 ^ 62 < next + count → Spends count me.0 next new.0))
  draws slots id me count has none more few state h len at small =
      let old : View = me.0 in
      let was = live_at origin state.words state.views id old h at has in
      let l = was.1 in
      let next : ℕ = h.next in
      let no_runs : length old.spent ≡ 0 = ap length none in
      let top = next-le origin state.words state.views h in
      let fits : (next + count) % 2 ^ 64 ≡ next + count = mod-eq_of_lt (omega arith) in
      let started : old.start ≤ next = omega (arith, l.started, l.seen) in
      let raised : old.raised ≤ next + count = omega (arith, l.raised) in
      let under = EndsBy-later old.seen (next + count) old.drawn (omega (arith, l.seen)) l.below in
      let step : (new : View) → new.weight ≡ old.weight
      → IsSeat origin (next + count) new
      → ((number : ℕ) → times_in number new + below number next
      ≡ times_in number old + below number (next + count))
      → ((others : ℕ) → next ≤ 2 ^ 62 + 512 * (others + refusals old)
      → next + count ≤ 2 ^ 62 + 512 * (others + refusals new))
      → PartitionsNumbers origin ((next + count) % 2 ^ 64 ∷ []) (set state.views id new) =
      λ new same seat moved room.
      subst (λ (n : ℕ). PartitionsNumbers origin (n ∷ []) (set state.views id new)) (sym fits)
      (changes origin state.words state.views id old new (next + count) h at (omega arith)
      seat moved same room) in
      let then : ℕ → Me S View → Type 0 = λ next new. (new.1 ≡ me.1)
      × (next + count ≤ 2 ^ 62 → Draws count me.0 next new.0)
      × (2 ^ 62 < next + count → Spends count me.0 next new.0) in
      ⊎_elim
      (λ (past : 2 ^ 62 < next + count).
      let new : View = spent_view count next old in
      let longer : length new.spent ≡ length old.spent + 1 =
      length-append old.spent (range next count ∷ []) in
      let live : IsLive (next + count) new = record {
        drawn = l.drawn;
        below = under;
        spent = All-push PassesLimit old.spent (range next count) l.spent (past, few);
        started = omega arith;
        seen = le_refl (next + count);
        raised = raised;
        gaps = l.gaps;
        share = l.share;
        few = omega arith;
      } in
      goes state id me (λ next. (next + count) % 2 ^ 64) then h new
      (step new refl (live_seat origin (next + count) new was.0 live)
      (λ number. omega (
        arith,
        within-range number next count,
        sum_by_push (within number) old.spent (range next count),
      ))
      (λ others le. omega arith)) (
        refl,
        (λ fit. absurd (omega arith)),
        λ p. record { passes = past; view = refl; later = l.seen; rule = live },
      ))
      (λ (fit : next + count ≤ 2 ^ 62).
      let new : View = drawn_view count next old in
      let live : IsLive (next + count) new = record {
        drawn = All-push (IsOfStamps old.start) old.drawn (range next count) l.drawn
            (started, more, fit);
        below = All-push (EndsBy (next + count)) old.drawn (range next count) under
            (le_refl (next + count));
        spent = l.spent;
        started = omega arith;
        seen = le_refl (next + count);
        raised = raised;
        gaps = l.gaps;
        share = l.share;
        few = l.few;
      } in
      goes state id me (λ next. (next + count) % 2 ^ 64) then h new
      (step new refl (live_seat origin (next + count) new was.0 live)
      (λ number. omega (
        arith,
        within-range number next count,
        sum_by_push (within number) old.drawn (range next count),
      ))
      (λ others le. omega arith)) (
        refl,
        (λ f. record {
          fits = fit;
          view = refl;
          later = l.seen;
          above = l.raised;
          rule = live;
        }),
        λ past. absurd (omega arith),
      ))
      (cases_lt (2 ^ 62) (next + count))
