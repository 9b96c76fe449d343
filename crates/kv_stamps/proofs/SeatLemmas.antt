-- Splitting a seat off another and joining two keep the rule.
use Rattle.std.proofs.Common.{◌≡◌, ◌≢◌, ℕ, ◌+◌, ◌<◌, ◌≤◌, List, [], set}
use Rattle.std.proofs.Common.{length, refl, sym, ap, ◌∙◌, subst, ⊎_elim, arith, length-append}
use Rattle.std.proofs.Common.{le_refl, zero-le}
use Rattle.std.specs.Prelude.{All}
use Rattle.std.proofs.lemmas.List.Elements.{All-append, All-push, All-nil, All-set}
use Rattle.std.proofs.lemmas.List.Sums.{sum_by-append, sum_by_push}
use mathlib.Core.Option.{some}
use lib.ListN.{get_elem?}
use Rattle.atomic_table.specs.Table.{Splits, Joins}
use Rattle.atomic_table.proofs.Lists.{at_set}
use Rattle.kv_stamps.specs.declared.view.Origin.{Origin}
use Rattle.kv_stamps.specs.declared.view.View.{View}
use Rattle.kv_stamps.specs.Ranges.{within, EndsBy, IsOfStamps, PassesLimit}
use Rattle.kv_stamps.specs.Rule.{times_in, refusals, weight, left_view, IsLive, IsSeat}
use Rattle.kv_stamps.specs.Steps.{kept_view, split_view, joined_view}
use Rattle.kv_stamps.proofs.RangeLemmas.{EndsBy-append}
use Rattle.kv_stamps.proofs.RuleLemmas.{Kept, live_seat, live_at}
use Rattle.kv_stamps.proofs.Sums.{sum_set}

module _ {S : Type 0} (origin : Origin) where
  -- a seat is split off another that met no StampsSpent
  pub splits : (id : ℕ) (view : View) → 1 < view.weight → view.spent ≡ []
      → Splits {S = S} (Kept origin) id view (kept_view view) (split_view view)
  splits id view two none state h at =
      let was = live_at origin state.words state.views id view h at (omega arith) in
      let l = was.1 in
      let left : View = kept_view view in
      let right : View = split_view view in
      let views : List View = set state.views id left in
      let no_runs : length view.spent ≡ 0 = ap length none in
      let kept : IsLive h.next left = record {
        drawn = l.drawn;
        below = l.below;
        spent = l.spent;
        started = l.started;
        seen = l.seen;
        raised = l.raised;
        gaps = l.gaps;
        share = omega arith;
        few = omega arith;
      } in
      let fresh : IsLive h.next right = record {
        drawn = All-nil (IsOfStamps view.start);
        below = All-nil (EndsBy view.seen);
        spent = All-nil PassesLimit;
        started = l.started;
        seen = l.seen;
        raised = zero-le;
        gaps = All-nil (EndsBy 0);
        share = le_refl 1;
        few = zero-le;
      } in
      let P : View → Type 0 = IsSeat origin h.next in
      record {
        next = h.next;
        word = h.word;
        numbers = λ number. omega (
          arith,
          h.numbers number,
          sum_by_push (times_in number) views right,
          sum_set (times_in number) state.views id view left at,
        );
        start = h.start;
        seats = All-push P views right
            (All-set P state.views id left (live_seat origin h.next left was.0 kept) h.seats)
            (live_seat origin h.next right was.0 fresh);
        limit = omega (
          arith,
          h.limit,
          sum_by_push refusals views right,
          sum_set refusals state.views id view left at,
        );
        weights = omega (
          arith,
          h.weights,
          sum_by_push weight views right,
          sum_set weight state.views id view left at,
        );
        few = h.few;
      }

  -- a seat is joined to another
  pub joins : (id : ℕ) (view : View) (from : ℕ) (other : View) → 1 ≤ view.weight
      → 1 ≤ other.weight
      → Joins {S = S} (Kept origin) id view from other (joined_view view other) left_view
  joins id view from other has theirs state h at apart there =
      let both : View = joined_view view other in
      let before : get_elem? state.views from ≡ some other = ⊎_elim
      (λ (t : (from ≡ id) × (both ≡ other)). absurd (apart t.0))
      (λ (t : (from ≢ id) × (get_elem? state.views from ≡ some other)). t.1)
      (at_set state.views id from both other there) in
      let was = live_at origin state.words state.views id view h at has in
      let l = was.1 in
      let it = live_at origin state.words state.views from other h before theirs in
      let m = it.1 in
      let starts : other.start ≡ view.start = ap (λ (o : Origin). o.start) (it.0 ∙ sym was.0) in
      let longer : length both.spent ≡ length view.spent + length other.spent =
      length-append view.spent other.spent in
      let live : IsLive h.next both = record {
        drawn = All-append (IsOfStamps view.start) view.drawn other.drawn l.drawn
            (subst (λ (s : ℕ). All (IsOfStamps s) other.drawn) starts m.drawn);
        below = EndsBy-append view.seen other.seen view.drawn other.drawn l.below m.below;
        spent = All-append PassesLimit view.spent other.spent l.spent m.spent;
        started = omega (arith, l.started);
        seen = omega (arith, l.seen, m.seen);
        raised = omega (arith, l.raised, m.raised);
        gaps = EndsBy-append view.raised other.raised view.gaps other.gaps l.gaps m.gaps;
        share = omega arith;
        few = omega (arith, l.few, m.few);
      } in
      let gone : IsSeat origin h.next left_view = record {
        live = λ p. absurd (omega arith);
        left = λ z. refl;
      } in
      let one : List View = set state.views id both in
      let P : View → Type 0 = IsSeat origin h.next in
      record {
        next = h.next;
        word = h.word;
        numbers = λ number. omega (
          arith,
          h.numbers number,
          sum_set (times_in number) one from other left_view there,
          sum_set (times_in number) state.views id view both at,
          sum_by-append (within number) view.drawn other.drawn,
          sum_by-append (within number) view.gaps other.gaps,
          sum_by-append (within number) view.spent other.spent,
        );
        start = h.start;
        seats = All-set P one from left_view gone
            (All-set P state.views id both (live_seat origin h.next both was.0 live) h.seats);
        limit = omega (
          arith,
          h.limit,
          sum_set refusals one from other left_view there,
          sum_set refusals state.views id view both at,
        );
        weights = omega (
          arith,
          h.weights,
          sum_set weight one from other left_view there,
          sum_set weight state.views id view both at,
        );
        few = h.few;
      }
