-- The kinds of step on the counter, and what each leaves in a seat's view.
use Rattle.std.specs.Prelude.{◌≡◌, ℕ, ◌+◌, ◌-◌, ◌^◌, ◌<◌, ◌≤◌, max, nat_lt}
use Rattle.std.specs.Prelude.{List, [], ◌∷◌, ◌++◌, if◌then◌else◌}
use Rattle.kv_stamps.specs.declared.view.Range.{Range}
use Rattle.kv_stamps.specs.declared.view.View.{View}
use Rattle.kv_stamps.specs.Ranges.{range}
use Rattle.kv_stamps.specs.Rule.{times_in, origin_of, first_view, IsLive, HasAllNumbers}

-- no number is twice in a seat's ranges, gaps and runs
abbrev pub HasNoNumberTwice : View → Type 0
HasNoNumberTwice view = (number : ℕ) → times_in number view ≤ 1

-- the view after the next number was seen
abbrev pub seen_view : ℕ → View → View
seen_view next view = record view { seen = next }

-- a look: the seat has seen the next number, which is at least what it had seen; with the weight
-- of all it knows where each number is
pub record Looks (old : View) (next : ℕ) (new : View) : Type 0 where
  pub view : new ≡ seen_view next old
  pub later : old.seen ≤ next
  pub rule : IsLive next new
  pub once : HasNoNumberTwice new
  pub all : new.weight ≡ new.seats → HasAllNumbers next new

-- the numbers that a raise passes over: from the next one up to this, if there are any
abbrev pub gap_to : ℕ → ℕ → List Range
gap_to to next = if nat_lt next to then range next (to - next) ∷ [] else []

-- the view after a raise to this number
abbrev pub raised_view : ℕ → ℕ → View → View
raised_view to next view = record view {
  seen = max next to;
  raised = max view.raised to;
  gaps = view.gaps ++ gap_to to next;
}

-- a raise to a number: the greater of it and the next number is the next one
pub record Raises (to : ℕ) (old : View) (next : ℕ) (new : View) : Type 0 where
  pub view : new ≡ raised_view to next old
  pub later : old.seen ≤ next
  pub rule : IsLive (max next to) new

-- the view after a draw of so many stamps from the next number on
abbrev pub drawn_view : ℕ → ℕ → View → View
drawn_view count next view = record view {
  seen = next + count;
  drawn = view.drawn ++ range next count ∷ [];
}

-- a draw of so many stamps, above all that the seat had seen or raised to
pub record Draws (count : ℕ) (old : View) (next : ℕ) (new : View) : Type 0 where
  pub fits : next + count ≤ 2 ^ 62
  pub view : new ≡ drawn_view count next old
  pub later : old.seen ≤ next
  pub above : old.raised ≤ next
  pub rule : IsLive (next + count) new

-- the view after a StampsSpent of the next number, where so many were asked
abbrev pub spent_view : ℕ → ℕ → View → View
spent_view count next view = record view {
  seen = next + count;
  spent = view.spent ++ range next count ∷ [];
}

-- a draw that passes the last stamp
pub record Spends (count : ℕ) (old : View) (next : ℕ) (new : View) : Type 0 where
  pub passes : 2 ^ 62 < next + count
  pub view : new ≡ spent_view count next old
  pub later : old.seen ≤ next
  pub rule : IsLive (next + count) new

-- what a seat keeps that another is split off: all but 1 of its weight
abbrev pub kept_view : View → View
kept_view view = record view { weight = view.weight - 1 }

-- a seat that is split off: it has seen what the old one saw, and has weight 1
abbrev pub split_view : View → View
split_view view = record (first_view (origin_of view)) { weight = 1; seen = view.seen }

-- a seat that another was joined to: what both have, and of what was seen the greater
abbrev pub joined_view : View → View → View
joined_view view other = record view {
  weight = view.weight + other.weight;
  seen = max view.seen other.seen;
  raised = max view.raised other.raised;
  drawn = view.drawn ++ other.drawn;
  gaps = view.gaps ++ other.gaps;
  spent = view.spent ++ other.spent;
}
