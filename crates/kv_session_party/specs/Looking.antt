-- How a session answers an After by the counter.
use Rattle.std.specs.Prelude.{◌≡◌, ◌⊎◌, ℕ, ◌+◌, ◌^◌, ◌≤◌, min, max, nat_lt, if◌then◌else◌}
use Rattle.kv_base.specs.declared.reply.Reply.{Reply}
use Rattle.kv_model.specs.Agreement.{counter_reply}
use Rattle.kv_stamps.specs.Seats.{Seat}
use Rattle.kv_stamps.specs.Steps.{Raises, Looks}
use Rattle.kv_stamps.specs.declared.view.View.{View}

-- the greatest stamp that a session has seen behind it
abbrev pub seen_behind_it : ℕ → ℕ → ℕ → ℕ
seen_behind_it seen stamp number = if nat_lt stamp number then max seen stamp else seen

-- the counter was raised to one more than the session has seen, and looked at
pub record LooksAbove (seen : ℕ) (old new : View) (number : ℕ) : Type 0 where
  pub passed : ℕ
  pub between : View
  pub next : ℕ
  pub raises : Raises (seen + 1) old passed between
  pub looks : Looks between next new
  pub number_is : number ≡ min next (2 ^ 62)

-- an After of this stamp was answered by what the counter then held
pub record AnswersAfter (seen stamp : ℕ) (old new : View) (reply : Reply) (after : ℕ) :
    Type 0 where
  pub number : ℕ
  pub looks : LooksAbove seen old new number
  pub reply_is : reply ≡ counter_reply stamp number
  pub after_is : after ≡ seen_behind_it seen stamp number

-- the seat took no step, or it raised the counter to one more than a stamp and looked at it
abbrev pub MayLook : View → View → Type 0
MayLook old new = (new ≡ old) ⊎ ((seen : ℕ) × (seen + 1 ≤ 2 ^ 62)
    × ((number : ℕ) × LooksAbove seen old new number))

-- so it is with a seat of the same counter
pub record MayStep (old new : Seat) : Type 0 where
  pub counter : new.counter ≡ old.counter
  pub view : MayLook old.view new.view
