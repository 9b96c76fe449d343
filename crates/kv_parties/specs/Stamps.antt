-- What a party promises of the numbers that its seat drew, passed over, and met without stamps
-- left.
use Rattle.std.specs.Prelude.{◌≡◌, ℕ, ◌+◌, ◌^◌, ◌<◌, ◌≤◌, min, List, [], length, sum_by, All}
use Rattle.std.specs.Prelude.{Contains}
use Rattle.std.specs.List.{AllByRecursion}
use Rattle.kv_model.specs.Pairs.{Pair, stamps, counter_numbers, pairs_in}
use Rattle.kv_stamps.specs.Ranges.{PassesLimit}
use Rattle.kv_stamps.specs.declared.view.Range.{Range}
use Rattle.kv_stamps.specs.declared.view.View.{View}
use Rattle.kv_parties.specs.Groups.{Asked}
use Rattle.kv_parties.specs.Sessions.{Exchange}
use Rattle.kv_parties.specs.Setting.{Setting}

-- how many numbers the ranges have
abbrev pub size_of : List Range → ℕ
size_of ranges = sum_by (λ r. r.count) ranges

-- the numbers are passed over for a group whose session had seen the last of them
pub record IsForGroup (setting : Setting) (taken : ℕ → List Asked) (gap : Range) : Type 0 where
  pub some : 1 ≤ gap.count
  pub session : ℕ
  pub known : session < setting.sessions
  pub asked : Asked
  pub there : Contains (taken session) asked
  pub last : gap.first + gap.count ≡ asked.seen + 1

-- some numbers were asked of which one passes the last stamp
abbrev pub IsMet : Range → Type 0
IsMet run = (1 ≤ run.count) × PassesLimit run

-- all stamps are below what the seat has seen; it drew and met no more numbers than there are
-- pairs, each run that it met passes the last stamp, and each gap is for a group that was taken
pub record KeepsStamps (setting : Setting) (taken : ℕ → List Asked) (view : View)
    (pairs : List Pair) : Type 0 where
  pub low : AllByRecursion (λ stamp. stamp < view.seen) (stamps pairs)
  pub few : size_of view.drawn + size_of view.spent ≤ length pairs
  pub limits : All IsMet view.spent
  pub gaps : All (IsForGroup setting taken) view.gaps

-- the numbers are passed over for an exchange whose session had seen the last of them
pub record IsForExchange (exchanges : List Exchange) (gap : Range) : Type 0 where
  pub some : 1 ≤ gap.count
  pub exchange : Exchange
  pub there : Contains exchanges exchange
  pub last : gap.first + gap.count ≡ exchange.seen + 1

-- the seat of a session drew no stamps and met no end of them, and passed over numbers for its
-- exchanges alone; each number of the counter that its groups tell is at least the first one, or
-- all stamps
pub record KeepsLooks (view : View) (groups : List (List Pair)) (exchanges : List Exchange) :
    Type 0 where
  pub drawn : view.drawn ≡ []
  pub spent : view.spent ≡ []
  pub gaps : All (IsForExchange exchanges) view.gaps
  pub told : AllByRecursion (λ number. min view.start (2 ^ 62) ≤ number)
      (counter_numbers (pairs_in groups))

-- the seat drew no stamps, passed over no numbers and met no end of them
pub record HasDrawnNone (view : View) : Type 0 where
  pub drawn : view.drawn ≡ []
  pub gaps : view.gaps ≡ []
  pub spent : view.spent ≡ []
