-- Counts of faults, and what a failed call shows by them.
use Rattle.std.specs.Prelude.{◌≡◌, ℕ, ◌+◌, ◌-◌, ◌^◌, ◌≤◌, min, Result, OnErr, is_err, if◌then◌else◌}

-- the count has risen, or stands at the greatest number of its type
abbrev pub Rose : ℕ → ℕ → Type 0
Rose before now = min (before + 1) (2 ^ 64 - 1) ≤ now

-- just a call that failed is counted as a fault
abbrev pub Counted : {T E : Type 0} → ℕ → ℕ → Result T E → Type 0
Counted before now result = now ≡ (if is_err result then min (before + 1) (2 ^ 64 - 1) else before)

-- the count of faults never falls, and has risen where the call failed
pub record HasCause {T E : Type 0} (before now : ℕ) (result : Result T E) : Type 0 where
  pub later : before ≤ now
  pub failed : OnErr result (Rose before now)
