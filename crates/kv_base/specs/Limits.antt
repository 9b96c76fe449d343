-- The limits of one worker's store.
use Rattle.std.specs.Prelude.{ℕ, ◌^◌, ◌≤◌}
use Rattle.kv_base.specs.declared.limits.Limits.{Limits}

-- the most slots of a class
abbrev pub most_slots : ℕ
most_slots = 2 ^ 24

-- limits that a store can be opened with
pub record AreLimits (limits : Limits) : Type 0 where
  pub some_slots : 1 ≤ limits.slots
  pub slots : limits.slots ≤ most_slots
  pub some_pages : 1 ≤ limits.cache
  pub pages : limits.cache ≤ 1024
