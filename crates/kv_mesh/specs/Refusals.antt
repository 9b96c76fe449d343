-- Why requests were refused, as disks and replies show it.
use Rattle.std.specs.Prelude.{◌≡◌, ℕ, ◌+◌, ◌-◌, ◌*◌, ◌^◌, ◌<◌, ◌≤◌, List, Bool, true, IsTrue}
use Rattle.std.specs.Prelude.{filter, is_some, length}
use Rattle.std.specs.List.{AllByRecursion}
use Rattle.kv_base.specs.declared.reply.Reply.TheVariants.{Closed, StampsSpent}
use Rattle.kv_model.specs.History.{Write}
use Rattle.kv_model.specs.Pairs.{Pair, key_of}
use Rattle.kv_parties.specs.Causes.{IsFullAt, all_writes, any_unsure, count_faults, count_unsure}
use Rattle.kv_parties.specs.Causes.{most_tasks}
use Rattle.kv_parties.specs.Setting.{Setting, owned_pairs, owned_writes}

-- how many of the requests are about keys
abbrev pub count_keyed : List Pair → ℕ
count_keyed pairs = length (filter (λ pair. is_some (key_of pair.request)) pairs)

-- stamps are spent only where the greatest that was known and the number of requests reach 2 ^ 62, and
-- the number that is told is less than a batch below that
abbrev pub IsSpentBy : ℕ → ℕ → Pair → Type 0
IsSpentBy known requests pair = (number : ℕ) → pair.reply ≡ StampsSpent number
    → (2 ^ 62 ≤ known + requests) × (2 ^ 62 < number + 512)

-- of the pairs about keys that the worker owns: at most so many tell of one rise of its disk's count of
-- faults, which rises by no more than tell of one; few are unsure, and the worker is closed where one
-- is, and only there answers Closed; and a class is full only where so many keys had an item of it
pub record RefusesForCause (setting : Setting) (worker : ℕ) (before : List Write)
    (faults faults' : ℕ) (closed : Bool) (pairs : List Pair) : Type 0 where
  pub faulty : faults' < 2 ^ 64 - 1
      → count_faults (owned_pairs setting.workers worker pairs) ≤ most_tasks * (faults' - faults)
  pub rose : faults' ≤ faults + count_faults (owned_pairs setting.workers worker pairs)
  pub unsure : count_unsure (owned_pairs setting.workers worker pairs) ≤ most_tasks
  pub closed_is : closed ≡ any_unsure (owned_pairs setting.workers worker pairs)
  pub closes : AllByRecursion (λ pair. pair.reply ≡ Closed
      → any_unsure (owned_pairs setting.workers worker pairs) ≡ true)
      (owned_pairs setting.workers worker pairs)
  pub full : IsTrue setting.told → AllByRecursion (IsFullAt setting.layout setting.slots
      (owned_writes setting.workers worker (all_writes before pairs)))
      (owned_pairs setting.workers worker pairs)
