-- Which messages a turn takes, by the promise of their sessions.
use Rattle.std.specs.Prelude.{◌≡◌, ℕ, Some, IsSome, true, false}
use Rattle.kv_groups.specs.Taking.{group_taken}
use Rattle.kv_model.specs.Layout.{all_classes}
use Rattle.kv_parties.specs.Messages.{takes_message}
use Rattle.kv_ring.specs.declared.message.Ask.{Ask}

-- where no answer to the session waits, a turn takes each message that a session sends by its promise
abbrev pub DueAreTaken : Type 0 → Type 0
DueAreTaken F = (worker workers : ℕ) (message : Ask F)
    → takes_message all_classes worker workers message ≡ true
    → IsSome (group_taken worker workers false (Some message))
