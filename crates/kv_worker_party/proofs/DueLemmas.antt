-- A message that a worker takes by the promise of its session is one that its turn takes.
use Rattle.std.proofs.Common.{◌≡◌, ℕ, ◌^◌, List, [], ◌∷◌, length, Option, Some, None, Bool, true, false}
use Rattle.std.proofs.Common.{cond, not, ◌&&◌, is_some, IsSome, refl, sym, ap, ◌∙◌, true≢false}
use Rattle.std.specs.Prelude.{nat_le, nat_lt}
use Rattle.kv_base.specs.Reserved.{Reserved}
use Rattle.kv_model.specs.Agreement.{refusal_of}
use Rattle.kv_model.specs.Layout.{all_classes}
use Rattle.kv_model.specs.Pairs.{key_of}
use Rattle.kv_parties.specs.Messages.{takes_message}
use Rattle.kv_parties.specs.Messages as parties
use Rattle.kv_parties.specs.Setting.{owns}
use Rattle.kv_ring.specs.declared.message.Ask.{Ask}
use Rattle.kv_ring.specs.declared.message.Ask.TheVariants as ask
use Rattle.kv_ring.specs.declared.task.Task.{Task}
use Rattle.kv_groups.specs.Taking.{owns_key, takes_each, takes_group, group_taken}

same-owns : (workers worker : ℕ) (key : Option (List ℕ))
    → owns workers worker key ≡ owns_key workers worker key
same-owns workers worker None = refl
same-owns workers worker (Some key) = refl

same-each : (worker workers : ℕ) (tasks : List Task)
    → parties.takes_each all_classes worker workers tasks ≡ takes_each worker workers tasks
same-each worker workers [] = refl
same-each worker workers (task ∷ tasks) =
    ap (λ b. (not (is_some task.reply) && not (is_some (refusal_of all_classes task.request)) && b)
    && parties.takes_each all_classes worker workers tasks)
    (same-owns workers worker (key_of task.request))
    ∙ ap (λ b. (not (is_some task.reply) && not (is_some (refusal_of all_classes task.request))
    && owns_key workers worker (key_of task.request)) && b) (same-each worker workers tasks)

pub due-taken : {F : Type 0} (worker workers : ℕ) (message : Ask F)
    → takes_message all_classes worker workers message ≡ true
    → IsSome (group_taken worker workers false (Some message))
due-taken worker workers (ask.Group seen tasks) takes =
    by (takes_group worker workers false seen tasks.items)
    (sym (ap (λ b. nat_lt seen (2 ^ 62) && (nat_le (length tasks.items) 64 && b))
    (same-each worker workers tasks.items)) ∙ takes)
  where
    by : (b : Bool) → b ≡ true
        → IsSome (cond b (Some (let g : ℕ × Reserved Task = (seen, tasks) in g)) None)
    by true e = refl
    by false e = absurd (true≢false (sym e))
due-taken worker workers (ask.Prepare fold low high) takes = absurd (true≢false (sym takes))
due-taken worker workers (ask.Start stamp) takes = absurd (true≢false (sym takes))
due-taken worker workers ask.Drop takes = absurd (true≢false (sym takes))
due-taken worker workers ask.Bye takes = absurd (true≢false (sym takes))
