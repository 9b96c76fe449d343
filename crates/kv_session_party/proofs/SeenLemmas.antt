-- The greatest stamp of a list of replies.
use Rattle.std.proofs.Common.{◌≡◌, ℕ, ◌<◌, ◌^◌, List, [], ◌∷◌, Option, None, Some, refl}
use Rattle.std.proofs.Common.{ap}
use Rattle.std.proofs.Common.{◌∙◌, arith}
use Rattle.std.specs.Prelude.{max, unwrap_or, IfSome}
use Rattle.std.specs.List.{AllByRecursion, filter_map, cons_option}
use Rattle.kv_base.specs.declared.reply.Reply.{Reply}
use Rattle.kv_model.specs.Pairs.{stamp_of}
use Rattle.kv_ring.specs.declared.task.Task.{Task}
use Rattle.kv_session.specs.Tasks.{HaveReplies}
use Rattle.kv_parties.specs.Sessions.{greatest}
use Rattle.kv_session_party.specs.Party.{greatest_in, stamp_in}

max-zero : (n : ℕ) → max n 0 ≡ n
max-zero n = omega arith

greatest-step : (stamp : Option ℕ) (seen : ℕ) (numbers : List ℕ)
    → greatest (max seen (unwrap_or stamp 0)) numbers ≡ greatest seen (cons_option stamp numbers)
greatest-step None seen numbers = ap (λ n. greatest n numbers) (max-zero seen)
greatest-step (Some stamp) seen numbers = refl

-- the greatest stamp of the tasks is that of their replies
pub greatest-replies : (seen : ℕ) (tasks : List Task) (replies : List Reply)
    → HaveReplies tasks replies → greatest_in seen tasks ≡ greatest seen (filter_map stamp_of replies)
greatest-replies seen [] [] have = refl
greatest-replies seen [] (reply ∷ replies) have = absurd (cc)
greatest-replies seen (task ∷ tasks) [] have = absurd (cc)
greatest-replies seen (task ∷ tasks) (reply ∷ replies) have =
    ap (λ (o : Option Reply). greatest_in (max seen (stamp_in o)) tasks) head
    ∙ greatest-replies (max seen (unwrap_or (stamp_of reply) 0)) tasks replies tail
    ∙ greatest-step (stamp_of reply) seen (filter_map stamp_of replies)
  where
    head : task.reply ≡ Some reply
    head = cc

    tail : HaveReplies tasks replies
    tail = cc

low-max : (limit a b : ℕ) → a < limit → b < limit → max a b < limit
low-max limit a b la lb = omega (arith, la, lb)

pub greatest-low : (limit seen : ℕ) (numbers : List ℕ) → seen < limit
    → AllByRecursion (λ n. n < limit) numbers → greatest seen numbers < limit
greatest-low limit seen [] low all = low
greatest-low limit seen (n ∷ numbers) low all =
    greatest-low limit (max seen n) numbers (low-max limit seen n low all.0) all.1

pub stamps-low : (replies : List Reply)
    → AllByRecursion (λ reply. IfSome (stamp_of reply) (λ stamp. stamp < 2 ^ 62)) replies
    → AllByRecursion (λ n. n < 2 ^ 62) (filter_map stamp_of replies)
stamps-low [] all = tt
stamps-low (reply ∷ replies) all = by (stamp_of reply) all.0 (stamps-low replies all.1)
  where
    by : (o : Option ℕ) → IfSome o (λ stamp. stamp < 2 ^ 62)
        → AllByRecursion (λ n. n < 2 ^ 62) (filter_map stamp_of replies)
        → AllByRecursion (λ n. n < 2 ^ 62) (cons_option o (filter_map stamp_of replies))
    by None low more = more
    by (Some stamp) low more = (low, more)
