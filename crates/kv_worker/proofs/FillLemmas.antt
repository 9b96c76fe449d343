-- The tasks of a batch while they get their replies.
use Rattle.std.proofs.Common.{◌≡◌, ℕ, ◌+◌, ◌<◌, ◌≤◌, List, [], ◌∷◌, ◌++◌, Option, Some, None, map, length}
use Rattle.std.proofs.Common.{take, get_or, set, refl, ap, sym, ◌∙◌, subst, arith, take_all}
use Rattle.std.proofs.lemmas.List.{take_more, take_more_set, length-map, map-append}
use Rattle.std.proofs.Math.Seq.{map-set_same}
use Rattle.kv_base.specs.declared.reply.Reply.{Reply}
use Rattle.kv_ring.specs.declared.task.Task.{Task}
use Rattle.kv_worker.specs.Batches.{AreAnswered, requests_in}

-- the first tasks have these replies, and all are the same ones
pub record AreFilled (old now : List (ℕ × Task)) (replies : List Reply) (i : ℕ) : Type 0 where
  pub long : length now ≡ length old
  pub sessions : map (λ item. item.0) now ≡ map (λ item. item.0) old
  pub requests : requests_in now ≡ requests_in old
  pub done : map (λ item. item.1.reply) (take i now) ≡ map (λ reply. Some reply) (take i replies)

-- one task more
pub fill-more : (old now next : List (ℕ × Task)) (replies : List Reply) (i : ℕ)
    (item changed : ℕ × Task) (reply : Reply) → AreFilled old now replies i
    → length replies ≡ length old → i < length replies
    → reply ≡ get_or replies i reply → changed.0 ≡ (get_or now i item).0
    → changed.1.request ≡ (get_or now i item).1.request → changed.1.reply ≡ Some reply
    → next ≡ set now i changed → length next ≡ length now → AreFilled old next replies (i + 1)
fill-more old now next replies i item changed reply filled many within asked session request
    given sets long =
    let inside : i < length now = omega (arith, filled.long, many) in
    record {
      long = long ∙ filled.long;
      sessions = ap (map (λ t. t.0)) sets
          ∙ map-set_same (λ (t : ℕ × Task). t.0) now i changed item session ∙ filled.sessions;
      requests = ap requests_in sets
          ∙ map-set_same (λ (t : ℕ × Task). t.1.request) now i changed item request
          ∙ filled.requests;
      done = ap (λ l. map (λ t. t.1.reply) (take (i + 1) l)) sets
          ∙ ap (map (λ t. t.1.reply)) (take_more_set now i changed inside)
          ∙ map-append (λ (t : ℕ × Task). t.1.reply) (take i now) (changed ∷ [])
          ∙ ap (λ l. l ++ changed.1.reply ∷ []) filled.done
          ∙ ap (λ (o : Option Reply). map (λ r. Some r) (take i replies) ++ o ∷ []) given
          ∙ sym (map-append (λ (r : Reply). Some r) (take i replies) (reply ∷ []))
          ∙ ap (map (λ r. Some r)) (sym (take_more replies i reply within
          ∙ ap (λ r. take i replies ++ r ∷ []) (sym asked)));
    }
