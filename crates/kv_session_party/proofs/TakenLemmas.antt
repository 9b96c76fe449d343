-- The tasks of a group as they were routed, and the frames of its replies.
use Rattle.std.proofs.Common.{◌≡◌, ◌⊎◌, inl, inr, ℕ, ◌<◌, ◌^◌, List, [], ◌∷◌, None, Some}
use Rattle.std.proofs.Common.{Bool, true, false}
use Rattle.std.proofs.Common.{cond, refl, sym, ◌∙◌, subst, arith}
use Rattle.std.specs.Prelude.{IsSome, IfSome, MatchOption}
use Rattle.std.specs.List.{AllByRecursion}
use Rattle.kv_base.specs.declared.reply.Reply.{Reply}
use Rattle.kv_base.specs.declared.reply.Reply.TheVariants.{BadKey, TooLarge, NoMemory}
use Rattle.kv_base.specs.declared.request.Request.{Request}
use Rattle.kv_model.specs.Frames.{HasReplyFrame}
use Rattle.kv_model.specs.Pairs.{key_of, stamp_of}
use Rattle.kv_ring.specs.declared.task.Task.{Task}
use Rattle.kv_session_party.specs.Merging.{HaveOwn}
use Rattle.kv_session_party.specs.Routes.{IsKept, AreKept, IsRoutable, ArePlaces, IsPlace}
use Rattle.kv_session_party.specs.Merging.{IsOwn, replies_at}
use Rattle.kv_session_party.specs.Routes.{is_at}
use Rattle.kv_session.specs.Tasks.{AreTaken, GoesOn, IsRefused}
use Rattle.kv_session_party.specs.declared.routes.Place.{Place}
use Rattle.kv_session_party.specs.declared.routes.Place.TheVariants.{Own, Worker}
use Rattle.kv_session_party.proofs.MergedLemmas.{refused-has, own-reply}
use Rattle.kv_session_party.proofs.RouteLemmas.{eq_self}

none-is : (reply : Reply) → None ≡ Some reply → ⊥
none-is reply e = cc

-- ---- tasks

-- a task that there was no memory to route is refused
kept-one : (request : Request) (task kept : Task) → GoesOn request task ⊎ IsRefused request task
    → IsKept task kept → GoesOn request kept ⊎ IsRefused request kept
kept-one request task kept taken (inl same) =
    subst (λ (t : Task). GoesOn request t ⊎ IsRefused request t) (sym same) taken
kept-one request task kept (inl on) (inr lost) =
    subst (λ (t : Task). GoesOn request t ⊎ IsRefused request t) (sym lost.1) (inr (record {
      keyed = on.good.keyed;
      reply = NoMemory;
      cause = subst (λ o. MatchOption o (NoMemory ≡ NoMemory) (λ refusal. NoMemory ≡ refusal))
          (sym on.good.good) refl;
      empty = refl;
      answered = refl;
    }))
kept-one request task kept (inr refused) (inr lost) =
    absurd (none-is refused.reply (sym lost.0 ∙ refused.answered))

pub taken-kept : (asked : List Request) (tasks kept : List Task) → AreTaken asked tasks
    → AreKept tasks kept → AreTaken asked kept
taken-kept [] [] [] taken are = tt
taken-kept [] [] (k ∷ kept) taken are = absurd are
taken-kept [] (t ∷ tasks) kept taken are = absurd taken
taken-kept (q ∷ asked) [] kept taken are = absurd taken
taken-kept (q ∷ asked) (t ∷ tasks) [] taken are = absurd are
taken-kept (q ∷ asked) (t ∷ tasks) (k ∷ kept) taken are =
    (kept-one q t k taken.0 are.0, taken-kept asked tasks kept taken.1 are.1)

-- a task without a reply is about a key
pub taken-routable : (asked : List Request) (tasks : List Task) → AreTaken asked tasks
    → AllByRecursion IsRoutable tasks
taken-routable [] [] taken = tt
taken-routable [] (t ∷ tasks) taken = absurd taken
taken-routable (q ∷ asked) [] taken = absurd taken
taken-routable (q ∷ asked) (t ∷ tasks) taken =
    (one taken.0, taken-routable asked tasks taken.1)
  where
    one : GoesOn q t ⊎ IsRefused q t → IsRoutable t
    one (inl on) none = subst (λ (r : Request). IsSome (key_of r)) (sym on.request_is) on.good.keyed
    one (inr refused) none = absurd (none-is refused.reply (sym none ∙ refused.answered))

-- ---- frames

-- the reply goes into a frame, and its stamp, if it carries one, is below 2 ^ 62
abbrev pub IsFramed : Reply → Type 0
IsFramed reply = HasReplyFrame reply × IfSome (stamp_of reply) (λ stamp. stamp < 2 ^ 62)

framed-no_memory : IsFramed NoMemory
framed-no_memory = (record { body = tt; size = omega arith }, tt)

framed-bad_key : IsFramed BadKey
framed-bad_key = (record { body = tt; size = omega arith }, tt)

framed-too_large : IsFramed TooLarge
framed-too_large = (record { body = tt; size = omega arith }, tt)

-- the replies of the other places
replies-rest : (worker : ℕ) (place : Place) (places : List Place) (reply : Reply)
    (merged : List Reply)
    → AllByRecursion IsFramed (replies_at worker (place ∷ places) (reply ∷ merged))
    → AllByRecursion IsFramed (replies_at worker places merged)
replies-rest worker place places reply merged all = by (is_at worker place) all
  where
    by : (b : Bool) → AllByRecursion IsFramed (cond b (reply ∷ replies_at worker places merged)
        (replies_at worker places merged))
        → AllByRecursion IsFramed (replies_at worker places merged)
    by true every = every.1
    by false every = every

-- a reply goes into a frame: a worker's by what it answered, the session's own as each refusal
framed-one : (n : ℕ) (request : Request) (task : Task) (place : Place) (places : List Place)
    (reply : Reply) (merged : List Reply) → GoesOn request task ⊎ IsRefused request task
    → IsPlace n task place → IsOwn place reply
    → ((worker : ℕ)
    → AllByRecursion IsFramed (replies_at worker (place ∷ places) (reply ∷ merged)))
    → IsFramed reply
framed-one n request task (Worker number) places reply merged taken is own all =
    (subst (λ b. AllByRecursion IsFramed (cond b (reply ∷ replies_at number places merged)
    (replies_at number places merged))) (eq_self number) (all number)).0
framed-one n request task (Own kept) places reply merged (inl on) is own all =
    absurd (none-is kept (sym on.waits ∙ is))
framed-one n request task (Own kept) places reply merged (inr refused) is own all =
    subst IsFramed (sym (own-reply n task (Own kept) reply refused.reply is own
    refused.answered)) (refused-has IsFramed framed-no_memory framed-bad_key framed-too_large
    request refused.reply refused.cause)

pub framed-all : (n : ℕ) (asked : List Request) (tasks : List Task) (places : List Place)
    (merged : List Reply) → AreTaken asked tasks → ArePlaces n tasks places
    → HaveOwn places merged
    → ((worker : ℕ) → AllByRecursion IsFramed (replies_at worker places merged))
    → AllByRecursion IsFramed merged
framed-all n asked tasks [] [] taken are own all = tt
framed-all n asked tasks [] (r ∷ merged) taken are own all = absurd own
framed-all n asked tasks (p ∷ places) [] taken are own all = absurd own
framed-all n asked [] (p ∷ places) (r ∷ merged) taken are own all = absurd are
framed-all n [] (t ∷ tasks) (p ∷ places) (r ∷ merged) taken are own all = absurd taken
framed-all n (q ∷ asked) (t ∷ tasks) (p ∷ places) (r ∷ merged) taken are own all = (
  framed-one n q t p places r merged taken.0 are.0 own.0 all,
  framed-all n asked tasks places merged taken.1 are.1 own.1
      (λ worker. replies-rest worker p places r merged (all worker)),
)
