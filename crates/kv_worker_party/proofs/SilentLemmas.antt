-- Lemmas on pairs that are all refused.
use Rattle.std.proofs.Common.{◌≡◌, ◌<◌, ◌^◌, List, [], ◌∷◌, map, None, Bool, ℕ}
use Rattle.std.proofs.Common.{arith, length, refl, sym, ap, subst, IsSome, true≢false, inl, inr, MatchOption}
use Rattle.std.specs.List.{AllByRecursion}
use Rattle.kv_base.specs.declared.reply.Reply.{Reply}
use Rattle.kv_base.specs.declared.reply.Reply.TheVariants.{NoMemory, DiskFault, Closed, StampsSpent}
use Rattle.kv_base.specs.declared.request.Request.{Request}
use Rattle.kv_base.specs.declared.request.Request.TheVariants.{Put, Get, Delete, Flush, After}
use Rattle.kv_model.specs.Agreement.{IsMapAnswer, IsRefusal, WithRefusals}
use Rattle.kv_model.specs.Batch.{IsTask}
use Rattle.kv_model.specs.BatchLaws.{pairs_of}
use Rattle.kv_model.specs.Frames.{HasReplyFrame}
use Rattle.kv_model.specs.History.{Write}
use Rattle.kv_model.specs.Layout.{all_classes}
use Rattle.kv_model.specs.Pairs.{Pair, key_of, stamp_of}
use Rattle.kv_worker_party.proofs.StampedLemmas.{HasStamp}

-- refusals alone
pub only-refusals : (told : Bool) (group : List Pair)
    → AllByRecursion (IsRefusal told all_classes) group
    → WithRefusals told all_classes [] group
only-refusals told [] all = refl
only-refusals told (pair ∷ group) all = inl (all.0, only-refusals told group all.1)

-- a reply that may be given to each request about a key
abbrev pub MayRefuse : Bool → Reply → Type 0
MayRefuse told reply = (stamp_of reply ≡ None) × ((history : List Write) (request : Request)
    → IsSome (key_of request) → IsMapAnswer told all_classes history request reply)

-- the same refusal of each request of a batch
pub const-refusals : (told : Bool) (reply : Reply) → MayRefuse told reply
    → (requests : List Request) → AllByRecursion (IsTask all_classes) requests
    → AllByRecursion (IsRefusal told all_classes) (pairs_of requests (map (λ _. reply) requests))
const-refusals told reply may [] good = tt
const-refusals told reply may (request ∷ requests) good = (
  record {
    stampless = may.0;
    answer = λ history. subst (λ o. MatchOption o (IsMapAnswer told all_classes history request
        reply) (λ refusal. reply ≡ refusal)) (sym good.0.good) (may.1 history request good.0.keyed);
  },
  const-refusals told reply may requests good.1,
)

pub silent-batch : (told : Bool) (reply : Reply) (requests : List Request) (replies : List Reply)
    → MayRefuse told reply → AllByRecursion (IsTask all_classes) requests
    → replies ≡ map (λ _. reply) requests
    → WithRefusals told all_classes [] (pairs_of requests replies)
silent-batch told reply requests replies may good is =
    subst (λ rs. WithRefusals told all_classes [] (pairs_of requests rs)) (sym is)
    (only-refusals told (pairs_of requests (map (λ _. reply) requests))
    (const-refusals told reply may requests good))

pub no_memory-may : (told : Bool) → MayRefuse told NoMemory
no_memory-may told = (refl, may)
  where
    may : (history : List Write) (request : Request) → IsSome (key_of request)
        → IsMapAnswer told all_classes history request NoMemory
    may history (Put key value) keyed = tt
    may history (Get key) keyed = tt
    may history (Delete key) keyed = tt
    may history Flush keyed = absurd (true≢false (sym keyed))
    may history (After seen) keyed = absurd (true≢false (sym keyed))

pub disk_fault-may : (told : Bool) → MayRefuse told DiskFault
disk_fault-may told = (refl, may)
  where
    may : (history : List Write) (request : Request) → IsSome (key_of request)
        → IsMapAnswer told all_classes history request DiskFault
    may history (Put key value) keyed = tt
    may history (Get key) keyed = tt
    may history (Delete key) keyed = tt
    may history Flush keyed = absurd (true≢false (sym keyed))
    may history (After seen) keyed = absurd (true≢false (sym keyed))

pub closed-may : (told : Bool) → MayRefuse told Closed
closed-may told = (refl, may)
  where
    may : (history : List Write) (request : Request) → IsSome (key_of request)
        → IsMapAnswer told all_classes history request Closed
    may history (Put key value) keyed = tt
    may history (Get key) keyed = tt
    may history (Delete key) keyed = tt
    may history Flush keyed = absurd (true≢false (sym keyed))
    may history (After seen) keyed = absurd (true≢false (sym keyed))

pub spent-may : (told : Bool) (number : ℕ) → MayRefuse told (StampsSpent number)
spent-may told number = (refl, may)
  where
    may : (history : List Write) (request : Request) → IsSome (key_of request)
        → IsMapAnswer told all_classes history request (StampsSpent number)
    may history (Put key value) keyed = tt
    may history (Get key) keyed = tt
    may history (Delete key) keyed = tt
    may history Flush keyed = absurd (true≢false (sym keyed))
    may history (After seen) keyed = absurd (true≢false (sym keyed))

-- a pair without a stamp
abbrev pub IsSilent : Pair → Type 0
IsSilent pair = stamp_of pair.reply ≡ None

pub stampless-has : (P : ℕ → Type 0) (group : List Pair) → AllByRecursion IsSilent group
    → AllByRecursion (HasStamp P) group
stampless-has P [] none = tt
stampless-has P (pair ∷ group) none =
    (subst (λ o. MatchOption o (Unit {0}) P) (sym none.0) tt, stampless-has P group none.1)

pub silent-stampless : (told : Bool) (group : List Pair) → WithRefusals told all_classes [] group
    → AllByRecursion IsSilent group
silent-stampless told [] silent = tt
silent-stampless told (pair ∷ group) (inl own) =
    (own.0.stampless, silent-stampless told group own.1)
silent-stampless told (pair ∷ group) (inr stays) =
    absurd (omega (arith, ap length stays.1))

pub frame-closed : HasReplyFrame Closed
frame-closed = record { body = tt; size = omega arith }

pub frame-spent : (number : ℕ) → number < 2 ^ 64 → HasReplyFrame (StampsSpent number)
frame-spent number lt = record { body = omega (arith, lt); size = omega arith }

-- the same reply to each request
pub all-framed : (reply : Reply) (requests : List Request) → HasReplyFrame reply
    → AllByRecursion HasReplyFrame (map (λ _. reply) requests)
all-framed reply [] has = tt
all-framed reply (request ∷ requests) has = (has, all-framed reply requests has)
