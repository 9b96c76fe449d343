-- What a session promises of the groups that it asked and answered; it speaks of its own data
-- alone.
use Rattle.std.specs.Prelude.{◌≡◌, ◌⊎◌, ◌<◌, ℕ, max, ⊤, List, [], ◌∷◌, ◌++◌, length, map, filter}
use Rattle.std.specs.Prelude.{Bool, true, false, ◌&&◌, IsSome, IfSome}
use Rattle.std.specs.List.{AllByRecursion, flat_map}
use Rattle.kv_base.specs.declared.reply.Reply.{Reply}
use Rattle.kv_base.specs.declared.request.Request.{Request}
use Rattle.kv_model.specs.Layout.{Layout}
use Rattle.kv_model.specs.Pairs.{Pair, seen_in, counter_by, key_of, requests_of}
use Rattle.kv_parties.specs.Causes.{IsOwn, IsLooked}
use Rattle.kv_parties.specs.Setting.{Setting, owns}
use Rattle.kv_parties.specs.Groups.{Asked}

-- a pair of a session: a worker answered it, or else the session itself
pub record Handled : Type 0 where
  pub pair : Pair
  pub routed : Bool

-- each pair is about a key, and what a session answers itself is a refusal by size or for want of
-- memory
pub record IsHandled (layout : Layout) (handled : Handled) : Type 0 where
  pub keyed : IsSome (key_of handled.pair.request)
  pub own : handled.routed ≡ false → IsOwn layout handled.pair

-- a group that a session has answered, and the greatest stamp that it had seen before, in a reply
-- or by an After that was noted
pub record Exchange : Type 0 where
  pub seen : ℕ
  pub handled : List Handled

-- the exchange is one After alone, which the session answered itself by the counter; a number that
-- the reply tells is above what the session had seen
pub record IsLook (exchange : Exchange) : Type 0 where
  pub pair : Pair
  pub alone : exchange.handled ≡ record { pair = pair; routed = false } ∷ []
  pub answer : IsLooked pair
  pub above : IfSome (counter_by pair.request pair.reply) (λ number. exchange.seen < number)

-- the exchange is of requests about keys, or a look at the counter
abbrev pub IsExchange : Layout → Exchange → Type 0
IsExchange layout exchange = AllByRecursion (IsHandled layout) exchange.handled ⊎ IsLook exchange

-- the pairs of the exchange
abbrev pub exchange_pairs : Exchange → List Pair
exchange_pairs exchange = map (λ handled. handled.pair) exchange.handled

-- this worker, of so many, got the request
abbrev pub goes_to : ℕ → ℕ → Handled → Bool
goes_to workers worker handled = handled.routed
    && owns workers worker (key_of handled.pair.request)

-- the pairs that this worker, of so many, answered
abbrev pub part_of : ℕ → ℕ → List Handled → List Pair
part_of workers worker handled = map (λ handled. handled.pair)
    (filter (goes_to workers worker) handled)

-- the message with these requests, unless there are none
abbrev pub message_of : ℕ → List Request → List Asked
message_of seen [] = []
message_of seen (request ∷ requests) =
    record { seen = seen; requests = request ∷ requests } ∷ []

-- the message for this part of a group, unless the part is empty
abbrev pub asked_by : ℕ → List Pair → List Asked
asked_by seen [] = []
asked_by seen (pair ∷ pairs) = record { seen = seen; requests = requests_of (pair ∷ pairs) } ∷ []

-- the replies of the answer to this part, unless the part is empty
abbrev pub replied_by : List Pair → List (List Reply)
replied_by [] = []
replied_by (pair ∷ pairs) = map (λ pair. pair.reply) (pair ∷ pairs) ∷ []

-- what all exchanges asked of this worker, of so many
abbrev pub all_asked : ℕ → ℕ → List Exchange → List Asked
all_asked workers worker exchanges =
    flat_map (λ exchange. asked_by exchange.seen (part_of workers worker exchange.handled))
    exchanges

-- what this worker, of so many, replied in all exchanges
abbrev pub all_replied : ℕ → ℕ → List Exchange → List (List Reply)
all_replied workers worker exchanges =
    flat_map (λ exchange. replied_by (part_of workers worker exchange.handled)) exchanges

-- the greatest of the number and these
abbrev pub greatest : ℕ → List ℕ → ℕ
greatest number [] = number
greatest number (next ∷ numbers) = greatest (max number next) numbers

-- the greatest of the stamp and all that was seen by the exchanges
abbrev pub seen_behind : ℕ → List Exchange → ℕ
seen_behind seen [] = seen
seen_behind seen (exchange ∷ exchanges) =
    seen_behind (greatest seen (seen_in (exchange_pairs exchange))) exchanges

-- before each exchange the session had seen the greatest of the stamp and what it saw before that
abbrev pub HaveSeen : ℕ → List Exchange → Type 0
HaveSeen seen [] = ⊤
HaveSeen seen (exchange ∷ exchanges) = (exchange.seen ≡ seen)
    × HaveSeen (greatest seen (seen_in (exchange_pairs exchange))) exchanges

-- a request of the group under way, and whether a worker was asked for it
pub record Sent : Type 0 where
  pub request : Request
  pub routed : Bool

-- this worker, of so many, was asked for it
abbrev pub was_asked : ℕ → ℕ → Sent → Bool
was_asked workers worker sent = sent.routed && owns workers worker (key_of sent.request)

-- the requests that this worker, of so many, was asked for
abbrev pub asked_of : ℕ → ℕ → List Sent → List Request
asked_of workers worker sent = map (λ sent. sent.request) (filter (was_asked workers worker) sent)

-- the answer to the message with these requests hasn't come, or has a reply to each
abbrev pub HasCome : List Request → List (List Reply) → Type 0
HasCome [] coming = coming ≡ []
HasCome (request ∷ requests) coming = (coming ≡ []) ⊎ ((replies : List Reply)
    × (coming ≡ replies ∷ []) × (length replies ≡ length (request ∷ requests)))

-- no group is under way
pub record IsStill (setting : Setting) (requests : List Request) (asking : ℕ → List Asked)
    (coming : ℕ → List (List Reply)) : Type 0 where
  pub none : requests ≡ []
  pub asks : (worker : ℕ) → worker < setting.workers → asking worker ≡ []
  pub hears : (worker : ℕ) → worker < setting.workers → coming worker ≡ []

-- the group of these requests is under way: each worker was asked for those of its own that the
-- session doesn't answer itself
pub record IsUnderWay (setting : Setting) (seen : ℕ) (requests : List Request)
    (asking : ℕ → List Asked) (coming : ℕ → List (List Reply)) : Type 0 where
  pub sent : List Sent
  pub same : requests ≡ map (λ sent. sent.request) sent
  pub asks : (worker : ℕ) → worker < setting.workers
      → asking worker ≡ message_of seen (asked_of setting.workers worker sent)
  pub hears : (worker : ℕ) → worker < setting.workers
      → HasCome (asked_of setting.workers worker sent) (coming worker)

-- the group is under way where the session waits, and else there is none
abbrev pub IsPending : Bool → Setting → ℕ → List Request → (ℕ → List Asked)
    → (ℕ → List (List Reply)) → Type 0
IsPending false setting seen requests asking coming = IsStill setting requests asking coming
IsPending true setting seen requests asking coming =
    IsUnderWay setting seen requests asking coming

-- the session routed each request about a key to its owner, answered each group when all replies
-- had come, and each After by the counter, and told the workers what it had seen; asking and coming
-- are of the group under way, which has these requests
pub record AsksGroups (setting : Setting) (asked : ℕ → List Asked)
    (heard : ℕ → List (List Reply)) (groups : List (List Pair)) (requests : List Request)
    (waiting : Bool) : Type 0 where
  pub exchanges : List Exchange
  pub asking : ℕ → List Asked
  pub coming : ℕ → List (List Reply)
  pub same : groups ≡ map exchange_pairs exchanges
  pub asks : (worker : ℕ) → worker < setting.workers
      → asked worker ≡ all_asked setting.workers worker exchanges ++ asking worker
  pub hears : (worker : ℕ) → worker < setting.workers
      → heard worker ≡ all_replied setting.workers worker exchanges ++ coming worker
  pub seen : HaveSeen 0 exchanges
  pub handled : AllByRecursion (IsExchange setting.layout) exchanges
  pub pending : IsPending waiting setting (seen_behind 0 exchanges) requests asking coming
