-- The groups that a session's requests make: each has 64 requests at most, a Flush ends one, and an
-- After is one by itself.
use Rattle.std.specs.Prelude.{◌≡◌, ℕ, ◌-◌, ◌==◌, ◌≤◌, List, [], ◌∷◌, ◌++◌, length, filter, fold}
use Rattle.std.specs.Prelude.{Bool}
use Rattle.std.specs.Prelude.{true, false, map, if◌then◌else◌}
use Rattle.std.specs.List.{AllByRecursion, flat_map}
use Rattle.kv_base.specs.declared.request.Request.{Request}
use Rattle.kv_base.specs.declared.request.Request.TheVariants.{Put, Get, Delete, Flush, After}
use Rattle.kv_model.specs.Pairs.{Pair, requests_of, replies_in}

-- the most requests of a group
abbrev pub most_requests : ℕ
most_requests = 64

-- the groups that ended, and the requests of the one that is current
pub record Groups : Type 0 where
  pub ended : List (List Request)
  pub current : List Request

-- before the first request
abbrev pub no_groups : Groups
no_groups = record { ended = []; current = [] }

-- these groups and then this one, unless it has no request
abbrev pub with_group : List (List Request) → List Request → List (List Request)
with_group groups [] = groups
with_group groups (request ∷ requests) = groups ++ (request ∷ requests) ∷ []

-- the groups where reading has ended, which ends the current one too
abbrev pub all_groups : Groups → List (List Request)
all_groups groups = with_group groups.ended groups.current

-- the last group, or none
abbrev pub last_group : List (List Request) → List Request
last_group groups = fold (λ earlier group. group) [] groups

-- the current group has ended
abbrev pub end_group : Groups → Groups
end_group groups = record { ended = all_groups groups; current = [] }

-- the current group has ended if it is full
abbrev pub end_full : Groups → Groups
end_full groups = if length groups.current == most_requests then end_group groups else groups

-- the request stands in the current group
abbrev pub with_request : Groups → Request → Groups
with_request groups request =
    end_full (record { ended = groups.ended; current = groups.current ++ request ∷ [] })

-- the current group has ended, and the request is one by itself
abbrev pub add_alone : Groups → Request → Groups
add_alone groups request = record { ended = all_groups groups ++ (request ∷ []) ∷ []; current = [] }

-- behind one more request: a Flush stands in no group, and ends the current one, as an After does
abbrev pub next_groups : Groups → Request → Groups
next_groups groups (Put key value) = with_request groups (Put key value)
next_groups groups (Get key) = with_request groups (Get key)
next_groups groups (Delete key) = with_request groups (Delete key)
next_groups groups Flush = end_group groups
next_groups groups (After stamp) = add_alone groups (After stamp)

-- the groups that the requests make, in the order in which they were read
abbrev pub groups_of : List Request → Groups
groups_of requests = fold next_groups no_groups requests

-- the request has a reply
abbrev pub has_reply : Request → Bool
has_reply (Put key value) = true
has_reply (Get key) = true
has_reply (Delete key) = true
has_reply Flush = false
has_reply (After stamp) = true

-- the group has a request, and no more than it may
pub record IsGroup (group : List Request) : Type 0 where
  pub some : 1 ≤ length group
  pub most : length group ≤ most_requests

-- the groups are of the right size, and one behind the other they are the requests that have a
-- reply
pub record GroupsHoldRequests : Type 0 where
  pub sizes : (requests : List Request) → AllByRecursion IsGroup (all_groups (groups_of requests))
  pub parts : (requests : List Request)
      → flat_map (λ group. group) (all_groups (groups_of requests)) ≡ filter has_reply requests
  pub room : (requests : List Request)
      → length (groups_of requests).current ≤ most_requests - 1

-- requests without a reply change no group where reading ends, and groups of pairs are determined
-- by their requests and the list of all replies
pub record OneGrouping : Type 0 where
  pub same : (requests more : List Request) → filter has_reply more ≡ []
      → all_groups (groups_of (requests ++ more)) ≡ all_groups (groups_of requests)
  pub pairs : (groups others : List (List Pair)) → map requests_of groups ≡ map requests_of others
      → replies_in groups ≡ replies_in others → groups ≡ others
