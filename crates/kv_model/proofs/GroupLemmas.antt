-- Lemmas on groups.
use Rattle.std.proofs.Common.{◌≡◌, ◌≤◌, Bool, true, false, cond, List, [], ◌∷◌, ◌++◌}
use Rattle.std.proofs.Common.{length, filter, fold, refl, ap, sym, ◌∙◌, arith, eqb, append_assoc}
use Rattle.std.proofs.Common.{append-nil, length-append, map}
use Rattle.std.proofs.lemmas.List.{map-append, length-map}
use Rattle.std.specs.List.{AllByRecursion, flat_map}
use Rattle.std.proofs.lemmas.Grind.{flat_map-append}
use Rattle.kv_base.specs.declared.request.Request.{Request}
use Rattle.kv_base.specs.declared.request.Request.TheVariants.{Put, Get, Delete, Flush, After}
use Rattle.kv_base.specs.declared.reply.Reply.{Reply}
use Rattle.kv_model.specs.Pairs.{Pair, requests_of, pairs_in, replies_in}
use Rattle.kv_model.specs.Groups.{Groups, IsGroup, with_group, all_groups, end_group, end_full}
use Rattle.kv_model.specs.Groups.{with_request, add_alone, next_groups, has_reply}
use Rattle.kv_model.proofs.PairwiseLemmas.{All-append}

-- the groups that ended are of the right size, and the current one isn't full
pub record AreGroups (groups : Groups) : Type 0 where
  pub ended : AllByRecursion IsGroup groups.ended
  pub current : length groups.current ≤ 63

-- the requests of the groups
abbrev pub flat : List (List Request) → List Request
flat groups = flat_map (λ group. group) groups

pub with_group-sizes : (groups : List (List Request)) (group : List Request)
    → AllByRecursion IsGroup groups → length group ≤ 64
    → AllByRecursion IsGroup (with_group groups group)
with_group-sizes groups [] all small = all
with_group-sizes groups (request ∷ requests) all small =
    All-append IsGroup groups ((request ∷ requests) ∷ []) all
    (record { some = omega arith; most = small }, tt)

pub with_group-flat : (groups : List (List Request)) (group : List Request)
    → flat (with_group groups group) ≡ flat groups ++ group
with_group-flat groups [] = sym (append-nil (flat groups))
with_group-flat groups (request ∷ requests) =
    flat_map-append (λ group. group) groups ((request ∷ requests) ∷ [])
    ∙ ap (λ more. flat groups ++ more) (append-nil (request ∷ requests))

end_full-groups : (groups : Groups) → AllByRecursion IsGroup groups.ended
    → length groups.current ≤ 64 → AreGroups (end_full groups)
end_full-groups groups all small = by (eqb (length groups.current) 64) refl
  where
    by : (full : Bool) → eqb (length groups.current) 64 ≡ full
        → AreGroups (cond full (end_group groups) groups)
    by true is = record {
      ended = with_group-sizes groups.ended groups.current all small;
      current = omega arith;
    }
    by false is = record { ended = all; current = grind (arith, is) }

end_full-flat : (groups : Groups) → flat (all_groups (end_full groups)) ≡ flat (all_groups groups)
end_full-flat groups = by (eqb (length groups.current) 64)
  where
    by : (full : Bool) → flat (all_groups (cond full (end_group groups) groups))
        ≡ flat (all_groups groups)
    by true = refl
    by false = refl

with_request-groups : (groups : Groups) (request : Request) → AreGroups groups
    → AreGroups (with_request groups request)
with_request-groups groups request are =
    let long = length-append groups.current (request ∷ []) in
    end_full-groups (record { ended = groups.ended; current = groups.current ++ request ∷ [] })
    are.ended (omega (arith, are.current, long))

with_request-flat : (groups : Groups) (request : Request)
    → flat (all_groups (with_request groups request)) ≡ flat (all_groups groups) ++ request ∷ []
with_request-flat groups request =
    end_full-flat (record { ended = groups.ended; current = groups.current ++ request ∷ [] })
    ∙ with_group-flat groups.ended (groups.current ++ request ∷ [])
    ∙ sym (append_assoc (flat groups.ended) groups.current (request ∷ []))
    ∙ ap (λ all. all ++ request ∷ []) (sym (with_group-flat groups.ended groups.current))

add_alone-groups : (groups : Groups) (request : Request) → AreGroups groups
    → AreGroups (add_alone groups request)
add_alone-groups groups request are = record {
  ended = All-append IsGroup (all_groups groups) ((request ∷ []) ∷ [])
      (with_group-sizes groups.ended groups.current are.ended (omega (arith, are.current)))
      (record { some = omega arith; most = omega arith }, tt);
  current = omega arith;
}

add_alone-flat : (groups : Groups) (request : Request)
    → flat (all_groups (add_alone groups request)) ≡ flat (all_groups groups) ++ request ∷ []
add_alone-flat groups request =
    flat_map-append (λ group. group) (all_groups groups) ((request ∷ []) ∷ [])
    ∙ ap (λ more. flat (all_groups groups) ++ more) (append-nil (request ∷ []))

next_groups-groups : (groups : Groups) (request : Request) → AreGroups groups
    → AreGroups (next_groups groups request)
next_groups-groups groups (Put key value) are = with_request-groups groups (Put key value) are
next_groups-groups groups (Get key) are = with_request-groups groups (Get key) are
next_groups-groups groups (Delete key) are = with_request-groups groups (Delete key) are
next_groups-groups groups Flush are = record {
  ended = with_group-sizes groups.ended groups.current are.ended (omega (arith, are.current));
  current = omega arith;
}
next_groups-groups groups (After stamp) are = add_alone-groups groups (After stamp) are

pub fold-groups : (requests : List Request) (groups : Groups) → AreGroups groups
    → AreGroups (fold next_groups groups requests)
fold-groups [] groups are = are
fold-groups (request ∷ requests) groups are =
    fold-groups requests (next_groups groups request) (next_groups-groups groups request are)

-- one request more, where it has a reply
next_groups-flat : (groups : Groups) (request : Request) (rest : List Request)
    → flat (all_groups (next_groups groups request)) ++ rest
    ≡ flat (all_groups groups) ++ cond (has_reply request) (request ∷ rest) rest
next_groups-flat groups (Put key value) rest =
    ap (λ all. all ++ rest) (with_request-flat groups (Put key value))
    ∙ append_assoc (flat (all_groups groups)) (Put key value ∷ []) rest
next_groups-flat groups (Get key) rest =
    ap (λ all. all ++ rest) (with_request-flat groups (Get key))
    ∙ append_assoc (flat (all_groups groups)) (Get key ∷ []) rest
next_groups-flat groups (Delete key) rest =
    ap (λ all. all ++ rest) (with_request-flat groups (Delete key))
    ∙ append_assoc (flat (all_groups groups)) (Delete key ∷ []) rest
next_groups-flat groups Flush rest = refl
next_groups-flat groups (After stamp) rest =
    ap (λ all. all ++ rest) (add_alone-flat groups (After stamp))
    ∙ append_assoc (flat (all_groups groups)) (After stamp ∷ []) rest

pub fold-flat : (requests : List Request) (groups : Groups)
    → flat (all_groups (fold next_groups groups requests))
    ≡ flat (all_groups groups) ++ filter has_reply requests
fold-flat [] groups = sym (append-nil (flat (all_groups groups)))
fold-flat (request ∷ requests) groups =
    fold-flat requests (next_groups groups request)
    ∙ next_groups-flat groups request (filter has_reply requests)

firsts : {X : Type 0} (x y : X) (xs ys : List X) → x ∷ xs ≡ y ∷ ys → x ≡ y
firsts x y xs ys e = cc

rests : {X : Type 0} (x y : X) (xs ys : List X) → x ∷ xs ≡ y ∷ ys → xs ≡ ys
rests x y xs ys e = cc

both : {X : Type 0} (x y : X) (xs ys : List X) → x ≡ y → xs ≡ ys → x ∷ xs ≡ y ∷ ys
both x y xs ys e f = cc

none_left : {X : Type 0} (x : X) (xs : List X) → [] ≡ x ∷ xs → ⊥
none_left x xs e = absurd (omega (arith, ap length e))

some_left : {X : Type 0} (x : X) (xs : List X) → x ∷ xs ≡ [] → ⊥
some_left x xs e = none_left x xs (sym e)

pair_same : (pair other : Pair) → pair.request ≡ other.request → pair.reply ≡ other.reply
    → pair ≡ other
pair_same pair other request reply =
    let make : Request → Reply → Pair = λ q r. record { request = q; reply = r } in
    ap (λ q. make q pair.reply) request ∙ ap (make other.request) reply

-- the replies of a group
abbrev replies_of : List Pair → List Reply
replies_of group = map (λ pair. pair.reply) group

-- flushes behind the requests change no group
pub fold-flushes : (more : List Request) (groups : Groups) → filter has_reply more ≡ []
    → all_groups (fold next_groups groups more) ≡ all_groups groups
fold-flushes [] groups none = refl
fold-flushes (Put key value ∷ more) groups none = absurd (some_left (Put key value) _ none)
fold-flushes (Get key ∷ more) groups none = absurd (some_left (Get key) _ none)
fold-flushes (Delete key ∷ more) groups none = absurd (some_left (Delete key) _ none)
fold-flushes (Flush ∷ more) groups none = fold-flushes more (end_group groups) none
fold-flushes (After stamp ∷ more) groups none = absurd (some_left (After stamp) _ none)

-- lists that begin with as many elements have the same parts
pub parts_same : {X : Type 0} (xs ys more rest : List X) → length xs ≡ length ys
    → xs ++ more ≡ ys ++ rest → (xs ≡ ys) × (more ≡ rest)
parts_same [] [] more rest n e = (refl, e)
parts_same [] (y ∷ ys) more rest n e = absurd (omega (arith, n))
parts_same (x ∷ xs) [] more rest n e = absurd (omega (arith, n))
parts_same (x ∷ xs) (y ∷ ys) more rest n e =
    let behind = parts_same xs ys more rest (omega (arith, n)) (rests x y (xs ++ more) (ys ++ rest)
    e)
    in (both x y xs ys (firsts x y (xs ++ more) (ys ++ rest) e) behind.0, behind.1)

-- pairs with the same requests and replies are the same
pairs_same : (pairs others : List Pair) → requests_of pairs ≡ requests_of others
    → map (λ pair. pair.reply) pairs ≡ map (λ pair. pair.reply) others → pairs ≡ others
pairs_same [] [] requests replies = refl
pairs_same [] (other ∷ others) requests replies = absurd (none_left other.request _ requests)
pairs_same (pair ∷ pairs) [] requests replies =
    absurd (none_left pair.request _ (sym requests))
pairs_same (pair ∷ pairs) (other ∷ others) requests replies =
    both pair other pairs others
    (pair_same pair other (firsts pair.request other.request _ _ requests)
    (firsts pair.reply other.reply _ _ replies))
    (pairs_same pairs others (rests pair.request other.request _ _ requests)
    (rests pair.reply other.reply _ _ replies))

-- groups with the same requests and one list of replies are the same
pub groups_same : (groups others : List (List Pair)) → map requests_of groups
    ≡ map requests_of others → replies_in groups ≡ replies_in others → groups ≡ others
groups_same [] [] requests replies = refl
groups_same [] (other ∷ others) requests replies = absurd (none_left (requests_of other) _ requests)
groups_same (group ∷ groups) [] requests replies =
    absurd (none_left (requests_of group) _ (sym requests))
groups_same (group ∷ groups) (other ∷ others) requests replies =
    let same : requests_of group ≡ requests_of other =
    firsts (requests_of group) (requests_of other) (map requests_of groups)
    (map requests_of others) requests in
    let count : length (replies_of group) ≡ length (replies_of other) =
    length-map group (λ pair. pair.reply) ∙ sym (length-map group (λ pair. pair.request))
    ∙ ap length same ∙ length-map other (λ pair. pair.request)
    ∙ sym (length-map other (λ pair. pair.reply)) in
    let parts = parts_same (replies_of group) (replies_of other) (replies_in groups)
    (replies_in others) count (sym (map-append (λ pair. pair.reply) group (pairs_in groups))
    ∙ replies ∙ map-append (λ pair. pair.reply) other (pairs_in others)) in
    both group other groups others (pairs_same group other same parts.0)
    (groups_same groups others (rests (requests_of group) (requests_of other)
    (map requests_of groups) (map requests_of others) requests) parts.1)
