-- What stands is a proposition.
use Rattle.std.proofs.Common.{◌≡◌, ◌≢◌, ℕ, ◌<◌, ◌^◌, List, [], ◌∷◌, ◌++◌, Option, None, Some, Bool}
use Rattle.std.proofs.Common.{cond, refl, sym, ap, ◌∙◌}
use Rattle.std.specs.Prelude.{MatchOption, ⊤, nat_eq, true}
use mathlib.Core.HLevel.{collapsible→set}
use Rattle.std.specs.List.{AllByRecursion, AllByRecursion-prop}
use Rattle.std.proofs.Props.{props}
use Rattle.kv_base.specs.declared.request.Request.{Request}
use Rattle.kv_base.specs.declared.request.Request.TheVariants.{Put, Get, Delete, After}
use Rattle.kv_base.specs.declared.reply.Reply.{Reply}
use Rattle.kv_base.specs.declared.reply.Reply.TheVariants.{Stored, Found, Missing, Removed, Absent}
use Rattle.kv_base.specs.declared.reply.Reply.TheVariants.{BadKey, TooLarge, Full, NoMemory}
use Rattle.kv_base.specs.declared.reply.Reply.TheVariants.{DiskFault, Unsure, Closed, StampsSpent}
use Rattle.kv_base.specs.declared.reply.Reply.TheVariants.{Malformed, Noted, Ahead}
use Rattle.kv_model.specs.History.{Write, value_at}
use Rattle.kv_model.specs.Items.{SameValue}
use Rattle.kv_model.specs.Pairwise.{Pairwise}
use Rattle.kv_model.specs.Layout.{Layout}
use Rattle.kv_model.specs.Pairs.{Pair, writes, stamps, stamp_of, seen_in, counter_numbers, pairs_in}
use Rattle.kv_model.specs.Agreement.{AgreesWithMap, IsAnswer, IsMapAnswer, IsRead, refusal_of}
use Rattle.kv_model.specs.Agreement.{IsCounterAnswer}
use Rattle.kv_model.specs.Order.{RespectsOrder, IsAfter, Rises, RisesForKey, TellsCounter}
use Rattle.kv_model.specs.Order.{IsCountedAfter}
use Rattle.kv_stamps.specs.declared.view.Range.{Range}
use Rattle.kv_disk.specs.declared.disk.Disk as disks
use Rattle.kv_parties.specs.Setting.{Setting, owned_pairs, owned_writes}
use Rattle.kv_parties.specs.Causes.{HasCauses, IsSpentAt, IsFullAt, any_unsure, all_writes}
use Rattle.kv_parties.specs.Recovered.{LeavesPrefixes}
use Rattle.kv_parties.specs.Joined.{Parties, Stands, IsAccounted}

-- a reply as its kind, a number and a value
abbrev code : Reply → ℕ × (ℕ × List ℕ)
code (Stored t) = (0, (t, []))
code (Found t v) = (1, (t, v))
code (Missing t) = (2, (t, []))
code (Removed t) = (3, (t, []))
code (Absent t) = (4, (t, []))
code BadKey = (5, (0, []))
code TooLarge = (6, (0, []))
code (Full c) = (7, (c, []))
code NoMemory = (8, (0, []))
code DiskFault = (9, (0, []))
code (Unsure t) = (10, (t, []))
code Closed = (11, (0, []))
code (StampsSpent n) = (12, (n, []))
code (Malformed o) = (13, (o, []))
code Noted = (14, (0, []))
code (Ahead n) = (15, (n, []))

abbrev decode : ℕ × (ℕ × List ℕ) → Reply
decode x =
    cond (nat_eq x.0 0) (Stored x.1.0) (cond (nat_eq x.0 1) (Found x.1.0 x.1.1)
    (cond (nat_eq x.0 2) (Missing x.1.0) (cond (nat_eq x.0 3) (Removed x.1.0)
    (cond (nat_eq x.0 4) (Absent x.1.0) (cond (nat_eq x.0 5) BadKey (cond (nat_eq x.0 6) TooLarge
    (cond (nat_eq x.0 7) (Full x.1.0) (cond (nat_eq x.0 8) NoMemory (cond (nat_eq x.0 9) DiskFault
    (cond (nat_eq x.0 10) (Unsure x.1.0) (cond (nat_eq x.0 11) Closed
    (cond (nat_eq x.0 12) (StampsSpent x.1.0) (cond (nat_eq x.0 13) (Malformed x.1.0)
    (cond (nat_eq x.0 14) Noted (Ahead x.1.0)))))))))))))))

back : (r : Reply) → decode (code r) ≡ r
back (Stored t) = refl
back (Found t v) = refl
back (Missing t) = refl
back (Removed t) = refl
back (Absent t) = refl
back BadKey = refl
back TooLarge = refl
back (Full c) = refl
back NoMemory = refl
back DiskFault = refl
back (Unsure t) = refl
back Closed = refl
back (StampsSpent n) = refl
back (Malformed o) = refl
back Noted = refl
back (Ahead n) = refl

code-set : IsSet (ℕ × (ℕ × List ℕ))
code-set = hlevel props

Reply-set : IsSet Reply
Reply-set = collapsible→set (λ x y p. sym (back x) ∙ ap decode (ap code p) ∙ back y)
    (λ x y p q. ap (λ z. sym (back x) ∙ ap decode z ∙ back y)
    (code-set (code x) (code y) (ap code p) (ap code q)))

Pairwise-prop : {X : Type 0} (R : X → X → Type 0) → ((x y : X) → IsProp (R x y)) → (xs : List X)
    → IsProp (Pairwise R xs)
Pairwise-prop R p [] = hlevel props
Pairwise-prop R p (x ∷ xs) =
    let a : IsProp (AllByRecursion (R x) xs) = AllByRecursion-prop (R x) (p x) xs in
    let b : IsProp (Pairwise R xs) = Pairwise-prop R p xs in
    hlevel (props, a, b)

IsRead-prop : (told : Bool) (o : Option (List ℕ)) (value : List ℕ) → IsProp (IsRead told o value)
IsRead-prop told None value = hlevel props
IsRead-prop told (Some kept) value = hlevel props

counter_answer-prop : (stamp : ℕ) (reply : Reply) → IsProp (IsCounterAnswer stamp reply)
counter_answer-prop stamp Noted = hlevel props
counter_answer-prop stamp (Ahead n) = hlevel props
counter_answer-prop stamp reply = hlevel props

map_answer-prop : (told : Bool) (layout : Layout) (h : List Write) (request : Request)
    (reply : Reply) → IsProp (IsMapAnswer told layout h request reply)
map_answer-prop told layout h (Get k) (Found t found) = IsRead-prop told (value_at h t k) found
map_answer-prop told layout h (Put k v) (Full c) = hlevel props
map_answer-prop told layout h (Delete k) (Removed t) = hlevel props
map_answer-prop told layout h (After s) reply = counter_answer-prop s reply
map_answer-prop told layout h request reply = hlevel props

answer-prop : (told : Bool) (layout : Layout) (h : List Write) (request : Request) (reply : Reply)
    → IsProp (IsAnswer told layout h request reply)
answer-prop told layout h request reply =
    elim (refusal_of layout request) as (λ o. IsProp (MatchOption o
    (IsMapAnswer told layout h request reply) (λ refusal. reply ≡ refusal))) [
      | None ↦ map_answer-prop told layout h request reply
      | Some refusal ↦ hlevel (props, Reply-set)
    ]

agrees-prop : (told : Bool) (layout : Layout) (before : List Write) (floor : ℕ) (pairs : List Pair)
    → IsProp (AgreesWithMap told layout before floor pairs)
agrees-prop told layout before floor pairs =
    let a : IsProp (Pairwise (λ stamp other. stamp ≢ other) (stamps pairs)) =
    Pairwise-prop (λ stamp other. stamp ≢ other) (λ x y. hlevel props) (stamps pairs) in
    let b : IsProp (AllByRecursion (λ stamp. (floor < stamp) × (stamp < 2 ^ 62)) (stamps pairs)) =
    AllByRecursion-prop (λ stamp. (floor < stamp) × (stamp < 2 ^ 62)) (λ x. hlevel props)
    (stamps pairs) in
    let f : IsProp (AllByRecursion (λ stamp. AllByRecursion (λ write. write.stamp < stamp) before)
    (stamps pairs)) =
    AllByRecursion-prop (λ stamp. AllByRecursion (λ (write : Write). write.stamp < stamp)
    before)
    (λ x. AllByRecursion-prop (λ (write : Write). write.stamp < x) (λ w. hlevel props) before)
    (stamps pairs) in
    let r : IsProp (AllByRecursion (λ pair. IsAnswer told layout (before ++ writes pairs)
    pair.request pair.reply) pairs) =
    AllByRecursion-prop (λ (pair : Pair). IsAnswer told layout (before ++ writes pairs)
    pair.request pair.reply)
    (λ p. answer-prop told layout (before ++ writes pairs) p.request p.reply) pairs in
    hlevel (props, a, b, f, r)

rises-prop : (p q : Pair) → IsProp (Rises p q)
rises-prop p q =
    elim (stamp_of p.reply) as (λ a. IsProp (MatchOption a ⊤ (λ stamp.
    MatchOption (stamp_of q.reply) ⊤ (λ other. stamp < other)))) [
      | None ↦ hlevel props
      | Some s ↦ elim (stamp_of q.reply) as (λ b. IsProp (MatchOption b ⊤ (λ other. s < other))) [
        | None ↦ hlevel props
        | Some o ↦ hlevel props
      ]
    ]

order-prop : (groups : List (List Pair)) → IsProp (RespectsOrder groups)
order-prop groups =
    let a : IsProp (Pairwise IsAfter groups) = Pairwise-prop IsAfter (λ g h.
    AllByRecursion-prop (λ stamp. AllByRecursion (λ other. stamp < other) (stamps h))
    (λ x. AllByRecursion-prop (λ other. x < other) (λ y. hlevel props) (stamps h)) (seen_in g))
    groups in
    let b : IsProp (AllByRecursion (λ group. Pairwise RisesForKey group) groups) =
    AllByRecursion-prop (λ (group : List Pair). Pairwise RisesForKey group)
    (λ g. Pairwise-prop RisesForKey (λ p q. let r : IsProp (Rises p q) = rises-prop p q in
    hlevel (props, r)) g) groups in
    hlevel (props, a, b)

counter-prop : (floor : ℕ) (groups : List (List Pair)) → IsProp (TellsCounter floor groups)
counter-prop floor groups =
    let numbers : List ℕ = counter_numbers (pairs_in groups) in
    let a : IsProp (AllByRecursion (λ number. floor < number) numbers) =
    AllByRecursion-prop (λ number. floor < number) (λ n. hlevel props) numbers in
    let b : IsProp (Pairwise IsCountedAfter groups) = Pairwise-prop IsCountedAfter (λ g h.
    AllByRecursion-prop (λ seen. AllByRecursion (λ number. seen < number) (counter_numbers h))
    (λ x. AllByRecursion-prop (λ number. x < number) (λ y. hlevel props) (counter_numbers h))
    (seen_in g)) groups in
    hlevel (props, a, b)

causes-prop : (setting : Setting) (worker : ℕ) (before : List Write) (runs : List Range)
    (faults faults' : ℕ) (closed : Bool) (pairs : List Pair)
    → IsProp (HasCauses setting worker before runs faults faults' closed pairs)
causes-prop setting worker before runs faults faults' closed pairs =
    let owned : List Pair = owned_pairs setting.workers worker pairs in
    let history : List Write = owned_writes setting.workers worker (all_writes before pairs) in
    let a : IsProp (AllByRecursion (λ pair. pair.reply ≡ Closed → any_unsure owned ≡ true) owned) =
    AllByRecursion-prop (λ (pair : Pair). pair.reply ≡ Closed → any_unsure owned ≡ true)
    (λ p. hlevel props) owned in
    let b : IsProp (AllByRecursion (IsSpentAt runs) owned) =
    AllByRecursion-prop (IsSpentAt runs) (λ p. hlevel props) owned in
    let c : IsProp (AllByRecursion (IsFullAt setting.layout setting.slots history) owned) =
    AllByRecursion-prop (IsFullAt setting.layout setting.slots history) (λ p. hlevel props) owned in
    hlevel (props, a, b, c)

leaves-prop : {D : Type 0} (d : disks.Ghosts D) (setting : Setting) (worker : ℕ) (first now : D)
    (before : List Write) (pairs : List Pair)
    → IsProp (LeavesPrefixes d setting worker first now before pairs)
leaves-prop d setting worker first now before pairs = hlevel props

same_value-prop : (told : Bool) (a b : Option (List ℕ)) → IsProp (SameValue told a b)
same_value-prop told None None = hlevel props
same_value-prop told None (Some b) = hlevel props
same_value-prop told (Some a) None = hlevel props
same_value-prop told (Some a) (Some b) = hlevel props

accounted-prop : (setting : Setting) (pairs told : List Pair)
    → IsProp (AllByRecursion (IsAccounted setting pairs) told)
accounted-prop setting pairs told =
    AllByRecursion-prop (IsAccounted setting pairs) (λ p. hlevel props) told

pub stands-prop : {F D : Type 0} (d : disks.Ghosts D) (setting : Setting) (parties : Parties F D)
    (pairs : List Pair) → IsProp (Stands d setting parties pairs)
stands-prop d setting parties pairs = hlevel (
  props,
  agrees-prop,
  order-prop,
  counter-prop,
  accounted-prop,
  causes-prop,
  same_value-prop,
  leaves-prop,
)
