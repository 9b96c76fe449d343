-- A worker meets no stamps left only where all numbers were given.
use Rattle.std.proofs.Common.{◌≡◌, ◌⊎◌, inl, inr, ⊎_elim, ℕ, zero, suc, ◌+◌, ◌-◌, ◌^◌, ◌<◌, ◌≤◌}
use Rattle.std.proofs.Common.{List}
use Rattle.std.proofs.Common.{[], ◌∷◌, ◌++◌, length, map, Option, None, Some, Bool, true, false}
use Rattle.std.proofs.Common.{refl, sym, ap, ◌∙◌, subst, arith, Contains, cond}
use Rattle.std.specs.List.{filter}
use Rattle.std.proofs.lemmas.Bool.Decides.{nat_tests}
use Rattle.std.proofs.lemmas.List.Elements.{All-head, All-tail}
use Rattle.std.proofs.lemmas.List.Sums.{sum_by-cons}
use Rattle.std.specs.Prelude.{min, max, All, is_some}
use Rattle.kv_base.specs.declared.request.Request.{Request}
use Rattle.kv_base.specs.declared.reply.Reply.{Reply}
use Rattle.kv_disk.specs.declared.disk.Disk as disks
use Rattle.kv_model.specs.Pairs.{Pair, pairs_in, stamps, noted_stamps, seen_in, stamp_of}
use Rattle.kv_model.specs.Pairs.{noted_by, key_of}
use Rattle.kv_stamps.specs.Ranges.{within, between, among}
use Rattle.kv_stamps.specs.Rule.{times_in}
use Rattle.kv_stamps.specs.Seats.{first_spent}
use Rattle.kv_stamps.specs.declared.view.Range.{Range}
use Rattle.kv_stamps.specs.declared.view.View.{View}
use Rattle.kv_parties.specs.Begun.{IsBefore}
use Rattle.kv_parties.specs.Groups.{Asked}
use Rattle.kv_parties.specs.Joined.{Parties, AllKeep, NonePassed, NoneWaits, all_answered, all_pairs}
use Rattle.kv_parties.specs.Joined.{all_noted}
use Rattle.kv_parties.specs.Laws.{CountsAll}
use Rattle.kv_parties.specs.Messages.{groups_in}
use Rattle.kv_parties.specs.Rows.{sum_below}
use Rattle.kv_parties.specs.Sessions.{Exchange, exchange_pairs, part_of, asked_by, all_asked}
use Rattle.kv_parties.specs.Sessions.{greatest, seen_behind, HaveSeen, AsksGroups, IsPending}
use Rattle.kv_parties.specs.Sessions.{message_of, asked_of}
use Rattle.kv_parties.specs.Setting.{Setting, IsOwned}
use Rattle.kv_parties.specs.Stamps.{size_of, IsForGroup, IsForExchange, IsMet}
use Rattle.kv_parties.proofs.Agreeing.{weigh, weigh-le, owned-keyed, stamp-In}
use Rattle.kv_parties.proofs.Causing.{Contains-In}
use Rattle.kv_parties.proofs.Joining.{session_fits, sessions_fit, all_many, all_few, of_own}
use Rattle.kv_parties.proofs.Coming.{greatest-from, greatest-above}
use Rattle.kv_parties.proofs.Histories.{from_some}
use Rattle.kv_parties.proofs.Lists.{In, All-In, count, In-left, In-right, In-append}
use Rattle.kv_parties.proofs.Lists.{In-flat_map-back}
use Rattle.kv_parties.proofs.Lists.{In-filter_map, In-row}
use Rattle.kv_parties.proofs.Lists.{In-filter_map-back, count-In, sum_below-le, sum_below-same}
use Rattle.kv_parties.proofs.Lists.{sum_below-add, sum_below-zero, sum_below-swap, sum_below-at}
use Rattle.kv_parties.proofs.Meeting.{rings_of, courses_of, ranges_of, rings_keep, same_history}
use Rattle.kv_parties.proofs.Meeting.{took, groups_in-prefix, groups-asking, all_quiet}
use Rattle.kv_parties.proofs.Owned.{IsHere, stampless}
use Rattle.kv_parties.proofs.Standing.{mine, owned}

-- so many numbers below n are at least the start and below the end
between-below : (n start end : ℕ) → sum_below n (λ k. between k start end) ≡ min n end - start
between-below zero start end = omega arith
between-below (suc n) start end =
    let rest : sum_below n (λ k. between k start end) ≡ min n end - start =
    between-below n start end in
    ⊎_elim
    (λ (low : n < start).
    let here : between n start end ≡ 0 = (grind (arith, nat_tests)) in omega arith)
    (λ (more : (start ≤ n) × (n < end) ⊎ (end ≤ n) × (start ≤ n)). ⊎_elim
    (λ (inside : (start ≤ n) × (n < end)).
    let low : start ≤ n = inside.0 in
    let high : n < end = inside.1 in
    let here : between n start end ≡ 1 = (grind (arith, nat_tests)) in omega arith)
    (λ (past : (end ≤ n) × (start ≤ n)).
    let high : end ≤ n = past.0 in
    let low : start ≤ n = past.1 in
    let here : between n start end ≡ 0 = (grind (arith, nat_tests)) in omega arith) more)
    (cases n start end)
  where
    cases : (n start end : ℕ) → (n < start)
        ⊎ ((start ≤ n) × (n < end) ⊎ (end ≤ n) × (start ≤ n))
    cases n start end = ⊎_elim (λ (low : n < start). inl low)
        (λ (from : start ≤ n). inr (⊎_elim (λ (high : n < end). inl (from, high))
        (λ (past : end ≤ n). inr (past, from))
        (let e : (n < end) ⊎ (end ≤ n) = grind arith in e)))
        (let e : (n < start) ⊎ (start ≤ n) = grind arith in e)

-- the numbers of ranges are no more than these have
among-below : (n : ℕ) (ranges : List Range) → sum_below n (λ k. among k ranges) ≤ size_of ranges
among-below n [] = omega (arith, sum_below-zero n)
among-below n (r ∷ ranges) = omega (
  arith,
  sum_below-same n (λ k. among k (r ∷ ranges)) (λ k. within k r + among k ranges)
      (λ k lt. sum_by-cons (within k) r ranges),
  sum_below-add n (λ k. within k r) (λ k. among k ranges),
  between-below n r.first (r.first + r.count),
  among-below n ranges,
  sum_by-cons (λ (r : Range). r.count) r ranges,
)

-- the last number of a range is in it
last-within : (r : Range) (last : ℕ) → 1 ≤ r.count → r.first + r.count ≡ last + 1
    → within last r ≡ 1
last-within r last some e =
    let low : r.first ≤ last = omega arith in
    let high : last < r.first + r.count = omega arith in
    grind (arith, nat_tests)

greatest-origin : (n : ℕ) (xs : List ℕ) → (greatest n xs ≡ n) ⊎ In (greatest n xs) xs
greatest-origin n [] = inl refl
greatest-origin n (x ∷ xs) = ⊎_elim
    (λ (e : greatest (max n x) xs ≡ max n x). ⊎_elim
    (λ (same : max n x ≡ n). inl (e ∙ same))
    (λ (same : max n x ≡ x). inr (inl (sym (e ∙ same))))
    (let o : (max n x ≡ n) ⊎ (max n x ≡ x) = grind arith in o))
    (λ (i : In (greatest (max n x) xs) xs). inr (inr i))
    (greatest-origin (max n x) xs)

-- the number is this one, or was seen by the exchanges
abbrev IsFrom : ℕ → List Exchange → ℕ → Type 0
IsFrom seen exchanges number = (number ≡ seen)
    ⊎ In number (seen_in (pairs_in (map exchange_pairs exchanges)))

In-stamps-left : (t : ℕ) (ps qs : List Pair) → In t (stamps ps) → In t (stamps (ps ++ qs))
In-stamps-left t ps qs i =
    let back = In-filter_map-back (λ (p : Pair). stamp_of p.reply) t ps i in
    stamp-In t back.0 (ps ++ qs) back.1 (In-left back.0 ps qs back.2)

In-stamps-right : (t : ℕ) (ps qs : List Pair) → In t (stamps qs) → In t (stamps (ps ++ qs))
In-stamps-right t ps qs i =
    let back = In-filter_map-back (λ (p : Pair). stamp_of p.reply) t qs i in
    stamp-In t back.0 (ps ++ qs) back.1 (In-right back.0 ps qs back.2)

In-noted-left : (t : ℕ) (ps qs : List Pair) → In t (noted_stamps ps)
    → In t (noted_stamps (ps ++ qs))
In-noted-left t ps qs i =
    let f : Pair → Option ℕ = λ p. noted_by p.request p.reply in
    let back = In-filter_map-back f t ps i in
    In-filter_map f back.0 t (ps ++ qs) back.1 (In-left back.0 ps qs back.2)

In-noted-right : (t : ℕ) (ps qs : List Pair) → In t (noted_stamps qs)
    → In t (noted_stamps (ps ++ qs))
In-noted-right t ps qs i =
    let f : Pair → Option ℕ = λ p. noted_by p.request p.reply in
    let back = In-filter_map-back f t qs i in
    In-filter_map f back.0 t (ps ++ qs) back.1 (In-right back.0 ps qs back.2)

In-seen-left : (t : ℕ) (ps qs : List Pair) → In t (seen_in ps) → In t (seen_in (ps ++ qs))
In-seen-left t ps qs i = ⊎_elim
    (λ (a : In t (stamps ps)). In-left t (stamps (ps ++ qs)) (noted_stamps (ps ++ qs))
    (In-stamps-left t ps qs a))
    (λ (b : In t (noted_stamps ps)). In-right t (stamps (ps ++ qs)) (noted_stamps (ps ++ qs))
    (In-noted-left t ps qs b))
    (In-append t (stamps ps) (noted_stamps ps) i)

In-seen-right : (t : ℕ) (ps qs : List Pair) → In t (seen_in qs) → In t (seen_in (ps ++ qs))
In-seen-right t ps qs i = ⊎_elim
    (λ (a : In t (stamps qs)). In-left t (stamps (ps ++ qs)) (noted_stamps (ps ++ qs))
    (In-stamps-right t ps qs a))
    (λ (b : In t (noted_stamps qs)). In-right t (stamps (ps ++ qs)) (noted_stamps (ps ++ qs))
    (In-noted-right t ps qs b))
    (In-append t (stamps qs) (noted_stamps qs) i)

-- what is seen behind an exchange is seen with it
from-later : (seen number : ℕ) (x : Exchange) (exchanges : List Exchange)
    → IsFrom (greatest seen (seen_in (exchange_pairs x))) exchanges number
    → IsFrom seen (x ∷ exchanges) number
from-later seen number x exchanges (inl e) = ⊎_elim
    (λ (same : greatest seen (seen_in (exchange_pairs x)) ≡ seen). inl (e ∙ same))
    (λ (i : In (greatest seen (seen_in (exchange_pairs x))) (seen_in (exchange_pairs x))).
    inr (In-seen-left number (exchange_pairs x) (pairs_in (map exchange_pairs exchanges))
    (subst (λ n. In n (seen_in (exchange_pairs x))) (sym e) i)))
    (greatest-origin seen (seen_in (exchange_pairs x)))
from-later seen number x exchanges (inr i) =
    inr (In-seen-right number (exchange_pairs x) (pairs_in (map exchange_pairs exchanges)) i)

seen_behind-from : (seen : ℕ) (exchanges : List Exchange)
    → IsFrom seen exchanges (seen_behind seen exchanges)
seen_behind-from seen [] = inl refl
seen_behind-from seen (x ∷ exchanges) =
    from-later seen (seen_behind (greatest seen (seen_in (exchange_pairs x))) exchanges) x exchanges
    (seen_behind-from (greatest seen (seen_in (exchange_pairs x))) exchanges)

seen-from : (seen : ℕ) (exchanges : List Exchange) → HaveSeen seen exchanges → (y : Exchange)
    → In y exchanges → IsFrom seen exchanges y.seen
seen-from seen [] have y i = absurd i
seen-from seen (x ∷ exchanges) have y (inl e) =
    inl (ap (λ (z : Exchange). z.seen) (sym e) ∙ have.0)
seen-from seen (x ∷ exchanges) have y (inr i) = from-later seen y.seen x exchanges
    (seen-from (greatest seen (seen_in (exchange_pairs x))) exchanges have.1 y i)

asked_by-seen : (seen : ℕ) (part : List Pair) (asked : Asked) → In asked (asked_by seen part)
    → asked.seen ≡ seen
asked_by-seen seen [] asked i = absurd i
asked_by-seen seen (p ∷ part) asked (inl e) = ap (λ (a : Asked). a.seen) (sym e)
asked_by-seen seen (p ∷ part) asked (inr i) = absurd i

message_of-seen : (seen : ℕ) (requests : List Request) (asked : Asked)
    → In asked (message_of seen requests) → asked.seen ≡ seen
message_of-seen seen [] asked i = absurd i
message_of-seen seen (r ∷ requests) asked (inl e) = ap (λ (a : Asked). a.seen) (sym e)
message_of-seen seen (r ∷ requests) asked (inr i) = absurd i

-- of the group under way too
pending-seen : (setting : Setting) (seen : ℕ) (requests : List Request) (asking : ℕ → List Asked)
    (coming : ℕ → List (List Reply)) (waiting : Bool)
    → IsPending waiting setting seen requests asking coming → (w : ℕ) → w < setting.workers
    → (asked : Asked) → In asked (asking w) → asked.seen ≡ seen
pending-seen setting seen requests asking coming true pending w lt asked i =
    message_of-seen seen (asked_of setting.workers w pending.sent) asked
    (subst (In asked) (pending.asks w lt) i)
pending-seen setting seen requests asking coming false pending w lt asked i =
    absurd (subst (In asked) (pending.asks w lt) i)

-- what a session had seen when it asked is 0, or what it saw by its groups
asked-from : (setting : Setting) (asked : ℕ → List Asked) (heard : ℕ → List (List Reply))
    (groups : List (List Pair)) (requests : List Request) (waiting : Bool)
    → AsksGroups setting asked heard groups requests waiting → (w : ℕ) → w < setting.workers
    → (message : Asked) → In message (asked w)
    → (message.seen ≡ 0) ⊎ In message.seen (seen_in (pairs_in groups))
asked-from setting asked heard groups requests waiting keep w lt message i =
    subst (λ gs. (message.seen ≡ 0) ⊎ In message.seen (seen_in (pairs_in gs))) (sym keep.same)
    (⊎_elim
    (λ (a : In message (all_asked setting.workers w keep.exchanges)).
    let back = In-flat_map-back (λ (x : Exchange). asked_by x.seen
    (part_of setting.workers w x.handled)) message keep.exchanges a in
    let is = asked_by-seen back.0.seen (part_of setting.workers w back.0.handled) message back.1 in
    subst (IsFrom 0 keep.exchanges) (sym is)
    (seen-from 0 keep.exchanges keep.seen back.0 back.2))
    (λ (b : In message (keep.asking w)).
    subst (IsFrom 0 keep.exchanges) (sym (pending-seen setting (seen_behind 0 keep.exchanges)
    requests keep.asking keep.coming waiting keep.pending w lt message b))
    (seen_behind-from 0 keep.exchanges))
    (In-append message (all_asked setting.workers w keep.exchanges) (keep.asking w)
    (subst (In message) (keep.asks w lt) i)))

-- so is what it had seen before an exchange
exchange-from : (setting : Setting) (asked : ℕ → List Asked) (heard : ℕ → List (List Reply))
    (groups : List (List Pair)) (requests : List Request) (waiting : Bool)
    (keep : AsksGroups setting asked heard groups requests waiting) (exchange : Exchange)
    → In exchange keep.exchanges
    → (exchange.seen ≡ 0) ⊎ In exchange.seen (seen_in (pairs_in groups))
exchange-from setting asked heard groups requests waiting keep exchange i =
    subst (λ gs. (exchange.seen ≡ 0) ⊎ In exchange.seen (seen_in (pairs_in gs))) (sym keep.same)
    (seen-from 0 keep.exchanges keep.seen exchange i)

-- a range that ends at or below the number hasn't got it
within-past : (r : Range) (number : ℕ) → r.first + r.count ≤ number → within number r ≡ 0
within-past r number past = grind (arith, nat_tests)

between-one : (k start end : ℕ) → 1 ≤ between k start end → (start ≤ k) × (k < end)
between-one k start end one = ⊎_elim
    (λ (low : k < start).
    let none : between k start end ≡ 0 = grind (arith, nat_tests) in absurd (omega arith))
    (λ (from : start ≤ k). ⊎_elim
    (λ (high : k < end). (from, high))
    (λ (past : end ≤ k).
    let none : between k start end ≡ 0 = grind (arith, nat_tests) in absurd (omega arith))
    (let e : (k < end) ⊎ (end ≤ k) = grind arith in e))
    (let e : (k < start) ⊎ (start ≤ k) = grind arith in e)

between-most : (k start end : ℕ) → between k start end ≤ 1
between-most k start end = grind (arith, nat_tests)

-- below the start there is none
between-under : (k start end : ℕ) → k < start → between k start end ≡ 0
between-under k start end low = grind (arith, nat_tests)

-- with a higher start there are no more
between-higher : (k start higher end : ℕ) → start ≤ higher
    → between k higher end ≤ between k start end
between-higher k start higher end le = grind (arith, nat_tests)

-- 1 where the request is about a key
abbrev keyed : Pair → ℕ
keyed pair = cond (is_some (key_of pair.request)) 1 0

weigh-keyed : (ps : List Pair)
    → weigh keyed ps ≡ length (filter (λ pair. is_some (key_of pair.request)) ps)
weigh-keyed [] = refl
weigh-keyed (p ∷ ps) = elim (is_some (key_of p.request)) as (λ b. cond b 1 0 + weigh keyed ps
    ≡ length (cond b (p ∷ filter (λ (q : Pair). is_some (key_of q.request)) ps)
    (filter (λ (q : Pair). is_some (key_of q.request)) ps))) [
      | true ↦ omega (arith, weigh-keyed ps)
      | false ↦ omega (arith, weigh-keyed ps)
    ]

length-weigh : (ps : List Pair) → length ps ≡ weigh (λ p. 1) ps
length-weigh [] = refl
length-weigh (p ∷ ps) = omega (arith, length-weigh ps)

passes : (limit next first count most many : ℕ) → limit < first + count → first + count ≤ next
    → next - (most + 1) ≤ many → limit ≤ most + many
passes limit next first count most many low high few = omega arith

-- the greatest is at least each of the others
greatest-In : (floor : ℕ) (xs : List ℕ) (x : ℕ) → In x xs → x ≤ greatest floor xs
greatest-In floor xs x i =
    All-In (λ y. y ≤ greatest floor xs) x xs (greatest-above floor xs) i

-- the pairs of each worker
module _ {F D : Type 0} (d : disks.Ghosts D) (setting : Setting) (parties : Parties F D)
    (base : IsBefore setting parties.before) (keep : AllKeep d setting parties)
    (passed : NonePassed setting parties) where
  abbrev view : ℕ → View
  view w = (parties.workers w).view

  abbrev ours : ℕ → List Pair
  ours = mine d setting parties base keep passed

  few_own : (w : ℕ) → w < setting.workers
      → size_of (view w).drawn + size_of (view w).spent ≤ length (ours w)
  few_own w lt = of_own setting parties.before (rings_of parties) (ranges_of parties)
      (courses_of parties) (rings_keep d setting parties keep passed) base w
      (λ pairs. size_of (view w).drawn + size_of (view w).spent ≤ length pairs) (λ less.
      subst (λ pairs. size_of (view w).drawn + size_of (view w).spent ≤ length pairs)
      ((keep.workers w less).same ∙ sym (same_history d setting parties keep passed w less))
      (keep.workers w less).stamps.few) lt

  -- all workers' numbers are no more than the answered requests
  pub numbers_few : sum_below setting.workers (λ w. size_of (view w).drawn + size_of (view w).spent)
      ≤ length (all_answered setting parties)
  numbers_few = omega (
    arith,
    sum_below-le setting.workers (λ w. size_of (view w).drawn + size_of (view w).spent)
        (λ w. weigh (λ p. 1) (ours w))
        (λ w lt. omega (arith, few_own w lt, length-weigh (ours w))),
    all_many setting parties.before (rings_of parties) (ranges_of parties) (courses_of parties)
        (rings_keep d setting parties keep passed) base (λ p. 1),
    length-weigh (all_answered setting parties),
  )

  -- where no session waits, workers answered no more requests than sessions did about keys
  pub answered_few : NoneWaits setting parties → length (all_answered setting parties)
      ≤ length (filter (λ pair. is_some (key_of pair.request)) (all_pairs setting parties))
  answered_few quiet = omega (
    arith,
    length-weigh (all_answered setting parties),
    all_few setting parties.before (rings_of parties) (ranges_of parties) (courses_of parties)
        (rings_keep d setting parties keep passed) base (λ p. 1),
    sum_below-le setting.workers (λ w. weigh (λ p. 1) (ours w)) (λ w. weigh keyed (ours w))
        (λ w lt. weigh-le (λ p. 1) keyed (ours w) (λ p i. owned-one w p
        (All-In (λ (q : Pair). IsOwned setting.workers w q.request) p (ours w)
        ((owned d setting parties base keep passed).owned w lt) i))),
    (sessions_fit setting parties.before (rings_of parties) (ranges_of parties)
        (courses_of parties) (rings_keep d setting parties keep passed) base
        (all_quiet d setting parties keep passed quiet)).holds keyed,
    weigh-keyed (all_pairs setting parties),
  )
    where
      owned-one : (w : ℕ) (p : Pair) → IsOwned setting.workers w p.request → 1 ≤ keyed p
      owned-one w p is =
          let k = owned-keyed setting.workers w p.request is in
          let one : keyed p ≡ 1 = ap (λ (o : Option (List ℕ)). cond (is_some o) 1 0) k.1 in
          omega (arith, one)

module _ {F D : Type 0} (d : disks.Ghosts D) (setting : Setting) (parties : Parties F D)
    (base : IsBefore setting parties.before) (keep : AllKeep d setting parties)
    (passed : NonePassed setting parties) (next : ℕ) (counts : CountsAll setting parties next) where
  abbrev seen_by : ℕ → View
  seen_by w = (parties.workers w).view

  abbrev its : ℕ → List Pair
  its = mine d setting parties base keep passed

  -- a stamp of a session's groups is one that a worker drew
  drawn-by : (s : ℕ) → s < setting.sessions → (t : ℕ) → In t (stamps (pairs_in (parties.groups s)))
      → (v : ℕ) × (v < setting.workers) × (1 ≤ among t (seen_by v).drawn)
  drawn-by s lt t i =
      let back = In-filter_map-back (λ (p : Pair). stamp_of p.reply) t (pairs_in (parties.groups s))
      i in
      ⊎_elim
      (λ (a : (w : ℕ) × (w < setting.workers) × In back.0 (its w)). (
        a.0,
        a.1,
        omega (
          arith,
          count-In t (stamps (its a.0)) (stamp-In t back.0 (its a.0) back.1 a.2),
          (owned d setting parties base keep passed).counted a.0 a.1 t,
        ),
      ))
      (λ (b : IsHere setting.layout back.0).
      let none : None ≡ Some t = sym (stampless setting.layout back.0 b) ∙ back.1 in absurd (cc))
      (session_fits setting parties.before (rings_of parties) (ranges_of parties)
      (courses_of parties) (rings_keep d setting parties keep passed) base s lt back.0 back.2)

  -- what a session's seat has of a number
  abbrev looked : ℕ → ℕ → ℕ
  looked k s = times_in k (parties.views s)

  -- all numbers that were drawn, and all that were passed over or met, are those of the counter
  parts : (k : ℕ) → sum_below setting.workers (λ w. among k (seen_by w).drawn)
      + sum_below setting.workers (λ w. among k (seen_by w).gaps + among k (seen_by w).spent)
      + sum_below setting.sessions (looked k) ≡ between k (setting.floor + 1) next
  parts k = omega (
    arith,
    sum_below-add setting.workers (λ w. among k (seen_by w).drawn)
        (λ w. among k (seen_by w).gaps + among k (seen_by w).spent),
    counts k,
  )

  -- the greatest of the floor and the stamps that were noted
  abbrev most : ℕ
  most = greatest setting.floor (all_noted setting parties)

  -- a number that is in no range, and that a session has seen or that is 0, is no more than that
  low-seen : (s number : ℕ) → s < setting.sessions
      → (number ≡ 0) ⊎ In number (seen_in (pairs_in (parties.groups s)))
      → ((v : ℕ) → v < setting.workers → 1 ≤ among number (seen_by v).drawn → ⊥) → number ≤ most
  low-seen s number lt (inl zero_is) none = omega (arith, zero_is)
  low-seen s number lt (inr i) none = ⊎_elim
      (λ (a : In number (stamps (pairs_in (parties.groups s)))).
      let by = drawn-by s lt number a in absurd (none by.0 by.1 by.2))
      (λ (b : In number (noted_stamps (pairs_in (parties.groups s)))).
      greatest-In setting.floor (all_noted setting parties) number
      (In-row number setting.sessions s (λ s. noted_stamps (pairs_in (parties.groups s))) lt b))
      (In-append number (stamps (pairs_in (parties.groups s)))
      (noted_stamps (pairs_in (parties.groups s))) i)

  -- a number in a worker's gap is in no range
  apart-worker : (w number : ℕ) → w < setting.workers → 1 ≤ among number (seen_by w).gaps
      → (v : ℕ) → v < setting.workers → 1 ≤ among number (seen_by v).drawn → ⊥
  apart-worker w number less some v lt one = absurd (omega (
    arith,
    parts number,
    some,
    one,
    sum_below-at setting.workers w
        (λ w. among number (seen_by w).gaps + among number (seen_by w).spent) less,
    sum_below-at setting.workers v (λ v. among number (seen_by v).drawn) lt,
    between-most number (setting.floor + 1) next,
  ))

  -- nor is one in a session's
  apart-session : (s number : ℕ) → s < setting.sessions
      → 1 ≤ among number (parties.views s).gaps
      → (v : ℕ) → v < setting.workers → 1 ≤ among number (seen_by v).drawn → ⊥
  apart-session s number less some v lt one = absurd (omega (
    arith,
    parts number,
    some,
    one,
    sum_below-at setting.sessions s (looked number) less,
    sum_below-at setting.workers v (λ v. among number (seen_by v).drawn) lt,
    between-most number (setting.floor + 1) next,
  ))

  -- what a worker took its session sent
  was_sent : (w s : ℕ) (less : w < setting.workers) → s < setting.sessions → (message : Asked)
      → Contains (groups_in ((keep.workers w less).taken s)) message
      → In message (groups_in (parties.asks_sent s w))
  was_sent w s less lt message has =
      let prefix = groups_in-prefix (parties.asks_received w s) (parties.asks_sent s w)
      (keep.asks s w lt less) in
      subst (In message) prefix.1 (In-left message (groups_in (parties.asks_received w s)) prefix.0
      (subst (In message) (ap groups_in (took d setting parties keep passed s w lt less)
      ∙ groups-asking (parties.asks_received w s))
      (Contains-In message (groups_in ((keep.workers w less).taken s)) has)))

  -- no number above is in a worker's gap
  worker_gaps : (w : ℕ) (less : w < setting.workers) (gaps : List Range)
      → ((k : ℕ) → among k gaps ≤ among k (seen_by w).gaps)
      → All (IsForGroup setting (λ s. groups_in ((keep.workers w less).taken s))) gaps
      → (k : ℕ) → most < k → among k gaps ≡ 0
  worker_gaps w less [] part all k far = refl
  worker_gaps w less (gap ∷ gaps) part all k far =
      let taken : ℕ → List Asked = λ s. groups_in ((keep.workers w less).taken s) in
      let is = All-head (IsForGroup setting taken) gap gaps all in
      let s : ℕ = is.session in
      let last : ℕ = is.asked.seen in
      let there : 1 ≤ among last (seen_by w).gaps = omega (
        arith,
        part last,
        sum_by-cons (within last) gap gaps,
        last-within gap last is.some is.last,
      ) in
      let low : last ≤ most = low-seen s last is.known
      (asked-from setting (λ w. groups_in (parties.asks_sent s w)) _ (parties.groups s)
      (parties.requests s) (parties.waiting s) (keep.sessions s is.known).asks w less is.asked
      (was_sent w s less is.known is.asked is.there))
      (apart-worker w last less there) in
      omega (
        arith,
        sum_by-cons (within k) gap gaps,
        within-past gap k (omega (arith, is.last, low, far)),
        worker_gaps w less gaps
            (λ n. omega (arith, part n, sum_by-cons (within n) gap gaps))
            (All-tail (IsForGroup setting taken) gap gaps all) k far,
      )

  -- nor in a session's
  session_gaps : (s : ℕ) (lt : s < setting.sessions) (gaps : List Range)
      → ((k : ℕ) → among k gaps ≤ among k (parties.views s).gaps)
      → All (IsForExchange (keep.sessions s lt).asks.exchanges) gaps
      → (k : ℕ) → most < k → among k gaps ≡ 0
  session_gaps s lt [] part all k far = refl
  session_gaps s lt (gap ∷ gaps) part all k far =
      let exchanges : List Exchange = (keep.sessions s lt).asks.exchanges in
      let is = All-head (IsForExchange exchanges) gap gaps all in
      let last : ℕ = is.exchange.seen in
      let there : 1 ≤ among last (parties.views s).gaps = omega (
        arith,
        part last,
        sum_by-cons (within last) gap gaps,
        last-within gap last is.some is.last,
      ) in
      let low : last ≤ most = low-seen s last lt
      (exchange-from setting (λ w. groups_in (parties.asks_sent s w)) _ (parties.groups s)
      (parties.requests s) (parties.waiting s) (keep.sessions s lt).asks is.exchange
      (Contains-In is.exchange exchanges is.there))
      (apart-session s last lt there) in
      omega (
        arith,
        sum_by-cons (within k) gap gaps,
        within-past gap k (omega (arith, is.last, low, far)),
        session_gaps s lt gaps
            (λ n. omega (arith, part n, sum_by-cons (within n) gap gaps))
            (All-tail (IsForExchange exchanges) gap gaps all) k far,
      )

  -- so a number above is one that a worker drew or met
  worker_has : (w k : ℕ) → w < setting.workers → most < k → times_in k (seen_by w)
      ≡ among k (seen_by w).drawn + among k (seen_by w).spent
  worker_has w k lt far = omega (
    arith,
    worker_gaps w lt (seen_by w).gaps (λ n. omega arith) (keep.workers w lt).stamps.gaps k far,
  )

  session_has : (s k : ℕ) → s < setting.sessions → most < k → looked k s ≡ 0
  session_has s k lt far =
      let looks = (keep.sessions s lt).looks in
      omega (
        arith,
        ap (among k) looks.drawn,
        ap (among k) looks.spent,
        session_gaps s lt (parties.views s).gaps (λ n. omega arith) looks.gaps k far,
      )

  floor-most : setting.floor ≤ most
  floor-most = greatest-from setting.floor (all_noted setting parties)

  -- each number above is one that a worker drew or met
  above_has : (k : ℕ) → between k (most + 1) next ≤ sum_below setting.workers
      (λ w. among k (seen_by w).drawn + among k (seen_by w).spent)
  above_has k = ⊎_elim
      (λ (far : most < k). omega (
        arith,
        between-higher k (setting.floor + 1) (most + 1) next (omega (arith, floor-most)),
        counts k,
        sum_below-same setting.workers (λ w. times_in k (seen_by w))
            (λ w. among k (seen_by w).drawn + among k (seen_by w).spent)
            (λ w lt. worker_has w k lt far),
        sum_below-same setting.sessions (looked k) (λ s. 0) (λ s lt. session_has s k lt far),
        sum_below-zero setting.sessions,
      ))
      (λ (near : k ≤ most).
      let none : between k (most + 1) next ≡ 0 = between-under k (most + 1) next (omega (arith, near))
      in omega (arith, none))
      (let e : (most < k) ⊎ (k ≤ most) = grind arith in e)

  -- so the counter gave no more of them than there are answered requests
  numbers_all : next - (most + 1) ≤ length (all_answered setting parties)
  numbers_all = omega (
    arith,
    between-below next (most + 1) next,
    sum_below-le next (λ k. between k (most + 1) next) (λ k. sum_below setting.workers
        (λ w. among k (seen_by w).drawn + among k (seen_by w).spent)) (λ k lt. above_has k),
    sum_below-swap next setting.workers
        (λ k w. among k (seen_by w).drawn + among k (seen_by w).spent),
    sum_below-le setting.workers
        (λ w. sum_below next (λ k. among k (seen_by w).drawn + among k (seen_by w).spent))
        (λ w. size_of (seen_by w).drawn + size_of (seen_by w).spent) (λ w lt. omega (
          arith,
          sum_below-add next (λ k. among k (seen_by w).drawn) (λ k. among k (seen_by w).spent),
          among-below next (seen_by w).drawn,
          among-below next (seen_by w).spent,
        )),
    numbers_few d setting parties base keep passed,
  )

  pub spent_cause : (w number : ℕ) → w < setting.workers
      → first_spent (seen_by w).spent ≡ Some number
      → (2 ^ 62 ≤ most + length (all_answered setting parties)) × (2 ^ 62 < number + 512)
  spent_cause w number lt =
      (elim (seen_by w).spent as (λ runs. (seen_by w).spent ≡ runs → All IsMet runs
      → first_spent runs ≡ Some number
      → (2 ^ 62 ≤ most + length (all_answered setting parties))
      × (2 ^ 62 < number + 512)) [
        | [] ↦ λ e all first. absurd (cc)
        | run ∷ runs ↦ λ e all first.
            let met = All-head IsMet run runs all in
            let is : run.first ≡ number = from_some run.first number first in
            let last : ℕ = run.first + run.count - 1 in
            let ends : run.first + run.count ≡ last + 1 = omega (arith, met.0) in
            let some : 1 ≤ among last (seen_by w).spent = omega (
              arith,
              ap (among last) e,
              sum_by-cons (within last) run runs,
              last-within run last met.0 ends,
            ) in
            let inside = between-one last (setting.floor + 1) next (omega (
              arith,
              some,
              parts last,
              sum_below-at setting.workers w
                  (λ w. among last (seen_by w).gaps + among last (seen_by w).spent) lt,
            )) in
            let reached : run.first + run.count ≤ next = omega (arith, inside.1, ends) in (
              passes (2 ^ 62) next run.first run.count most
                  (length (all_answered setting parties)) met.1.0 reached numbers_all,
              far (2 ^ 62) run.first run.count number met.1.0 met.1.1 is,
            )
      ]) refl (keep.workers w lt).stamps.limits
    where
      far : (limit first count number : ℕ) → limit < first + count → count ≤ 512 → first ≡ number
          → limit < number + 512
      far limit first count number low few is = omega arith
