-- What the seats of all parties tell of the workers' numbers.
use Rattle.std.proofs.Common.{◌≡◌, ℕ, zero, suc, ◌+◌, ◌-◌, ◌^◌, ◌<◌, ◌≤◌, List, [], ◌∷◌, ◌++◌, length}
use Rattle.std.proofs.Common.{map, get_or, sum_by, None, refl, sym, ap, ◌∙◌, arith}
use Rattle.std.proofs.lemmas.List.{length-map}
use Rattle.std.proofs.lemmas.List.Sums.{sum_by-append, sum_by-cons}
use Rattle.std.specs.Prelude.{IfSome}
use Rattle.kv_base.specs.declared.sink.Sink as sinks
use Rattle.kv_base.specs.declared.source.Source as sources
use Rattle.kv_disk.specs.declared.disk.Disk as disks
use Rattle.kv_index.specs.declared.index.Index as indexes
use Rattle.kv_parties.specs.Promises.{WorkerData}
use Rattle.kv_parties.specs.Rows.{sum_below}
use Rattle.kv_session_party.specs.declared.party.SessionParty.{SessionParty}
use Rattle.kv_stamps.specs.Ranges.{among, between}
use Rattle.kv_stamps.specs.Rule.{times_in}
use Rattle.kv_stamps.specs.Seats.{Seat}
use Rattle.kv_stamps.specs.declared.view.Range.{Range}
use Rattle.kv_stamps.specs.declared.view.View.{View}
use Rattle.kv_worker_party.specs.declared.party.WorkerParty.{WorkerParty}
use Rattle.kv_mesh.specs.Joining.{joined_from, HasLooked}
use Rattle.kv_mesh.specs.Linked.{AreApart, drawn_by}
use Rattle.kv_mesh.specs.Places.{IsAt}
use Rattle.kv_mesh.specs.Shares.{HaveAllSeats}
use Rattle.kv_mesh.specs.Standing.{IsDataOf, IsViewOf}
use Rattle.kv_mesh.proofs.ApartLemmas.{drawn-is}
use Rattle.kv_mesh.proofs.JoiningLemmas.{Tells, drawn_among, looked-tells, times_among, weight_of}
use Rattle.kv_mesh.proofs.PlaceLemmas.{given-is, pick}

sum_below-front : (n : ℕ) (f : ℕ → ℕ) → sum_below (suc n) f ≡ f 0 + sum_below n (λ k. f (suc k))
sum_below-front zero f = omega arith
sum_below-front (suc n) f = let rest = sum_below-front n f in omega (arith, rest)

-- a sum over places is one over the list
sum_below-list : (f : ℕ → ℕ) (g : Seat → ℕ) (seats : List Seat)
    → ((k : ℕ) (other : Seat) → k < length seats → f k ≡ g (get_or seats k other))
    → sum_below (length seats) f ≡ sum_by g seats
sum_below-list f g [] same = refl
sum_below-list f g (seat ∷ seats) same =
    let front = sum_below-front (length seats) f in
    let rest = sum_below-list (λ k. f (suc k)) g seats
    (λ k other lt. same (suc k) other (omega (arith, lt))) in
    let here : f 0 ≡ g seat = same 0 seat (omega arith) in
    omega (arith, front, rest, here, sum_by-cons g seat seats)

-- a sum over parties is one over their seats
seats-sum : {X : Type 0} (seat : X → Seat) (xs : List X) (f : ℕ → ℕ) (g : Seat → ℕ)
    → ((k : ℕ) (x : X) → IsAt xs k x → f k ≡ g (seat x))
    → sum_below (length xs) f ≡ sum_by g (map seat xs)
seats-sum seat xs f g each = ap (λ n. sum_below n f) (sym (length-map xs seat))
    ∙ sum_below-list f g (map seat xs) (λ k other lt.
    let p = pick xs k (omega (arith, lt, length-map xs seat)) in
    each k p.0 p.1 ∙ ap g (sym (given-is seat other xs k p.0 p.1)))

-- as many seats of weight 1 as there are parties
ones : {X : Type 0} (f : X → Seat) (xs : List X)
    → ((k : ℕ) (x : X) → IsAt xs k x → (f x).view.weight ≡ 1) → weight_of (map f xs) ≡ length xs
ones f [] each = refl
ones f (x ∷ xs) each =
    let here = each 0 x (omega arith, refl) in
    let rest = ones f xs (λ k y a. each (suc k) y (omega (arith, a.0), a.1)) in
    omega (arith, sum_by-cons (λ (s : Seat). s.view.weight) (f x) (map f xs), here, rest)

-- a view in which the gaps are its own
own-gaps : (view : View) (gaps : List Range) → gaps ≡ view.gaps → record view { gaps = gaps } ≡ view
own-gaps view gaps e = ap (λ (g : List Range). record view { gaps = g }) e

module _ {D I F : Type 0} {d : disks.Ghosts D} {i : indexes.Ghosts I} where
  -- the workers' seats
  abbrev pub worker_seats : List (WorkerParty D I F d i) → List Seat
  worker_seats workers = map (λ party. party.seat) workers

  -- a number is in as many ranges of the workers by place as of their seats
  drawn-sum : (workers : List (WorkerParty D I F d i)) (number : ℕ)
      → sum_below (length workers) (λ k. among number (drawn_by workers k))
      ≡ drawn_among number (worker_seats workers)
  drawn-sum workers number = seats-sum (λ (p : WorkerParty D I F d i). p.seat) workers
      (λ k. among number (drawn_by workers k)) (λ (s : Seat). among number s.view.drawn)
      (λ k party at. ap (among number) (drawn-is workers k party at))

module _ {So Si F : Type 0} {so : sources.Ghosts So} {si : sinks.Ghosts Si} where
  -- the sessions' seats
  abbrev pub session_seats : List (SessionParty So Si F so si) → List Seat
  session_seats sessions = map (λ party. party.seat) sessions

module _ {So Si D I F : Type 0} {so : sources.Ghosts So} {si : sinks.Ghosts Si}
    {d : disks.Ghosts D} {i : indexes.Ghosts I} where
  -- what the look with all seats tells
  pub tells-of : (workers : List (WorkerParty D I F d i))
      (sessions : List (SessionParty So Si F so si)) → 1 ≤ length workers
      → IfSome (joined_from (joined_from None (worker_seats workers)) (session_seats sessions))
      HasLooked → (first : WorkerParty D I F d i) × IsAt workers 0 first
      × Tells first.seat.view.start first.seat.view.seats
      (worker_seats workers ++ session_seats sessions)
  tells-of [] sessions some looked = absurd (omega (arith, some))
  tells-of (party ∷ workers) sessions some looked = (
    party,
    (omega arith, refl),
    looked-tells party.seat (worker_seats workers) (session_seats sessions) looked,
  )

  module _ (workers : List (WorkerParty D I F d i)) (sessions : List (SessionParty So Si F so si))
      (start seats : ℕ)
      (told : Tells start seats (worker_seats workers ++ session_seats sessions)) where
    -- no number is in two ranges that the workers drew, and all are stamps from the start on
    pub apart-told : start ≤ 2 ^ 62 → AreApart workers start (2 ^ 62)
    apart-told most number =
        let fits = told.low most number in
        let both = sum_by-append (λ (s : Seat). among number s.view.drawn) (worker_seats workers)
        (session_seats sessions) in
        let same = drawn-sum workers number in
        omega (arith, fits, both, same)

    -- with all seats of the counter, the parties have all numbers
    module _ (all : HaveAllSeats workers sessions) (own : ℕ → WorkerData D)
        (own_is : (k : ℕ) (party : WorkerParty D I F d i) → IsAt workers k party
        → IsDataOf party (own k)) (views : ℕ → View)
        (views_are : (k : ℕ) (party : SessionParty So Si F so si) → IsAt sessions k party
        → IsViewOf party (views k)) where
      view-is : (k : ℕ) (party : WorkerParty D I F d i) → IsAt workers k party
          → (own k).view ≡ party.seat.view
      view-is k party at =
          let knows = own_is k party at in
          ap (λ (o : WorkerData D). o.view) knows.is ∙ own-gaps party.seat.view knows.gaps
          (knows.gaps_are (all.worker_shares k party at).0)

      seen-is : (k : ℕ) (party : SessionParty So Si F so si) → IsAt sessions k party
          → views k ≡ party.seat.view
      seen-is k party at =
          let knows = views_are k party at in
          knows.is ∙ own-gaps party.seat.view knows.gaps
          (knows.gaps_are (all.session_shares k party at).0)

      whole-weight : weight_of (worker_seats workers ++ session_seats sessions)
          ≡ length workers + length sessions
      whole-weight =
          let both = sum_by-append (λ (s : Seat). s.view.weight) (worker_seats workers)
          (session_seats sessions) in
          let mine = ones (λ (p : WorkerParty D I F d i). p.seat) workers
          (λ k party at. (all.worker_shares k party at).1.weight) in
          let theirs = ones (λ (p : SessionParty So Si F so si). p.seat) sessions
          (λ k party at. (all.session_shares k party at).1.weight) in
          omega (arith, both, mine, theirs)

      counted : (number : ℕ) → sum_below (length workers) (λ k. times_in number (own k).view)
          + sum_below (length sessions) (λ k. times_in number (views k))
          ≡ times_among number (worker_seats workers ++ session_seats sessions)
      counted number =
          let mine = seats-sum (λ (p : WorkerParty D I F d i). p.seat) workers
          (λ k. times_in number (own k).view) (λ (s : Seat). times_in number s.view)
          (λ k party at. ap (times_in number) (view-is k party at)) in
          let theirs = seats-sum (λ (p : SessionParty So Si F so si). p.seat) sessions
          (λ k. times_in number (views k)) (λ (s : Seat). times_in number s.view)
          (λ k party at. ap (times_in number) (seen-is k party at)) in
          let both = sum_by-append (λ (s : Seat). times_in number s.view) (worker_seats workers)
          (session_seats sessions) in
          omega (arith, mine, theirs, both)

      pub counts-told : 1 ≤ start → seats ≡ length workers + length sessions
          → (next : ℕ) × ((number : ℕ)
          → sum_below (length workers) (λ k. times_in number (own k).view)
          + sum_below (length sessions) (λ k. times_in number (views k))
          ≡ between number (start - 1 + 1) next)
      counts-told least many =
          let all_of = told.whole (whole-weight ∙ sym many) in (
            all_of.0,
            λ number.
                let from : start ≡ start - 1 + 1 = omega (arith, least) in
                counted number ∙ all_of.1 number ∙ ap (λ n. between number n all_of.0) from,
          )
