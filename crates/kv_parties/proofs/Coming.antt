-- The pairs of the answers that a session heard, of which it knows the replies alone.
use Rattle.std.proofs.Common.{◌≡◌, ℕ, ◌<◌, List, [], ◌∷◌, ◌++◌, map, refl, sym, ap, ◌∙◌, subst, ◌≤◌}
use Rattle.std.proofs.Common.{true, arith}
use Rattle.std.specs.Prelude.{Bool, false, max}
use Rattle.std.specs.List.{AllByRecursion}
use Rattle.kv_base.specs.declared.reply.Reply.{Reply}
use Rattle.kv_base.specs.declared.request.Request.{Request}
use Rattle.kv_model.specs.Pairwise.{Pairwise}
use Rattle.kv_model.specs.Pairs.{Pair, seen_in}
use Rattle.kv_parties.specs.Setting.{Setting}
use Rattle.kv_parties.specs.Groups.{Asked, Answers, replies_of}
use Rattle.kv_parties.specs.Sessions.{Exchange, exchange_pairs, part_of, asked_by, replied_by}
use Rattle.kv_parties.specs.Sessions.{all_asked}
use Rattle.kv_parties.specs.Sessions.{all_replied, IsExchange, greatest, seen_behind, HaveSeen}
use Rattle.kv_parties.specs.Sessions.{IsPending}
use Rattle.kv_parties.proofs.Rings.{Rings, Course, RingsKeep}
use Rattle.kv_stamps.specs.declared.view.Range.{Range}
use Rattle.kv_model.specs.History.{Write}
use Rattle.kv_parties.proofs.Owned.{IsGiven, all_given}
use Rattle.kv_parties.proofs.Parts.{answered_by, all_parts}

abbrev first_of : {X : Type 0} → X → List X → X
first_of d [] = d
first_of d (x ∷ xs) = x

abbrev rest_of : {X : Type 0} → List X → List X
rest_of [] = []
rest_of (x ∷ xs) = xs

-- pairs with the same requests and the same replies are the same
same_pairs : (ps qs : List Pair)
    → map (λ (p : Pair). p.request) ps ≡ map (λ (q : Pair). q.request) qs
    → map (λ (p : Pair). p.reply) ps ≡ map (λ (q : Pair). q.reply) qs → ps ≡ qs
same_pairs [] [] e f = refl
same_pairs [] (q ∷ qs) e f = absurd (cc)
same_pairs (p ∷ ps) [] e f = absurd (cc)
same_pairs (p ∷ ps) (q ∷ qs) e f =
    let request : p.request ≡ q.request = ap (first_of p.request) e in
    let reply : p.reply ≡ q.reply = ap (first_of p.reply) f in
    let here : p ≡ q = λ i. record { request = request i; reply = reply i } in
    let rest : ps ≡ qs = same_pairs ps qs (ap rest_of e) (ap rest_of f) in
    ap (λ x. x ∷ ps) here ∙ ap (λ xs. q ∷ xs) rest

-- what a session heard are its exchanges' pairs, where it heard as many replies, and each answers
-- what
-- it asked
pairs_come : (n w : ℕ) (exchanges : List Exchange) (asking : List Asked) (answered : List (List
    Pair))
    (coming : List (List Reply)) → Answers (all_asked n w exchanges ++ asking) answered
    → replies_of answered ≡ all_replied n w exchanges ++ coming
    → (more : List (List Pair)) × (answered ≡ all_parts n w exchanges ++ more) × (replies_of more ≡
    coming)
pairs_come n w [] asking answered coming h e = (answered, refl, e)
pairs_come n w (r ∷ exchanges) asking answered coming h e =
    let later_asks : List Asked = all_asked n w exchanges in
    let later_answers : List (List Pair) = all_parts n w exchanges in
    let later_replies : List (List Reply) = all_replied n w exchanges in
    let Goal : List Pair → Type 0 = λ part. (answered : List (List Pair))
    → Answers ((asked_by r.seen part ++ later_asks) ++ asking) answered
    → replies_of answered ≡ (replied_by part ++ later_replies) ++ coming
    → (more : List (List Pair)) × (answered ≡ (answered_by part ++ later_answers) ++ more)
    × (replies_of more ≡ coming) in
    (elim (part_of n w r.handled) as Goal [
      | [] ↦ λ answered h e. pairs_come n w exchanges asking answered coming h e
      | p ∷ ps ↦ λ answered. elim answered as (λ answered.
          Answers ((asked_by r.seen (p ∷ ps) ++ later_asks) ++ asking) answered
          → replies_of answered ≡ (replied_by (p ∷ ps) ++ later_replies) ++ coming
          → (more : List (List Pair)) × (answered ≡ (answered_by (p ∷ ps) ++ later_answers) ++ more)
          × (replies_of more ≡ coming)) [
            | [] ↦ λ h e. absurd (cc)
            | a ∷ rest ↦ λ h e.
                let here : a ≡ p ∷ ps = same_pairs a (p ∷ ps) h.0.same
                (ap (first_of (map (λ (q : Pair). q.reply) a)) e) in
                let deeper = pairs_come n w exchanges asking rest coming h.1 (ap rest_of e) in
                (deeper.0, ap (λ x. x ∷ rest) here ∙ ap (λ xs. (p ∷ ps) ∷ xs) deeper.1, deeper.2)
          ]
    ]) answered h e

no_replies : (more : List (List Pair)) → replies_of more ≡ [] → more ≡ []
no_replies [] e = refl
no_replies (m ∷ more) e = absurd (cc)

-- a longer list of groups has the same answers, and fewer answers answer it too
pub Answers-more : (asked more : List Asked) (answered : List (List Pair)) → Answers asked answered
    → Answers (asked ++ more) answered
Answers-more asked more [] h = tt
Answers-more [] more (pairs ∷ answered) h = absurd h
Answers-more (group ∷ asked) more (pairs ∷ answered) h = (h.0, Answers-more asked more answered h.1)

pub Answers-fewer : (asked : List Asked) (answered more : List (List Pair))
    → Answers asked (answered ++ more) → Answers asked answered
Answers-fewer asked [] more h = tt
Answers-fewer [] (pairs ∷ answered) more h = absurd h
Answers-fewer (group ∷ asked) (pairs ∷ answered) more h = (
  h.0,
  Answers-fewer asked answered more
      h.1,
)

-- the greatest is at least the number and each of the others
pub greatest-from : (number : ℕ) (xs : List ℕ) → number ≤ greatest number xs
greatest-from number [] = omega arith
greatest-from number (x ∷ xs) = omega (arith, greatest-from (max number x) xs)

pub greatest-above : (number : ℕ) (xs : List ℕ) → AllByRecursion (λ x. x ≤ greatest number xs) xs
greatest-above number [] = tt
greatest-above number (x ∷ xs) =
    (omega (arith, greatest-from (max number x) xs), greatest-above (max number x) xs)

All-below : (low high : ℕ) (xs : List ℕ) → low ≤ high → AllByRecursion (λ x. x ≤ low) xs
    → AllByRecursion (λ x. x ≤ high) xs
All-below low high [] le all = tt
All-below low high (x ∷ xs) le all =
    (omega (arith, all.0, le), All-below low high xs le all.1)

-- each later exchange had seen as much
seen-later : (seen : ℕ) (exchanges : List Exchange) → HaveSeen seen exchanges
    → AllByRecursion (λ exchange. seen ≤ exchange.seen) exchanges
seen-later seen exchanges have = from seen seen exchanges (omega arith) have
  where
    from : (low seen : ℕ) (exchanges : List Exchange) → low ≤ seen → HaveSeen seen exchanges
        → AllByRecursion (λ exchange. low ≤ exchange.seen) exchanges
    from low seen [] le have = tt
    from low seen (x ∷ exchanges) le have = (
      omega (arith, le, have.0),
      from low (greatest seen (seen_in (exchange_pairs x))) exchanges
          (omega (arith, le, greatest-from seen (seen_in (exchange_pairs x)))) have.1,
    )

seen-pairwise : (seen : ℕ) (exchanges : List Exchange) → HaveSeen seen exchanges
    → Pairwise (λ exchange next. AllByRecursion (λ stamp. stamp ≤ next.seen)
    (seen_in (exchange_pairs exchange))) exchanges
seen-pairwise seen [] have = tt
seen-pairwise seen (x ∷ exchanges) have =
    let now : ℕ = greatest seen (seen_in (exchange_pairs x)) in (
      each exchanges (seen-later now exchanges have.1),
      seen-pairwise now exchanges have.1,
    )
  where
    each : (later : List Exchange)
        → AllByRecursion (λ next. greatest seen (seen_in (exchange_pairs x)) ≤ next.seen) later
        → AllByRecursion (λ next. AllByRecursion (λ stamp. stamp ≤ next.seen)
        (seen_in (exchange_pairs x))) later
    each [] all = tt
    each (next ∷ later) all = (
      All-below (greatest seen (seen_in (exchange_pairs x))) next.seen (seen_in (exchange_pairs x))
          all.0 (greatest-above seen (seen_in (exchange_pairs x))),
      each later all.1,
    )

-- nothing comes where the session doesn't wait
still : (setting : Setting) (seen : ℕ) (requests : List Request) (asking : ℕ → List Asked)
    (coming : ℕ → List (List Reply)) (waiting : Bool)
    → IsPending waiting setting seen requests asking coming → waiting ≡ false
    → (worker : ℕ) → worker < setting.workers → coming worker ≡ []
still setting seen requests asking coming true pending e = absurd (cc)
still setting seen requests asking coming false pending e = pending.hears

-- a session's promise with the pairs of each answer in place of the replies alone
pub record SessionPairs (setting : Setting) (asked : ℕ → List Asked) (heard : ℕ → List (List Pair))
    (groups : List (List Pair)) (waiting : Bool) : Type 0 where
  pub exchanges : List Exchange
  pub asking : ℕ → List Asked
  pub coming : (worker : ℕ) → worker < setting.workers → List (List Pair)
  pub none : waiting ≡ false → (worker : ℕ) (lt : worker < setting.workers) → coming worker lt ≡ []
  pub same : groups ≡ map exchange_pairs exchanges
  pub asks : (worker : ℕ) → worker < setting.workers
      → asked worker ≡ all_asked setting.workers worker exchanges ++ asking worker
  pub answers : (worker : ℕ) (lt : worker < setting.workers)
      → heard worker ≡ all_parts setting.workers worker exchanges ++ coming worker lt
  pub seen : Pairwise (λ exchange next. AllByRecursion (λ stamp. stamp ≤ next.seen)
      (seen_in (exchange_pairs exchange))) exchanges
  pub handled : AllByRecursion (λ exchange. AllByRecursion (IsGiven setting.layout)
      exchange.handled) exchanges
  pub kinds : AllByRecursion (IsExchange setting.layout) exchanges

module _ (setting : Setting) (before : ℕ → List Write) (rings : Rings) (ranges : ℕ → List Range)
    (courses : ℕ → Course) (keep : RingsKeep setting before rings ranges courses) where
  -- what a session heard answers what it asked
  pub heard_answers : (s : ℕ) → s < setting.sessions → (w : ℕ) → w < setting.workers
      → Answers (rings.asked s w) (rings.heard s w)
  heard_answers s lt w less =
      let sent = keep.asks s w lt less in
      let back = keep.answers s w lt less in
      let at_worker : Answers (rings.taken w s) (rings.answered w s) =
      (keep.workers w less).order s lt in
      let more : Answers (rings.asked s w) (rings.answered w s) =
      subst (λ a. Answers a (rings.answered w s)) sent.1
      (Answers-more (rings.taken w s) sent.0 (rings.answered w s) at_worker) in
      Answers-fewer (rings.asked s w) (rings.heard s w) back.0
      (subst (Answers (rings.asked s w)) (sym back.1) more)

  pub pairs_of_session : (s : ℕ) → s < setting.sessions
      → SessionPairs setting (rings.asked s) (rings.heard s) (courses s).groups
      (courses s).waiting
  pairs_of_session s lt =
      let tale = keep.sessions s lt in
      let come : (w : ℕ) (less : w < setting.workers) → (more : List (List Pair))
      × (rings.heard s w ≡ all_parts setting.workers w tale.exchanges ++ more)
      × (replies_of more ≡ tale.coming w) =
      λ w less. pairs_come setting.workers w tale.exchanges (tale.asking w) (rings.heard s w)
      (tale.coming w) (subst (λ a. Answers a (rings.heard s w)) (tale.asks w less)
      (heard_answers s lt w less)) (tale.hears w less)
      in
      record {
        exchanges = tale.exchanges;
        asking = tale.asking;
        coming = λ w less. (come w less).0;
        none = λ quiet w less. no_replies (come w less).0 ((come w less).2
            ∙ still setting (seen_behind 0 tale.exchanges) (courses s).requests tale.asking
            tale.coming (courses s).waiting tale.pending quiet w less);
        same = tale.same;
        asks = tale.asks;
        answers = λ w less. (come w less).1;
        seen = seen-pairwise 0 tale.exchanges tale.seen;
        handled = all_given setting.layout tale.exchanges tale.handled;
        kinds = tale.handled;
      }
