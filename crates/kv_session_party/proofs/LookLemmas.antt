-- A session that answers an After by the counter.
use Rattle.std.proofs.Common.{◌≡◌, inr, ℕ, ◌+◌, ◌-◌, ◌<◌, ◌≤◌, ◌^◌, Bool, true, false, cond, List}
use Rattle.std.proofs.Common.{[], ◌∷◌, ◌++◌, refl, sym, ap, ◌∙◌, subst, subst₂, arith}
use Rattle.std.proofs.Common.{append-nil}
use Rattle.std.specs.Prelude.{min, max, nat_lt, IfSome, All}
use Rattle.std.specs.List.{AllByRecursion}
use Rattle.std.proofs.lemmas.Bool.Decides.{nat_tests}
use Rattle.std.proofs.lemmas.Grind.{flat_map-append}
use Rattle.std.proofs.lemmas.List.{map-append}
use Rattle.std.proofs.lemmas.List.Elements.{All-from_recursion, recursion_from_All}
use Rattle.std.proofs.lemmas.List.Elements.{filter_map-append}
use Rattle.std.proofs.lemmas.List.Elements.{All-append as All-both, Contains-append_left}
use Rattle.std.proofs.lemmas.List.Elements.{Contains-append_right}
use Rattle.kv_base.specs.declared.reply.Reply.{Reply}
use Rattle.kv_base.specs.declared.reply.Reply.TheVariants.{Noted, Ahead}
use Rattle.kv_base.specs.declared.request.Request.{Request}
use Rattle.kv_base.specs.declared.request.Request.TheVariants.{After}
use Rattle.kv_model.proofs.ContainsLemmas.{Contains-first}
use Rattle.kv_model.proofs.PairwiseLemmas.{All-append, All-map}
use Rattle.kv_model.specs.Agreement.{IsCounterAnswer}
use Rattle.kv_model.specs.Frames.{HasReplyFrame}
use Rattle.kv_model.specs.Pairs.{Pair, counter_by, counter_numbers, seen_in, pairs_in, told_pair}
use Rattle.kv_parties.specs.Groups.{Asked}
use Rattle.kv_parties.specs.Sessions.{Exchange, exchange_pairs, IsExchange, greatest}
use Rattle.kv_parties.specs.Sessions.{asked_by, replied_by, all_asked, all_replied}
use Rattle.kv_parties.specs.Sessions.{part_of as pairs_for}
use Rattle.kv_parties.specs.Setting.{Setting}
use Rattle.kv_parties.specs.Stamps.{IsForExchange, KeepsLooks}
use Rattle.kv_ring.specs.declared.message.Answer.{Answer}
use Rattle.kv_ring.specs.declared.message.Ask.{Ask}
use Rattle.kv_session_party.specs.Looking.{LooksAbove, AnswersAfter}
use Rattle.kv_session_party.specs.Promise.{Keeps, with_gaps}
use Rattle.kv_session_party.specs.Routes.{RoutesState}
use Rattle.kv_session_party.proofs.SeenPushLemmas.{HaveSeen-push, seen-push}
use Rattle.kv_stamps.specs.Ranges.{range}
use Rattle.kv_stamps.specs.Steps.{gap_to}
use Rattle.kv_stamps.specs.declared.view.Range.{Range}
use Rattle.kv_stamps.specs.declared.view.View.{View}

-- ---- exchanges and groups more

-- a gap is for one of the exchanges with one more too
pub gaps-later : (exchanges : List Exchange) (last : Exchange) (gaps : List Range)
    → All (IsForExchange exchanges) gaps → All (IsForExchange (exchanges ++ last ∷ [])) gaps
gaps-later exchanges last gaps all =
    All-from_recursion (IsForExchange (exchanges ++ last ∷ [])) gaps
    (All-map (IsForExchange exchanges) (IsForExchange (exchanges ++ last ∷ [])) gaps
    (λ gap is. record {
      some = is.some;
      exchange = is.exchange;
      there = Contains-append_left exchanges (last ∷ []) is.exchange is.there;
      last = is.last;
    }) (recursion_from_All (IsForExchange exchanges) gaps all))

-- the numbers that groups tell, and then those of one more
numbers-more : (groups : List (List Pair)) (pairs : List Pair)
    → counter_numbers (pairs_in (groups ++ pairs ∷ []))
    ≡ counter_numbers (pairs_in groups) ++ counter_numbers pairs
numbers-more groups pairs =
    ap counter_numbers (flat_map-append (λ (group : List Pair). group) groups (pairs ∷ [])
    ∙ ap (λ (ps : List Pair). pairs_in groups ++ ps) (append-nil pairs))
    ∙ filter_map-append (λ (pair : Pair). counter_by pair.request pair.reply) (pairs_in groups) pairs

pub told-later : (low : ℕ) (groups : List (List Pair)) (pairs : List Pair)
    → AllByRecursion (λ number. low ≤ number) (counter_numbers (pairs_in groups))
    → AllByRecursion (λ number. low ≤ number) (counter_numbers pairs)
    → AllByRecursion (λ number. low ≤ number) (counter_numbers (pairs_in (groups ++ pairs ∷ [])))
told-later low groups pairs before more =
    subst (AllByRecursion (λ number. low ≤ number)) (sym (numbers-more groups pairs))
    (All-append (λ number. low ≤ number) (counter_numbers (pairs_in groups))
    (counter_numbers pairs) before more)

-- a seat that looked for these exchanges did so for these and one more, whose group is told nothing
-- below the first stamp
pub looks-more : (view : View) (groups : List (List Pair)) (exchanges : List Exchange)
    (pairs : List Pair) (last : Exchange) → KeepsLooks view groups exchanges
    → AllByRecursion (λ number. min view.start (2 ^ 62) ≤ number) (counter_numbers pairs)
    → KeepsLooks view (groups ++ pairs ∷ []) (exchanges ++ last ∷ [])
looks-more view groups exchanges pairs last looks more = record {
  drawn = looks.drawn;
  spent = looks.spent;
  gaps = gaps-later exchanges last view.gaps looks.gaps;
  told = told-later (min view.start (2 ^ 62)) groups pairs looks.told more;
}

-- ---- the counter's answer

-- the reply to an After of a session that had seen so much, from a counter that began at the first
-- number or above, and what the session has seen then
pub record IsLookedAt (seen low stamp : ℕ) (reply : Reply) (after : ℕ) : Type 0 where
  pub answer : IsCounterAnswer stamp reply
  pub above : IfSome (counter_by (After stamp) reply) (λ number. seen < number)
  pub told : AllByRecursion (λ number. low ≤ number) (counter_numbers (told_pair stamp reply ∷ []))
  pub up : after ≡ greatest seen (seen_in (told_pair stamp reply ∷ []))
  pub limit : after < 2 ^ 62
  pub framed : HasReplyFrame reply

looked-by : (seen low stamp number : ℕ) → number ≤ 2 ^ 62 → seen < number → low ≤ number
    → (less : Bool) → nat_lt stamp number ≡ less
    → IsLookedAt seen low stamp (cond less Noted (Ahead number)) (cond less (max seen stamp) seen)
looked-by seen low stamp number most above least true e =
    let below : stamp < number = grind (arith, nat_tests) in record {
      answer = omega (arith, below, most);
      above = tt;
      told = tt;
      up = refl;
      limit = omega (arith, below, most, above);
      framed = record { body = tt; size = omega arith };
    }
looked-by seen low stamp number most above least false e =
    let reached : number ≤ stamp = grind (arith, nat_tests) in record {
      answer = (reached, most);
      above = above;
      told = (least, tt);
      up = refl;
      limit = omega (arith, most, above);
      framed = record { body = omega (arith, most); size = omega arith };
    }

-- the first number, where the seat's start is below 2 ^ 62
abbrev low_of : View → ℕ
low_of view = min view.start (2 ^ 62)

-- what a look above what was seen finds
record Finds (seen : ℕ) (old new : View) (number : ℕ) (passed : ℕ) : Type 0 where
  most : number ≤ 2 ^ 62
  above : seen < number
  least : low_of new ≤ number
  start : new.start ≡ old.start
  drawn : new.drawn ≡ old.drawn
  spent : new.spent ≡ old.spent
  gaps : new.gaps ≡ old.gaps ++ gap_to (seen + 1) passed

finds : (seen : ℕ) (old new : View) (number : ℕ) → seen < 2 ^ 62
    → (looks : LooksAbove seen old new number) → Finds seen old new number looks.passed
finds seen old new number limit looks =
    let b = looks.raises.view in
    let n = looks.looks.view in
    let next = looks.looks.later in
    let rose : looks.between.seen ≡ max looks.passed (seen + 1) = ap (λ (v : View). v.seen) b in
    let saw : new.seen ≡ looks.next = ap (λ (v : View). v.seen) n in
    let started = looks.looks.rule.started in record {
      most = omega (arith, looks.number_is);
      above = omega (arith, looks.number_is, next, rose, limit);
      least = omega (arith, looks.number_is, saw, started);
      start = ap (λ (v : View). v.start) n ∙ ap (λ (v : View). v.start) b;
      drawn = ap (λ (v : View). v.drawn) n ∙ ap (λ (v : View). v.drawn) b;
      spent = ap (λ (v : View). v.spent) n ∙ ap (λ (v : View). v.spent) b;
      gaps = ap (λ (v : View). v.gaps) n ∙ ap (λ (v : View). v.gaps) b;
    }

-- so an After is answered
pub looked-at : (seen stamp : ℕ) (old new : View) (reply : Reply) (after : ℕ) → seen < 2 ^ 62
    → AnswersAfter seen stamp old new reply after
    → IsLookedAt seen (low_of new) stamp reply after
looked-at seen stamp old new reply after limit answers =
    let f = finds seen old new answers.number limit answers.looks in
    subst₂ (λ (r : Reply) (n : ℕ). IsLookedAt seen (low_of new) stamp r n) (sym answers.reply_is)
    (sym answers.after_is)
    (looked-by seen (low_of new) stamp answers.number f.most f.above f.least
    (nat_lt stamp answers.number) refl)

framed-by : (number : ℕ) → number ≤ 2 ^ 62 → (less : Bool)
    → HasReplyFrame (cond less Noted (Ahead number))
framed-by number most true = record { body = tt; size = omega arith }
framed-by number most false = record { body = omega (arith, most); size = omega arith }

-- the reply goes into a frame
pub answer-framed : (seen stamp : ℕ) (old new : View) (reply : Reply) (after : ℕ)
    → AnswersAfter seen stamp old new reply after → HasReplyFrame reply
answer-framed seen stamp old new reply after answers =
    let number_is = answers.looks.number_is in
    subst HasReplyFrame (sym answers.reply_is)
    (framed-by answers.number (omega (arith, number_is)) (nat_lt stamp answers.number))

-- the gaps that its look left
abbrev pub gaps_behind : List Range → (seen passed : ℕ) → List Range
gaps_behind gaps seen passed = gaps ++ gap_to (seen + 1) passed

pub gaps-behind : (seen stamp : ℕ) (old new : View) (reply : Reply) (after : ℕ) → seen < 2 ^ 62
    → (answers : AnswersAfter seen stamp old new reply after) (gaps : List Range)
    → gaps ≡ old.gaps → gaps_behind gaps seen answers.looks.passed ≡ new.gaps
gaps-behind seen stamp old new reply after limit answers gaps same =
    let f = finds seen old new answers.number limit answers.looks in
    ap (λ (gs : List Range). gs ++ gap_to (seen + 1) answers.looks.passed) same ∙ sym f.gaps

-- each is for the exchange
gap-for : (seen passed : ℕ) (exchanges : List Exchange) (last : Exchange) → last.seen ≡ seen
    → All (IsForExchange (exchanges ++ last ∷ [])) (gap_to (seen + 1) passed)
gap-for seen passed exchanges last is =
    All-from_recursion (IsForExchange (exchanges ++ last ∷ [])) (gap_to (seen + 1) passed)
    (by (nat_lt passed (seen + 1)) refl)
  where
    by : (less : Bool) → nat_lt passed (seen + 1) ≡ less
        → AllByRecursion (IsForExchange (exchanges ++ last ∷ []))
        (cond less (range passed (seen + 1 - passed) ∷ []) [])
    by true e =
        let below : passed < seen + 1 = grind (arith, nat_tests) in (
          record {
            some = omega (arith, below);
            exchange = last;
            there = Contains-append_right exchanges (last ∷ []) last (Contains-first last []);
            last = omega (arith, below, is);
          },
          tt,
        )
    by false e = tt

-- ---- the promise

module _ {F : Type 0} (setting : Setting) (sent : ℕ → List (Ask F))
    (received : ℕ → List (Answer F)) (groups : List (List Pair)) (seen stamp : ℕ)
    (routes : RoutesState) (old new : View) (reply : Reply) (after : ℕ) (gaps : List Range)
    (answers : AnswersAfter seen stamp old new reply after)
    (k : Keeps setting sent received groups seen routes [] false (with_gaps old gaps)) where
  abbrev n : ℕ
  n = setting.workers

  abbrev pair : Pair
  pair = told_pair stamp reply

  abbrev exchange : Exchange
  exchange = record { seen = seen; handled = record { pair = pair; routed = false } ∷ [] }

  abbrev exchanges : List Exchange
  exchanges = k.promise.asks.exchanges

  abbrev passed : ℕ
  passed = answers.looks.passed

  abbrev later : View
  later = with_gaps new (gaps_behind gaps seen passed)

  found : Finds seen old new answers.number passed
  found = finds seen old new answers.number k.limit answers.looks

  at : IsLookedAt seen (low_of new) stamp reply after
  at = looked-at seen stamp old new reply after k.limit answers

  abbrev asked-of : Exchange → ℕ → List Asked
  asked-of e worker = asked_by e.seen (pairs_for n worker e.handled)

  abbrev replied-of : Exchange → ℕ → List (List Reply)
  replied-of e worker = replied_by (pairs_for n worker e.handled)

  -- a look asks nobody, and hears nothing
  asks-none : (worker : ℕ) → all_asked n worker (exchanges ++ exchange ∷ [])
      ≡ all_asked n worker exchanges
  asks-none worker =
      flat_map-append (λ (e : Exchange). asked-of e worker) exchanges (exchange ∷ [])
      ∙ append-nil (all_asked n worker exchanges)

  hears-none : (worker : ℕ) → all_replied n worker (exchanges ++ exchange ∷ [])
      ≡ all_replied n worker exchanges
  hears-none worker =
      flat_map-append (λ (e : Exchange). replied-of e worker) exchanges (exchange ∷ [])
      ∙ append-nil (all_replied n worker exchanges)

  looks-later : KeepsLooks later (groups ++ (pair ∷ []) ∷ []) (exchanges ++ exchange ∷ [])
  looks-later = record {
    drawn = found.drawn ∙ k.promise.looks.drawn;
    spent = found.spent ∙ k.promise.looks.spent;
    gaps = All-both (IsForExchange (exchanges ++ exchange ∷ [])) gaps (gap_to (seen + 1) passed)
        (gaps-later exchanges exchange gaps k.promise.looks.gaps)
        (gap-for seen passed exchanges exchange refl);
    told = told-later (low_of new) groups (pair ∷ [])
        (subst (λ (start : ℕ). AllByRecursion (λ number. min start (2 ^ 62) ≤ number)
        (counter_numbers (pairs_in groups))) (sym found.start) k.promise.looks.told) at.told;
  }

  -- with the look behind the other exchanges
  pub keeps-looked : Keeps setting sent received (groups ++ (pair ∷ []) ∷ []) after routes [] false
      later
  keeps-looked = record {
    promise = record {
      taken = k.promise.taken;
      heard = k.promise.heard;
      hears = k.promise.hears;
      owed = k.promise.owed;
      quiet = k.promise.quiet;
      asks = record {
        exchanges = exchanges ++ exchange ∷ [];
        asking = k.promise.asks.asking;
        coming = k.promise.asks.coming;
        same = ap (λ (gs : List (List Pair)). gs ++ (pair ∷ []) ∷ []) k.promise.asks.same
            ∙ sym (map-append exchange_pairs exchanges (exchange ∷ []));
        asks = λ worker lt. k.promise.asks.asks worker lt
            ∙ ap (λ (xs : List Asked). xs ++ k.promise.asks.asking worker) (sym (asks-none worker));
        hears = λ worker lt. k.promise.asks.hears worker lt
            ∙ ap (λ (xs : List (List Reply)). xs ++ k.promise.asks.coming worker)
            (sym (hears-none worker));
        seen = HaveSeen-push 0 exchanges exchange k.promise.asks.seen k.seen_is;
        handled = All-append (IsExchange setting.layout) exchanges (exchange ∷ [])
            k.promise.asks.handled
            (inr (record { pair = pair; alone = refl; answer = at.answer; above = at.above }), tt);
        pending = record {
          none = refl;
          asks = k.promise.asks.pending.asks;
          hears = k.promise.asks.pending.hears;
        };
      };
      looks = looks-later;
    };
    seen_is = at.up ∙ ap (λ s. greatest s (seen_in (pair ∷ []))) k.seen_is
        ∙ sym (seen-push 0 exchanges exchange);
    limit = at.limit;
    way = refl;
    size = k.size;
  }

-- a seat with the same ranges, gaps and runs keeps the same promise
pub keeps-lifted : {F : Type 0} (setting : Setting) (sent : ℕ → List (Ask F))
    (received : ℕ → List (Answer F)) (groups : List (List Pair)) (seen : ℕ)
    (routes : RoutesState) (asked : List Request) (waiting : Bool) (old new : View)
    → new.start ≡ old.start → new.drawn ≡ old.drawn → new.spent ≡ old.spent
    → new.gaps ≡ old.gaps → Keeps setting sent received groups seen routes asked waiting old
    → Keeps setting sent received groups seen routes asked waiting new
keeps-lifted setting sent received groups seen routes asked waiting old new start drawn spent gaps
    k = record {
      promise = record {
        taken = k.promise.taken;
        heard = k.promise.heard;
        hears = k.promise.hears;
        owed = k.promise.owed;
        quiet = k.promise.quiet;
        asks = k.promise.asks;
        looks = record {
          drawn = drawn ∙ k.promise.looks.drawn;
          spent = spent ∙ k.promise.looks.spent;
          gaps = subst (All (IsForExchange k.promise.asks.exchanges)) (sym gaps)
              k.promise.looks.gaps;
          told = subst (λ (first : ℕ). AllByRecursion (λ number. min first (2 ^ 62) ≤ number)
              (counter_numbers (pairs_in groups))) (sym start) k.promise.looks.told;
        };
      };
      seen_is = k.seen_is;
      limit = k.limit;
      way = k.way;
      size = k.size;
    }
