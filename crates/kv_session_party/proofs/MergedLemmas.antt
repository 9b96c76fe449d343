-- A group whose replies are merged is an exchange more.
use Rattle.std.proofs.Common.{◌≡◌, ◌⊎◌, inl, inr, ℕ, suc, ◌<◌, ◌≤◌, ◌^◌, List, [], ◌∷◌, ◌++◌}
use Rattle.std.proofs.Common.{length}
use Rattle.std.proofs.Common.{map, Option, None, Some, Bool, true, false, cond, nat_eq, refl, sym}
use Rattle.std.proofs.Common.{ap}
use Rattle.std.proofs.Common.{◌∙◌, subst, arith}
use Rattle.std.specs.Prelude.{not, is_some, ◌&&◌, IsSome, MatchOption, filter, min}
use Rattle.std.specs.List.{AllByRecursion, cons_option, filter_map}
use Rattle.std.proofs.lemmas.Bool.{true≢false, false≢true}
use Rattle.std.proofs.lemmas.Bool.Decides.{nat_tests}
use Rattle.std.proofs.lemmas.List.{append-nil, map-append}
use Rattle.std.proofs.lemmas.Grind.{flat_map-append}
use Rattle.kv_base.specs.Partition.{owner_of}
use Rattle.kv_base.specs.declared.reply.Reply.{Reply}
use Rattle.kv_base.specs.declared.reply.Reply.TheVariants.{BadKey, TooLarge, NoMemory}
use Rattle.kv_base.specs.declared.request.Request.{Request}
use Rattle.kv_base.specs.declared.request.Request.TheVariants.{Put, Get, Delete, Flush, After}
use Rattle.kv_model.proofs.PairwiseLemmas.{All-append}
use Rattle.kv_model.specs.Agreement.{refusal_of}
use Rattle.kv_model.specs.BatchLaws.{pairs_of}
use Rattle.kv_model.specs.Layout.{all_classes, class_of, is_key_length}
use Rattle.kv_model.proofs.CounterLemmas.{IsKeyed, keyed-seen, keyed-numbers}
use Rattle.kv_model.specs.Pairs.{Pair, key_of, stamp_of, stamps, seen_in}
use Rattle.kv_parties.specs.Groups.{Asked}
use Rattle.kv_parties.specs.Messages.{all_asking}
use Rattle.kv_parties.specs.Sessions.{Handled, Exchange, exchange_pairs, asked_by}
use Rattle.kv_parties.specs.Sessions.{replied_by, all_asked, all_replied}
use Rattle.kv_parties.specs.Sessions.{part_of as pairs_for, goes_to as pair_goes_to}
use Rattle.kv_parties.specs.Setting.{Setting, owns}
use Rattle.kv_ring.specs.Tasks.{requests_of}
use Rattle.kv_ring.specs.declared.message.Answer.{Answer}
use Rattle.kv_ring.specs.declared.message.Ask.{Ask}
use Rattle.kv_ring.specs.declared.task.Task.{Task}
use Rattle.kv_session.specs.Passage.{with_pairs}
use Rattle.kv_session.specs.Tasks.{AreTaken, GoesOn, IsRefused}
use Rattle.kv_parties.specs.Sessions.{IsHandled, IsExchange, greatest, message_of}
use Rattle.kv_parties.specs.Messages.{IsReplied}
use Rattle.kv_session_party.specs.Promise.{Keeps, StandsIn, IsOwed, handled_by}
use Rattle.kv_session_party.specs.Merging.{IsMerged, HaveOwn}
use Rattle.kv_session_party.specs.Routes.{RoutesState, ArePlaces, IsPlace}
use Rattle.kv_session_party.specs.Merging.{IsOwn, replies_at}
use Rattle.kv_session_party.specs.Parts.{part_of}
use Rattle.kv_session_party.specs.Routes.{part_for, goes_to, is_at}
use Rattle.kv_session_party.specs.Parts.{replies_in, tasks_here, is_away}
use Rattle.kv_session_party.specs.declared.part.Part.{Part}
use Rattle.kv_session_party.specs.declared.part.Part.TheVariants.{Here, Away}
use Rattle.kv_session_party.specs.declared.routes.Place.{Place}
use Rattle.kv_session_party.specs.declared.routes.Place.TheVariants.{Own, Worker}
use Rattle.kv_session_party.proofs.LookLemmas.{looks-more}
use Rattle.kv_session_party.proofs.MergeLemmas.{HaveOwn-length, replies-more}
use Rattle.kv_session_party.proofs.PromiseLemmas.{task-request}
use Rattle.kv_session_party.proofs.RouteLemmas.{ArePlaces-length}
use Rattle.kv_session_party.proofs.SeenPushLemmas.{HaveSeen-push, seen-push}
use Rattle.kv_stamps.specs.declared.view.View.{View}

eq-of : (m n : ℕ) → nat_eq m n ≡ true → m ≡ n
eq-of m n e = grind (arith, nat_tests)

-- ---- who gets a request

-- the request's pair goes where its task does
pair-goes : (n worker : ℕ) (request : Request) (task : Task) (reply : Reply)
    → GoesOn request task ⊎ IsRefused request task
    → pair_goes_to n worker (record {
      pair = record { request = request; reply = reply };
      routed = not (is_some task.reply);
    }) ≡ goes_to n worker task
pair-goes n worker request task reply (inl on) = ap (λ (r : Request).
    not (is_some task.reply) && owns n worker (key_of r)) (sym on.request_is)
pair-goes n worker request task reply (inr refused) =
    ap (λ (o : Option Reply). not (is_some o) && owns n worker (key_of request)) refused.answered
    ∙ sym (ap (λ (o : Option Reply). not (is_some o) && owns n worker (key_of task.request))
    refused.answered)

owns-at : (n number worker : ℕ) (key : Option (List ℕ)) → owns n number key ≡ true
    → owns n worker key ≡ nat_eq number worker
owns-at n number worker None e = absurd (false≢true e)
owns-at n number worker (Some k) e = ap (λ m. nat_eq m worker) (eq-of (owner_of k n) number e)

-- the task's place is the worker's where it goes to it
pub place-goes : (n worker : ℕ) (task : Task) (place : Place) → IsPlace n task place
    → is_at worker place ≡ goes_to n worker task
place-goes n worker task (Own reply) is = sym (ap (λ (o : Option Reply).
    not (is_some o) && owns n worker (key_of task.request)) is)
place-goes n worker task (Worker number) is =
    sym (ap (λ (o : Option Reply). not (is_some o) && owns n worker (key_of task.request)) is.0
    ∙ owns-at n number worker (key_of task.request) is.2)

-- ---- a worker's part

abbrev replies : List Pair → List Reply
replies pairs = map (λ (pair : Pair). pair.reply) pairs

abbrev requests : List Pair → List Request
requests pairs = map (λ (pair : Pair). pair.request) pairs

-- the replies of a worker's pairs are those at its places
part-replies : (n worker : ℕ) (asked : List Request) (tasks : List Task) (places : List Place)
    (merged : List Reply) → AreTaken asked tasks → ArePlaces n tasks places
    → HaveOwn places merged → replies (pairs_for n worker (handled_by asked tasks merged))
    ≡ replies_at worker places merged
part-replies n worker [] [] [] merged taken are own = refl
part-replies n worker [] [] (p ∷ places) merged taken are own = absurd are
part-replies n worker [] (t ∷ tasks) places merged taken are own = absurd taken
part-replies n worker (q ∷ asked) [] places merged taken are own = absurd taken
part-replies n worker (q ∷ asked) (t ∷ tasks) [] merged taken are own = absurd are
part-replies n worker (q ∷ asked) (t ∷ tasks) (p ∷ places) [] taken are own = absurd own
part-replies n worker (q ∷ asked) (t ∷ tasks) (p ∷ places) (r ∷ merged) taken are own =
    let h : Handled = record {
      pair = record { request = q; reply = r };
      routed = not (is_some t.reply);
    } in
    let rest : List Handled = filter (pair_goes_to n worker) (handled_by asked tasks merged) in
    let more = part-replies n worker asked tasks places merged taken.1 are.1 own.1 in
    let same : pair_goes_to n worker h ≡ is_at worker p =
    pair-goes n worker q t r taken.0 ∙ sym (place-goes n worker t p are.0) in
    ap (λ b. replies (map (λ (x : Handled). x.pair) (cond b (h ∷ rest) rest))) same
    ∙ (elim (is_at worker p) as (λ b.
    replies (map (λ (x : Handled). x.pair) (cond b (h ∷ rest) rest))
    ≡ cond b (r ∷ replies_at worker places merged) (replies_at worker places merged)) [
      | true ↦ ap (λ (rs : List Reply). r ∷ rs) more
      | false ↦ more
    ])

-- the requests of a worker's pairs are those of its tasks
part-requests : (n worker : ℕ) (asked : List Request) (tasks : List Task) (places : List Place)
    (merged : List Reply) → AreTaken asked tasks → ArePlaces n tasks places
    → HaveOwn places merged → requests (pairs_for n worker (handled_by asked tasks merged))
    ≡ requests_of (part_for n worker tasks)
part-requests n worker [] [] [] merged taken are own = refl
part-requests n worker [] [] (p ∷ places) merged taken are own = absurd are
part-requests n worker [] (t ∷ tasks) places merged taken are own = absurd taken
part-requests n worker (q ∷ asked) [] places merged taken are own = absurd taken
part-requests n worker (q ∷ asked) (t ∷ tasks) [] merged taken are own = absurd are
part-requests n worker (q ∷ asked) (t ∷ tasks) (p ∷ places) [] taken are own = absurd own
part-requests n worker (q ∷ asked) (t ∷ tasks) (p ∷ places) (r ∷ merged) taken are own =
    let h : Handled = record {
      pair = record { request = q; reply = r };
      routed = not (is_some t.reply);
    } in
    let rest : List Handled = filter (pair_goes_to n worker) (handled_by asked tasks merged) in
    let more = part-requests n worker asked tasks places merged taken.1 are.1 own.1 in
    ap (λ b. requests (map (λ (x : Handled). x.pair) (cond b (h ∷ rest) rest)))
    (pair-goes n worker q t r taken.0)
    ∙ (elim (goes_to n worker t) as (λ b. goes_to n worker t ≡ b
    → requests (map (λ (x : Handled). x.pair) (cond b (h ∷ rest) rest))
    ≡ requests_of (cond b (t ∷ part_for n worker tasks) (part_for n worker tasks))) [
      | true ↦ λ holds. ap (λ (x : Request).
          x ∷ requests (map (λ (x : Handled). x.pair) rest)) (task-request n worker q t taken.0 holds)
          ∙ ap (λ (xs : List Request). t.request ∷ xs) more
      | false ↦ λ fails. more
    ]) refl

-- all pairs
pairs-of : (n : ℕ) (asked : List Request) (tasks : List Task) (places : List Place)
    (merged : List Reply) → AreTaken asked tasks → ArePlaces n tasks places
    → HaveOwn places merged
    → map (λ (x : Handled). x.pair) (handled_by asked tasks merged) ≡ pairs_of asked merged
pairs-of n [] tasks places merged taken are own = refl
pairs-of n (q ∷ asked) [] places merged taken are own = absurd taken
pairs-of n (q ∷ asked) (t ∷ tasks) [] merged taken are own = absurd are
pairs-of n (q ∷ asked) (t ∷ tasks) (p ∷ places) [] taken are own = absurd own
pairs-of n (q ∷ asked) (t ∷ tasks) (p ∷ places) (r ∷ merged) taken are own =
    ap (λ (xs : List Pair). record { request = q; reply = r } ∷ xs)
    (pairs-of n asked tasks places merged taken.1 are.1 own.1)

-- ---- what the session answers itself

-- what the three refusals have that a session gives itself
pub refused-has : (P : Reply → Type 0) → P NoMemory → P BadKey → P TooLarge
    → (request : Request) (reply : Reply) → MatchOption (refusal_of all_classes request)
    (reply ≡ NoMemory) (λ refusal. reply ≡ refusal) → P reply
refused-has P none bad large (Put key value) reply own =
    by (is_key_length all_classes (length key))
    (is_some (class_of all_classes (length key) (length value))) own
  where
    by : (good fits : Bool) → MatchOption (cond good (cond fits None (Some TooLarge)) (Some BadKey))
        (reply ≡ NoMemory) (λ refusal. reply ≡ refusal) → P reply
    by true true e = subst P (sym e) none
    by true false e = subst P (sym e) large
    by false fits e = subst P (sym e) bad
refused-has P none bad large (Get key) reply own = by (is_key_length all_classes (length key)) own
  where
    by : (good : Bool) → MatchOption (cond good None (Some BadKey)) (reply ≡ NoMemory)
        (λ refusal. reply ≡ refusal) → P reply
    by true e = subst P (sym e) none
    by false e = subst P (sym e) bad
refused-has P none bad large (Delete key) reply own =
    by (is_key_length all_classes (length key)) own
  where
    by : (good : Bool) → MatchOption (cond good None (Some BadKey)) (reply ≡ NoMemory)
        (λ refusal. reply ≡ refusal) → P reply
    by true e = subst P (sym e) none
    by false e = subst P (sym e) bad
refused-has P none bad large Flush reply own = subst P (sym own) none
refused-has P none bad large (After stamp) reply own = subst P (sym own) none

some-eq : (one other : Reply) → Some one ≡ Some other → one ≡ other
some-eq one other e = cc

-- the session's own reply to a request is that of its task
pub own-reply : (n : ℕ) (task : Task) (place : Place) (reply own : Reply) → IsPlace n task place
    → IsOwn place reply → task.reply ≡ Some own → reply ≡ own
own-reply n task (Own kept) reply own is owned answered =
    owned ∙ some-eq kept own (sym is ∙ answered)
own-reply n task (Worker number) reply own is owned answered =
    absurd (none-is own (sym is.0 ∙ answered))
  where
    none-is : (own : Reply) → None ≡ Some own → ⊥
    none-is own e = cc

-- a pair of the group is about a key, and what the session answers itself is such a refusal
handled-one : (n : ℕ) (request : Request) (task : Task) (place : Place) (reply : Reply)
    → IsSome (key_of request) → GoesOn request task ⊎ IsRefused request task
    → IsPlace n task place → IsOwn place reply → IsHandled all_classes (record {
      pair = record { request = request; reply = reply };
      routed = not (is_some task.reply);
    })
handled-one n request task place reply keyed (inl on) is own = record {
  keyed = keyed;
  own = λ fails. absurd (true≢false (sym (ap (λ (o : Option Reply). not (is_some o)) on.waits) ∙ fails));
}
handled-one n request task place reply keyed (inr refused) is own = record {
  keyed = keyed;
  own = λ fails. subst (λ (r : Reply). MatchOption (refusal_of all_classes request) (r ≡ NoMemory)
      (λ refusal. r ≡ refusal))
      (sym (own-reply n task place reply refused.reply is own refused.answered)) refused.cause;
}

handled-all : (n : ℕ) (asked : List Request) (tasks : List Task) (places : List Place)
    (merged : List Reply) → AllByRecursion (λ request. IsSome (key_of request)) asked
    → AreTaken asked tasks → ArePlaces n tasks places → HaveOwn places merged
    → AllByRecursion (IsHandled all_classes) (handled_by asked tasks merged)
handled-all n [] tasks places merged keyed taken are own = tt
handled-all n (q ∷ asked) [] places merged keyed taken are own = absurd taken
handled-all n (q ∷ asked) (t ∷ tasks) [] merged keyed taken are own = absurd are
handled-all n (q ∷ asked) (t ∷ tasks) (p ∷ places) [] keyed taken are own = absurd own
handled-all n (q ∷ asked) (t ∷ tasks) (p ∷ places) (r ∷ merged) keyed taken are own = (
  handled-one n q t p r keyed.0 taken.0 are.0 own.0,
  handled-all n asked tasks places merged keyed.1 taken.1 are.1 own.1,
)

-- ---- a worker's message and answer

asked-same : (seen : ℕ) (pairs : List Pair) → asked_by seen pairs ≡ message_of seen (requests pairs)
asked-same seen [] = refl
asked-same seen (pair ∷ pairs) = refl

-- the replies, if there are any
abbrev replied_for : List Reply → List (List Reply)
replied_for [] = []
replied_for (reply ∷ merged) = (reply ∷ merged) ∷ []

replied-same : (pairs : List Pair) → replied_by pairs ≡ replied_for (replies pairs)
replied-same [] = refl
replied-same (pair ∷ pairs) = refl

-- what came of the tasks of a worker is all of their replies, once they are here
come-all : (mine : List Task) (coming : List (List Reply)) (part : Part)
    → is_away part ≡ false → StandsIn mine coming part
    → coming ≡ replied_for (replies_in (tasks_here part))
come-all [] coming (Here tasks) here has =
    has.0 ∙ ap (λ (ts : List Task). replied_for (replies_in ts)) (sym has.1)
come-all [] coming (Away count) here has = absurd has.1
come-all (task ∷ mine) coming (Away count) here has = absurd (true≢false here)
come-all (task ∷ mine) coming (Here tasks) here has =
    has.0 ∙ some-replies tasks.items has.1 has.2
  where
    some-replies : (items : List Task) → length items ≡ length (task ∷ mine)
        → AllByRecursion IsReplied items
        → replies_in items ∷ [] ≡ replied_for (replies_in items)
    some-replies [] size all = absurd (omega (arith, size))
    some-replies (item ∷ items) size all =
        let more = replies-more item items all.0.reply all.0.is in
        ap (λ rs. rs ∷ []) more ∙ sym (ap replied_for more)

-- ---- stamps

pub AreTaken-length : (asked : List Request) (tasks : List Task) → AreTaken asked tasks
    → length tasks ≡ length asked
AreTaken-length [] [] taken = refl
AreTaken-length [] (t ∷ tasks) taken = absurd taken
AreTaken-length (q ∷ asked) [] taken = absurd taken
AreTaken-length (q ∷ asked) (t ∷ tasks) taken = ap suc (AreTaken-length asked tasks taken.1)

-- pairs of requests about keys are about keys
keyed-pairs : (asked : List Request) (merged : List Reply)
    → AllByRecursion (λ request. IsSome (key_of request)) asked
    → AllByRecursion IsKeyed (pairs_of asked merged)
keyed-pairs [] merged keyed = tt
keyed-pairs (q ∷ asked) [] keyed = tt
keyed-pairs (q ∷ asked) (r ∷ merged) keyed = (keyed.0, keyed-pairs asked merged keyed.1)

stamps-pairs : (asked : List Request) (merged : List Reply) → length merged ≡ length asked
    → stamps (pairs_of asked merged) ≡ filter_map stamp_of merged
stamps-pairs [] [] size = refl
stamps-pairs [] (r ∷ merged) size = absurd (omega (arith, size))
stamps-pairs (q ∷ asked) [] size = refl
stamps-pairs (q ∷ asked) (r ∷ merged) size =
    ap (λ (ns : List ℕ). cons_option (stamp_of r) ns)
    (stamps-pairs asked merged (omega (arith, size)))

owed-none : {F : Type 0} (part : Part) (messages : List (Ask F)) (heard : List (Answer F))
    → is_away part ≡ false → IsOwed part messages heard → length messages ≤ length heard
owed-none (Here tasks) messages heard here owed = omega (arith, owed)
owed-none (Away count) messages heard here owed = absurd (true≢false here)

-- ---- the exchange

map-none : {X Y : Type 0} (f : X → Y) (xs : List X) → map f xs ≡ [] → xs ≡ []
map-none f [] e = refl
map-none f (x ∷ xs) e = cc

module _ {F : Type 0} {view : View} (setting : Setting) (sent : ℕ → List (Ask F))
    (received : ℕ → List (Answer F)) (groups : List (List Pair)) (seen high : ℕ)
    (routes after : RoutesState) (asked : List Request) (merged : List Reply)
    (layout : setting.layout ≡ all_classes)
    (keyed : AllByRecursion (λ request. IsSome (key_of request)) asked)
    (here : (worker : ℕ) → is_away (part_of routes.parts worker) ≡ false)
    (m : IsMerged routes.places
    (λ worker. replies_in (tasks_here (part_of routes.parts worker))) merged)
    (up : high ≡ greatest seen (filter_map stamp_of merged)) (limit : high < 2 ^ 62)
    (size : length after.parts ≡ length routes.parts)
    (k : Keeps setting sent received groups seen routes asked true view) where
  abbrev n : ℕ
  n = setting.workers

  abbrev handled : List Handled
  handled = handled_by asked k.way.tasks merged

  abbrev exchange : Exchange
  exchange = record { seen = seen; handled = handled }

  pairs-are : exchange_pairs exchange ≡ pairs_of asked merged
  pairs-are = pairs-of n asked k.way.tasks routes.places merged k.way.taken k.way.places m.own

  merged-size : length merged ≡ length asked
  merged-size = HaveOwn-length routes.places merged m.own
      ∙ ArePlaces-length n k.way.tasks routes.places k.way.places
      ∙ AreTaken-length asked k.way.tasks k.way.taken

  pairs-keyed : AllByRecursion IsKeyed (exchange_pairs exchange)
  pairs-keyed = subst (AllByRecursion IsKeyed) (sym pairs-are) (keyed-pairs asked merged keyed)

  seen-are : seen_in (exchange_pairs exchange) ≡ filter_map stamp_of merged
  seen-are = keyed-seen (exchange_pairs exchange) pairs-keyed ∙ ap stamps pairs-are
      ∙ stamps-pairs asked merged merged-size

  asks-all : (worker : ℕ) → worker < n
      → k.promise.asks.asking worker ≡ asked_by seen (pairs_for n worker handled)
  asks-all worker lt = k.way.asked_is worker lt
      ∙ sym (asked-same seen (pairs_for n worker handled)
      ∙ ap (message_of seen) (part-requests n worker asked k.way.tasks routes.places merged
      k.way.taken k.way.places m.own))

  hears-all : (worker : ℕ) → worker < n
      → k.promise.asks.coming worker ≡ replied_by (pairs_for n worker handled)
  hears-all worker lt = come-all (part_for n worker k.way.tasks)
      (k.promise.asks.coming worker) (part_of routes.parts worker) (here worker)
      (k.way.came worker lt)
      ∙ sym (replied-same (pairs_for n worker handled)
      ∙ ap replied_for (part-replies n worker asked k.way.tasks routes.places merged
      k.way.taken k.way.places m.own ∙ m.by_worker worker))

  abbrev asked-of : Exchange → ℕ → List Asked
  asked-of e worker = asked_by e.seen (pairs_for n worker e.handled)

  abbrev replied-of : Exchange → ℕ → List (List Reply)
  replied-of e worker = replied_by (pairs_for n worker e.handled)

  quiet-all : (worker : ℕ) → worker < n
      → length (all_asking (sent worker)) ≤ length (k.promise.heard worker)
  quiet-all worker lt = owed-none (part_of routes.parts worker) (all_asking (sent worker))
      (k.promise.heard worker) (here worker) (k.way.owed worker lt)

  -- with the exchange behind the others
  keeps-more : Keeps setting sent received (groups ++ exchange_pairs exchange ∷ []) high after []
      false view
  keeps-more = record {
    promise = record {
      taken = k.promise.taken;
      heard = k.promise.heard;
      hears = k.promise.hears;
      owed = k.promise.owed;
      quiet = λ e worker lt. quiet-all worker lt;
      asks = record {
        exchanges = k.promise.asks.exchanges ++ exchange ∷ [];
        asking = λ worker. [];
        coming = λ worker. [];
        same = ap (λ (gs : List (List Pair)). gs ++ exchange_pairs exchange ∷ [])
            k.promise.asks.same
            ∙ sym (map-append exchange_pairs k.promise.asks.exchanges (exchange ∷ []));
        asks = λ worker lt. k.promise.asks.asks worker lt
            ∙ ap (λ (xs : List Asked). all_asked n worker k.promise.asks.exchanges ++ xs)
            (asks-all worker lt ∙ sym (append-nil (asked-of exchange worker)))
            ∙ sym (flat_map-append (λ (e : Exchange). asked-of e worker)
            k.promise.asks.exchanges (exchange ∷ []))
            ∙ sym (append-nil (all_asked n worker (k.promise.asks.exchanges ++ exchange ∷ [])));
        hears = λ worker lt. k.promise.asks.hears worker lt
            ∙ ap (λ (xs : List (List Reply)).
            all_replied n worker k.promise.asks.exchanges ++ xs)
            (hears-all worker lt ∙ sym (append-nil (replied-of exchange worker)))
            ∙ sym (flat_map-append (λ (e : Exchange). replied-of e worker)
            k.promise.asks.exchanges (exchange ∷ []))
            ∙ sym (append-nil (all_replied n worker (k.promise.asks.exchanges ++ exchange ∷ [])));
        seen = HaveSeen-push 0 k.promise.asks.exchanges exchange k.promise.asks.seen k.seen_is;
        handled = All-append (IsExchange setting.layout) k.promise.asks.exchanges (exchange ∷ [])
            k.promise.asks.handled (
              inl (subst (λ l. AllByRecursion (IsHandled l) handled) (sym layout)
                  (handled-all n asked k.way.tasks routes.places merged keyed k.way.taken k.way.places
                  m.own)),
              tt,
            );
        pending = record {
          none = refl;
          asks = λ worker lt. refl;
          hears = λ worker lt. refl;
        };
      };
      looks = looks-more view groups k.promise.asks.exchanges (exchange_pairs exchange) exchange
          k.promise.looks (subst (AllByRecursion (λ number. min view.start (2 ^ 62) ≤ number))
          (sym (keyed-numbers (exchange_pairs exchange) pairs-keyed)) tt);
    };
    seen_is = up ∙ ap (greatest seen) (sym seen-are)
        ∙ ap (λ s. greatest s (seen_in (exchange_pairs exchange))) k.seen_is
        ∙ sym (seen-push 0 k.promise.asks.exchanges exchange);
    limit = limit;
    way = refl;
    size = size ∙ k.size;
  }

  -- without it, where it has no pair
  keeps-none : handled ≡ [] → Keeps setting sent received groups high after [] false view
  keeps-none nothing = record {
    promise = record {
      taken = k.promise.taken;
      heard = k.promise.heard;
      hears = k.promise.hears;
      owed = k.promise.owed;
      quiet = λ e worker lt. quiet-all worker lt;
      asks = record {
        exchanges = k.promise.asks.exchanges;
        asking = λ worker. [];
        coming = λ worker. [];
        same = k.promise.asks.same;
        asks = λ worker lt. k.promise.asks.asks worker lt
            ∙ ap (λ (xs : List Asked). all_asked n worker k.promise.asks.exchanges ++ xs)
            (asks-all worker lt
            ∙ ap (λ (hs : List Handled). asked_by seen (pairs_for n worker hs)) nothing);
        hears = λ worker lt. k.promise.asks.hears worker lt
            ∙ ap (λ (xs : List (List Reply)).
            all_replied n worker k.promise.asks.exchanges ++ xs)
            (hears-all worker lt
            ∙ ap (λ (hs : List Handled). replied_by (pairs_for n worker hs)) nothing);
        seen = k.promise.asks.seen;
        handled = k.promise.asks.handled;
        pending = record {
          none = refl;
          asks = λ worker lt. refl;
          hears = λ worker lt. refl;
        };
      };
      looks = k.promise.looks;
    };
    seen_is = up ∙ ap (greatest seen) (sym seen-are)
        ∙ ap (λ (hs : List Handled). greatest seen (seen_in (map (λ (x : Handled). x.pair) hs)))
        nothing ∙ k.seen_is;
    limit = limit;
    way = refl;
    size = size ∙ k.size;
  }

  by-pairs : (pairs : List Pair) → exchange_pairs exchange ≡ pairs
      → Keeps setting sent received (with_pairs groups pairs) high after [] false view
  by-pairs [] e = keeps-none (map-none (λ (x : Handled). x.pair) handled e)
  by-pairs (pair ∷ pairs) e = subst (λ (ps : List Pair).
      Keeps setting sent received (groups ++ ps ∷ []) high after [] false view) e keeps-more

  -- the group of these requests and its replies are an exchange more, unless it is empty
  pub keeps-merged : Keeps setting sent received (with_pairs groups (pairs_of asked merged)) high
      after [] false view
  keeps-merged = by-pairs (pairs_of asked merged) pairs-are
