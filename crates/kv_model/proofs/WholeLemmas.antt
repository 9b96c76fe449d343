-- A run with the answers to one more batch behind it agrees with one plain map.
use Rattle.std.proofs.Common.{◌≡◌, ◌≢◌, ℕ, ◌+◌, ◌-◌, ◌^◌, ◌≤◌, ◌<◌, Bool, List}
use Rattle.std.proofs.Common.{[]}
use Rattle.std.proofs.Common.{◌∷◌, ◌++◌, Option, None, Some, refl, ap, sym, ◌∙◌, subst, arith}
use Rattle.std.proofs.Common.{append_assoc, option_to_list, length}
use Rattle.std.proofs.Common.{MatchOption, is_some, IsTrue}
use Rattle.std.specs.List.{AllByRecursion, cons_option}
use Rattle.std.proofs.lemmas.List.Elements.{filter_map-append}
use Rattle.kv_base.specs.declared.request.Request.{Request}
use Rattle.kv_base.specs.declared.request.Request.TheVariants.{Put, Get, Delete, Flush, After}
use Rattle.kv_base.specs.declared.reply.Reply.{Reply}
use Rattle.kv_base.specs.declared.reply.Reply.TheVariants.{Stored, Found, Missing, Removed, Absent}
use Rattle.kv_model.specs.Pairwise.{Pairwise}
use Rattle.kv_model.specs.History.{Write}
use Rattle.kv_model.specs.Layout.{Layout}
use Rattle.kv_model.specs.Pairs.{Pair, acknowledged, acknowledged_by, stamp_of, stamps, writes}
use Rattle.kv_model.specs.Agreement.{AgreesWithMap, IsAnswer, IsMapAnswer, IsRead, refusal_of}
use Rattle.kv_model.specs.Batch.{IsTask, Start, answers}
use Rattle.kv_model.specs.Items.{FollowsHistory}
use Rattle.kv_model.specs.BatchLaws.{pairs_of, AreStamped}
use Rattle.kv_model.proofs.PairwiseLemmas.{All-append, All-map, Pairwise-append}
use Rattle.kv_model.proofs.ReadingLemmas.{AllBelow, AllFrom, RiseBetween-from, AllBelow-append}
use Rattle.kv_model.proofs.ReadingLemmas.{AllBelow-weaken}
use Rattle.kv_model.proofs.AnswersLemmas.{HasStamp, AreStamped-answers, cons-is}
use Rattle.kv_model.proofs.AnswersLemmas.{acknowledged_in, RiseBetween-acknowledged_in}
use Rattle.kv_model.proofs.AgreementLemmas.{value-append-above, AllFrom-weaken, answers-agree}

-- the stamp that the reply carries, if it does, is below this one
abbrev pub IsBelowStamp : ℕ → Pair → Type 0
IsBelowStamp base pair = MatchOption (stamp_of pair.reply) (Unit {0}) (λ stamp. stamp < base)

stamps-below : (pairs : List Pair) (base : ℕ) → AllByRecursion (IsBelowStamp base) pairs
    → AllByRecursion (λ stamp. stamp < base) (stamps pairs)
stamps-below [] base all = tt
stamps-below (pair ∷ pairs) base all = by (stamp_of pair.reply) all.0 (stamps-below pairs base
    all.1)
  where
    by : (stamp : Option ℕ) → MatchOption stamp (Unit {0}) (λ s. s < base)
        → AllByRecursion (λ s. s < base) (stamps pairs)
        → AllByRecursion (λ s. s < base) (cons_option stamp (stamps pairs))
    by None here rest = rest
    by (Some stamp) here rest = (here, rest)

acknowledged-below : (request : Request) (reply : Reply) (base : ℕ)
    → MatchOption (stamp_of reply) (Unit {0}) (λ stamp. stamp < base)
    → AllBelow base (option_to_list (acknowledged_by request reply))
acknowledged-below (Put key value) (Stored stamp) base below = (below, tt)
acknowledged-below (Get key) (Stored stamp) base below = tt
acknowledged-below (Delete key) (Stored stamp) base below = (below, tt)
acknowledged-below (Put key value) (Removed stamp) base below = (below, tt)
acknowledged-below (Get key) (Removed stamp) base below = tt
acknowledged-below (Delete key) (Removed stamp) base below = (below, tt)
acknowledged-below Flush (Stored stamp) base below = tt
acknowledged-below Flush (Removed stamp) base below = tt
acknowledged-below (After told) (Stored stamp) base below = tt
acknowledged-below (After told) (Removed stamp) base below = tt
acknowledged-below request reply base below = tt

writes-below : (pairs : List Pair) (base : ℕ) → AllByRecursion (IsBelowStamp base) pairs
    → AllBelow base (writes pairs)
writes-below [] base all = tt
writes-below (pair ∷ pairs) base all = subst (AllBelow base) (sym (cons-is (acknowledged pair)
    (writes pairs))) (AllBelow-append base (option_to_list (acknowledged pair)) (writes pairs)
    (acknowledged-below pair.request pair.reply base all.0) (writes-below pairs base all.1))

-- an earlier answer stays the map's
longer : (request : Request) (reply : Reply) (told : Bool) (layout : Layout)
    (history more : List Write) (base : ℕ) → AllFrom base more
    → MatchOption (stamp_of reply) (Unit {0}) (λ stamp. stamp < base)
    → IsMapAnswer told layout history request reply
    → IsMapAnswer told layout (history ++ more) request reply
longer (Get key) (Found stamp value) told layout history more base above below answer =
    subst (λ o. IsRead told o value) (sym (value-append-above history more stamp key
    (AllFrom-weaken (stamp + 1) base more (omega (arith, below)) above))) answer
longer (Get key) (Missing stamp) told layout history more base above below answer =
    value-append-above history more stamp key (AllFrom-weaken (stamp + 1) base more (omega
    (arith, below)) above) ∙ answer
longer (Delete key) (Removed stamp) told layout history more base above below answer =
    subst (λ o. IsTrue (is_some o)) (sym (value-append-above history more (stamp - 1) key
    (AllFrom-weaken (stamp - 1 + 1) base more (omega (arith, below)) above))) answer
longer (Delete key) (Absent stamp) told layout history more base above below answer =
    value-append-above history more stamp key (AllFrom-weaken (stamp + 1) base more (omega
    (arith, below)) above) ∙ answer
longer request reply told layout history more base above below answer = answer

longer-sized : (refusal : Option Reply) (request : Request) (reply : Reply) (told : Bool)
    (layout : Layout) (history more : List Write) (base : ℕ) → AllFrom base more
    → MatchOption (stamp_of reply) (Unit {0}) (λ stamp. stamp < base)
    → MatchOption refusal (IsMapAnswer told layout history request reply) (λ r. reply ≡ r)
    → MatchOption refusal (IsMapAnswer told layout (history ++ more) request reply) (λ r. reply ≡ r)
longer-sized None request reply told layout history more base above below answer =
    longer request reply told layout history more base above below answer
longer-sized (Some refusal) request reply told layout history more base above below answer = answer

earlier : (pairs : List Pair) (told : Bool) (layout : Layout) (history more : List Write) (base : ℕ)
    → AllFrom base more → AllByRecursion (IsBelowStamp base) pairs
    → AllByRecursion (λ pair. IsAnswer told layout history pair.request pair.reply) pairs
    → AllByRecursion (λ pair. IsAnswer told layout (history ++ more) pair.request pair.reply) pairs
earlier [] told layout history more base above below all = tt
earlier (pair ∷ pairs) told layout history more base above below all = (
  longer-sized (refusal_of layout pair.request) pair.request pair.reply told layout history more
      base above below.0 all.0,
  earlier pairs told layout history more base above below.1 all.1,
)

-- the stamps of a batch lie in its block, and differ
pub stamps-within : (requests : List Request) (replies : List Reply) (stamp : ℕ)
    → AreStamped stamp replies
    → AllByRecursion (λ s. (stamp ≤ s) × (s < stamp + length requests))
    (stamps (pairs_of requests replies))
stamps-within [] replies stamp are = tt
stamps-within (request ∷ requests) [] stamp are = tt
stamps-within (request ∷ requests) (reply ∷ replies) stamp are = by (stamp_of reply) are.0
    (All-map (λ s. (stamp + 1 ≤ s) × (s < stamp + 1 + length requests))
    (λ s. (stamp ≤ s) × (s < stamp + length (request ∷ requests))) rest
    (λ s h. (omega (arith, h.0), omega (arith, h.1)))
    (stamps-within requests replies (stamp + 1) are.1))
  where
    rest : List ℕ
    rest = stamps (pairs_of requests replies)

    by : (carried : Option ℕ) → HasStamp stamp carried
        → AllByRecursion (λ s. (stamp ≤ s) × (s < stamp + length (request ∷ requests))) rest
        → AllByRecursion (λ s. (stamp ≤ s) × (s < stamp + length (request ∷ requests)))
        (cons_option carried rest)
    by None has all = all
    by (Some s) has all = ((omega (arith, has), omega (arith, has)), all)

pub stamps-differ : (requests : List Request) (replies : List Reply) (stamp : ℕ)
    → AreStamped stamp replies
    → Pairwise (λ s other. s ≢ other) (stamps (pairs_of requests replies))
stamps-differ [] replies stamp are = tt
stamps-differ (request ∷ requests) [] stamp are = tt
stamps-differ (request ∷ requests) (reply ∷ replies) stamp are = by (stamp_of reply) are.0
    (stamps-within requests replies (stamp + 1) are.1)
    (stamps-differ requests replies (stamp + 1) are.1)
  where
    rest : List ℕ
    rest = stamps (pairs_of requests replies)

    by : (carried : Option ℕ) → HasStamp stamp carried → AllByRecursion (λ s. (stamp + 1 ≤ s)
        × (s < stamp + 1 + length requests)) rest → Pairwise (λ s other. s ≢ other) rest
        → Pairwise (λ s other. s ≢ other) (cons_option carried rest)
    by None has within differ = differ
    by (Some s) has within differ = (
      All-map (λ o. (stamp + 1 ≤ o) × (o < stamp + 1
          + length requests)) (λ o. s ≢ o) rest (λ o h. λ e. omega (arith, has, h.0, e)) within,
      differ,
    )

-- with replies behind it that are the map's and have the stamps of a new block, a run agrees with
-- one plain map
pub agrees-with-replies : (told : Bool) (layout : Layout) (before : List Write) (floor : ℕ)
    (pairs : List Pair) (base : ℕ) (requests : List Request) (replies : List Reply)
    → AgreesWithMap told layout before floor pairs → floor < base → AllBelow base before
    → AllByRecursion (IsBelowStamp base) pairs → base + length requests ≤ 2 ^ 62
    → AreStamped base replies → AllFrom base (writes (pairs_of requests replies))
    → AllByRecursion (λ pair. IsAnswer told layout ((before ++ writes pairs)
    ++ writes (pairs_of requests replies)) pair.request pair.reply) (pairs_of requests replies)
    → AgreesWithMap told layout before floor (pairs ++ pairs_of requests replies)
agrees-with-replies told layout before floor pairs base requests replies agrees above below
    earlier_below ends are from good =
    let new : List Pair = pairs_of requests replies in
    let within : AllByRecursion (λ s. (base ≤ s) × (s < base + length requests)) (stamps new) =
    stamps-within requests replies base are in
    let split : stamps (pairs ++ new) ≡ stamps pairs ++ stamps new =
    filter_map-append (λ pair. stamp_of pair.reply) pairs new in
    let old : AllByRecursion (λ s. s < base) (stamps pairs) = stamps-below pairs base earlier_below
    in
    let more : before ++ writes (pairs ++ new) ≡ (before ++ writes pairs) ++ writes new =
    ap (λ all. before ++ all) (filter_map-append acknowledged pairs new)
    ∙ sym (append_assoc before (writes pairs) (writes new)) in
    record {
      distinct = subst (Pairwise (λ stamp other. stamp ≢ other)) (sym split)
          (Pairwise-append (λ stamp other. stamp ≢ other) (stamps pairs) (stamps new)
          agrees.distinct (stamps-differ requests replies base are)
          (All-map (λ s. s < base) (λ s. AllByRecursion (λ o. s ≢ o) (stamps new)) (stamps pairs)
          (λ s lt. All-map (λ o. (base ≤ o) × (o < base + length requests)) (λ o. s ≢ o)
          (stamps new) (λ o h. λ e. omega (arith, lt, h.0, e)) within) old));
      above = subst (AllByRecursion (λ stamp. (floor < stamp) × (stamp < 2 ^ 62))) (sym split)
          (All-append (λ stamp. (floor < stamp) × (stamp < 2 ^ 62)) (stamps pairs) (stamps new)
          agrees.above (All-map (λ s. (base ≤ s) × (s < base + length requests))
          (λ stamp. (floor < stamp) × (stamp < 2 ^ 62)) (stamps new)
          (λ s h. (omega (arith, h.0), omega (arith, h.1))) within));
      fresh = subst (AllByRecursion (λ stamp. AllByRecursion (λ write. write.stamp < stamp) before))
          (sym split) (All-append (λ stamp. AllByRecursion (λ write. write.stamp < stamp) before)
          (stamps pairs) (stamps new) agrees.fresh
          (All-map (λ s. (base ≤ s) × (s < base + length requests))
          (λ stamp. AllByRecursion (λ write. write.stamp < stamp) before) (stamps new)
          (λ s h. AllBelow-weaken base s before h.0 below) within));
      replies = subst (λ all. AllByRecursion (λ pair. IsAnswer told layout all pair.request
          pair.reply) (pairs ++ new)) (sym more)
          (All-append (λ pair. IsAnswer told layout ((before ++ writes pairs) ++ writes new)
          pair.request pair.reply) pairs new
          (earlier pairs told layout (before ++ writes pairs) (writes new) base from earlier_below
          agrees.replies) good);
    }

-- with the answers to one more batch behind it, a run agrees with one plain map
pub agrees-with-more : (told : Bool) (layout : Layout) (before : List Write) (floor : ℕ)
    (pairs : List Pair) (base : ℕ) (start : Start) (requests : List Request)
    → AgreesWithMap told layout before floor pairs → start.layout ≡ layout
    → FollowsHistory told (before ++ writes pairs) (base - 1) start → floor < base
    → AllBelow base before → AllByRecursion (IsBelowStamp base) pairs
    → base + length requests ≤ 2 ^ 62 → AllByRecursion (IsTask layout) requests
    → AgreesWithMap told layout before floor (pairs ++ pairs_of requests (answers start [] base
    requests))
agrees-with-more told layout before floor pairs base start requests agrees same begins above below
    earlier_below ends good =
    let history : List Write = before ++ writes pairs in
    agrees-with-replies told layout before floor pairs base requests
    (answers start [] base requests) agrees above below earlier_below ends
    (AreStamped-answers requests start [] base)
    (RiseBetween-from base (base + length requests) (acknowledged_in start [] base requests)
    (RiseBetween-acknowledged_in requests start [] base))
    (answers-agree requests told layout start [] history
    (history ++ acknowledged_in start [] base requests) base (omega (arith, above))
    (AllBelow-append base before (writes pairs) below (writes-below pairs base earlier_below))
    begins.value same refl good)
