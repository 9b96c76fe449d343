-- Lemmas on a session behind the replies to the group that it read last.
use Rattle.std.proofs.Common.{◌≡◌, ℕ, ◌+◌, ◌≤◌, Bool, true, false, cond, List, [], ◌++◌, length}
use Rattle.std.proofs.Common.{map, Option, None, Some, inl, inr, refl, sym, ap, subst, ◌∙◌, arith}
use Rattle.std.proofs.Common.{append_assoc, length-append}
use Rattle.std.specs.List.{AllByRecursion}
use Rattle.std.proofs.lemmas.List.{append-nil}
use Rattle.kv_base.specs.declared.cause.Cause.{Cause}
use Rattle.kv_base.specs.declared.cause.Cause.TheVariants.{SinkFault}
use Rattle.kv_base.specs.declared.reply.Reply.{Reply}
use Rattle.kv_base.specs.declared.request.Request.{Request}
use Rattle.kv_base.specs.Calls.{next_count}
use Rattle.kv_base.specs.Stream.{Passes, IsSpent, Takes}
use Rattle.kv_base.proofs.StreamLemmas.{Takes-trans}
use Rattle.kv_model.specs.BatchLaws.{pairs_of}
use Rattle.kv_model.specs.Frames.{HasReplyFrame, BeginsWithRequests}
use Rattle.kv_model.specs.Groups.{with_group, last_group, groups_of, all_groups}
use Rattle.kv_model.specs.Pairs.{Pair, requests_of, replies_in}
use Rattle.kv_model.specs.Transcript.{GoesOut, HasTranscript}
use Rattle.kv_model.proofs.PairwiseLemmas.{All-append}
use Rattle.kv_session.specs.Outgoing.{replies_behind, cause_behind}
use Rattle.kv_session.specs.Session.{SessionState, KeepsReading}
use Rattle.kv_session.specs.Passage.{Streams, source_faults_at, sink_faults_for, HasSourceCount}
use Rattle.kv_session.specs.Passage.{with_pairs, rest_of, IsLastGroup, HasRead, HasEnded, Follows}
use Rattle.kv_session.specs.Passage.{Delivers}
use Rattle.kv_session.proofs.OutgoingLemmas.{HaveGone-goes, gone_whole}
use Rattle.kv_session.proofs.PassageLemmas.{requests_of-pairs_of, replies_of-pairs_of}
use Rattle.kv_session.proofs.PassageLemmas.{requests-with_pairs, replies-with_pairs, EndsAs}
use Rattle.kv_session.proofs.PassageLemmas.{last_group-with_group, closing_told, Closes-read}
use Rattle.kv_session.proofs.PassageLemmas.{Leaves-none, source_counted-read, sink_counted-read}
use Rattle.kv_session.proofs.PassageLemmas.{source_counted-any, all-ended, all-answered}

module _ {So Si : Type 0} (streams : Streams So Si) (source : So) (sink : Si)
    (groups : List (List Pair)) (asked : List Request) (replies : List Reply)
    (old new : SessionState So Si) (given : List ℕ) (left : List Reply)
    (each : length replies ≡ length asked) (read : HasRead streams source sink groups asked old)
    (kept : KeepsReading old new)
    (have : AllByRecursion HasReplyFrame (replies ++ replies_behind old.closing))
    (took : Takes (streams.held old.sink) (streams.held new.sink) given)
    (goes : GoesOut (replies ++ replies_behind old.closing) given left) where
  -- the groups with that of the new pairs
  abbrev answered : List (List Pair)
  answered = with_pairs groups (pairs_of asked replies)

  grouped : map requests_of answered ≡ with_group (map requests_of groups) asked
  grouped = requests-with_pairs groups (pairs_of asked replies)
      ∙ ap (λ (rs : List Request). with_group (map requests_of groups) rs)
      (requests_of-pairs_of asked replies each)

  replied : replies_in answered ≡ replies_in groups ++ replies
  replied = replies-with_pairs groups (pairs_of asked replies)
      ∙ ap (λ (rs : List Reply). replies_in groups ++ rs) (replies_of-pairs_of asked replies each)

  -- all replies, and what is told behind them
  said : replies_in answered ++ replies_behind old.closing
      ≡ replies_in groups ++ (replies ++ replies_behind old.closing)
  said = ap (λ (rs : List Reply). rs ++ replies_behind old.closing) replied
      ∙ append_assoc (replies_in groups) replies (replies_behind old.closing)

  framed : AllByRecursion HasReplyFrame (replies_in answered ++ replies_behind old.closing)
  framed = subst (λ (rs : List Reply). AllByRecursion HasReplyFrame rs) (sym said)
      (All-append HasReplyFrame (replies_in groups) (replies ++ replies_behind old.closing)
      read.framed have)

  out : GoesOut (replies_in answered ++ replies_behind old.closing) (read.given ++ given) left
  out = subst (λ (rs : List Reply). GoesOut rs (read.given ++ given) left) (sym said)
      (HaveGone-goes (replies_in groups ++ (replies ++ replies_behind old.closing))
      (replies ++ replies_behind old.closing) left read.given given
      (record { out = replies_in groups; parts = refl; gave = read.out }) goes)

  took_all : Takes (streams.held sink) (streams.held new.sink) (read.given ++ given)
  took_all = Takes-trans (streams.held sink) (streams.held old.sink) (streams.held new.sink)
      read.given given read.took took

  passed : Passes (streams.stream source) (streams.stream new.source) read.bytes
  passed = subst (λ (s : So). Passes (streams.stream source) (streams.stream s) read.bytes)
      (sym kept.source) read.passed

  counted : new.taken ≡ length read.bytes
  counted = kept.taken ∙ read.counted

  spent : new.ended ≡ true → IsSpent (streams.stream new.source)
  spent over = subst (λ (s : So). IsSpent (streams.stream s)) (sym kept.source)
      (read.spent (sym kept.ended ∙ over))

  abbrev rest : List ℕ
  rest = rest_of new.after new.waiting

  fronts : BeginsWithRequests read.bytes read.handled rest
  fronts = subst (λ (after : Option ℕ). BeginsWithRequests read.bytes read.handled (rest_of after
      new.waiting)) (sym kept.after)
      (subst (λ (waiting : List ℕ). BeginsWithRequests read.bytes read.handled (rest_of old.after
      waiting)) (sym kept.waiting) read.fronts)

  -- where no After comes next
  fronts_all : new.after ≡ None → BeginsWithRequests read.bytes read.handled new.waiting
  fronts_all none = subst (λ (after : Option ℕ). BeginsWithRequests read.bytes read.handled (rest_of
      after new.waiting)) none fronts

  -- the last group, where reading ended so
  last : (closing : Option Cause) → old.closing ≡ closing
      → IsLastGroup closing new.after read.bytes new.waiting new.ended (groups_of read.handled)
      (map requests_of groups) asked
  last closing is =
      subst (λ (ended : Bool). IsLastGroup closing new.after read.bytes new.waiting ended
      (groups_of read.handled) (map requests_of groups) asked) (sym kept.ended)
      (subst (λ (rest : List ℕ). IsLastGroup closing new.after read.bytes rest old.ended
      (groups_of read.handled) (map requests_of groups) asked) (sym kept.waiting)
      (subst (λ (after : Option ℕ). IsLastGroup closing after read.bytes old.waiting old.ended
      (groups_of read.handled) (map requests_of groups) asked) (sym kept.after)
      (subst (λ (closing : Option Cause). IsLastGroup closing old.after read.bytes old.waiting
      old.ended (groups_of read.handled) (map requests_of groups) asked) is read.last)))

  source_counted : (closing : Option Cause) → old.closing ≡ closing
      → streams.source_faults new.source ≡ source_faults_at closing (streams.source_faults source)
  source_counted closing is = ap streams.source_faults kept.source ∙ read.source_counted
      ∙ ap (λ (closing : Option Cause). source_faults_at closing (streams.source_faults source)) is

  -- what goes out of no reply is of no reply
  few : length left ≤ length replies + length (replies_behind old.closing)
  few = omega (
    arith,
    ap (λ (rs : List Reply). length rs) goes.2,
    length-append goes.0 left,
    length-append replies (replies_behind old.closing),
  )

  -- the session goes on
  goes_on : old.closing ≡ None → left ≡ []
      → streams.sink_faults new.sink ≡ streams.sink_faults old.sink → new.ending ≡ None
      → HasRead streams source sink answered [] new
  goes_on none nothing calm ending =
      let at = last None none in
      let silent : replies_behind old.closing ≡ [] =
      ap (λ (closing : Option Cause). replies_behind closing) none in record {
        bytes = read.bytes;
        given = read.given ++ given;
        handled = read.handled;
        passed = passed;
        took = took_all;
        counted = counted;
        spent = spent;
        fronts = fronts;
        last = subst (λ (closing : Option Cause). IsLastGroup closing new.after read.bytes
            new.waiting new.ended (groups_of read.handled) (map requests_of answered) [])
            (sym (kept.closing ∙ none))
            (all-answered new.after (groups_of read.handled) (map requests_of groups)
            (map requests_of answered) asked grouped at);
        framed = subst (λ (rs : List Reply). AllByRecursion HasReplyFrame rs)
            (ap (λ (rs : List Reply). replies_in answered ++ rs) silent
            ∙ append-nil (replies_in answered)) framed;
        out = gone_whole (replies_in answered) (read.given ++ given)
            (subst (λ (rs : List Reply). GoesOut rs (read.given ++ given) [])
            (ap (λ (rs : List Reply). replies_in answered ++ rs) silent
            ∙ append-nil (replies_in answered))
            (subst (λ (rs : List Reply). GoesOut (replies_in answered ++ replies_behind old.closing)
            (read.given ++ given) rs) nothing out));
        source_counted = source_counted None none
            ∙ ap (λ (closing : Option Cause). source_faults_at closing
            (streams.source_faults source)) (sym (kept.closing ∙ none));
        sink_counted = calm ∙ read.sink_counted;
        goes_on = ending;
      }

  -- the session has ended, for a cause whose transcript is that of the groups
  ended_by : (cause : Cause) → EndsAs (Some cause) left new.taken new.ending
      → HasTranscript read.bytes new.ended (read.given ++ given) left cause answered
      → HasSourceCount cause (streams.source_faults source) (streams.source_faults new.source)
      → streams.sink_faults new.sink ≡ sink_faults_for cause (streams.sink_faults sink)
      → HasEnded streams source sink answered cause new
  ended_by cause ends transcript from_source to_sink =
      let all : List ℕ = read.given ++ given in record {
        ending = ends.0;
        ending_is = ends.1;
        cause_is = ends.2;
        session = record {
          bytes = read.bytes;
          ended = new.ended;
          given = all;
          passed = passed;
          took = took_all;
          counted = ends.3 ∙ counted;
          spent = spent;
          transcript = subst (λ (rs : List Reply). HasTranscript read.bytes new.ended all rs
              ends.0.cause answered) (sym ends.4)
              (subst (λ (cause : Cause). HasTranscript read.bytes new.ended all left cause answered)
              (sym ends.2) transcript);
          source_counted = subst (λ (cause : Cause). HasSourceCount cause
              (streams.source_faults source) (streams.source_faults new.source)) (sym ends.2)
              from_source;
          sink_counted = to_sink ∙ ap (λ (cause : Cause). sink_faults_for cause
              (streams.sink_faults sink)) (sym ends.2);
        };
      }

  -- reading had ended, and all replies went out
  over : (cause : Cause) → old.closing ≡ Some cause → left ≡ []
      → streams.sink_faults new.sink ≡ streams.sink_faults old.sink
      → EndsAs (Some cause) left new.taken new.ending
      → HasEnded streams source sink answered cause new
  over cause is nothing calm ends =
      let at = last (Some cause) is in
      let now = groups_of read.handled in
      let told : replies_behind old.closing ≡ at.2.0 =
      ap (λ (closing : Option Cause). replies_behind closing) is
      ∙ sym (closing_told cause read.bytes new.waiting new.ended at.2.0 at.2.1) in
      ended_by cause ends (record {
        handled = read.handled;
        rest = new.waiting;
        closing = at.2.0;
        fronts = fronts_all at.3;
        grouped = grouped ∙ ap (λ (gs : List (List Request)). with_group gs asked) (sym at.0)
            ∙ ap (λ (rs : List Request). with_group now.ended rs) (sym at.1);
        framed = subst (λ (rs : List Reply). AllByRecursion HasReplyFrame (replies_in answered
            ++ rs)) told framed;
        closes = Closes-read cause read.bytes new.waiting new.ended now at.2.0 left at.2.1;
        out = subst (λ (rs : List Reply). GoesOut (replies_in answered ++ rs) (read.given ++ given)
            left) told out;
        leaves = Leaves-none cause read.bytes new.waiting new.ended at.2.0 left at.2.1 nothing;
      })
      (source_counted-read cause read.bytes new.waiting new.ended at.2.0
      (streams.source_faults source) (streams.source_faults new.source) at.2.1
      (source_counted (Some cause) is))
      (sink_counted-read cause read.bytes new.waiting new.ended at.2.0 (streams.sink_faults sink)
      (streams.sink_faults new.sink) at.2.1 (calm ∙ read.sink_counted))

  -- the sink failed
  failed : (closing : Option Cause) → old.closing ≡ closing → 1 ≤ length left
      → streams.sink_faults new.sink ≡ next_count (streams.sink_faults old.sink)
      → EndsAs (Some SinkFault) left new.taken new.ending
      → HasEnded streams source sink answered SinkFault new
  failed None is some fault ends =
      let now = groups_of read.handled in
      let at = all-ended new.after new.waiting now (map requests_of groups) asked (last None is) in
      let silent : replies_behind old.closing ≡ [] =
      ap (λ (closing : Option Cause). replies_behind closing) is in
      let few_left : length left ≤ length asked =
      omega (arith, few, each, ap (λ (rs : List Reply). length rs) silent) in
      let last_is : last_group (all_groups now) ≡ asked =
      ap (λ (gs : List (List Request)). last_group gs) at.1
      ∙ last_group-with_group (map requests_of groups) asked (omega (arith, some, few_left)) in
      ended_by SinkFault ends (record {
        handled = read.handled;
        rest = rest;
        closing = replies_behind old.closing;
        fronts = fronts;
        grouped = grouped ∙ sym at.1;
        framed = framed;
        closes = inl (record {
          whole = at.0;
          nothing = silent;
          most = omega (arith, few_left, ap (λ (rs : List Request). length rs) last_is);
        });
        out = out;
        leaves = some;
      }) (inl (source_counted None is)) (fault ∙ ap next_count read.sink_counted)
  failed (Some why) is some fault ends =
      let at = last (Some why) is in
      let now = groups_of read.handled in
      let told : replies_behind old.closing ≡ at.2.0 =
      ap (λ (closing : Option Cause). replies_behind closing) is
      ∙ sym (closing_told why read.bytes new.waiting new.ended at.2.0 at.2.1) in
      ended_by SinkFault ends (record {
        handled = read.handled;
        rest = new.waiting;
        closing = at.2.0;
        fronts = fronts_all at.3;
        grouped = grouped ∙ ap (λ (gs : List (List Request)). with_group gs asked) (sym at.0)
            ∙ ap (λ (rs : List Request). with_group now.ended rs) (sym at.1);
        framed = subst (λ (rs : List Reply). AllByRecursion HasReplyFrame (replies_in answered
            ++ rs)) told framed;
        closes = inr (record {
          why = why;
          ends = at.2.1;
          most = omega (
            arith,
            few,
            each,
            ap (λ (rs : List Reply). length rs) told,
            ap (λ (rs : List Request). length rs) at.1,
          );
        });
        out = subst (λ (rs : List Reply). GoesOut (replies_in answered ++ rs) (read.given ++ given)
            left) told out;
        leaves = some;
      })
      (source_counted-any why (streams.source_faults source) (streams.source_faults new.source)
      (source_counted (Some why) is)) (fault ∙ ap next_count read.sink_counted)

  -- all replies went out
  follows : (closing : Option Cause) → old.closing ≡ closing → left ≡ []
      → streams.sink_faults new.sink ≡ streams.sink_faults old.sink
      → EndsAs closing left new.taken new.ending
      → Follows streams source sink answered closing new
  follows None is nothing calm ends = goes_on is nothing calm ends
  follows (Some cause) is nothing calm ends = over cause is nothing calm ends

  -- the replies went out, or the sink failed
  delivers : (closing : Option Cause) → old.closing ≡ closing → (whole : Bool)
      → (whole ≡ true → left ≡ []) → (whole ≡ false → 1 ≤ length left)
      → streams.sink_faults new.sink
      ≡ cond whole (streams.sink_faults old.sink) (next_count (streams.sink_faults old.sink))
      → EndsAs (cause_behind whole closing) left new.taken new.ending
      → Delivers streams source sink answered closing new whole
  delivers closing is true all some counted ends = follows closing is (all refl) counted ends
  delivers closing is false all some counted ends = failed closing is (some refl) counted ends

-- the same, by what was loaded and what of that was sent
pub Delivers-sent : {So Si : Type 0} (streams : Streams So Si) (source : So) (sink : Si)
    (groups : List (List Pair)) (asked : List Request) (replies : List Reply)
    (viewed old new : SessionState So Si) (loaded left : List Reply) (given : List ℕ)
    (whole : Bool) → viewed ≡ old → length replies ≡ length asked
    → HasRead streams source sink groups asked old → KeepsReading viewed new
    → loaded ≡ replies ++ replies_behind viewed.closing → AllByRecursion HasReplyFrame loaded
    → Takes (streams.held viewed.sink) (streams.held new.sink) given → GoesOut loaded given left
    → (whole ≡ true → left ≡ []) → (whole ≡ false → 1 ≤ length left)
    → streams.sink_faults new.sink
    ≡ cond whole (streams.sink_faults viewed.sink) (next_count (streams.sink_faults viewed.sink))
    → EndsAs (cause_behind whole viewed.closing) left new.taken new.ending
    → Delivers streams source sink (with_pairs groups (pairs_of asked replies)) old.closing new
    whole
Delivers-sent {So = So} {Si = Si} streams source sink groups asked replies viewed old new loaded
    left given whole is each read kept loaded_is have took goes all some counted ends =
    let at = ap (λ (s : SessionState So Si). s.closing) is in
    delivers streams source sink groups asked replies viewed new given left each
    (subst (λ (s : SessionState So Si). HasRead streams source sink groups asked s) (sym is) read)
    kept (subst (λ (rs : List Reply). AllByRecursion HasReplyFrame rs) loaded_is have) took
    (subst (λ (rs : List Reply). GoesOut rs given left) loaded_is goes) old.closing at whole all
    some counted
    (subst (λ (closing : Option Cause). EndsAs (cause_behind whole closing) left new.taken
    new.ending) at ends)
