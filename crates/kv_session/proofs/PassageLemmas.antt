-- Lemmas on what a session took and gave from its first byte on.
use Rattle.std.proofs.Common.{◌≡◌, ℕ, ◌≤◌, ◌<◌, ◌^◌, Bool, true, List, [], ◌∷◌, ◌++◌}
use Rattle.std.proofs.Common.{length, map, fold, Option, None, Some, IfSome, inl, inr, refl, sym}
use Rattle.std.proofs.Common.{ap, subst, ◌∙◌, arith, length-append}
use Rattle.std.proofs.lemmas.Grind.{flat_map-append, fold-append}
use Rattle.std.proofs.lemmas.List.{append-nil, map-append}
use Rattle.kv_base.specs.declared.cause.Cause.{Cause}
use Rattle.kv_base.specs.declared.cause.Cause.TheVariants.{End, Malformed, Limit, SourceFault}
use Rattle.kv_base.specs.declared.cause.Cause.TheVariants.{SinkFault}
use Rattle.kv_base.specs.declared.reply.Reply.{Reply}
use Rattle.kv_base.specs.declared.request.Request.{Request}
use Rattle.kv_base.specs.declared.request.Request.TheVariants.{After}
use Rattle.kv_base.specs.Stream.{Passes, IsSpent, Takes}
use Rattle.kv_base.proofs.StreamLemmas.{Passes-nil, Passes-trans, Takes-nil}
use Rattle.kv_model.specs.BatchLaws.{pairs_of}
use Rattle.kv_model.specs.Frames.{BeginsWithRequest, BeginsWithRequests}
use Rattle.kv_model.specs.Groups.{Groups, no_groups, with_group, last_group, all_groups}
use Rattle.kv_model.specs.Groups.{next_groups, groups_of, add_alone}
use Rattle.kv_model.specs.Pairs.{Pair, requests_of, pairs_in, replies_in}
use Rattle.kv_model.specs.Transcript.{EndsReading, Closes, Leaves, HaveEnded}
use Rattle.kv_session.specs.declared.ending.Ending.{Ending}
use Rattle.kv_session.specs.Reading.{ReaderState, closing_for, EndsFor}
use Rattle.kv_session.specs.Group.{ReadsGroup, ended_groups, groups_behind, UsesLast, closing_of}
use Rattle.kv_session.specs.Group.{after_of}
use Rattle.kv_session.specs.Session.{SessionState, IsNew, after_taken}
use Rattle.kv_session.specs.declared.gathered.Gathered.{Gathered}
use Rattle.kv_session.specs.declared.gathered.Gathered.TheVariants.{More, After as AfterOf}
use Rattle.kv_session.specs.declared.gathered.Gathered.TheVariants.{Ending as EndingOf}
use Rattle.kv_session.specs.Passage.{Streams, source_faults_for, source_faults_at, sink_faults_for}
use Rattle.kv_session.specs.Passage.{HasSourceCount, with_pairs, rest_of, AllEnded, IsLastGroup}
use Rattle.kv_session.specs.Passage.{HasRead}
use Rattle.kv_session.proofs.GroupLemmas.{BeginsWithRequests-append, BeginsWithRequests-one}

-- ---- reading

-- what a session has of its bytes
abbrev pub reader_of : {So Si : Type 0} → SessionState So Si → ReaderState So
reader_of session = record {
  source = session.source;
  waiting = session.waiting;
  taken = session.taken;
  ended = session.ended;
}

-- a session that took no byte has no group
pub HasRead-new : {So Si : Type 0} (streams : Streams So Si) (source : So) (sink : Si)
    (session : SessionState So Si) → IsNew session → session.source ≡ source
    → session.sink ≡ sink → HasRead streams source sink [] [] session
HasRead-new streams source sink session new same_source same_sink = rw (← same_source, ← same_sink)
    (record {
      bytes = [];
      given = [];
      handled = [];
      passed = Passes-nil (streams.stream session.source);
      took = Takes-nil (streams.held session.sink);
      counted = new.none_taken;
      spent = λ over. let input = new.input in absurd cc;
      fronts = subst (λ (after : Option ℕ). BeginsWithRequests [] [] (rest_of after
          session.waiting)) (sym new.none_after) (record { parts = sym new.none_waits; each = tt });
      last = subst (λ (closing : Option Cause). IsLastGroup closing session.after []
          session.waiting session.ended no_groups [] []) (sym new.reads)
          (subst (λ (after : Option ℕ). AllEnded after no_groups [] []) (sym new.none_after)
          (refl, refl));
      framed = tt;
      out = refl;
      source_counted = ap (λ (closing : Option Cause). source_faults_at closing
          (streams.source_faults session.source)) (sym new.reads);
      sink_counted = refl;
      goes_on = new.goes_on;
    })

-- requests behind others make their group behind the others' groups
groups_of-append : (handled requests asked : List Request) (groups : List (List Request))
    (gathered : Gathered) → groups_of handled ≡ ended_groups groups
    → ((groups : List (List Request)) → fold next_groups (ended_groups groups) requests
    ≡ groups_behind gathered groups asked)
    → groups_of (handled ++ requests) ≡ groups_behind gathered groups asked
groups_of-append handled requests asked groups gathered is grouped =
    fold-append next_groups no_groups handled requests
    ∙ ap (λ (now : Groups). fold next_groups now requests) is ∙ grouped groups

-- while reading goes on and no After comes next, all groups have ended
all_ended : (closing : Option Cause) (after : Option ℕ) (bytes rest : List ℕ) (ended : Bool)
    (now : Groups) (groups : List (List Request)) → closing ≡ None → after ≡ None
    → IsLastGroup closing after bytes rest ended now groups [] → now ≡ ended_groups groups
all_ended None None bytes rest ended now groups none no_after last =
    let make : List (List Request) → List Request → Groups =
    λ groups asked. record { ended = groups; current = asked } in
    ap (λ (ended : List (List Request)). make ended now.current) last.0
    ∙ ap (λ (current : List Request). make groups current) last.1
all_ended None (Some stamp) bytes rest ended now groups none no_after last = absurd cc
all_ended (Some cause) after bytes rest ended now groups none no_after last = absurd cc

-- the last group, by the groups and what ended it
IsLastGroup-made : (gathered : Gathered) (bytes rest : List ℕ) (ended : Bool) (taken : ℕ)
    (now : Groups) (groups : List (List Request)) (asked : List Request)
    → now ≡ groups_behind gathered groups asked → length bytes ≡ taken
    → IfSome (closing_of gathered) (λ cause. EndsFor cause rest ended taken)
    → IfSome (after_of gathered) (λ stamp. stamp < 2 ^ 64)
    → IsLastGroup (closing_of gathered) (after_of gathered) bytes rest ended now groups asked
IsLastGroup-made More bytes rest ended taken now groups asked is size ends fits =
    (ap (λ (g : Groups). g.ended) is, ap (λ (g : Groups). g.current) is)
IsLastGroup-made (AfterOf stamp) bytes rest ended taken now groups asked is size ends fits =
    (fits, ap all_groups is)
IsLastGroup-made (EndingOf cause) bytes rest ended taken now groups asked is size ends fits = (
  ap (λ (g : Groups). g.ended) is,
  ap (λ (g : Groups). g.current) is,
  (closing_for cause, ends bytes size),
  refl,
)

-- what stays where the After that ended the group was used up, and what the rest is then
record LeavesRest {So : Type 0} (between new : ReaderState So) (after : Option ℕ) : Type 0 where
  source : new.source ≡ between.source
  taken : new.taken ≡ between.taken
  rest : between.waiting ≡ rest_of after new.waiting
  fits : IfSome after (λ stamp. stamp < 2 ^ 64)

LeavesRest-last : {So : Type 0} (gathered : Gathered) (between new : ReaderState So)
    → UsesLast gathered between new → LeavesRest between new (after_of gathered)
LeavesRest-last {So = So} More between new last = record {
  source = ap (λ (r : ReaderState So). r.source) last;
  taken = ap (λ (r : ReaderState So). r.taken) last;
  rest = sym (ap (λ (r : ReaderState So). r.waiting) last);
  fits = tt;
}
LeavesRest-last {So = So} (EndingOf cause) between new last = record {
  source = ap (λ (r : ReaderState So). r.source) last;
  taken = ap (λ (r : ReaderState So). r.taken) last;
  rest = sym (ap (λ (r : ReaderState So). r.waiting) last);
  fits = tt;
}
LeavesRest-last (AfterOf stamp) between new last = record {
  source = last.source;
  taken = last.taken;
  rest = last.begins.parts;
  fits = last.begins.has.body;
}

-- a group was read
pub HasRead-group : {So Si : Type 0} (streams : Streams So Si) (source : So) (sink : Si)
    (groups : List (List Pair)) (asked : List Request) (old new : SessionState So Si)
    (gathered : Gathered) → HasRead streams source sink groups [] old → old.closing ≡ None
    → old.after ≡ None → new.closing ≡ closing_of gathered → new.after ≡ after_of gathered
    → ReadsGroup streams.stream (reader_of old) (reader_of new) gathered asked
    → IfSome (closing_of gathered) (λ cause. EndsFor cause new.waiting new.ended new.taken)
    → (new.ended ≡ true → IsSpent (streams.stream new.source))
    → streams.source_faults new.source
    ≡ source_faults_at (closing_of gathered) (streams.source_faults old.source)
    → new.sink ≡ old.sink → new.ending ≡ old.ending
    → HasRead streams source sink groups asked new
HasRead-group {So = So} {Si = Si} streams source sink groups asked old new gathered p reads told now
    next q ends spent counted same_sink same_ending =
    let left = LeavesRest-last gathered q.between (reader_of new) q.last in
    let bytes : List ℕ = p.bytes ++ q.reads.bytes in
    let handled : List Request = p.handled ++ q.requests in
    let taken : new.taken ≡ length bytes =
    omega (arith, left.taken, q.reads.counted, p.counted, length-append p.bytes q.reads.bytes) in
    let fronts : BeginsWithRequests p.bytes p.handled old.waiting =
    subst (λ (after : Option ℕ). BeginsWithRequests p.bytes p.handled (rest_of after old.waiting))
    told p.fronts in record {
      bytes = bytes;
      given = p.given;
      handled = handled;
      passed = Passes-trans (streams.stream source) (streams.stream old.source)
          (streams.stream new.source) p.bytes q.reads.bytes p.passed
          (subst (λ (s : So). Passes (streams.stream old.source) (streams.stream s) q.reads.bytes)
          (sym left.source) q.reads.passed);
      took = subst (λ (s : Si). Takes (streams.held sink) (streams.held s) p.given)
          (sym same_sink) p.took;
      counted = taken;
      spent = spent;
      fronts = subst (λ (rest : List ℕ). BeginsWithRequests bytes handled rest)
          (left.rest ∙ ap (λ (after : Option ℕ). rest_of after new.waiting) (sym next))
          (BeginsWithRequests-append p.bytes q.reads.bytes p.handled q.requests old.waiting
          q.between.waiting fronts q.reads.fronts);
      last = subst (λ (closing : Option Cause). IsLastGroup closing new.after bytes new.waiting
          new.ended (groups_of handled) (map requests_of groups) asked) (sym now)
          (subst (λ (after : Option ℕ). IsLastGroup (closing_of gathered) after bytes new.waiting
          new.ended (groups_of handled) (map requests_of groups) asked) (sym next)
          (IsLastGroup-made gathered bytes new.waiting new.ended new.taken (groups_of handled)
          (map requests_of groups) asked
          (groups_of-append p.handled q.requests asked (map requests_of groups) gathered
          (all_ended old.closing old.after p.bytes old.waiting old.ended (groups_of p.handled)
          (map requests_of groups) reads told p.last) q.grouped) (sym taken) ends left.fits));
      framed = p.framed;
      out = p.out;
      source_counted = counted ∙ ap (source_faults_at (closing_of gathered)) (p.source_counted
          ∙ ap (λ (closing : Option Cause). source_faults_at closing (streams.source_faults source))
          reads)
          ∙ ap (λ (closing : Option Cause). source_faults_at closing (streams.source_faults source))
          (sym now);
      sink_counted = ap streams.sink_faults same_sink ∙ p.sink_counted;
      goes_on = same_ending ∙ p.goes_on;
    }

-- ---- an After

-- where no After comes next, what is handled is all that was used up
pub all_used : {So Si : Type 0} (streams : Streams So Si) (source : So) (sink : Si)
    (groups : List (List Pair)) (asked : List Request) (now : SessionState So Si)
    (p : HasRead streams source sink groups asked now) → now.after ≡ None
    → BeginsWithRequests p.bytes p.handled now.waiting
all_used streams source sink groups asked now p none =
    subst (λ (after : Option ℕ). BeginsWithRequests p.bytes p.handled (rest_of after now.waiting))
    none p.fronts

-- the stamp of an After that comes next has eight bytes
after-fits : (closing : Option Cause) (after : Option ℕ) (stamp : ℕ) (bytes rest : List ℕ)
    (ended : Bool) (now : Groups) (groups : List (List Request)) (asked : List Request)
    → after ≡ Some stamp → IsLastGroup closing after bytes rest ended now groups asked
    → stamp < 2 ^ 64
after-fits None None stamp bytes rest ended now groups asked is last = absurd cc
after-fits None (Some other) stamp bytes rest ended now groups asked is last =
    let same : other ≡ stamp = cc in
    subst (λ (s : ℕ). s < 2 ^ 64) same last.0
after-fits (Some cause) after stamp bytes rest ended now groups asked is last =
    let none = last.3 in
    absurd cc

-- the After that comes next is a group by itself
IsLastGroup-after : (closing : Option Cause) (after : Option ℕ) (stamp : ℕ) (bytes rest : List ℕ)
    (ended : Bool) (now next : Groups) (groups : List (List Request)) → after ≡ Some stamp
    → next ≡ add_alone now (After stamp) → IsLastGroup closing after bytes rest ended now groups []
    → IsLastGroup closing None bytes rest ended next groups (After stamp ∷ [])
IsLastGroup-after None None stamp bytes rest ended now next groups is next_is last = absurd cc
IsLastGroup-after None (Some other) stamp bytes rest ended now next groups is next_is last = (
  ap (λ (g : Groups). g.ended) next_is
      ∙ ap (λ (gs : List (List Request)). gs ++ (After stamp ∷ []) ∷ []) last.1,
  ap (λ (g : Groups). g.current) next_is,
)
IsLastGroup-after (Some cause) after stamp bytes rest ended now next groups is next_is last =
    let none = last.3 in
    absurd cc

-- the After that comes next is the group that has no reply yet
pub HasRead-after : {So Si : Type 0} (streams : Streams So Si) (source : So) (sink : Si)
    (groups : List (List Pair)) (stamp : ℕ) (now : SessionState So Si) → now.after ≡ Some stamp
    → HasRead streams source sink groups [] now
    → HasRead streams source sink groups (After stamp ∷ []) (after_taken now)
HasRead-after streams source sink groups stamp now is p =
    let fits : stamp < 2 ^ 64 = after-fits now.closing now.after stamp p.bytes now.waiting now.ended
    (groups_of p.handled) (map requests_of groups) [] is p.last in
    let rest : List ℕ = rest_of now.after now.waiting in
    let begins : BeginsWithRequest rest (After stamp) now.waiting = record {
      has = record { body = fits; size = omega arith };
      parts = ap (λ (after : Option ℕ). rest_of after now.waiting) is;
    } in record {
      bytes = p.bytes;
      given = p.given;
      handled = p.handled ++ After stamp ∷ [];
      passed = p.passed;
      took = p.took;
      counted = p.counted;
      spent = p.spent;
      fronts = subst (λ (bytes : List ℕ). BeginsWithRequests bytes (p.handled ++ After stamp ∷ [])
          now.waiting) (append-nil p.bytes)
          (BeginsWithRequests-append p.bytes [] p.handled (After stamp ∷ []) rest now.waiting
          p.fronts (BeginsWithRequests-one rest (After stamp) now.waiting begins));
      last = IsLastGroup-after now.closing now.after stamp p.bytes now.waiting now.ended
          (groups_of p.handled) (groups_of (p.handled ++ After stamp ∷ []))
          (map requests_of groups) is
          (fold-append next_groups no_groups p.handled (After stamp ∷ [])) p.last;
      framed = p.framed;
      out = p.out;
      source_counted = p.source_counted;
      sink_counted = p.sink_counted;
      goes_on = p.goes_on;
    }

-- what take_after answers is asked next
pub after-asks : {So Si : Type 0} (streams : Streams So Si) (viewed old : SessionState So Si)
    → viewed ≡ old → IfSome viewed.after (λ stamp. (source : So) (sink : Si)
    (groups : List (List Pair)) → HasRead streams source sink groups [] old
    → HasRead streams source sink groups (After stamp ∷ []) (after_taken viewed))
after-asks {So = So} {Si = Si} streams viewed old is = by viewed.after refl
  where
    by : (after : Option ℕ) → viewed.after ≡ after → IfSome after (λ stamp. (source : So)
        (sink : Si) (groups : List (List Pair)) → HasRead streams source sink groups [] old
        → HasRead streams source sink groups (After stamp ∷ []) (after_taken viewed))
    by None e = tt
    by (Some stamp) e = λ source sink groups read.
        HasRead-after streams source sink groups stamp viewed e
        (subst (λ (s : SessionState So Si). HasRead streams source sink groups [] s) (sym is) read)

-- where the session goes on, its groups have ended as its transcript says
pub all-ended : (after : Option ℕ) (waiting : List ℕ) (now : Groups)
    (groups : List (List Request)) (asked : List Request) → AllEnded after now groups asked
    → HaveEnded now (rest_of after waiting) × (all_groups now ≡ with_group groups asked)
all-ended None waiting now groups asked at = (
  inl at.1,
  ap (λ (rs : List Request). with_group now.ended rs) at.1 ∙ at.0,
)
all-ended (Some stamp) waiting now groups asked at = (
  inr (record {
    stamp = stamp;
    behind = waiting;
    begins = record { has = record { body = at.0; size = omega arith }; parts = refl };
  }),
  at.1,
)

-- with the last group among them, none has no reply yet
pub all-answered : (after : Option ℕ) (now : Groups) (groups answered : List (List Request))
    (asked : List Request) → answered ≡ with_group groups asked → AllEnded after now groups asked
    → AllEnded after now answered []
all-answered None now groups answered asked same at = (at.0 ∙ sym same, at.1)
all-answered (Some stamp) now groups answered asked same at = (at.0, at.1 ∙ sym same)

-- ---- pairs

-- the requests of the pairs
pub requests_of-pairs_of : (asked : List Request) (replies : List Reply)
    → length replies ≡ length asked → requests_of (pairs_of asked replies) ≡ asked
requests_of-pairs_of [] replies each = refl
requests_of-pairs_of (request ∷ asked) [] each = absurd (omega (arith, each))
requests_of-pairs_of (request ∷ asked) (reply ∷ replies) each =
    ap (λ (rs : List Request). request ∷ rs) (requests_of-pairs_of asked replies
    (omega (arith, each)))

-- the replies of the pairs
pub replies_of-pairs_of : (asked : List Request) (replies : List Reply)
    → length replies ≡ length asked → map (λ (pair : Pair). pair.reply) (pairs_of asked replies)
    ≡ replies
replies_of-pairs_of [] [] each = refl
replies_of-pairs_of [] (reply ∷ replies) each = absurd (omega (arith, each))
replies_of-pairs_of (request ∷ asked) [] each = absurd (omega (arith, each))
replies_of-pairs_of (request ∷ asked) (reply ∷ replies) each =
    ap (λ (rs : List Reply). reply ∷ rs) (replies_of-pairs_of asked replies
    (omega (arith, each)))

-- the requests of groups and then of one more
pub requests-with_pairs : (groups : List (List Pair)) (pairs : List Pair)
    → map requests_of (with_pairs groups pairs)
    ≡ with_group (map requests_of groups) (requests_of pairs)
requests-with_pairs groups [] = refl
requests-with_pairs groups (pair ∷ pairs) = map-append requests_of groups ((pair ∷ pairs) ∷ [])

-- the replies to groups and then to one more
pub replies-with_pairs : (groups : List (List Pair)) (pairs : List Pair)
    → replies_in (with_pairs groups pairs)
    ≡ replies_in groups ++ map (λ (pair : Pair). pair.reply) pairs
replies-with_pairs groups [] = sym (append-nil (replies_in groups))
replies-with_pairs groups (pair ∷ pairs) =
    let answered : Pair → Reply = λ p. p.reply in
    ap (λ (ps : List Pair). map answered ps) (flat_map-append (λ (group : List Pair). group) groups
    ((pair ∷ pairs) ∷ [])
    ∙ ap (λ (ps : List Pair). pairs_in groups ++ ps) (append-nil (pair ∷ pairs)))
    ∙ map-append answered (pairs_in groups) (pair ∷ pairs)

-- the last of the groups
pub last_group-with_group : (groups : List (List Request)) (asked : List Request) → 1 ≤ length asked
    → last_group (with_group groups asked) ≡ asked
last_group-with_group groups [] some = absurd (omega (arith, some))
last_group-with_group groups (request ∷ asked) some =
    fold-append (λ (earlier : List Request) (group : List Request). group) [] groups
    ((request ∷ asked) ∷ [])

-- ---- endings

-- what is replied where reading ended
pub closing_told : (cause : Cause) (taken rest : List ℕ) (ended : Bool) (closing : List Reply)
    → EndsReading cause taken rest ended closing → closing ≡ closing_for cause
closing_told End taken rest ended closing ends = ends.2
closing_told (Malformed offset) taken rest ended closing ends = ends.told
closing_told Limit taken rest ended closing ends = ends.4
closing_told SourceFault taken rest ended closing ends = ends.3
closing_told SinkFault taken rest ended closing ends = absurd ends

-- the end of reading ends a session whose replies went out
pub Closes-read : (cause : Cause) (taken rest : List ℕ) (ended : Bool) (groups : Groups)
    (closing left : List Reply) → EndsReading cause taken rest ended closing
    → Closes cause taken rest ended groups closing left
Closes-read End taken rest ended groups closing left ends = ends
Closes-read (Malformed offset) taken rest ended groups closing left ends = ends
Closes-read Limit taken rest ended groups closing left ends = ends
Closes-read SourceFault taken rest ended groups closing left ends = ends
Closes-read SinkFault taken rest ended groups closing left ends = absurd ends

pub Leaves-none : (cause : Cause) (taken rest : List ℕ) (ended : Bool) (closing left : List Reply)
    → EndsReading cause taken rest ended closing → left ≡ [] → Leaves cause left
Leaves-none End taken rest ended closing left ends none = none
Leaves-none (Malformed offset) taken rest ended closing left ends none = none
Leaves-none Limit taken rest ended closing left ends none = none
Leaves-none SourceFault taken rest ended closing left ends none = none
Leaves-none SinkFault taken rest ended closing left ends none = absurd ends

pub source_counted-read : (cause : Cause) (taken rest : List ℕ) (ended : Bool)
    (closing : List Reply) (before now : ℕ) → EndsReading cause taken rest ended closing
    → now ≡ source_faults_for cause before → HasSourceCount cause before now
source_counted-read End taken rest ended closing before now ends is = is
source_counted-read (Malformed offset) taken rest ended closing before now ends is = is
source_counted-read Limit taken rest ended closing before now ends is = is
source_counted-read SourceFault taken rest ended closing before now ends is = is
source_counted-read SinkFault taken rest ended closing before now ends is = absurd ends

pub sink_counted-read : (cause : Cause) (taken rest : List ℕ) (ended : Bool) (closing : List Reply)
    (before now : ℕ) → EndsReading cause taken rest ended closing → now ≡ before
    → now ≡ sink_faults_for cause before
sink_counted-read End taken rest ended closing before now ends is = is
sink_counted-read (Malformed offset) taken rest ended closing before now ends is = is
sink_counted-read Limit taken rest ended closing before now ends is = is
sink_counted-read SourceFault taken rest ended closing before now ends is = is
sink_counted-read SinkFault taken rest ended closing before now ends is = absurd ends

-- where the sink failed, a read failed before or not
pub source_counted-any : (cause : Cause) (before now : ℕ) → now ≡ source_faults_for cause before
    → HasSourceCount SinkFault before now
source_counted-any End before now is = inl is
source_counted-any (Malformed offset) before now is = inl is
source_counted-any Limit before now is = inl is
source_counted-any SourceFault before now is = inr is
source_counted-any SinkFault before now is = inl is

-- the session has this ending, with these replies left, or goes on
abbrev pub EndsAs : Option Cause → List Reply → ℕ → Option Ending → Type 0
EndsAs None left taken ending = ending ≡ None
EndsAs (Some cause) left taken ending = (now : Ending) × (ending ≡ Some now) × (now.cause ≡ cause)
    × (now.taken ≡ taken) × (now.undelivered.items ≡ left)
