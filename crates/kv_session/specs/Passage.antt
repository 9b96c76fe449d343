-- What a session took and gave, from its first byte on.
use Rattle.std.specs.Prelude.{◌≡◌, ◌⊎◌, ◌<◌, ◌^◌, ℕ, List, [], ◌∷◌, ◌++◌, length, map, Option}
use Rattle.std.specs.Prelude.{None, Some, Bool, true, false}
use Rattle.std.specs.List.{AllByRecursion, flat_map}
use Rattle.kv_base.specs.Calls.{next_count}
use Rattle.kv_base.specs.Stream.{Stream, Passes, IsSpent, Takes}
use Rattle.kv_base.specs.declared.cause.Cause.{Cause}
use Rattle.kv_base.specs.declared.cause.Cause.TheVariants.{End, Malformed, Limit, SourceFault}
use Rattle.kv_base.specs.declared.cause.Cause.TheVariants.{SinkFault}
use Rattle.kv_base.specs.declared.reply.Reply.{Reply}
use Rattle.kv_base.specs.declared.request.Request.{Request}
use Rattle.kv_base.specs.declared.request.Request.TheVariants.{After}
use Rattle.kv_model.specs.Frames.{HasReplyFrame, request_frame, reply_frame, BeginsWithRequests}
use Rattle.kv_model.specs.Groups.{Groups, groups_of, with_group, all_groups}
use Rattle.kv_model.specs.Pairs.{Pair, requests_of, replies_in}
use Rattle.kv_model.specs.Transcript.{EndsReading, HasTranscript}
use Rattle.kv_session.specs.Session.{SessionState}
use Rattle.kv_session.specs.declared.ending.Ending.{Ending}

-- what sources and sinks of two types tell: the bytes that passed, and how often they failed
pub record Streams (So Si : Type 0) : Type 0 where
  pub stream : So → Option Stream
  pub source_faults : So → ℕ
  pub held : Si → Option (List ℕ)
  pub sink_faults : Si → ℕ

-- the count of the source's faults at the end of a session that ended for this cause
abbrev pub source_faults_for : Cause → ℕ → ℕ
source_faults_for End n = n
source_faults_for (Malformed offset) n = n
source_faults_for Limit n = n
source_faults_for SourceFault n = next_count n
source_faults_for SinkFault n = n

-- the same where reading has ended for this cause, or goes on
abbrev pub source_faults_at : Option Cause → ℕ → ℕ
source_faults_at None n = n
source_faults_at (Some cause) n = source_faults_for cause n

-- the same of the sink
abbrev pub sink_faults_for : Cause → ℕ → ℕ
sink_faults_for End n = n
sink_faults_for (Malformed offset) n = n
sink_faults_for Limit n = n
sink_faults_for SourceFault n = n
sink_faults_for SinkFault n = next_count n

-- the count of the source's faults at a session's end: a read failed exactly under that cause, but
-- where the sink failed behind it
abbrev pub HasSourceCount : Cause → ℕ → ℕ → Type 0
HasSourceCount End before now = now ≡ before
HasSourceCount (Malformed offset) before now = now ≡ before
HasSourceCount Limit before now = now ≡ before
HasSourceCount SourceFault before now = now ≡ next_count before
HasSourceCount SinkFault before now = (now ≡ before) ⊎ (now ≡ next_count before)

-- these groups of pairs and then this one, unless it has no pair
abbrev pub with_pairs : List (List Pair) → List Pair → List (List Pair)
with_pairs groups [] = groups
with_pairs groups (pair ∷ pairs) = groups ++ (pair ∷ pairs) ∷ []

-- the bytes that aren't handled: an After that was used up, if there is one, and those that wait
abbrev pub rest_of : Option ℕ → List ℕ → List ℕ
rest_of None waiting = waiting
rest_of (Some stamp) waiting = request_frame (After stamp) ++ waiting

-- these groups and then that of these requests have ended: all of them by what was handled, or the
-- last one because an After comes next
abbrev pub AllEnded : Option ℕ → Groups → List (List Request) → List Request → Type 0
AllEnded None now groups asked = (now.ended ≡ with_group groups asked) × (now.current ≡ [])
AllEnded (Some stamp) now groups asked = (stamp < 2 ^ 64)
    × (all_groups now ≡ with_group groups asked)

-- the requests are those of the group that was read last, and it ended while reading goes on; or
-- reading ended with it, for a cause that the bytes show
abbrev pub IsLastGroup : Option Cause → Option ℕ → List ℕ → List ℕ → Bool → Groups
    → List (List Request) → List Request → Type 0
IsLastGroup None after bytes rest ended now groups asked = AllEnded after now groups asked
IsLastGroup (Some cause) after bytes rest ended now groups asked = (now.ended ≡ groups)
    × (now.current ≡ asked) × ((closing : List Reply) × EndsReading cause bytes rest ended closing)
    × (after ≡ None)

-- a session that goes on: what it took since it began with this source and sink; the groups that it
-- answered, whose replies went out whole; and the requests of the group that it read last and that
-- has no reply yet
pub record HasRead {So Si : Type 0} (streams : Streams So Si) (source : So) (sink : Si)
    (groups : List (List Pair)) (asked : List Request) (now : SessionState So Si) : Type 0 where
  pub bytes : List ℕ
  pub given : List ℕ
  pub handled : List Request
  pub passed : Passes (streams.stream source) (streams.stream now.source) bytes
  pub took : Takes (streams.held sink) (streams.held now.sink) given
  pub counted : now.taken ≡ length bytes
  pub spent : now.ended ≡ true → IsSpent (streams.stream now.source)
  pub fronts : BeginsWithRequests bytes handled (rest_of now.after now.waiting)
  pub last : IsLastGroup now.closing now.after bytes now.waiting now.ended (groups_of handled)
      (map requests_of groups) asked
  pub framed : AllByRecursion HasReplyFrame (replies_in groups)
  pub out : given ≡ flat_map reply_frame (replies_in groups)
  pub source_counted : streams.source_faults now.source
      ≡ source_faults_at now.closing (streams.source_faults source)
  pub sink_counted : streams.sink_faults now.sink ≡ streams.sink_faults sink
  pub goes_on : now.ending ≡ None

-- a session from its first byte to its end: what it took, gave and left, its groups with their
-- replies, why it ended, and the faults that it counted
pub record HasSession {So Si : Type 0} (streams : Streams So Si) (source source' : So)
    (sink sink' : Si) (ending : Ending) (groups : List (List Pair)) : Type 0 where
  pub bytes : List ℕ
  pub ended : Bool
  pub given : List ℕ
  pub passed : Passes (streams.stream source) (streams.stream source') bytes
  pub took : Takes (streams.held sink) (streams.held sink') given
  pub counted : ending.taken ≡ length bytes
  pub spent : ended ≡ true → IsSpent (streams.stream source')
  pub transcript : HasTranscript bytes ended given ending.undelivered.items ending.cause groups
  pub source_counted : HasSourceCount ending.cause (streams.source_faults source)
      (streams.source_faults source')
  pub sink_counted : streams.sink_faults sink'
      ≡ sink_faults_for ending.cause (streams.sink_faults sink)

-- the session ended, for this cause where it is given, with these groups
pub record HasEnded {So Si : Type 0} (streams : Streams So Si) (source : So) (sink : Si)
    (groups : List (List Pair)) (cause : Cause) (now : SessionState So Si) : Type 0 where
  pub ending : Ending
  pub ending_is : now.ending ≡ Some ending
  pub cause_is : ending.cause ≡ cause
  pub session : HasSession streams source now.source sink now.sink ending groups

-- behind the replies to a group the session goes on where reading does, and has ended where that
-- has
abbrev pub Follows : {So Si : Type 0} → Streams So Si → So → Si → List (List Pair) → Option Cause
    → SessionState So Si → Type 0
Follows streams source sink groups None now = HasRead streams source sink groups [] now
Follows streams source sink groups (Some cause) now =
    HasEnded streams source sink groups cause now

-- the replies to the last group went out whole, or the sink failed, which ends the session
abbrev pub Delivers : {So Si : Type 0} → Streams So Si → So → Si → List (List Pair) → Option Cause
    → SessionState So Si → Bool → Type 0
Delivers streams source sink groups closing now true =
    Follows streams source sink groups closing now
Delivers streams source sink groups closing now false =
    HasEnded streams source sink groups SinkFault now
