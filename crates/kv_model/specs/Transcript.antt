-- What a session took and gave, and why it ended.
use Rattle.std.specs.Prelude.{◌≡◌, ℕ, ◌+◌, ◌^◌, ◌≤◌, ◌⊎◌, List, [], ◌∷◌, ◌++◌, length, map, Bool}
use Rattle.std.specs.Prelude.{true, false}
use Rattle.std.specs.List.{AllByRecursion, flat_map}
use Rattle.kv_base.specs.declared.request.Request.{Request}
use Rattle.kv_base.specs.declared.request.Request.TheVariants.{After}
use Rattle.kv_base.specs.declared.reply.Reply.{Reply}
use Rattle.kv_base.specs.declared.reply.Reply.TheVariants as reply
use Rattle.kv_base.specs.declared.cause.Cause.{Cause}
use Rattle.kv_base.specs.declared.cause.Cause.TheVariants.{End, Malformed, Limit, SourceFault}
use Rattle.kv_base.specs.declared.cause.Cause.TheVariants.{SinkFault}
use Rattle.kv_model.specs.Frames.{HasReplyFrame, reply_frame, BeginsWithRequests}
use Rattle.kv_model.specs.Frames.{BeginsWithRequest, BeginsWithNoRequest, IsBad}
use Rattle.kv_model.specs.Pairs.{Pair, requests_of, replies_in}
use Rattle.kv_model.specs.Groups.{Groups, groups_of, all_groups, last_group}

-- the part that went out of the next reply's frame, which is not all of it
abbrev pub IsPart : List ℕ → List Reply → Type 0
IsPart part [] = part ≡ []
IsPart part (next ∷ left) = (behind : List ℕ) × (1 ≤ length behind)
    × (reply_frame next ≡ part ++ behind)

-- the frames of the first replies went out, and a part of the next; the others are left
abbrev pub GoesOut : List Reply → List ℕ → List Reply → Type 0
GoesOut replies given left = (out : List Reply) × (part : List ℕ) × (replies ≡ out ++ left)
    × (given ≡ flat_map reply_frame out ++ part) × IsPart part left

-- the most bytes that a session takes
abbrev pub most_taken : ℕ
most_taken = 2 ^ 40

-- the rest is bad at the offset, and one reply says so
pub record ClosesMalformed (taken rest : List ℕ) (ended : Bool) (offset : ℕ)
    (closing : List Reply) : Type 0 where
  pub bad : IsBad rest ended
  pub at : offset + length rest ≡ length taken
  pub told : closing ≡ reply.Malformed offset ∷ []

-- why reading ended with this rest of what was taken, and what is replied behind the last group
abbrev pub EndsReading : Cause → List ℕ → List ℕ → Bool → List Reply → Type 0
EndsReading End taken rest ended closing = (ended ≡ true) × (rest ≡ []) × (closing ≡ [])
EndsReading (Malformed offset) taken rest ended closing =
    ClosesMalformed taken rest ended offset closing
EndsReading Limit taken rest ended closing = BeginsWithNoRequest rest × (ended ≡ false)
    × (length taken ≡ most_taken) × (IsBad rest false → ⊥) × (closing ≡ [])
EndsReading SourceFault taken rest ended closing = BeginsWithNoRequest rest × (ended ≡ false)
    × (IsBad rest false → ⊥) × (closing ≡ [])
EndsReading SinkFault taken rest ended closing = ⊥

-- an After comes next
pub record BeginsWithAfter (rest : List ℕ) : Type 0 where
  pub stamp : ℕ
  pub behind : List ℕ
  pub begins : BeginsWithRequest rest (After stamp) behind

-- each group has ended: by its last request, by a Flush, or because an After comes next
abbrev pub HaveEnded : Groups → List ℕ → Type 0
HaveEnded groups rest = (groups.current ≡ []) ⊎ BeginsWithAfter rest

-- while reading went on, replies of the last group are left, and each group that was handled had
-- ended
pub record BreaksOff (rest : List ℕ) (groups : Groups) (closing left : List Reply) : Type 0 where
  pub whole : HaveEnded groups rest
  pub nothing : closing ≡ []
  pub most : length left ≤ length (last_group (all_groups groups))

-- where reading had ended, replies of the group that this ended are left, or what is replied behind
-- it
pub record EndsOff (taken rest : List ℕ) (ended : Bool) (groups : Groups)
    (closing left : List Reply) : Type 0 where
  pub why : Cause
  pub ends : EndsReading why taken rest ended closing
  pub most : length left ≤ length groups.current + length closing

-- why the session ended with these groups and this rest of what it took, what it replied behind the
-- last group, and which replies are left
abbrev pub Closes : Cause → List ℕ → List ℕ → Bool → Groups → List Reply → List Reply → Type 0
Closes End taken rest ended groups closing left = EndsReading End taken rest ended closing
Closes (Malformed offset) taken rest ended groups closing left =
    EndsReading (Malformed offset) taken rest ended closing
Closes Limit taken rest ended groups closing left = EndsReading Limit taken rest ended closing
Closes SourceFault taken rest ended groups closing left =
    EndsReading SourceFault taken rest ended closing
Closes SinkFault taken rest ended groups closing left = BreaksOff rest groups closing left
    ⊎ EndsOff taken rest ended groups closing left

-- replies are left over exactly after a fault of the sink
abbrev pub Leaves : Cause → List Reply → Type 0
Leaves End left = left ≡ []
Leaves (Malformed offset) left = left ≡ []
Leaves Limit left = left ≡ []
Leaves SourceFault left = left ≡ []
Leaves SinkFault left = 1 ≤ length left

-- a session that goes on: the requests that were handled begin what it took and make whole groups,
-- and the replies to these went out whole
pub record HasTranscriptSoFar (taken given : List ℕ) (groups : List (List Pair)) : Type 0 where
  pub handled : List Request
  pub rest : List ℕ
  pub fronts : BeginsWithRequests taken handled rest
  pub whole : HaveEnded (groups_of handled) rest
  pub grouped : map requests_of groups ≡ all_groups (groups_of handled)
  pub framed : AllByRecursion HasReplyFrame (replies_in groups)
  pub out : given ≡ flat_map reply_frame (replies_in groups)

-- a session that ended: the requests that were handled begin what it took and make these groups,
-- with a reply to each in their order; what went out of the replies, and which are left
pub record HasTranscript (taken : List ℕ) (ended : Bool) (given : List ℕ) (left : List Reply)
    (cause : Cause) (groups : List (List Pair)) : Type 0 where
  pub handled : List Request
  pub rest : List ℕ
  pub closing : List Reply
  pub fronts : BeginsWithRequests taken handled rest
  pub grouped : map requests_of groups ≡ all_groups (groups_of handled)
  pub framed : AllByRecursion HasReplyFrame (replies_in groups ++ closing)
  pub closes : Closes cause taken rest ended (groups_of handled) closing left
  pub out : GoesOut (replies_in groups ++ closing) given left
  pub leaves : Leaves cause left
