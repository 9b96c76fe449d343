-- Laws of frames: what the definitions determine, whatever code reads and writes them.
use Rattle.std.specs.Prelude.{◌≡◌, ℕ, Bool, List, [], ◌∷◌, ◌++◌}
use Rattle.std.specs.List.{AllByRecursion, flat_map}
use Rattle.kv_base.specs.declared.request.Request.{Request}
use Rattle.kv_base.specs.declared.reply.Reply.{Reply}
use Rattle.kv_base.specs.declared.cause.Cause.{Cause}
use Rattle.kv_model.specs.Frames.{HasRequestFrame, request_frame, BeginsWithRequest}
use Rattle.kv_model.specs.Frames.{BeginsWithNoRequest}
use Rattle.kv_model.specs.Frames.{HasReplyFrame, reply_frame, BeginsWithReply, BeginsWithNoReply}
use Rattle.kv_model.specs.Frames.{BeginsWithRequests, SplitsInto, IsPartial, IsMalformed}
use Rattle.kv_model.specs.Pairs.{Pair}
use Rattle.kv_model.specs.Transcript.{GoesOut, HasTranscript}
use Rattle.kv_frames.specs.Pieces.{ReadInPieces}

-- requests whose frames begin the same bytes are one, and leave one rest
abbrev pub OneRequest : Type 0
OneRequest =
    (bytes : List ℕ) (request other : Request) (rest behind : List ℕ)
    → BeginsWithRequest bytes request rest → BeginsWithRequest bytes other behind
    → (request ≡ other) × (rest ≡ behind)

-- replies whose frames begin the same bytes are one, and leave one rest
abbrev pub OneReply : Type 0
OneReply =
    (bytes : List ℕ) (reply other : Reply) (rest behind : List ℕ)
    → BeginsWithReply bytes reply rest → BeginsWithReply bytes other behind
    → (reply ≡ other) × (rest ≡ behind)

-- bytes split in one way into requests and a rest
abbrev pub OneSplit : Type 0
OneSplit =
    (bytes : List ℕ) (requests others : List Request) (rest behind : List ℕ)
    → SplitsInto bytes requests rest → SplitsInto bytes others behind
    → (requests ≡ others) × (rest ≡ behind)

-- what a request or a reply is written as is read as it, whatever follows
pub record WrittenAgain : Type 0 where
  pub request : (request : Request) (rest : List ℕ)
      → HasRequestFrame request → BeginsWithRequest (request_frame request ++ rest) request rest
  pub reply : (reply : Reply) (rest : List ℕ)
      → HasReplyFrame reply → BeginsWithReply (reply_frame reply ++ rest) reply rest

-- no frame begins a part of a frame
pub record PartialBeginsNone : Type 0 where
  pub request : (bytes : List ℕ) → IsPartial bytes → BeginsWithNoRequest bytes
  pub reply : (bytes : List ℕ) → IsPartial bytes → BeginsWithNoReply bytes
  pub good : (bytes : List ℕ) → IsPartial bytes → IsMalformed bytes → ⊥

-- malformed bytes stay so, whatever follows
abbrev pub MalformedStays : Type 0
MalformedStays = (bytes more : List ℕ) → IsMalformed bytes → IsMalformed (bytes ++ more)

-- a request at the front of the rest is the next one
abbrev pub NextRequest : Type 0
NextRequest =
    (bytes : List ℕ) (requests : List Request) (rest : List ℕ) (next : Request) (behind : List ℕ)
    → BeginsWithRequests bytes requests rest → BeginsWithRequest rest next behind
    → BeginsWithRequests bytes (requests ++ next ∷ []) behind

-- more bytes belong to the rest
abbrev pub NextPiece : Type 0
NextPiece =
    (bytes : List ℕ) (requests : List Request) (rest piece : List ℕ)
    → BeginsWithRequests bytes requests rest
    → BeginsWithRequests (bytes ++ piece) requests (rest ++ piece)

-- a stream is the same requests and the same rest, in whatever pieces it came
abbrev pub OneReading : Type 0
OneReading =
    (pieces others : List (List ℕ)) (requests alike : List Request) (rest behind : List ℕ)
    → flat_map (λ piece. piece) pieces ≡ flat_map (λ piece. piece) others
    → ReadInPieces pieces [] requests rest → ReadInPieces others [] alike behind
    → (requests ≡ alike) × (rest ≡ behind)

-- what went out and what is left are those of one list of replies
abbrev pub OneOutcome : Type 0
OneOutcome =
    (replies others : List Reply) (given : List ℕ) (left : List Reply)
    → AllByRecursion HasReplyFrame replies → AllByRecursion HasReplyFrame others
    → GoesOut replies given left → GoesOut others given left → replies ≡ others

-- what a session took and gave, what is left and why it ended are those of one list of groups, each
-- request with its reply
abbrev pub OneTranscript : Type 0
OneTranscript =
    (taken : List ℕ) (ended : Bool) (given : List ℕ) (left : List Reply) (cause : Cause)
    (groups others : List (List Pair))
    → HasTranscript taken ended given left cause groups
    → HasTranscript taken ended given left cause others → groups ≡ others
