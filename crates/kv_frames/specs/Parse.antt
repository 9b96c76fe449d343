-- What parsing answers.
use Rattle.std.specs.Prelude.{◌≡◌, ℕ, ◌≤◌, List, length, drop}
use Rattle.kv_base.specs.declared.request.Request.{Request}
use Rattle.kv_base.specs.declared.reply.Reply.{Reply}
use Rattle.kv_base.specs.declared.reply.Reply.TheVariants.{Found}
use Rattle.kv_frames.specs.declared.view.Parsed.{Parsed}
use Rattle.kv_frames.specs.declared.view.Parsed.TheVariants.{Whole, More, Malformed}
use Rattle.kv_frames.specs.declared.replies.ReplyParsed.{ReplyParsed}
use Rattle.kv_frames.specs.declared.replies.ReplyParsed.TheVariants as reply
use Rattle.kv_frames.specs.View.{request_of}
use Rattle.kv_model.specs.Frames.{BeginsWithRequest, request_frame, IsPartial, IsMalformed}
use Rattle.kv_model.specs.Frames.{BeginsWithReply, reply_frame, IsMalformedReply}

-- the frame of the request, which has this length, begins the bytes
pub record IsWhole (bytes : List ℕ) (request : Request) (frame_length : ℕ) : Type 0 where
  pub begins : BeginsWithRequest bytes request (drop frame_length bytes)
  pub length_is : frame_length ≡ length (request_frame request)
  pub least : 5 ≤ frame_length
  pub most : frame_length ≤ 66004
  pub within : frame_length ≤ length bytes

-- the answer is true of the bytes
abbrev pub IsParsed : Parsed → List ℕ → Type 0
IsParsed (Whole request frame_length) bytes = IsWhole bytes (request_of request) frame_length
IsParsed More bytes = IsPartial bytes
IsParsed Malformed bytes = IsMalformed bytes

-- the answer is this request, with the length of its frame
abbrev pub IsFound : Parsed → Request → Type 0
IsFound (Whole found frame_length) request =
    (request_of found ≡ request) × (frame_length ≡ length (request_frame request))
IsFound More request = ⊥
IsFound Malformed request = ⊥

-- the frame of the reply, which has this length, begins the bytes
pub record IsWholeReply (bytes : List ℕ) (reply : Reply) (frame_length : ℕ) : Type 0 where
  pub begins : BeginsWithReply bytes reply (drop frame_length bytes)
  pub length_is : frame_length ≡ length (reply_frame reply)
  pub least : 5 ≤ frame_length
  pub most : frame_length ≤ 66004
  pub within : frame_length ≤ length bytes

-- the answer about a reply is true of the bytes
abbrev pub IsReplyParsed : ReplyParsed → List ℕ → Type 0
IsReplyParsed (reply.Whole found frame_length) bytes = IsWholeReply bytes found frame_length
IsReplyParsed reply.More bytes = IsPartial bytes
IsReplyParsed reply.Malformed bytes = IsMalformedReply bytes

-- the answer is this reply, with the length of its frame
abbrev pub IsReplyFound : ReplyParsed → Reply → Type 0
IsReplyFound (reply.Whole found frame_length) wanted =
    (found ≡ wanted) × (frame_length ≡ length (reply_frame wanted))
IsReplyFound reply.More wanted = ⊥
IsReplyFound reply.Malformed wanted = ⊥

-- the frame of a Found begins the bytes
abbrev pub BeginsWithFound : List ℕ → Type 0
BeginsWithFound bytes =
    (stamp : ℕ) × (value : List ℕ) × (rest : List ℕ)
    × BeginsWithReply bytes (Found stamp value) rest
