-- Replies on their way to a session's sink.
use Rattle.std.specs.Prelude.{◌≡◌, ℕ, ◌+◌, ◌<◌, ◌≤◌, List, [], ◌∷◌, ◌++◌, length, Bool, true, false}
use Rattle.std.specs.Prelude.{Option, None, Some, if◌then◌else◌}
use Rattle.std.specs.List.{flat_map}
use Rattle.kv_base.specs.declared.cause.Cause.{Cause}
use Rattle.kv_base.specs.declared.cause.Cause.TheVariants.{SinkFault}
use Rattle.kv_base.specs.declared.reply.Reply.{Reply}
use Rattle.kv_model.specs.Frames.{reply_frame}
use Rattle.kv_model.specs.Transcript.{GoesOut}
use Rattle.kv_session.specs.Reading.{closing_for}

-- frames one behind the other, and where each ends
pub record Framed : Type 0 where
  pub bytes : List ℕ
  pub ends : List ℕ

-- where the frames of the replies end, of which the first begins here
abbrev pub ends_from : ℕ → List Reply → List ℕ
ends_from from [] = []
ends_from from (reply ∷ replies) = (from + length (reply_frame reply))
    ∷ ends_from (from + length (reply_frame reply)) replies

-- the frames are those of these replies
pub record HoldsFrames (framed : Framed) (replies : List Reply) : Type 0 where
  pub bytes : framed.bytes ≡ flat_map reply_frame replies
  pub ends : framed.ends ≡ ends_from 0 replies

-- the reply's frame stands behind the others; or there are others, and it isn't added
abbrev pub AddsFrame : Bool → Framed → Framed → Reply → Type 0
AddsFrame true old new reply = (new.bytes ≡ old.bytes ++ reply_frame reply)
    × (new.ends ≡ old.ends ++ (length old.bytes + length (reply_frame reply)) ∷ [])
AddsFrame false old new reply = (new ≡ old) × (1 ≤ length old.bytes)

-- the frames are those of the first replies, and of one at least where there is one
pub record HoldsFirst (framed : Framed) (replies : List Reply) : Type 0 where
  pub first : List Reply
  pub others : List Reply
  pub holds : HoldsFrames framed first
  pub parts : replies ≡ first ++ others
  pub some : 1 ≤ length replies → 1 ≤ length first

-- the first replies went out whole, and these are left
pub record HaveGone (replies : List Reply) (given : List ℕ) (left : List Reply) : Type 0 where
  pub out : List Reply
  pub parts : replies ≡ out ++ left
  pub gave : given ≡ flat_map reply_frame out

-- one reply at least went out, and each as a whole; or the sink failed within one
abbrev pub Sends : Bool → List Reply → List ℕ → List Reply → Type 0
Sends true replies given left = HaveGone replies given left × (length left < length replies)
Sends false replies given left = GoesOut replies given left × (1 ≤ length left)

-- what is replied behind the last group, where reading has ended
abbrev pub replies_behind : Option Cause → List Reply
replies_behind None = []
replies_behind (Some cause) = closing_for cause

-- why the session ends behind replies that went out whole, or didn't
abbrev pub cause_behind : Bool → Option Cause → Option Cause
cause_behind whole closing = if whole then closing else Some SinkFault
