-- What a group's merging asks is a proposition.
use Rattle.std.proofs.Common.{ℕ, List, length}
use Rattle.std.specs.List.{AllByRecursion, AllByRecursion-prop}
use Rattle.std.proofs.Props.{props}
use Rattle.kv_base.specs.declared.reply.Reply.{Reply}
use Rattle.kv_base.specs.declared.reply.Reply.TheVariants.{Stored, Found, Missing, Removed, Absent}
use Rattle.kv_base.specs.declared.reply.Reply.TheVariants.{BadKey, TooLarge, Full, NoMemory}
use Rattle.kv_base.specs.declared.reply.Reply.TheVariants.{DiskFault, Unsure, Closed, StampsSpent}
use Rattle.kv_base.specs.declared.reply.Reply.TheVariants.{Malformed, Noted, Ahead}
use Rattle.kv_model.specs.Frames.{HasReplyFrame}
use Rattle.kv_session_party.specs.Merging.{AreAnswered, IsKnown}
use Rattle.kv_session_party.specs.Parts.{HasReply, part_of, tasks_here}
use Rattle.kv_session_party.specs.declared.part.Part.{Part}
use Rattle.kv_session_party.specs.declared.routes.Place.{Place}
use Rattle.kv_session_party.specs.declared.routes.Place.TheVariants.{Own, Worker}

known-prop : (n : ℕ) (place : Place) → IsProp (IsKnown n place)
known-prop n (Own reply) = hlevel props
known-prop n (Worker number) = hlevel props

pub answered-prop : (places : List Place) (parts : List Part) → IsProp (AreAnswered places parts)
answered-prop places parts =
    let known : IsProp (AllByRecursion (IsKnown (length parts)) places) =
    AllByRecursion-prop (IsKnown (length parts)) (known-prop (length parts)) places in
    let replied : (worker : ℕ) → IsProp (AllByRecursion HasReply (tasks_here (part_of parts worker))) =
    λ worker. AllByRecursion-prop HasReply (λ task. hlevel props)
    (tasks_here (part_of parts worker)) in
    hlevel (props, known, replied)

frame-prop : (reply : Reply) → IsProp (HasReplyFrame reply)
frame-prop (Stored stamp) = hlevel props
frame-prop (Found stamp value) = hlevel props
frame-prop (Missing stamp) = hlevel props
frame-prop (Removed stamp) = hlevel props
frame-prop (Absent stamp) = hlevel props
frame-prop BadKey = hlevel props
frame-prop TooLarge = hlevel props
frame-prop (Full class) = hlevel props
frame-prop NoMemory = hlevel props
frame-prop DiskFault = hlevel props
frame-prop (Unsure stamp) = hlevel props
frame-prop Closed = hlevel props
frame-prop (StampsSpent number) = hlevel props
frame-prop (Malformed offset) = hlevel props
frame-prop Noted = hlevel props
frame-prop (Ahead number) = hlevel props

pub frames-prop : (replies : List Reply) → IsProp (AllByRecursion HasReplyFrame replies)
frames-prop replies = AllByRecursion-prop HasReplyFrame frame-prop replies
