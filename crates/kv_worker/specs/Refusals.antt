-- Replies that refuse, and those where a write failed.
use Rattle.std.specs.Prelude.{List, map, Bool, true, false, Result, Ok, Err, Vec}
use Rattle.std.specs.declared.alloc.Global.{Global}
use Rattle.kv_base.specs.declared.reply.Reply.{Reply}
use Rattle.kv_base.specs.declared.reply.Reply.TheVariants.{Full, Closed as ClosedReply}
use Rattle.kv_base.specs.declared.reply.Reply.TheVariants.{NoMemory as NoMemoryReply}
use Rattle.kv_base.specs.declared.reply.Reply.TheVariants.{DiskFault as DiskFaultReply}
use Rattle.kv_base.specs.declared.request.Request.{Request}
use Rattle.kv_slab.specs.declared.fault.StepFault.{StepFault}
use Rattle.kv_slab.specs.declared.fault.StepFault.TheVariants.{DiskFault, NoMemory}
use Rattle.kv_worker.specs.declared.refusal.Refusal.{Refusal}
use Rattle.kv_worker.specs.declared.refusal.Refusal.TheVariants.{Closed, Fault}

-- the reply is Full
abbrev pub is_full_reply : Reply → Bool
is_full_reply (Full class) = true
is_full_reply reply = false

-- the reply that tells the store's refusal
abbrev pub reply_of_fault : StepFault → Reply
reply_of_fault DiskFault = DiskFaultReply
reply_of_fault NoMemory = NoMemoryReply

-- the reply that tells the refusal
abbrev pub reply_for : Refusal → Reply
reply_for Closed = ClosedReply
reply_for (Fault fault) = reply_of_fault fault

-- the replies to a batch with this outcome: those that were found, or the refusal of each request
abbrev pub replies_by : Result (Vec Reply Global) StepFault → List Request → List Reply
replies_by (Ok replies) requests = replies.items
replies_by (Err fault) requests = map (λ _. reply_of_fault fault) requests
