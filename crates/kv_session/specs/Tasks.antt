-- A group's tasks: requests that go to workers, and requests that the session answers itself.
use Rattle.std.specs.Prelude.{◌≡◌, ◌⊎◌, List, [], ◌∷◌, map, None, Some, MatchOption, IsSome, ⊤}
use Rattle.kv_base.specs.declared.reply.Reply.{Reply}
use Rattle.kv_base.specs.declared.reply.Reply.TheVariants.{NoMemory}
use Rattle.kv_base.specs.declared.request.Request.{Request}
use Rattle.kv_base.specs.declared.request.Request.TheVariants.{Flush}
use Rattle.kv_model.specs.Agreement.{refusal_of}
use Rattle.kv_model.specs.Batch.{IsTask}
use Rattle.kv_model.specs.Layout.{all_classes}
use Rattle.kv_model.specs.Pairs.{key_of}
use Rattle.kv_ring.specs.declared.task.Task.{Task}

-- the request has good sizes and goes to a worker
pub record GoesOn (request : Request) (task : Task) : Type 0 where
  pub good : IsTask all_classes request
  pub request_is : task.request ≡ request
  pub waits : task.reply ≡ None

-- the session answers the request, which is about a key, itself: by the refusal that its sizes
-- demand, or for want of memory for a copy; the task then has no bytes of it
pub record IsRefused (request : Request) (task : Task) : Type 0 where
  pub keyed : IsSome (key_of request)
  pub reply : Reply
  pub cause : MatchOption (refusal_of all_classes request) (reply ≡ NoMemory)
      (λ refusal. reply ≡ refusal)
  pub empty : task.request ≡ Flush
  pub answered : task.reply ≡ Some reply

-- the tasks are those of the requests, in order
abbrev pub AreTaken : List Request → List Task → Type 0
AreTaken [] [] = ⊤
AreTaken [] (task ∷ tasks) = ⊥
AreTaken (request ∷ requests) [] = ⊥
AreTaken (request ∷ requests) (task ∷ tasks) = (GoesOn request task ⊎ IsRefused request task)
    × AreTaken requests tasks

-- each task has its reply
abbrev pub HaveReplies : List Task → List Reply → Type 0
HaveReplies tasks replies = map (λ task. task.reply) tasks ≡ map (λ reply. Some reply) replies
