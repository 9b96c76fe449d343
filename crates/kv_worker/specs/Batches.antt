-- The tasks of a batch, before and after they are answered.
use Rattle.std.specs.Prelude.{◌≡◌, ℕ, List, map, None, Some, IfSome}
use Rattle.kv_base.specs.Partition.{owner_of}
use Rattle.kv_base.specs.declared.reply.Reply.{Reply}
use Rattle.kv_base.specs.declared.request.Request.{Request}
use Rattle.kv_model.specs.Batch.{IsTask}
use Rattle.kv_model.specs.Layout.{all_classes}
use Rattle.kv_model.specs.Pairs.{key_of}
use Rattle.kv_ring.specs.declared.task.Task.{Task}

-- what is asked, in the order of the batch
abbrev pub requests_in : List (ℕ × Task) → List Request
requests_in batch = map (λ item. item.1.request) batch

-- a batch of this worker of so many may have the task: its request is about a key of the worker's, of
-- good sizes, and has no reply yet
pub record IsOpenTask (worker workers : ℕ) (item : ℕ × Task) : Type 0 where
  pub task : IsTask all_classes item.1.request
  pub owned : IfSome (key_of item.1.request) (λ key. owner_of key workers ≡ worker)
  pub waits : item.1.reply ≡ None

-- the tasks are the same ones, and have these replies
pub record AreAnswered (old new : List (ℕ × Task)) (replies : List Reply) : Type 0 where
  pub sessions : map (λ item. item.0) new ≡ map (λ item. item.0) old
  pub requests : requests_in new ≡ requests_in old
  pub replies_are : map (λ item. item.1.reply) new ≡ map (λ reply. Some reply) replies
