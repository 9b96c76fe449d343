-- The requests and replies of tasks.
use Rattle.std.specs.Prelude.{List, Option, map}
use Rattle.kv_base.specs.declared.reply.Reply.{Reply}
use Rattle.kv_base.specs.declared.request.Request.{Request}
use Rattle.kv_ring.specs.declared.task.Task.{Task}

-- what is asked, in the order of the tasks
abbrev pub requests_of : List Task → List Request
requests_of tasks = map (λ task. task.request) tasks

-- what is answered so far, in the order of the tasks
abbrev pub replies_of : List Task → List (Option Reply)
replies_of tasks = map (λ task. task.reply) tasks
