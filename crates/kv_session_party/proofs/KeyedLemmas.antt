-- The requests of a group are about keys.
use Rattle.std.proofs.Common.{◌⊎◌, inl, inr, List, [], ◌∷◌, IsSome}
use Rattle.std.specs.List.{AllByRecursion}
use Rattle.kv_base.specs.declared.request.Request.{Request}
use Rattle.kv_model.specs.Pairs.{key_of}
use Rattle.kv_ring.specs.declared.task.Task.{Task}
use Rattle.kv_session.specs.Tasks.{AreTaken, GoesOn, IsRefused}

taken-keyed : (request : Request) (task : Task) → GoesOn request task ⊎ IsRefused request task
    → IsSome (key_of request)
taken-keyed request task (inl on) = on.good.keyed
taken-keyed request task (inr refused) = refused.keyed

-- each request that has a task is about a key
pub asked-keyed : (asked : List Request) (tasks : List Task) → AreTaken asked tasks
    → AllByRecursion (λ request. IsSome (key_of request)) asked
asked-keyed [] [] taken = tt
asked-keyed [] (task ∷ tasks) taken = absurd taken
asked-keyed (request ∷ asked) [] taken = absurd taken
asked-keyed (request ∷ asked) (task ∷ tasks) taken =
    (taken-keyed request task taken.0, asked-keyed asked tasks taken.1)
