-- The requests of a batch's tasks.
use Rattle.std.proofs.Common.{◌≡◌, ℕ, ◌<◌, ◌≤◌, List, length, get_or, Some, refl, subst, sym, ap}
use Rattle.std.proofs.Common.{◌∙◌, slice_get}
use Rattle.std.proofs.lemmas.List.{get_or-map, length-map}
use Rattle.std.proofs.lemmas.Option.{slice_get_read}
use Rattle.kv_base.specs.declared.request.Request.{Request}
use Rattle.kv_ring.specs.declared.task.Task.{Task}
use Rattle.kv_worker.specs.Batches.{requests_in}

-- there are as many requests as tasks
pub length-requests : (tasks : List (ℕ × Task)) → length (requests_in tasks) ≡ length tasks
length-requests tasks = length-map tasks (λ t. t.1.request)

pub within-requests : (tasks : List (ℕ × Task)) (i : ℕ) → i < length tasks
    → i < length (requests_in tasks)
within-requests tasks i within = subst (λ n. i < n) (sym (length-requests tasks)) within

pub item-request : (tasks : List (ℕ × Task)) (i : ℕ) (task : ℕ × Task) → i < length tasks
    → task ≡ get_or tasks i task → task.1.request ≡ get_or (requests_in tasks) i task.1.request
item-request tasks i task within is = ap (λ t. t.1.request) is
    ∙ sym (get_or-map (λ t. t.1.request) tasks i task task.1.request within)

pub ended-requests : (tasks : List (ℕ × Task)) (i : ℕ) → length tasks ≤ i
    → length (requests_in tasks) ≤ i
ended-requests tasks i end = subst (λ n. n ≤ i) (sym (length-requests tasks)) end
