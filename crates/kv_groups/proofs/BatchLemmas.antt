-- Lemmas on the tasks of several sessions in one batch.
use Rattle.std.proofs.Common.{◌≡◌, ℕ, suc, ◌+◌, List, [], ◌∷◌, ◌++◌, map, length, refl, sym, ap, ◌∙◌}
use Rattle.std.proofs.Common.{arith, append_assoc, append-nil}
use Rattle.kv_ring.specs.declared.task.Task.{Task}
use Rattle.kv_groups.specs.Batched.{of_session, in_hand}

-- the tasks of one session more
pub in_hand-push : (from : ℕ) (groups : List (List Task)) (tasks : List Task)
    → in_hand from (groups ++ tasks ∷ [])
    ≡ in_hand from groups ++ of_session (from + length groups) tasks
in_hand-push from [] tasks =
    append-nil (of_session from tasks)
    ∙ ap (λ n. of_session n tasks) (let e : from ≡ from + 0 = omega arith in e)
in_hand-push from (group ∷ groups) tasks =
    ap (λ items. of_session from group ++ items) (in_hand-push (from + 1) groups tasks)
    ∙ sym (append_assoc (of_session from group) (in_hand (from + 1) groups)
    (of_session (from + 1 + length groups) tasks))
    ∙ ap (λ n. (of_session from group ++ in_hand (from + 1) groups) ++ of_session n tasks)
    (let e : from + 1 + length groups ≡ from + suc (length groups) = omega arith in e)

-- the tasks without the session
pub untag : (session : ℕ) (tasks : List Task) → map (λ (i : ℕ × Task). i.1) (of_session session tasks) ≡ tasks
untag session [] = refl
untag session (task ∷ tasks) = ap (λ ts. task ∷ ts) (untag session tasks)
