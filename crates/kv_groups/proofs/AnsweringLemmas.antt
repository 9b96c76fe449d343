-- How the answer to one session goes.
use Rattle.std.proofs.Common.{◌≡◌, ◌⊎◌, inl, inr, ℕ, List, [], ◌∷◌, ◌++◌, length, Option, None, Some}
use Rattle.std.proofs.Common.{refl, sym, ap, ◌∙◌, append-nil, is_some}
use Rattle.std.specs.Prelude.{option_to_list}
use Rattle.std.proofs.lemmas.List.{nil_from_length}
use Rattle.kv_base.specs.Reserved.{Reserved}
use Rattle.kv_ring.specs.Ends.{sent_to}
use Rattle.kv_ring.specs.declared.ends.Ends.{Ends}
use Rattle.kv_ring.specs.declared.message.Answer.{Answer}
use Rattle.kv_ring.specs.declared.message.Answer.TheVariants.{Group}
use Rattle.kv_ring.specs.declared.message.Ask.{Ask}
use Rattle.kv_ring.specs.declared.task.Task.{Task}
use Rattle.kv_groups.specs.declared.connection.Connection.{Connection}
use Rattle.kv_groups.specs.Batched.{of_session}
use Rattle.kv_groups.specs.Delivering.{Delivers, answer_of}
use Rattle.kv_groups.specs.Traffic.{traffic_with, Sends}

module _ {F : Type 0} where
  -- a group in hand: its tasks come back, and the answer is sent or waits
  pub delivers-some : (session : ℕ) (ends new : Ends (Answer F) (Ask F) 8) (old now : Connection F)
      (list back : Reserved Task) (tasks : List Task) (left : Option (Answer F))
      → old.group ≡ Some list → old.waiting ≡ None → Sends session ends new (Some (Group back)) left
      → back.items ≡ tasks → back.spare ≡ list.spare → now.waiting ≡ left → now.gone ≡ old.gone
      → now.group ≡ None
      → Delivers (traffic_with ends session) (traffic_with new session) old now tasks
  delivers-some session ends new old now list back tasks left group waiting sends items spare
      left_is gone_is none =
      let answer : List Task → ℕ → List (Answer F) = λ ts n.
      Group (record { items = ts; spare = n }) ∷ [] in
      record {
        received = sends.received;
        known = sends.known;
        sent = ap (λ o. sent_to new session ++ option_to_list o) left_is ∙ sends.sent
            ∙ ap (λ ts. sent_to ends session ++ answer ts back.spare) items
            ∙ ap (λ n. sent_to ends session ++ answer tasks n) spare
            ∙ ap (λ given. given ++ answer tasks list.spare) (sym (append-nil (sent_to ends session)))
            ∙ ap (λ o. (sent_to ends session ++ option_to_list o) ++ answer tasks list.spare)
            (sym waiting)
            ∙ ap (λ o. (sent_to ends session ++ option_to_list old.waiting)
            ++ answer_of {F = F} o tasks) (sym group);
        full = λ free some. sends.full (ap is_some (sym left_is) ∙ some);
        gone = gone_is;
        group = none;
      }

  -- none in hand
  pub delivers-nothing : (session : ℕ) (ends : Ends (Answer F) (Ask F) 8) (old now : Connection F)
      (tasks : List Task) → old.group ≡ None → now.waiting ≡ old.waiting → now.gone ≡ old.gone
      → now.group ≡ None
      → Delivers (traffic_with ends session) (traffic_with ends session) old now tasks
  delivers-nothing session ends old now tasks group waiting gone_is none = record {
    received = refl;
    known = refl;
    sent = ap (λ o. sent_to ends session ++ option_to_list o) waiting
        ∙ sym (append-nil (sent_to ends session ++ option_to_list old.waiting))
        ∙ ap (λ o. (sent_to ends session ++ option_to_list old.waiting)
        ++ answer_of {F = F} o tasks) (sym group);
    full = λ free some. free (ap is_some (sym waiting) ∙ some);
    gone = gone_is;
    group = none;
  }

  -- where a group is in hand, no answer waits
  pub some-free : (old : Connection F) (list : Reserved Task) → old.group ≡ Some list
      → (old.group ≡ None) ⊎ (old.waiting ≡ None) → old.waiting ≡ None
  some-free old list group (inl none) =
      let e : None ≡ Some list = sym none ∙ group in absurd (cc)
  some-free old list group (inr free) = free

-- no task is left behind the others
pub front-alone : (items front : List (ℕ × Task)) (session : ℕ) (tasks : List Task)
    → items ≡ front ++ of_session session tasks → length tasks ≡ 0 → items ≡ front
front-alone items front session tasks is none =
    is ∙ ap (λ ts. front ++ of_session session ts) (nil_from_length tasks none)
    ∙ append-nil front
