-- A group of which no worker's tasks are away has all of its replies.
use Rattle.std.proofs.Common.{◌≡◌, ⊎_elim, ℕ, zero, suc, ◌<◌, ◌≤◌, List, [], ◌∷◌, length}
use Rattle.std.proofs.Common.{Bool}
use Rattle.std.proofs.Common.{true, false, cond, refl, sym, ap, ◌∙◌, subst, arith}
use Rattle.std.specs.Prelude.{filter, not, ◌&&◌}
use Rattle.std.specs.List.{AllByRecursion}
use Rattle.std.proofs.lemmas.Bool.{true≢false, false≢true}
use Rattle.std.proofs.lemmas.List.{get_or_past}
use Rattle.kv_base.specs.declared.reply.Reply.{Reply}
use Rattle.kv_model.proofs.PairwiseLemmas.{All-map}
use Rattle.kv_ring.specs.declared.task.Task.{Task}
use Rattle.kv_session_party.specs.Promise.{StandsIn}
use Rattle.kv_parties.specs.Messages.{IsReplied}
use Rattle.kv_session_party.specs.Merging.{AreAnswered, IsKnown}
use Rattle.kv_session_party.specs.Parts.{HasReply, all_here}
use Rattle.kv_session_party.specs.Routes.{ArePlaces, IsPlace}
use Rattle.kv_session_party.specs.Parts.{is_away, part_of, tasks_here, no_part}
use Rattle.kv_session_party.specs.Routes.{is_at, goes_to, part_for}
use Rattle.kv_session_party.specs.Parts.{replies_in}
use Rattle.kv_session_party.specs.declared.part.Part.{Part}
use Rattle.kv_session_party.specs.declared.part.Part.TheVariants.{Here, Away}
use Rattle.kv_session_party.specs.declared.routes.Place.{Place}
use Rattle.kv_session_party.specs.declared.routes.Place.TheVariants.{Own, Worker}
use Rattle.kv_session_party.proofs.ExchangeLemmas.{before_or_not}
use Rattle.kv_session_party.proofs.MergeLemmas.{replies-more}
use Rattle.kv_session_party.proofs.MergedLemmas.{place-goes}
use Rattle.kv_session_party.proofs.PartLemmas.{has-reply}
use Rattle.kv_session_party.proofs.RouteLemmas.{eq_not}
use Rattle.kv_session_party.proofs.TakenLemmas.{IsFramed}

not-both : (a b : Bool) → (not a && b) ≡ true → a ≡ false
not-both true b e = absurd (false≢true e)
not-both false b e = refl

and-rest : (a b : Bool) → (not a && b) ≡ true → b ≡ true
and-rest true b e = absurd (false≢true e)
and-rest false b e = e

-- each worker's tasks are here
pub here-each : (parts : List Part) → all_here parts ≡ true → (worker : ℕ)
    → is_away (part_of parts worker) ≡ false
here-each [] here worker = refl
here-each (part ∷ parts) here zero = not-both (is_away part) (all_here parts) here
here-each (part ∷ parts) here (suc worker) =
    here-each parts (and-rest (is_away part) (all_here parts) here) worker

known-all : (n : ℕ) (tasks : List Task) (places : List Place) → ArePlaces n tasks places
    → AllByRecursion (IsKnown n) places
known-all n [] [] are = tt
known-all n [] (p ∷ places) are = absurd are
known-all n (t ∷ tasks) [] are = absurd are
known-all n (t ∷ tasks) (p ∷ places) are = (one p are.0, known-all n tasks places are.1)
  where
    one : (place : Place) → IsPlace n t place → IsKnown n place
    one (Own reply) is = tt
    one (Worker number) is = is.1

-- as many places as tasks
many-at : (n worker : ℕ) (tasks : List Task) (places : List Place) → ArePlaces n tasks places
    → length (filter (is_at worker) places) ≡ length (part_for n worker tasks)
many-at n worker [] [] are = refl
many-at n worker [] (p ∷ places) are = absurd are
many-at n worker (t ∷ tasks) [] are = absurd are
many-at n worker (t ∷ tasks) (p ∷ places) are =
    let more = many-at n worker tasks places are.1 in
    ap (λ b. length (cond b (p ∷ filter (is_at worker) places) (filter (is_at worker) places)))
    (place-goes n worker t p are.0)
    ∙ (elim (goes_to n worker t) as (λ b.
    length (cond b (p ∷ filter (is_at worker) places) (filter (is_at worker) places))
    ≡ length (cond b (t ∷ part_for n worker tasks) (part_for n worker tasks))) [
      | true ↦ ap suc more
      | false ↦ more
    ])

-- no place is that of a number past all workers
none-past : (n worker : ℕ) (places : List Place) → n ≤ worker → AllByRecursion (IsKnown n) places
    → length (filter (is_at worker) places) ≡ 0
none-past n worker [] le known = refl
none-past n worker (Own reply ∷ places) le known = none-past n worker places le known.1
none-past n worker (Worker number ∷ places) le known =
    let lt = known.0 in
    ap (λ b. length (cond b (Worker number ∷ filter (is_at worker) places)
    (filter (is_at worker) places)))
    (eq_not number worker (λ e. absurd (omega (arith, e, lt, le))))
    ∙ none-past n worker places le known.1

-- what came of the tasks of a worker
pub record Comes (mine : List Task) (part : Part) : Type 0 where
  pub many : length mine ≡ length (tasks_here part)
  pub replied : AllByRecursion IsReplied (tasks_here part)

come-here : (mine : List Task) (coming : List (List Reply)) (part : Part) → is_away part ≡ false
    → StandsIn mine coming part → Comes mine part
come-here [] coming (Here tasks) here has = record {
  many = ap length (sym has.1);
  replied = subst (AllByRecursion IsReplied) (sym has.1) tt;
}
come-here [] coming (Away count) here has = absurd has.1
come-here (task ∷ mine) coming (Away count) here has = absurd (true≢false here)
come-here (task ∷ mine) coming (Here tasks) here has =
    record { many = sym has.1; replied = has.2 }

pub answered-all : (n : ℕ) (tasks : List Task) (places : List Place) (parts : List Part)
    (coming : ℕ → List (List Reply)) → length parts ≡ n → ArePlaces n tasks places
    → ((worker : ℕ) → is_away (part_of parts worker) ≡ false)
    → ((worker : ℕ) → worker < n
    → StandsIn (part_for n worker tasks) (coming worker) (part_of parts worker))
    → AreAnswered places parts
answered-all n tasks places parts coming size are here come =
    let known = known-all n tasks places are in
    let each : (worker : ℕ) → worker < n → Comes (part_for n worker tasks) (part_of parts worker) =
    λ worker lt. come-here (part_for n worker tasks) (coming worker) (part_of parts worker)
    (here worker) (come worker lt) in
    let past : (worker : ℕ) → n ≤ worker → part_of parts worker ≡ no_part = λ worker le.
    get_or_past parts worker no_part (omega (arith, size, le)) in
    record {
      here = here;
      known = subst (λ m. AllByRecursion (IsKnown m) places) (sym size) known;
      many = λ worker. ⊎_elim
          (λ (lt : worker < n). many-at n worker tasks places are ∙ (each worker lt).many)
          (λ (le : n ≤ worker). none-past n worker places le known
          ∙ ap (λ (p : Part). length (tasks_here p)) (sym (past worker le)))
          (before_or_not worker n);
      replied = λ worker. ⊎_elim
          (λ (lt : worker < n). All-map IsReplied HasReply (tasks_here (part_of parts worker))
          has-reply (each worker lt).replied)
          (λ (le : n ≤ worker). subst (λ (p : Part). AllByRecursion HasReply (tasks_here p))
          (sym (past worker le)) tt)
          (before_or_not worker n);
    }

-- the replies go into frames
pub replied-framed : (items : List Task) → AllByRecursion IsReplied items
    → AllByRecursion IsFramed (replies_in items)
replied-framed [] all = tt
replied-framed (item ∷ items) all =
    subst (AllByRecursion IsFramed) (sym (replies-more item items all.0.reply all.0.is))
    ((all.0.framed, all.0.stamp), replied-framed items all.1)

-- each task of a worker that answered has its reply
pub come-replied : (mine : List Task) (coming : List (List Reply)) (part : Part)
    → is_away part ≡ false → StandsIn mine coming part
    → AllByRecursion IsReplied (tasks_here part)
come-replied mine coming part here stands = (come-here mine coming part here stands).replied
