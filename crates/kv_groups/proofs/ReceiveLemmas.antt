-- What one session's answer and message leave of its traffic and of what is in hand of it.
use Rattle.std.proofs.Common.{◌≡◌, ◌≢◌, ℕ, ◌≤◌, List, [], ◌∷◌, ◌++◌, length, Option}
use Rattle.std.proofs.Common.{None, Some, Bool, true, false, cond, ◌||◌, is_some, refl, sym, ap, subst, ◌∙◌}
use Rattle.std.proofs.Common.{arith, append-nil, true≢false}
use Rattle.std.specs.Prelude.{option_to_list, nat_eq}
use Rattle.std.proofs.lemmas.Bool.Decides.{nat_tests}
use Rattle.kv_base.specs.Reserved.{Reserved}
use Rattle.kv_ring.specs.Ends.{sent_to, received_from, known_from, places_to, SameRings, SameOut}
use Rattle.kv_ring.specs.Ends.{SameBack, only_at}
use Rattle.kv_ring.specs.declared.ends.Ends.{Ends}
use Rattle.kv_ring.specs.declared.message.Answer.{Answer}
use Rattle.kv_ring.specs.declared.message.Ask.{Ask}
use Rattle.kv_ring.specs.declared.message.Ask.TheVariants.{Group, Prepare, Start, Drop, Bye}
use Rattle.kv_ring.specs.declared.task.Task.{Task}
use Rattle.kv_groups.specs.declared.connection.Connection.{Connection}
use Rattle.kv_groups.specs.Batched.{tasks_in, IsEmptied}
use Rattle.kv_groups.specs.Gathering.{Intake, Gathers, IsInHand}
use Rattle.kv_groups.specs.Taking.{after_came, is_bye, group_taken, takes_group}
use Rattle.kv_groups.specs.Traffic.{Traffic, traffic_with, Sends, Receives}
use Rattle.kv_groups.proofs.TakeLemmas.{is-taken, all-few}

eq_self : (n : ℕ) → nat_eq n n ≡ true
eq_self n = grind (arith, nat_tests)

eq_not : (m n : ℕ) → m ≢ n → nat_eq m n ≡ false
eq_not m n ne = grind (arith, nat_tests)

only-here : {X : Type 0} (n : ℕ) (xs : List X) → only_at n n xs ≡ xs
only-here n xs = ap (λ b. cond b xs []) (eq_self n)

only-there : {X : Type 0} (n other : ℕ) (xs : List X) → other ≢ n → only_at n other xs ≡ []
only-there n other xs ne = ap (λ b. cond b xs []) (eq_not other n ne)

or-false : (b : Bool) → b ≡ (b || false)
or-false true = refl
or-false false = refl

or-true : (b : Bool) → true ≡ (b || true)
or-true true = refl
or-true false = refl

emptied-none : (was now : Option (Reserved Task)) → was ≡ None → IsEmptied was now → now ≡ None
emptied-none None None e h = refl
emptied-none None (Some now) e h = absurd h
emptied-none (Some was) now e h = absurd (cc)

module _ {F : Type 0} where
  same-traffic : (ends new : Ends (Answer F) (Ask F) 8) (s : ℕ)
      → received_from new s ≡ received_from ends s → sent_to new s ≡ sent_to ends s
      → known_from new s ≡ known_from ends s → places_to new s ≡ places_to ends s
      → traffic_with new s ≡ traffic_with ends s
  same-traffic ends new s received sent known places =
      let make : List (Ask F) → List (Answer F) → List (Ask F) → ℕ → Traffic F = λ r a k n.
      record { received = r; sent = a; known = k; places = n } in
      ap (λ r. make r (sent_to new s) (known_from new s) (places_to new s)) received
      ∙ ap (λ a. make (received_from ends s) a (known_from new s) (places_to new s)) sent
      ∙ ap (λ k. make (received_from ends s) (sent_to ends s) k (places_to new s)) known
      ∙ ap (λ n. make (received_from ends s) (sent_to ends s) (known_from ends s) n) places

  -- the answer was sent
  pub pushed-sends : (session : ℕ) (ends new : Ends (Answer F) (Ask F) 8) (answer : Answer F)
      → ((other : ℕ) → sent_to new other
      ≡ sent_to ends other ++ only_at session other (answer ∷ []))
      → ((other : ℕ) → other ≢ session → places_to new other ≡ places_to ends other)
      → SameBack ends new → SameRings ends new → Sends session ends new (Some answer) None
  pushed-sends session ends new answer sent places back rings = record {
    sent = append-nil (sent_to new session) ∙ sent session
        ∙ ap (λ xs. sent_to ends session ++ xs) (only-here session (answer ∷ []));
    received = back.received session;
    known = back.known session;
    none = λ e. refl;
    full = λ some. absurd (true≢false (sym some));
    others = λ other ne. same-traffic ends new other (back.received other)
        (sent other ∙ ap (λ xs. sent_to ends other ++ xs) (only-there session other (answer ∷ []) ne)
        ∙ append-nil (sent_to ends other)) (back.known other) (places other ne);
    rings = rings;
  }

  -- it waits
  pub refused-sends : (session : ℕ) (ends new : Ends (Answer F) (Ask F) 8)
      (answer refused : Answer F) → refused ≡ answer
      → ((other : ℕ) → sent_to new other ≡ sent_to ends other) → places_to new session ≡ 0
      → ((other : ℕ) → other ≢ session → places_to new other ≡ places_to ends other)
      → SameBack ends new → SameRings ends new
      → Sends session ends new (Some answer) (Some refused)
  refused-sends session ends new answer refused same sent full places back rings = record {
    sent = ap (λ xs. xs ++ refused ∷ []) (sent session)
        ∙ ap (λ a. sent_to ends session ++ a ∷ []) same;
    received = back.received session;
    known = back.known session;
    none = λ e. absurd (cc);
    full = λ some. full;
    others = λ other ne. same-traffic ends new other (back.received other) (sent other)
        (back.known other) (places other ne);
    rings = rings;
  }

  -- none waits
  pub none-sends : (session : ℕ) (ends : Ends (Answer F) (Ask F) 8)
      → Sends session ends ends None None
  none-sends session ends = record {
    sent = refl;
    received = refl;
    known = refl;
    none = λ e. refl;
    full = λ some. absurd (true≢false (sym some));
    others = λ other ne. refl;
    rings = record { peers = refl; lines = λ other. refl };
  }

  -- the next message was taken, if one was known of
  pub popped-receives : (session worker workers : ℕ) (ends new : Ends (Answer F) (Ask F) 8)
      (old now : Connection F) (came : Option (Ask F)) (found : Bool) → found ≡ is_some came
      → ((other : ℕ) → received_from new other
      ≡ received_from ends other ++ only_at session other (option_to_list came))
      → (came ≡ None → known_from new session ≡ [])
      → ((other : ℕ) → other ≢ session → known_from new other ≡ known_from ends other)
      → SameOut ends new → SameRings ends new → now ≡ after_came worker workers old came
      → Receives session worker workers ends new old now found
  popped-receives session worker workers ends new old now came found found_is received none others
      out rings taken = record {
        came = came;
        found_is = found_is;
        received = received session
            ∙ ap (λ xs. received_from ends session ++ xs) (only-here session (option_to_list came));
        none = none;
        sent = out.sent session;
        places = out.places session;
        taken = taken;
        others = λ other ne. same-traffic ends new other
            (received other ∙ ap (λ xs. received_from ends other ++ xs)
            (only-there session other (option_to_list came) ne)
            ∙ append-nil (received_from ends other)) (out.sent other) (others other ne)
            (out.places other);
        rings = rings;
      }

  -- what a message leaves
  after-waiting : (worker workers : ℕ) (c : Connection F) (came : Option (Ask F))
      → (after_came worker workers c came).waiting ≡ c.waiting
  after-waiting worker workers c None = refl
  after-waiting worker workers c (Some (Group seen tasks)) =
      elim (takes_group worker workers (is_some c.waiting) seen tasks.items) as (λ b.
      (cond b (record c { seen = seen; group = Some tasks }) c).waiting ≡ c.waiting) [
        | true ↦ refl
        | false ↦ refl
      ]
  after-waiting worker workers c (Some (Prepare fold low high)) = refl
  after-waiting worker workers c (Some (Start stamp)) = refl
  after-waiting worker workers c (Some Drop) = refl
  after-waiting worker workers c (Some Bye) = refl

  after-gone : (worker workers : ℕ) (c : Connection F) (came : Option (Ask F))
      → (after_came worker workers c came).gone ≡ (c.gone || is_bye came)
  after-gone worker workers c None = or-false c.gone
  after-gone worker workers c (Some (Group seen tasks)) =
      elim (takes_group worker workers (is_some c.waiting) seen tasks.items) as (λ b.
      (cond b (record c { seen = seen; group = Some tasks }) c).gone ≡ (c.gone || false)) [
        | true ↦ or-false c.gone
        | false ↦ or-false c.gone
      ]
  after-gone worker workers c (Some (Prepare fold low high)) = or-false c.gone
  after-gone worker workers c (Some (Start stamp)) = or-false c.gone
  after-gone worker workers c (Some Drop) = or-false c.gone
  after-gone worker workers c (Some Bye) = or-true c.gone

  no-hand : (c now : Connection F) → c.group ≡ None → IsEmptied c.group now.group
      → IsInHand None now (tasks_in c.group)
  no-hand c now none emptied =
      (emptied-none c.group now.group none emptied, ap tasks_in none)

  after-hand : (worker workers : ℕ) (c now : Connection F) (came : Option (Ask F))
      → c.group ≡ None → now.seen ≡ (after_came worker workers c came).seen
      → IsEmptied (after_came worker workers c came).group now.group
      → IsInHand (group_taken worker workers (is_some c.waiting) came) now
      (tasks_in (after_came worker workers c came).group)
  after-hand worker workers c now None none seen_is emptied = no-hand c now none emptied
  after-hand worker workers c now (Some (Group seen tasks)) none seen_is emptied =
      (elim (takes_group worker workers (is_some c.waiting) seen tasks.items) as (λ b.
      now.seen ≡ (cond b (record c { seen = seen; group = Some tasks }) c).seen
      → IsEmptied (cond b (record c { seen = seen; group = Some tasks }) c).group now.group
      → IsInHand (cond b (Some (let g : ℕ × Reserved Task = (seen, tasks) in g)) None) now
      (tasks_in (cond b (record c { seen = seen; group = Some tasks }) c).group)) [
        | true ↦ λ s e. (s, refl, e)
        | false ↦ λ s e. no-hand c now none e
      ]) seen_is emptied
  after-hand worker workers c now (Some (Prepare fold low high)) none seen_is emptied =
      no-hand c now none emptied
  after-hand worker workers c now (Some (Start stamp)) none seen_is emptied =
      no-hand c now none emptied
  after-hand worker workers c now (Some Drop) none seen_is emptied = no-hand c now none emptied
  after-hand worker workers c now (Some Bye) none seen_is emptied = no-hand c now none emptied

  none-few : (c : Connection F) → c.group ≡ None → length (tasks_in c.group) ≤ 64
  none-few c none = subst (λ g. length (tasks_in g) ≤ 64) (sym none) (omega arith)

  -- a group in hand has at most 64 tasks
  pub after-few : (worker workers : ℕ) (c : Connection F) (came : Option (Ask F))
      → c.group ≡ None → length (tasks_in (after_came worker workers c came).group) ≤ 64
  after-few worker workers c None none = none-few c none
  after-few worker workers c (Some (Group seen tasks)) none =
      (elim (takes_group worker workers (is_some c.waiting) seen tasks.items) as (λ b.
      takes_group worker workers (is_some c.waiting) seen tasks.items ≡ b
      → length (tasks_in (cond b (record c { seen = seen; group = Some tasks }) c).group) ≤ 64) [
        | true ↦ λ e. all-few worker workers tasks.items
            (is-taken worker workers (is_some c.waiting) seen tasks.items e).all
        | false ↦ λ e. none-few c none
      ]) refl
  after-few worker workers c (Some (Prepare fold low high)) none = none-few c none
  after-few worker workers c (Some (Start stamp)) none = none-few c none
  after-few worker workers c (Some Drop) none = none-few c none
  after-few worker workers c (Some Bye) none = none-few c none

  -- what was taken from the session
  abbrev pub intake_from : (session worker workers : ℕ) (mid new : Ends (Answer F) (Ask F) 8)
      (between got : Connection F) (found : Bool)
      → Receives session worker workers mid new between got found → Intake F
  intake_from session worker workers mid new between got found r = record {
    waits = is_some between.waiting;
    came = r.came;
    tasks = tasks_in got.group;
  }

  pub gathers-from : (session worker workers : ℕ) (ends mid new : Ends (Answer F) (Ask F) 8)
      (old between got now : Connection F) (found : Bool)
      → Sends session ends mid old.waiting between.waiting → old.group ≡ None
      → between.group ≡ old.group → between.gone ≡ old.gone
      → (r : Receives session worker workers mid new between got found)
      → now.seen ≡ got.seen → now.waiting ≡ got.waiting → now.gone ≡ got.gone
      → IsEmptied got.group now.group
      → Gathers worker workers (traffic_with ends session) (traffic_with new session) old now
      (intake_from session worker workers mid new between got found r)
  gathers-from session worker workers ends mid new old between got now found s none same_group
      same_gone r seen_is waiting_is gone_is emptied =
      let stays : now.waiting ≡ between.waiting =
      waiting_is ∙ ap (λ (c : Connection F). c.waiting) r.taken
      ∙ after-waiting worker workers between r.came in
      record {
        received = r.received ∙ ap (λ xs. xs ++ option_to_list r.came) s.received;
        none = r.none;
        sent = ap (λ xs. xs ++ option_to_list now.waiting) r.sent
            ∙ ap (λ o. sent_to mid session ++ option_to_list o) stays ∙ s.sent;
        waits = ap is_some (sym stays);
        waited = λ e. stays ∙ s.none e;
        full = λ some. r.places ∙ s.full (ap is_some (sym stays) ∙ some);
        gone = gone_is ∙ ap (λ (c : Connection F). c.gone) r.taken
            ∙ after-gone worker workers between r.came ∙ ap (λ b. b || is_bye r.came) same_gone;
        taken = subst (λ ts. IsInHand (group_taken worker workers (is_some between.waiting) r.came)
            now ts) (ap (λ (c : Connection F). tasks_in c.group) (sym r.taken))
            (after-hand worker workers between now r.came (same_group ∙ none)
            (seen_is ∙ ap (λ (c : Connection F). c.seen) r.taken)
            (subst (λ g. IsEmptied g now.group) (ap (λ (c : Connection F). c.group) r.taken)
            emptied));
      }

  pub got-few : (session worker workers : ℕ) (mid new : Ends (Answer F) (Ask F) 8)
      (between got : Connection F) (found : Bool) → between.group ≡ None
      → Receives session worker workers mid new between got found
      → length (tasks_in got.group) ≤ 64
  got-few session worker workers mid new between got found none r =
      subst (λ (c : Connection F). length (tasks_in c.group) ≤ 64) (sym r.taken)
      (after-few worker workers between r.came none)
