-- Merging a group's replies, from the last place to the first.
use Rattle.std.proofs.Common.{◌≡◌, ◌≢◌, ⊎_elim, ℕ, suc, ◌+◌, ◌<◌, ◌≤◌, List, [], ◌∷◌}
use Rattle.std.proofs.Common.{◌++◌}
use Rattle.std.proofs.Common.{length, map, reverse, Option, None, Some, true, false, cond}
use Rattle.std.proofs.Common.{set, nat_eq, refl, sym, ap, ◌∙◌, subst, subst₂, arith}
use Rattle.std.proofs.Common.{append_assoc, length-append}
use Rattle.std.specs.Prelude.{IsSome, filter}
use Rattle.std.specs.List.{AllByRecursion, cons_option}
use Rattle.std.specs.Option.{option_map}
use Rattle.std.proofs.lemmas.Bool.{false≢true}
use Rattle.std.proofs.lemmas.List.{append-nil, reverse-append, length-set, get_or-set_same}
use Rattle.std.proofs.lemmas.List.{get_or-set_other, map-append, length-map, length-reverse}
use Rattle.std.proofs.lemmas.List.Elements.{filter-append}
use Rattle.kv_base.specs.declared.reply.Reply.{Reply}
use Rattle.kv_base.specs.declared.request.Request.TheVariants.{Flush}
use Rattle.kv_model.proofs.PairwiseLemmas.{All-front}
use Rattle.kv_model.specs.Pairs.{Pair}
use Rattle.kv_parties.specs.Messages.{task_pairs}
use Rattle.kv_ring.specs.declared.task.Task.{Task}
use Rattle.kv_session_party.specs.Parts.{HasTasks, part_of}
use Rattle.kv_session_party.specs.Routes.{RoutesState}
use Rattle.kv_session_party.specs.Parts.{tasks_here, is_away, no_part}
use Rattle.kv_session_party.specs.Routes.{is_at}
use Rattle.kv_session_party.specs.Merging.{replies_at, HaveOwn, IsMerged}
use Rattle.kv_session_party.specs.Parts.{replies_in}
use Rattle.kv_session_party.specs.Merging.{IsKnown, AreAnswered, IsReady, RepliesAt}
use Rattle.kv_session_party.specs.Parts.{is_bare, HasReply, has_reply, EndsReplied}
use Rattle.kv_session_party.specs.Routes.{IsBare}
use Rattle.kv_session.specs.Tasks.{HaveReplies}
use Rattle.kv_session_party.specs.declared.part.Part.{Part}
use Rattle.kv_session_party.specs.declared.part.Part.TheVariants.{Here, Away}
use Rattle.kv_session_party.specs.declared.routes.Place.{Place}
use Rattle.kv_session_party.specs.declared.routes.Place.TheVariants.{Own, Worker}
use Rattle.kv_session_party.proofs.RouteLemmas.{eq_self, eq_not, same_or_not, all-at, none-long}

-- a task that has this reply and nothing else
abbrev pub answered_task : Reply → Task
answered_task reply = record { request = Flush; reply = Some reply }

-- ---- parts

pub has-here : (part : Part) (items : List Task) → HasTasks part items → tasks_here part ≡ items
has-here (Here tasks) items has = has
has-here (Away count) items has = absurd has

pub has-not_away : (part : Part) (items : List Task) → HasTasks part items → is_away part ≡ false
has-not_away (Here tasks) items has = refl
has-not_away (Away count) items has = absurd has

pub here-has : (part : Part) → is_away part ≡ false → HasTasks part (tasks_here part)
here-has (Here tasks) here = refl
here-has (Away count) here = absurd (cc)

-- the elements but the last, and the last
pub last-of : {X : Type 0} (xs : List X) → 1 ≤ length xs
    → (rest : List X) × (last : X) × (xs ≡ rest ++ last ∷ [])
last-of [] some = absurd (omega (arith, some))
last-of (x ∷ []) some = ([], x, refl)
last-of (x ∷ y ∷ xs) some =
    let more = last-of (y ∷ xs) (omega arith) in
    (x ∷ more.0, more.1, ap (λ zs. x ∷ zs) more.2)

-- ---- places

at-more : (worker : ℕ) (left : List Place) (place : Place)
    → filter (is_at worker) (left ++ place ∷ [])
    ≡ filter (is_at worker) left ++ cond (is_at worker place) (place ∷ []) []
at-more worker left place = filter-append (is_at worker) left (place ∷ [])

at-yes : (worker : ℕ) (left : List Place) (place : Place) → is_at worker place ≡ true
    → length (filter (is_at worker) (left ++ place ∷ [])) ≡ length (filter (is_at worker) left) + 1
at-yes worker left place holds = ap length (at-more worker left place
    ∙ ap (λ b. filter (is_at worker) left ++ cond b (place ∷ []) []) holds)
    ∙ length-append (filter (is_at worker) left) (place ∷ [])

at-no : (worker : ℕ) (left : List Place) (place : Place) → is_at worker place ≡ false
    → length (filter (is_at worker) (left ++ place ∷ [])) ≡ length (filter (is_at worker) left)
at-no worker left place fails = ap length (at-more worker left place
    ∙ ap (λ b. filter (is_at worker) left ++ cond b (place ∷ []) []) fails
    ∙ append-nil (filter (is_at worker) left))

-- ---- the loop

-- the last places are merged, and their tasks are taken off the parts
pub record Merges (first left : List Place) (before parts : List Part) (tasks : List Task) :
    Type 0 where
  pub done : List Place
  pub backward : List Reply
  pub taken : ℕ → List Task
  pub split : first ≡ left ++ done
  pub parts_are : (worker : ℕ) → tasks_here (part_of before worker)
      ≡ tasks_here (part_of parts worker) ++ taken worker
  pub items : tasks ≡ map answered_task backward
  pub merged : IsMerged done (λ worker. replies_in (taken worker)) (reverse backward)
  pub answered : AreAnswered left parts
  pub size : length parts ≡ length before

pub Merges-new : (first : List Place) (parts : List Part) (tasks : List Task) → tasks ≡ []
    → AreAnswered first parts → Merges first first parts parts tasks
Merges-new first parts tasks none answered = record {
  done = [];
  backward = [];
  taken = λ worker. [];
  split = sym (append-nil first);
  parts_are = λ worker. sym (append-nil (tasks_here (part_of parts worker)));
  items = none;
  merged = record { own = tt; by_worker = λ worker. refl };
  answered = answered;
  size = refl;
}

reverse-push : {X : Type 0} (xs : List X) (x : X) → reverse (xs ++ x ∷ []) ≡ x ∷ reverse xs
reverse-push xs x = reverse-append xs (x ∷ [])

split-more : (first left rest : List Place) (place : Place) (done : List Place)
    → left ≡ rest ++ place ∷ [] → first ≡ left ++ done → first ≡ rest ++ place ∷ done
split-more first left rest place done is split = split
    ∙ (ap (λ (xs : List Place). xs ++ done) is ∙ append_assoc rest (place ∷ []) done)

items-more : (tasks : List Task) (backward : List Reply) (reply : Reply)
    → tasks ≡ map answered_task backward
    → tasks ++ answered_task reply ∷ [] ≡ map answered_task (backward ++ reply ∷ [])
items-more tasks backward reply is = ap (λ (ts : List Task). ts ++ answered_task reply ∷ []) is
    ∙ sym (map-append answered_task backward (reply ∷ []))

answered-own : (left rest : List Place) (reply : Reply) (parts : List Part)
    → left ≡ rest ++ Own reply ∷ [] → AreAnswered left parts → AreAnswered rest parts
answered-own left rest reply parts is a = record {
  here = a.here;
  known = All-front (IsKnown (length parts)) rest (Own reply ∷ [])
      (subst (AllByRecursion (IsKnown (length parts))) is a.known);
  many = λ worker. sym (at-no worker rest (Own reply) refl)
      ∙ ap (λ (ps : List Place). length (filter (is_at worker) ps)) (sym is) ∙ a.many worker;
  replied = a.replied;
}

pub Merges-own : (first left rest : List Place) (before parts : List Part) (tasks : List Task)
    (reply : Reply) → left ≡ rest ++ Own reply ∷ [] → Merges first left before parts tasks
    → Merges first rest before parts (tasks ++ answered_task reply ∷ [])
Merges-own first left rest before parts tasks reply is m = record {
  done = Own reply ∷ m.done;
  backward = m.backward ++ reply ∷ [];
  taken = m.taken;
  split = split-more first left rest (Own reply) m.done is m.split;
  parts_are = m.parts_are;
  items = items-more tasks m.backward reply m.items;
  merged = subst (λ (rs : List Reply). IsMerged (Own reply ∷ m.done)
      (λ worker. replies_in (m.taken worker)) rs) (sym (reverse-push m.backward reply))
      (record { own = (refl, m.merged.own); by_worker = m.merged.by_worker });
  answered = answered-own left rest reply parts is m.answered;
  size = m.size;
}

pub replies-more : (last : Task) (tasks : List Task) (reply : Reply) → last.reply ≡ Some reply
    → replies_in (last ∷ tasks) ≡ reply ∷ replies_in tasks
replies-more last tasks reply is = ap (λ (o : Option Reply). map (λ (pair : Pair). pair.reply)
    (cons_option (option_map (λ (r : Reply). record { request = last.request; reply = r }) o)
    (task_pairs tasks))) is

-- the worker of the last place is one of them
pub Merges-known : (first left rest : List Place) (before parts : List Part) (tasks : List Task)
    (number : ℕ) → left ≡ rest ++ Worker number ∷ [] → Merges first left before parts tasks
    → number < length parts
Merges-known first left rest before parts tasks number is m =
    all-at (IsKnown (length parts)) rest (Worker number) []
    (subst (AllByRecursion (IsKnown (length parts))) is m.answered.known)

some-reply : (reply : Option Reply) → has_reply reply ≡ true → IsSome reply
some-reply None is = absurd (false≢true is)
some-reply (Some reply) is = refl

-- its part has a task, and the last one has its reply
pub Merges-ends : (first left rest : List Place) (before parts : List Part) (tasks : List Task)
    (number : ℕ) → left ≡ rest ++ Worker number ∷ [] → Merges first left before parts tasks
    → EndsReplied (tasks_here (part_of parts number))
Merges-ends first left rest before parts tasks number is m =
    let items : List Task = tasks_here (part_of parts number) in
    let many = m.answered.many number in
    let count = ap (λ (ps : List Place). length (filter (is_at number) ps)) is
    ∙ at-yes number rest (Worker number) (eq_self number) in
    let ends = last-of items (omega (arith, many, count)) in
    let replied : HasReply ends.1 = all-at HasReply ends.0 ends.1 []
    (subst (AllByRecursion HasReply) ends.2 (m.answered.replied number)) in
    (ends.0, ends.1, ends.2, some-reply ends.1.reply replied)

module _ (left rest : List Place) (parts : List Part) (number : ℕ) (part : Part) (items : List Task)
    (last : Task) (is : left ≡ rest ++ Worker number ∷ []) (lt : number < length parts)
    (was : tasks_here (part_of parts number) ≡ items ++ last ∷ []) (has : HasTasks part items) where
  abbrev now : List Part
  now = set parts number part

  now-here : part_of now number ≡ part
  now-here = get_or-set_same parts number part no_part lt

  now-there : (other : ℕ) → other ≢ number → part_of now other ≡ part_of parts other
  now-there other ne = get_or-set_other parts number other part no_part ne

  -- what holds of the worker and of each other one
  by-worker : (P : ℕ → Type 0) → P number → ((other : ℕ) → other ≢ number → P other)
      → (worker : ℕ) → P worker
  by-worker P here there worker = ⊎_elim
      (λ (e : worker ≡ number). subst P (sym e) here)
      (λ (ne : worker ≢ number). there worker ne)
      (same_or_not worker number)

  answered-worker : AreAnswered left parts → AreAnswered rest now
  answered-worker a = record {
    here = by-worker (λ w. is_away (part_of now w) ≡ false)
        (ap is_away now-here ∙ has-not_away part items has)
        (λ other ne. ap is_away (now-there other ne) ∙ a.here other);
    known = subst (λ n. AllByRecursion (IsKnown n) rest) (sym (length-set parts number part))
        (All-front (IsKnown (length parts)) rest (Worker number ∷ [])
        (subst (AllByRecursion (IsKnown (length parts))) is a.known));
    many = by-worker (λ w. length (filter (is_at w) rest) ≡ length (tasks_here (part_of now w)))
        (let count = ap (λ (ps : List Place). length (filter (is_at number) ps)) is
        ∙ at-yes number rest (Worker number) (eq_self number) in
        let before = a.many number ∙ ap length was ∙ length-append items (last ∷ []) in
        let after : tasks_here (part_of now number) ≡ items =
        ap tasks_here now-here ∙ has-here part items has in
        let size = ap length after in
        omega (arith, count, before, size))
        (λ other ne. sym (at-no other rest (Worker number)
        (eq_not number other (λ e. ne (sym e))))
        ∙ ap (λ (ps : List Place). length (filter (is_at other) ps)) (sym is) ∙ a.many other
        ∙ ap (λ (p : Part). length (tasks_here p)) (sym (now-there other ne)));
    replied = by-worker (λ w. AllByRecursion HasReply (tasks_here (part_of now w)))
        (subst (AllByRecursion HasReply) (sym (ap tasks_here now-here ∙ has-here part items has))
        (All-front HasReply items (last ∷ [])
        (subst (AllByRecursion HasReply) was (a.replied number))))
        (λ other ne. subst (λ (p : Part). AllByRecursion HasReply (tasks_here p))
        (sym (now-there other ne)) (a.replied other));
  }

  pub Merges-worker : (first : List Place) (before : List Part) (tasks : List Task) (reply : Reply)
      → last.reply ≡ Some reply → Merges first left before parts tasks
      → Merges first rest before now (tasks ++ answered_task reply ∷ [])
  Merges-worker first before tasks reply replied m =
      let taken : ℕ → List Task = λ w. cond (nat_eq number w) (last ∷ m.taken w) (m.taken w) in
      let holds : taken number ≡ last ∷ m.taken number =
      ap (λ b. cond b (last ∷ m.taken number) (m.taken number)) (eq_self number) in
      let fails : (other : ℕ) → other ≢ number → taken other ≡ m.taken other = λ other ne.
      ap (λ b. cond b (last ∷ m.taken other) (m.taken other))
      (eq_not number other (λ e. ne (sym e))) in
      record {
        done = Worker number ∷ m.done;
        backward = m.backward ++ reply ∷ [];
        taken = taken;
        split = split-more first left rest (Worker number) m.done is m.split;
        parts_are = by-worker (λ w. tasks_here (part_of before w)
            ≡ tasks_here (part_of now w) ++ taken w)
            (m.parts_are number ∙ ap (λ (ts : List Task). ts ++ m.taken number) was
            ∙ append_assoc items (last ∷ []) (m.taken number)
            ∙ ap (λ (ts : List Task). ts ++ last ∷ m.taken number)
            (sym (ap tasks_here now-here ∙ has-here part items has))
            ∙ ap (λ (ts : List Task). tasks_here (part_of now number) ++ ts) (sym holds))
            (λ other ne. m.parts_are other
            ∙ ap (λ (p : Part). tasks_here p ++ m.taken other) (sym (now-there other ne))
            ∙ ap (λ (ts : List Task). tasks_here (part_of now other) ++ ts) (sym (fails other ne)));
        items = items-more tasks m.backward reply m.items;
        merged = subst (λ (rs : List Reply). IsMerged (Worker number ∷ m.done)
            (λ worker. replies_in (taken worker)) rs) (sym (reverse-push m.backward reply))
            (record {
              own = (tt, m.merged.own);
              by_worker = λ worker. elim (nat_eq number worker) as (λ b.
                  cond b (reply ∷ replies_at worker m.done (reverse m.backward))
                  (replies_at worker m.done (reverse m.backward))
                  ≡ replies_in (cond b (last ∷ m.taken worker) (m.taken worker))) [
                    | true ↦ ap (λ (rs : List Reply). reply ∷ rs) (m.merged.by_worker worker)
                        ∙ sym (replies-more last (m.taken worker) reply replied)
                    | false ↦ m.merged.by_worker worker
                  ];
            });
        answered = answered-worker m.answered;
        size = length-set parts number part ∙ m.size;
      }

-- the reply for the last place is there
pub Merges-ready : (first left rest : List Place) (before parts : List Part) (tasks : List Task)
    (place : Place) → left ≡ rest ++ place ∷ [] → Merges first left before parts tasks
    → IsReady place parts
Merges-ready first left rest before parts tasks (Own reply) is m = tt
Merges-ready first left rest before parts tasks (Worker number) is m = (
  Merges-known first left rest before parts tasks number is m,
  Merges-ends first left rest before parts tasks number is m,
)

pub Merges-more : (first left rest : List Place) (before parts new : List Part) (tasks : List Task)
    (place : Place) (reply : Reply) → left ≡ rest ++ place ∷ [] → RepliesAt place parts new reply
    → Merges first left before parts tasks
    → Merges first rest before new (tasks ++ answered_task reply ∷ [])
Merges-more first left rest before parts new tasks (Own own) reply is replies m =
    subst₂ (λ (ps : List Part) (r : Reply).
    Merges first rest before ps (tasks ++ answered_task r ∷ [])) (sym replies.1) (sym replies.0)
    (Merges-own first left rest before parts tasks own is m)
Merges-more first left rest before parts new tasks (Worker number) reply is replies m =
    subst (λ (ps : List Part). Merges first rest before ps (tasks ++ answered_task reply ∷ []))
    (sym replies.1)
    (Merges-worker left rest parts number replies.0 replies.2.0 replies.2.1 is
    (Merges-known first left rest before parts tasks number is m) replies.2.2 replies.2.4
    first before tasks reply replies.2.3 m)

-- ---- its end

bare-of : (part : Part) → is_away part ≡ false → tasks_here part ≡ [] → is_bare part ≡ true
bare-of (Here tasks) here none = ap (λ (ts : List Task). nat_eq (length ts) 0) none
bare-of (Away count) here none = absurd (false≢true (sym here))

map-reverse : {X Y : Type 0} (f : X → Y) (xs : List X) → map f (reverse xs) ≡ reverse (map f xs)
map-reverse f [] = refl
map-reverse f (x ∷ xs) = ap (map f) (reverse-append (x ∷ []) xs)
    ∙ map-append f (reverse xs) (x ∷ [])
    ∙ ap (λ ys. ys ++ f x ∷ []) (map-reverse f xs)
    ∙ sym (reverse-append (f x ∷ []) (map f xs))

replies-of : (backward : List Reply)
    → map (λ (task : Task). task.reply) (map answered_task backward) ≡ map Some backward
replies-of [] = refl
replies-of (reply ∷ backward) = ap (λ os. Some reply ∷ os) (replies-of backward)

pub HaveOwn-length : (places : List Place) (replies : List Reply) → HaveOwn places replies
    → length replies ≡ length places
HaveOwn-length [] [] own = refl
HaveOwn-length [] (reply ∷ replies) own = absurd own
HaveOwn-length (place ∷ places) [] own = absurd own
HaveOwn-length (place ∷ places) (reply ∷ replies) own =
    ap suc (HaveOwn-length places replies own.1)

module _ (first left : List Place) (before parts : List Part) (tasks : List Task) (none : left ≡ [])
    (m : Merges first left before parts tasks) where
  done-is : m.done ≡ first
  done-is = sym (m.split ∙ ap (λ (ps : List Place). ps ++ m.done) none)

  used-up : (worker : ℕ) → tasks_here (part_of parts worker) ≡ []
  used-up worker = none-long (tasks_here (part_of parts worker)) (sym (m.answered.many worker)
      ∙ ap (λ (ps : List Place). length (filter (is_at worker) ps)) none)

  taken-all : (worker : ℕ) → tasks_here (part_of before worker) ≡ m.taken worker
  taken-all worker = m.parts_are worker
      ∙ ap (λ (ts : List Task). ts ++ m.taken worker) (used-up worker)

  pub Merges-all : (replies : List Reply) × HaveReplies (reverse tasks) replies
      × IsMerged first (λ worker. replies_in (tasks_here (part_of before worker))) replies
  Merges-all = (
    reverse m.backward,
    map-reverse (λ (task : Task). task.reply) tasks
        ∙ ap (λ (ts : List Task). reverse (map (λ (task : Task). task.reply) ts)) m.items
        ∙ ap reverse (replies-of m.backward) ∙ sym (map-reverse Some m.backward),
    subst (λ (ps : List Place). IsMerged ps
        (λ worker. replies_in (tasks_here (part_of before worker))) (reverse m.backward)) done-is
        (record {
          own = m.merged.own;
          by_worker = λ worker. m.merged.by_worker worker
              ∙ ap replies_in (sym (taken-all worker));
        }),
  )

  pub Merges-many : length (reverse tasks) ≡ length first
  Merges-many = length-reverse tasks ∙ ap length m.items ∙ length-map m.backward answered_task
      ∙ sym (length-reverse m.backward) ∙ HaveOwn-length m.done (reverse m.backward) m.merged.own
      ∙ ap length done-is

  pub Merges-bare : (g : RoutesState) → g.places ≡ left → g.parts ≡ parts → IsBare g
  Merges-bare g places is = record {
    places = ap length (places ∙ none);
    parts = λ worker. subst (λ (ps : List Part). is_bare (part_of ps worker) ≡ true) (sym is)
        (bare-of (part_of parts worker) (m.answered.here worker) (used-up worker));
  }
