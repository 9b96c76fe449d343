-- The promises of all parties on rings, as those on groups and their answers.
use Rattle.std.proofs.Common.{◌≡◌, inl, inr, ℕ, suc, ◌<◌, ◌≤◌, List, [], ◌∷◌, ◌++◌, length}
use Rattle.std.proofs.Common.{true, false, refl, sym, ap, ap₂, ◌∙◌, subst, arith}
use Rattle.std.proofs.Common.{append-nil, append_assoc}
use Rattle.std.proofs.lemmas.List.{length-append, length-map}
use Rattle.std.specs.List.{AllByRecursion, cons_option}
use Rattle.std.specs.Option.{option_map}
use mathlib.Core.List.{IsPrefix}
use Rattle.kv_disk.specs.declared.disk.Disk as disks
use Rattle.kv_model.specs.Layout.{Layout}
use Rattle.kv_ring.specs.declared.task.Task.{Task}
use Rattle.kv_ring.specs.declared.message.Ask.{Ask}
use Rattle.kv_ring.specs.declared.message.Ask.TheVariants as ask
use Rattle.kv_ring.specs.declared.message.Answer.{Answer}
use Rattle.kv_ring.specs.declared.message.Answer.TheVariants as answer
use Rattle.kv_stamps.specs.declared.view.Range.{Range}
use Rattle.kv_parties.specs.Setting.{Setting}
use Rattle.kv_parties.specs.Groups.{Answers, replies_of}
use Rattle.kv_parties.specs.Messages.{group_of, groups_in, asking, all_asking, answered_of}
use Rattle.kv_parties.specs.Messages.{answered_in, IsPartOf, takes_message, IsWhole}
use Rattle.kv_parties.specs.Messages.{IsAnswerTo, Hears}
use Rattle.kv_parties.specs.Messages.{IsReplied, task_pairs}
use Rattle.kv_parties.specs.Joined.{Parties, AllKeep, NonePassed, NoneWaits}
use Rattle.kv_parties.specs.Workers.{done_pairs}
use Rattle.kv_parties.proofs.Lists.{flat_map-append}
use Rattle.kv_parties.proofs.Rings.{Rings, Course, RingsKeep, IsQuiet}

module _ {X : Type 0} where
  part-length : (xs ys : List X) → IsPartOf xs ys → length xs ≤ length ys
  part-length [] ys part = omega arith
  part-length (x ∷ xs) [] part = absurd part
  part-length (x ∷ xs) (y ∷ ys) (inl here) = omega (arith, part-length xs ys here.1)
  part-length (x ∷ xs) (y ∷ ys) (inr later) = omega (arith, part-length (x ∷ xs) ys later)

  part-whole : (xs ys : List X) → IsPartOf xs ys → length ys ≤ length xs → xs ≡ ys
  part-whole [] [] part le = refl
  part-whole [] (y ∷ ys) part le = absurd (omega arith)
  part-whole (x ∷ xs) [] part le = absurd part
  part-whole (x ∷ xs) (y ∷ ys) (inl here) le =
      ap₂ (λ z zs. z ∷ zs) here.0 (part-whole xs ys here.1 (omega (arith, le)))
  part-whole (x ∷ xs) (y ∷ ys) (inr later) le =
      absurd (omega (arith, part-length (x ∷ xs) ys later, le))

  prefix-length : (xs ys : List X) → IsPrefix xs ys → length xs ≤ length ys
  prefix-length xs ys prefix = omega (arith, length-append xs prefix.0, ap length prefix.1)

  nothing : (xs : List X) → length xs ≤ 0 → xs ≡ []
  nothing [] le = refl
  nothing (x ∷ xs) le = absurd (omega arith)

  prefix-whole : (xs ys : List X) → IsPrefix xs ys → length ys ≤ length xs → xs ≡ ys
  prefix-whole xs ys prefix le =
      let none : prefix.0 ≡ [] = nothing prefix.0
      (omega (arith, length-append xs prefix.0, ap length prefix.1, le)) in
      sym (append-nil xs) ∙ (ap (λ zs. xs ++ zs) (sym none) ∙ prefix.1)

  All-left : (P : X → Type 0) (xs ys : List X) → AllByRecursion P (xs ++ ys) → AllByRecursion P xs
  All-left P [] ys all = tt
  All-left P (x ∷ xs) ys all = (all.0, All-left P xs ys all.1)

  All-last : (P : X → Type 0) (xs : List X) (y : X) (ys : List X)
      → AllByRecursion P (xs ++ y ∷ ys) → P y
  All-last P [] y ys all = all.0
  All-last P (x ∷ xs) y ys all = All-last P xs y ys all.1

replied_length : (tasks : List Task) → AllByRecursion IsReplied tasks
    → length (task_pairs tasks) ≡ length tasks
replied_length [] all = refl
replied_length (task ∷ tasks) all =
    subst (λ o. length (cons_option (option_map (λ reply. record {
      request = task.request;
      reply = reply;
    }) o) (task_pairs tasks)) ≡ suc (length tasks)) (sym all.0.is)
    (ap suc (replied_length tasks all.1))

module _ {F : Type 0} where
  all_asking-prefix : (xs ys : List (Ask F)) → IsPrefix xs ys
      → IsPrefix (all_asking xs) (all_asking ys)
  all_asking-prefix xs ys prefix = (
    all_asking prefix.0,
    sym (flat_map-append asking xs prefix.0) ∙ ap all_asking prefix.1,
  )

  pub groups_in-prefix : (xs ys : List (Ask F)) → IsPrefix xs ys
      → IsPrefix (groups_in xs) (groups_in ys)
  groups_in-prefix xs ys prefix = (
    groups_in prefix.0,
    sym (flat_map-append group_of xs prefix.0) ∙ ap groups_in prefix.1,
  )

  answered_in-prefix : (xs ys : List (Answer F)) → IsPrefix xs ys
      → IsPrefix (answered_in xs) (answered_in ys)
  answered_in-prefix xs ys prefix = (
    answered_in prefix.0,
    sym (flat_map-append answered_of xs prefix.0) ∙ ap answered_in prefix.1,
  )

  pub groups-asking : (messages : List (Ask F))
      → groups_in (all_asking messages) ≡ groups_in messages
  groups-asking [] = refl
  groups-asking (ask.Group seen tasks ∷ messages) =
      ap (λ groups. group_of {F = F} (ask.Group seen tasks) ++ groups) (groups-asking messages)
  groups-asking (ask.Prepare fold low high ∷ messages) = groups-asking messages
  groups-asking (ask.Start stamp ∷ messages) = groups-asking messages
  groups-asking (ask.Drop ∷ messages) = groups-asking messages
  groups-asking (ask.Bye ∷ messages) = groups-asking messages

  -- each answer is one to the message at its place; there may be fewer answers
  abbrev AreAnswers : List (Ask F) → List (Answer F) → Type 0
  AreAnswers messages [] = Unit {0}
  AreAnswers [] (next ∷ answers) = ⊥
  AreAnswers (message ∷ messages) (next ∷ answers) =
      IsAnswerTo message next × AreAnswers messages answers

  AreAnswers-more : (messages more : List (Ask F)) (answers : List (Answer F))
      → AreAnswers messages answers → AreAnswers (messages ++ more) answers
  AreAnswers-more messages more [] are = tt
  AreAnswers-more [] more (next ∷ answers) are = absurd are
  AreAnswers-more (message ∷ messages) more (next ∷ answers) are =
      (are.0, AreAnswers-more messages more answers are.1)

  AreAnswers-fewer : (messages : List (Ask F)) (answers more : List (Answer F))
      → AreAnswers messages (answers ++ more) → AreAnswers messages answers
  AreAnswers-fewer messages [] more are = tt
  AreAnswers-fewer [] (next ∷ answers) more are = absurd are
  AreAnswers-fewer (message ∷ messages) (next ∷ answers) more are =
      (are.0, AreAnswers-fewer messages answers more are.1)

  -- where each is one to its message none is passed over
  hears-all : (messages : List (Ask F)) (came heard : List (Answer F)) → AreAnswers messages came
      → Hears messages came heard → heard ≡ came
  hears-all messages [] heard are hears = hears
  hears-all [] (next ∷ came) heard are hears = absurd hears
  hears-all (message ∷ messages) (next ∷ came) heard are (inl hears) =
      hears.1 ∙ ap (λ rest. next ∷ rest) (hears-all messages came hears.0 are.1 hears.2)
  hears-all (message ∷ messages) (next ∷ came) heard are (inr hears) = absurd (hears.0 are.0)

  hears-length : (messages : List (Ask F)) (came heard : List (Answer F))
      → Hears messages came heard → length heard ≤ length came
  hears-length messages [] heard hears = omega (arith, ap length hears)
  hears-length [] (next ∷ came) heard hears = absurd hears
  hears-length (message ∷ messages) (next ∷ came) heard (inl hears) =
      omega (arith, ap length hears.1, hears-length messages came hears.0 hears.2)
  hears-length (message ∷ messages) (next ∷ came) heard (inr hears) =
      omega (arith, hears-length (message ∷ messages) came heard hears.1)

  -- as many answers to groups as there are messages that workers take are each one to its message
  by_place : (layout : Layout) (worker workers : ℕ) (messages : List (Ask F))
      (answers : List (Answer F)) → length answers ≡ length messages
      → AllByRecursion (λ message. takes_message layout worker workers message ≡ true) messages
      → AllByRecursion IsWhole answers → Answers (groups_in messages) (answered_in answers)
      → AreAnswers messages answers
  by_place layout worker workers messages [] many takes whole are = tt
  by_place layout worker workers [] (next ∷ answers) many takes whole are = absurd (omega arith)
  by_place layout worker workers (ask.Group seen tasks ∷ messages)
      (answer.Group replied ∷ answers) many takes whole are = (
        (
          omega (
            arith,
            replied_length replied.items whole.0,
            ap length are.0.same,
            length-map (task_pairs replied.items) (λ pair. pair.request),
            length-map tasks.items (λ task. task.request),
          ),
          whole.0,
        ),
        by_place layout worker workers messages answers (omega (arith, many)) takes.1 whole.1 are.1,
      )
  by_place layout worker workers (ask.Group seen tasks ∷ messages) (next ∷ answers) many takes whole
      are = absurd whole.0
  by_place layout worker workers (message ∷ messages) (next ∷ answers) many takes whole are =
      let no : false ≡ true = takes.0 in absurd (cc)

-- the groups and answers of all parties
abbrev pub rings_of : {F D : Type 0} → Parties F D → Rings
rings_of parties = record {
  asked = λ s w. groups_in (parties.asks_sent s w);
  taken = λ w s. groups_in (parties.asks_received w s);
  answered = λ w s. answered_in (parties.answers_sent w s);
  heard = λ s w. answered_in (parties.answers_received s w);
}

-- where each session stands
abbrev pub courses_of : {F D : Type 0} → Parties F D → ℕ → Course
courses_of parties s = record {
  groups = parties.groups s;
  requests = parties.requests s;
  waiting = parties.waiting s;
}

-- each worker's ranges of stamps
abbrev pub ranges_of : {F D : Type 0} → Parties F D → ℕ → List Range
ranges_of parties w = (parties.workers w).view.drawn

module _ {F D : Type 0} (d : disks.Ghosts D) (setting : Setting) (parties : Parties F D)
    (keep : AllKeep d setting parties) where
  asks-prefix : (s w : ℕ) → s < setting.sessions → w < setting.workers
      → IsPrefix (all_asking (parties.asks_received w s)) (all_asking (parties.asks_sent s w))
  asks-prefix s w lt less = all_asking-prefix (parties.asks_received w s) (parties.asks_sent s w)
      (keep.asks s w lt less)

  -- where no session waits no message was passed over
  pub none_passed : NoneWaits setting parties → NonePassed setting parties
  none_passed quiet s w lt less =
      let worker = keep.workers w less in
      let session = keep.sessions s lt in
      omega (
        arith,
        session.quiet (quiet s lt) w less,
        hears-length (all_asking (parties.asks_sent s w)) (parties.answers_received s w)
            (session.heard w) (session.hears w less),
        prefix-length (parties.answers_received s w) (parties.answers_sent w s)
            (keep.answers s w lt less),
        worker.each s lt,
        part-length (worker.taken s) (all_asking (parties.asks_received w s)) (worker.part s lt),
        prefix-length (all_asking (parties.asks_received w s)) (all_asking (parties.asks_sent s w))
            (asks-prefix s w lt less),
      )

  module _ (passed : NonePassed setting parties) where
    pub took : (s w : ℕ) (lt : s < setting.sessions) (less : w < setting.workers)
        → (keep.workers w less).taken s ≡ all_asking (parties.asks_received w s)
    took s w lt less = part-whole ((keep.workers w less).taken s)
        (all_asking (parties.asks_received w s)) ((keep.workers w less).part s lt)
        (omega (arith, passed s w lt less, (keep.workers w less).each s lt))

    -- what came to a session answers its messages at their places
    came : (s w : ℕ) → s < setting.sessions → w < setting.workers
        → AreAnswers (all_asking (parties.asks_sent s w)) (parties.answers_received s w)
    came s w lt less =
        let worker = keep.workers w less in
        let sent = asks-prefix s w lt less in
        let back = keep.answers s w lt less in
        let takes : AllByRecursion (λ message.
        takes_message setting.layout w setting.workers message
        ≡ true) (all_asking (parties.asks_received w s)) =
        All-left _ (all_asking (parties.asks_received w s)) sent.0
        (subst (AllByRecursion (λ message.
        takes_message setting.layout w setting.workers message ≡ true)) (sym sent.1)
        ((keep.sessions s lt).taken w less)) in
        let answered : AreAnswers (all_asking (parties.asks_received w s))
        (parties.answers_sent w s) =
        by_place setting.layout w setting.workers (all_asking (parties.asks_received w s))
        (parties.answers_sent w s) (passed s w lt less) takes (worker.whole s lt)
        (subst (λ messages. Answers (groups_in messages) (answered_in (parties.answers_sent w s)))
        (took s w lt less) (worker.groups.order s lt)) in
        AreAnswers-fewer (all_asking (parties.asks_sent s w)) (parties.answers_received s w) back.0
        (subst (AreAnswers (all_asking (parties.asks_sent s w))) (sym back.1)
        (subst (λ messages. AreAnswers messages (parties.answers_sent w s)) sent.1
        (AreAnswers-more (all_asking (parties.asks_received w s)) sent.0 (parties.answers_sent w s)
        answered)))

    -- a session heard all that came
    heard_all : (s w : ℕ) (lt : s < setting.sessions) → w < setting.workers
        → (keep.sessions s lt).heard w ≡ parties.answers_received s w
    heard_all s w lt less = hears-all (all_asking (parties.asks_sent s w))
        (parties.answers_received s w) ((keep.sessions s lt).heard w) (came s w lt less)
        ((keep.sessions s lt).hears w less)

    pub rings_keep : RingsKeep setting parties.before (rings_of parties) (ranges_of parties)
        (courses_of parties)
    rings_keep = record {
      workers = λ w less.
          let keeps = (keep.workers w less).groups in
          record {
            history = keeps.history;
            right = keeps.right;
            rising = keeps.rising;
            drawn = keeps.drawn;
            owned = keeps.owned;
            known = keeps.known;
            parts = keeps.parts;
            order = λ s lt. subst (λ asked. Answers asked (answered_in (parties.answers_sent w s)))
                (ap groups_in (took s w lt less) ∙ groups-asking (parties.asks_received w s))
                (keeps.order s lt);
          };
      sessions = λ s lt.
          let keeps = (keep.sessions s lt).asks in
          record {
            exchanges = keeps.exchanges;
            asking = keeps.asking;
            coming = keeps.coming;
            same = keeps.same;
            asks = keeps.asks;
            hears = λ w less. ap (λ answers. replies_of (answered_in answers))
                (sym (heard_all s w lt less)) ∙ keeps.hears w less;
            seen = keeps.seen;
            handled = keeps.handled;
            pending = keeps.pending;
          };
      asks = λ s w lt less. groups_in-prefix (parties.asks_received w s) (parties.asks_sent s w)
          (keep.asks s w lt less);
      answers = λ s w lt less. answered_in-prefix (parties.answers_received s w)
          (parties.answers_sent w s) (keep.answers s w lt less);
      apart = keep.apart;
    }

    pub same_history : (w : ℕ) (less : w < setting.workers)
        → done_pairs (rings_keep.workers w less).history
        ≡ done_pairs (keep.workers w less).groups.history
    unfolding rings_keep
    same_history w less = refl

    -- where no session waits, all that was answered was heard
    pub all_quiet : NoneWaits setting parties
        → IsQuiet setting (rings_of parties) (courses_of parties)
    all_quiet quiet = record {
      waits = quiet;
      heard = λ s w lt less. ap answered_in (prefix-whole (parties.answers_received s w)
          (parties.answers_sent w s) (keep.answers s w lt less) (omega (
            arith,
            (keep.sessions s lt).quiet (quiet s lt) w less,
            ap length (heard_all s w lt less),
            passed s w lt less,
            prefix-length (all_asking (parties.asks_received w s))
                (all_asking (parties.asks_sent s w)) (asks-prefix s w lt less),
          )));
    }

    -- when a message more comes, all before it are answered and the answers sent, and the worker
    -- takes it
    pub owes : (s w : ℕ) (message : Ask F) (pushed waiting : List (Answer F)) → s < setting.sessions
        → w < setting.workers
        → IsPrefix (parties.asks_received w s ++ message ∷ []) (parties.asks_sent s w)
        → all_asking (message ∷ []) ≡ message ∷ []
        → parties.answers_sent w s ≡ pushed ++ waiting
        → IsPrefix (parties.answers_received s w) pushed
        → (waiting ≡ []) × (takes_message setting.layout w setting.workers message ≡ true)
    owes s w message pushed waiting lt less more one split back =
        let received : List (Ask F) = all_asking (parties.asks_received w s) in
        let session = keep.sessions s lt in
        let longer = all_asking-prefix (parties.asks_received w s ++ message ∷ [])
        (parties.asks_sent s w) more in
        let parts : all_asking (parties.asks_received w s ++ message ∷ [])
        ≡ received ++ message ∷ [] =
        flat_map-append asking (parties.asks_received w s) (message ∷ [])
        ∙ ap (λ last. received ++ last) one in
        let all : (received ++ message ∷ []) ++ longer.0 ≡ all_asking (parties.asks_sent s w) =
        ap (λ xs. xs ++ longer.0) (sym parts) ∙ longer.1 in
        let whole : received ++ message ∷ longer.0 ≡ all_asking (parties.asks_sent s w) =
        sym (append_assoc received (message ∷ []) longer.0) ∙ all in (
          nothing waiting (omega (
            arith,
            ap length whole,
            length-append received (message ∷ longer.0),
            session.owed w less,
            ap length (heard_all s w lt less),
            prefix-length (parties.answers_received s w) pushed back,
            ap length split,
            length-append pushed waiting,
            passed s w lt less,
          )),
          All-last (λ message. takes_message setting.layout w setting.workers message ≡ true)
              received message longer.0 (subst (AllByRecursion (λ message.
              takes_message setting.layout w setting.workers message ≡ true)) (sym whole)
              (session.taken w less)),
        )
