-- How the answers of a turn went back to the last sessions, with one session more.
use Rattle.std.proofs.Common.{◌≡◌, ◌≢◌, ◌⊎◌, ⊎_elim, ℕ, ◌+◌, ◌<◌, ◌≤◌, List, []}
use Rattle.std.proofs.Common.{◌++◌, length, get_or, set, take, None, refl, sym}
use Rattle.std.proofs.Common.{ap, ◌∙◌, subst, arith, length-append}
use Rattle.std.proofs.lemmas.List.{take_more, length-map, length-take-le, take_all}
use Rattle.kv_ring.specs.Ends.{peers, SameRings}
use Rattle.kv_ring.specs.declared.ends.Ends.{Ends}
use Rattle.kv_ring.specs.declared.message.Answer.{Answer}
use Rattle.kv_ring.specs.declared.message.Ask.{Ask}
use Rattle.kv_ring.specs.declared.task.Task.{Task}
use Rattle.kv_groups.specs.declared.connection.Connection.{Connection}
use Rattle.kv_groups.specs.Batched.{of_session, in_hand, tasks_in}
use Rattle.kv_groups.specs.Delivering.{Delivers, DeliversAll, AreBack, AreFree, tasks_of}
use Rattle.kv_groups.specs.Taking.{connection_of}
use Rattle.kv_groups.specs.Traffic.{Traffic, traffic_with}
use Rattle.kv_groups.proofs.BatchLemmas.{in_hand-push}
use Rattle.kv_groups.proofs.GatherLemmas.{set-here, set-there, read-is, one_place}
use Rattle.kv_groups.proofs.GatherLemmas.{of_session-length}

-- the tasks of the sessions up to this one
pub front-more : (groups : List (List Task)) (j : ℕ) → j < length groups
    → in_hand 0 (take (j + 1) groups)
    ≡ in_hand 0 (take j groups) ++ of_session j (tasks_of groups j)
front-more groups j lt =
    ap (in_hand 0) (take_more groups j [] lt)
    ∙ in_hand-push 0 (take j groups) (tasks_of groups j)
    ∙ ap (λ n. in_hand 0 (take j groups) ++ of_session n (tasks_of groups j))
    (let e : 0 + length (take j groups) ≡ j =
    omega (arith, length-take-le j groups (omega (arith, lt))) in e)

module _ {F : Type 0} where
  -- the answers to the sessions from this one on have gone
  pub record DeliversFrom (ends mid : Ends (Answer F) (Ask F) 8) (old now : List (Connection F))
      (groups : List (List Task)) (items : List (ℕ × Task)) (i : ℕ) : Type 0 where
    pub items_are : items ≡ in_hand 0 (take i groups)
    pub each : (s : ℕ) → i ≤ s → s < length old → Delivers (traffic_with ends s)
        (traffic_with mid s) (connection_of old s) (connection_of now s) (tasks_of groups s)
    pub earlier : (s : ℕ) → s < i → (traffic_with mid s ≡ traffic_with ends s)
        × (connection_of now s ≡ connection_of old s)

  pub delivers-none : (ends : Ends (Answer F) (Ask F) 8) (old : List (Connection F))
      (groups : List (List Task)) (items : List (ℕ × Task)) (i : ℕ)
      → AreBack old groups items → i ≡ length old
      → DeliversFrom ends ends old old groups items i
  delivers-none ends old groups items i back end = record {
    items_are = back.items_are
        ∙ ap (in_hand 0) (sym (take_all i groups (omega (arith, back.many, end))));
    each = λ s le lt. absurd (omega (arith, le, lt, end));
    earlier = λ s lt. (refl, refl);
  }

  -- one session more, from the last to the first
  pub delivers-more : (ends mid new : Ends (Answer F) (Ask F) 8) (old now : List (Connection F))
      (groups : List (List Task)) (first items left : List (ℕ × Task)) (j : ℕ)
      (was got : Connection F) → AreBack old groups first
      → DeliversFrom ends mid old now groups items (j + 1) → j < length old
      → length now ≡ length old → was ≡ get_or now j was
      → ((front : List (ℕ × Task)) (tasks : List Task) → items ≡ front ++ of_session j tasks
      → length tasks ≡ length (tasks_in was.group)
      → (left ≡ front) × Delivers (traffic_with mid j) (traffic_with new j) was got tasks)
      → ((other : ℕ) → other ≢ j → traffic_with new other ≡ traffic_with mid other)
      → DeliversFrom ends new old (set now j got) groups left j
  delivers-more ends mid new old now groups first items left j was got back d lt size read step
      others =
      let inside : j < length now = omega (arith, lt, size) in
      let is_was : connection_of now j ≡ was = read-is now j was inside read in
      let here = d.earlier j (omega arith) in
      let old_is : connection_of old j ≡ was = sym here.1 ∙ is_was in
      let s = step (in_hand 0 (take j groups)) (tasks_of groups j)
      (d.items_are ∙ front-more groups j (omega (arith, lt, back.many)))
      (back.sizes j ∙ ap (λ c. length (tasks_in c.group)) old_is) in
      record {
        items_are = s.0;
        each = λ k le less. ⊎_elim
            (λ (e : k ≡ j).
            let P : Traffic F → Connection F → Connection F → Type 0 = λ t a b.
            Delivers t (traffic_with new j) a b (tasks_of groups j) in
            subst (λ n. Delivers (traffic_with ends n) (traffic_with new n) (connection_of old n)
            (connection_of (set now j got) n) (tasks_of groups n)) (sym e)
            (subst (λ t. P t (connection_of old j) (connection_of (set now j got) j)) here.0
            (subst (λ a. P (traffic_with mid j) a (connection_of (set now j got) j)) (sym old_is)
            (subst (λ b. P (traffic_with mid j) was b) (sym (set-here now j got inside)) s.1))))
            (λ (ne : k ≢ j).
            let up : j + 1 ≤ k = omega (arith, le, ne) in
            let P : Traffic F → Connection F → Type 0 = λ t b.
            Delivers (traffic_with ends k) t (connection_of old k) b (tasks_of groups k) in
            subst (λ t. P t (connection_of (set now j got) k)) (sym (others k ne))
            (subst (λ b. P (traffic_with mid k) b) (sym (set-there now j k got ne))
            (d.each k up less)))
            (one_place k j);
        earlier = λ k less.
            let ne : k ≢ j = λ e. absurd (omega (arith, less, e)) in
            let l = d.earlier k (omega (arith, less)) in
            (others k ne ∙ l.0, set-there now j k got ne ∙ l.1);
      }

  -- the batch has the session's tasks behind the others
  pub back-some : (ends mid : Ends (Answer F) (Ask F) 8) (old now : List (Connection F))
      (groups : List (List Task)) (first items : List (ℕ × Task)) (j : ℕ) (was : Connection F)
      → AreBack old groups first → DeliversFrom ends mid old now groups items (j + 1)
      → j < length old → length now ≡ length old → was ≡ get_or now j was
      → length (tasks_in was.group) ≤ length items
  back-some ends mid old now groups first items j was back d lt size read =
      let inside : j < length now = omega (arith, lt, size) in
      let is_was : connection_of now j ≡ was = read-is now j was inside read in
      let old_is : connection_of old j ≡ was = sym (d.earlier j (omega arith)).1 ∙ is_was in
      let tag : Task → ℕ × Task = λ t. (j, t) in
      omega (
        arith,
        ap length (d.items_are ∙ front-more groups j (omega (arith, lt, back.many))),
        length-append (in_hand 0 (take j groups)) (of_session j (tasks_of groups j)),
        length-map (tasks_of groups j) tag,
        back.sizes j,
        ap (λ c. length (tasks_in c.group)) old_is,
      )

  pub delivers-all : (ends mid : Ends (Answer F) (Ask F) 8) (old now : List (Connection F))
      (groups : List (List Task)) (items : List (ℕ × Task))
      → DeliversFrom ends mid old now groups items 0 → length old ≡ peers ends
      → SameRings ends mid → DeliversAll ends mid old now groups
  delivers-all ends mid old now groups items d size rings = record {
    each = λ s lt. d.each s (omega arith) (omega (arith, lt, size));
    rings = rings;
  }

  -- where a group is in hand of what an index gives, no answer waits
  pub session-free : (old now : List (Connection F)) (i : ℕ) (was : Connection F) → AreFree old
      → connection_of now i ≡ connection_of old i → i < length now → was ≡ get_or now i was
      → (was.group ≡ None) ⊎ (was.waiting ≡ None)
  session-free old now i was free same lt read =
      subst (λ (c : Connection F). (c.group ≡ None) ⊎ (c.waiting ≡ None))
      (sym (sym (read-is now i was lt read) ∙ same)) (free i)

  -- so many tasks less are in the batch
  pub batch-less : (ends mid : Ends (Answer F) (Ask F) 8) (old now : List (Connection F))
      (groups : List (List Task)) (first items left : List (ℕ × Task)) (j : ℕ) (was : Connection F)
      → AreBack old groups first → DeliversFrom ends mid old now groups items (j + 1)
      → j < length old → length now ≡ length old → was ≡ get_or now j was
      → ((front : List (ℕ × Task)) (tasks : List Task) → items ≡ front ++ of_session j tasks
      → length tasks ≡ length (tasks_in was.group) → left ≡ front)
      → length items ≡ length left + length (tasks_in was.group)
  batch-less ends mid old now groups first items left j was back d lt size read step =
      let inside : j < length now = omega (arith, lt, size) in
      let is_was : connection_of now j ≡ was = read-is now j was inside read in
      let old_is : connection_of old j ≡ was = sym (d.earlier j (omega arith)).1 ∙ is_was in
      let many = back.sizes j ∙ ap (λ c. length (tasks_in c.group)) old_is in
      let split = d.items_are ∙ front-more groups j (omega (arith, lt, back.many)) in
      let s = step (in_hand 0 (take j groups)) (tasks_of groups j) split many in
      omega (
        arith,
        ap length split,
        length-append (in_hand 0 (take j groups)) (of_session j (tasks_of groups j)),
        of_session-length j (tasks_of groups j),
        many,
        ap length s,
      )
