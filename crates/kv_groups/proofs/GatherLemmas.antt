-- What a turn has taken from the first sessions, with one session more.
use Rattle.std.proofs.Common.{◌≡◌, ◌≢◌, ◌⊎◌, ⊎_elim, ℕ, zero, suc, ◌+◌, ◌<◌, ◌≤◌, List, []}
use Rattle.std.proofs.Common.{◌∷◌, ◌++◌, map, length, get_or, set, None, Bool, true, false, ◌||◌}
use Rattle.std.proofs.Common.{refl, sym, ap, ◌∙◌, subst, arith, append_assoc, append-nil}
use Rattle.std.proofs.Common.{length-append, length-set}
use Rattle.std.proofs.lemmas.List.{map-append, length-map, get_or_append_left, get_or-set_same}
use Rattle.std.proofs.lemmas.List.{get_or-set_other, get_or_default}
use Rattle.kv_ring.specs.Ends.{peers, SameRings}
use Rattle.kv_ring.specs.declared.ends.Ends.{Ends}
use Rattle.kv_ring.specs.declared.message.Answer.{Answer}
use Rattle.kv_ring.specs.declared.message.Ask.{Ask}
use Rattle.kv_ring.specs.declared.task.Task.{Task}
use Rattle.kv_groups.specs.declared.connection.Connection.{Connection}
use Rattle.kv_groups.specs.Batched.{of_session, in_hand}
use Rattle.kv_groups.specs.Gathering.{Intake, Gathers, GathersAll, has_moved, any_moved, intake_of}
use Rattle.kv_groups.specs.Gathering.{nothing, AreIdle}
use Rattle.kv_groups.specs.Taking.{connection_of, new_connection}
use Rattle.kv_groups.specs.Traffic.{Traffic, traffic_with}
use Rattle.kv_groups.proofs.BatchLemmas.{in_hand-push}

pub or-false : (a : Bool) → (a || false) ≡ a
or-false true = refl
or-false false = refl

pub or-assoc : (a b c : Bool) → ((a || b) || c) ≡ (a || (b || c))
or-assoc true b c = refl
or-assoc false b c = refl

get_or-last : {X : Type 0} (xs : List X) (x d : X) → get_or (xs ++ x ∷ []) (length xs) d ≡ x
get_or-last [] x d = refl
get_or-last (y ∷ xs) x d = get_or-last xs x d

pub one_place : (j k : ℕ) → (j ≡ k) ⊎ (j ≢ k)
one_place j k = grind arith

module _ {F : Type 0} where
  none-moved : (old : List (Connection F)) → any_moved old [] ≡ false
  none-moved [] = refl
  none-moved (connection ∷ old) = refl

  any-push : (old : List (Connection F)) (intakes : List (Intake F)) (intake : Intake F)
      → length intakes < length old → any_moved old (intakes ++ intake ∷ [])
      ≡ (any_moved old intakes || has_moved (connection_of old (length intakes)) intake)
  any-push [] intakes intake lt = absurd (omega (arith, lt))
  any-push (c ∷ old) [] intake lt =
      ap (λ b. has_moved c intake || b) (none-moved old) ∙ or-false (has_moved c intake)
  any-push (c ∷ old) (first ∷ intakes) intake lt =
      ap (λ b. has_moved c first || b) (any-push old intakes intake (omega (arith, lt)))
      ∙ sym (or-assoc (has_moved c first) (any_moved old intakes)
      (has_moved (connection_of old (length intakes)) intake))

  pub set-here : (now : List (Connection F)) (i : ℕ) (c : Connection F) → i < length now
      → connection_of (set now i c) i ≡ c
  set-here now i c lt = get_or-set_same now i c new_connection lt

  pub set-there : (now : List (Connection F)) (i s : ℕ) (c : Connection F) → s ≢ i
      → connection_of (set now i c) s ≡ connection_of now s
  set-there now i s c ne = get_or-set_other now i s c new_connection ne

  -- what an index gives is what is in hand there
  pub read-is : (now : List (Connection F)) (i : ℕ) (was : Connection F) → i < length now
      → was ≡ get_or now i was → connection_of now i ≡ was
  read-is now i was lt is = get_or_default now i new_connection was lt ∙ sym is

  -- what was taken from the first sessions
  pub record GathersFirst (worker workers : ℕ) (ends mid : Ends (Answer F) (Ask F) 8)
      (old now : List (Connection F)) (start items : List (ℕ × Task)) (i : ℕ) (moved : Bool) :
      Type 0 where
    pub intakes : List (Intake F)
    pub many : length intakes ≡ i
    pub size : length now ≡ length old
    pub items_are : items ≡ start ++ in_hand 0 (map (λ intake. intake.tasks) intakes)
    pub each : (s : ℕ) → s < i → Gathers worker workers (traffic_with ends s) (traffic_with mid s)
        (connection_of old s) (connection_of now s) (intake_of intakes s)
    pub later : (s : ℕ) → i ≤ s → (traffic_with mid s ≡ traffic_with ends s)
        × (connection_of now s ≡ connection_of old s)
    pub moved_is : moved ≡ any_moved old intakes
    pub rings : SameRings ends mid

  pub gathers-none : (worker workers : ℕ) (ends : Ends (Answer F) (Ask F) 8)
      (old : List (Connection F)) (start : List (ℕ × Task))
      → GathersFirst worker workers ends ends old old start start 0 false
  gathers-none worker workers ends old start = record {
    intakes = [];
    many = refl;
    size = refl;
    items_are = sym (append-nil start);
    each = λ s lt. absurd (omega (arith, lt));
    later = λ s le. (refl, refl);
    moved_is = sym (none-moved old);
    rings = record { peers = refl; lines = λ other. refl };
  }

  pub same-rings : (a b c : Ends (Answer F) (Ask F) 8) → SameRings a b → SameRings b c → SameRings a c
  same-rings a b c first second = record {
    peers = second.peers ∙ first.peers;
    lines = λ other. second.lines other ∙ first.lines other;
  }

  -- one session more
  pub gathers-more : (worker workers : ℕ) (ends mid new : Ends (Answer F) (Ask F) 8)
      (old now : List (Connection F)) (start items more : List (ℕ × Task)) (i : ℕ)
      (was got : Connection F) (moved found : Bool) (intake : Intake F)
      → GathersFirst worker workers ends mid old now start items i moved
      → i < length old → was ≡ get_or now i was
      → Gathers worker workers (traffic_with mid i) (traffic_with new i) was got intake
      → more ≡ items ++ of_session i intake.tasks → found ≡ has_moved was intake
      → ((other : ℕ) → other ≢ i → traffic_with new other ≡ traffic_with mid other)
      → SameRings mid new
      → GathersFirst worker workers ends new old (set now i got) start more (i + 1)
      (moved || found)
  gathers-more worker workers ends mid new old now start items more i was got moved found intake g
      lt read step more_is found_is others rings =
      let inside : i < length now = omega (arith, lt, g.size) in
      let is_was : connection_of now i ≡ was = read-is now i was inside read in
      let tasks : Intake F → List Task = λ j. j.tasks in
      let here = g.later i (omega arith) in
      let old_is : connection_of old i ≡ was = sym here.1 ∙ is_was in
      let longer : length (map tasks g.intakes) ≡ i = length-map g.intakes tasks ∙ g.many in
      record {
        intakes = g.intakes ++ intake ∷ [];
        many = omega (arith, length-append g.intakes (intake ∷ []), g.many);
        size = length-set now i got ∙ g.size;
        items_are = more_is ∙ ap (λ all. all ++ of_session i intake.tasks) g.items_are
            ∙ append_assoc start (in_hand 0 (map tasks g.intakes)) (of_session i intake.tasks)
            ∙ ap (λ n. start ++ (in_hand 0 (map tasks g.intakes) ++ of_session n intake.tasks))
            (let e : i ≡ 0 + length (map tasks g.intakes) = omega (arith, longer) in e)
            ∙ ap (λ all. start ++ all) (sym (in_hand-push 0 (map tasks g.intakes) intake.tasks)
            ∙ ap (in_hand 0) (sym (map-append tasks g.intakes (intake ∷ []))));
        each = λ s less. ⊎_elim
            (λ (e : s ≡ i). subst (λ n. Gathers worker workers (traffic_with ends n)
            (traffic_with new n) (connection_of old n) (connection_of (set now i got) n)
            (intake_of (g.intakes ++ intake ∷ []) n)) (sym e)
            (at_place i was got intake g.intakes old now mid ends new g.many inside old_is here.0
            step))
            (λ (ne : s ≢ i).
            let low : s < i = omega (arith, less, ne) in
            let old_step = g.each s low in
            let P : Traffic F → Connection F → Intake F → Type 0 = λ t c j. Gathers worker workers
            (traffic_with ends s) t (connection_of old s) c j in
            subst (λ t. P t (connection_of (set now i got) s)
            (intake_of (g.intakes ++ intake ∷ []) s)) (sym (others s ne))
            (subst (λ c. P (traffic_with mid s) c (intake_of (g.intakes ++ intake ∷ []) s))
            (sym (set-there now i s got ne))
            (subst (λ j. P (traffic_with mid s) (connection_of now s) j)
            (sym (get_or_append_left g.intakes (intake ∷ []) nothing s
            (omega (arith, low, g.many)))) old_step)))
            (one_place s i);
        later = λ s le.
            let ne : s ≢ i = λ e. absurd (omega (arith, le, e)) in
            let l = g.later s (omega (arith, le)) in
            (others s ne ∙ l.0, set-there now i s got ne ∙ l.1);
        moved_is = ap (λ b. b || found) g.moved_is
            ∙ ap (λ b. any_moved old g.intakes || b) (found_is
            ∙ ap (λ c. has_moved c intake) (sym old_is)
            ∙ ap (λ n. has_moved (connection_of old n) intake) (sym g.many))
            ∙ sym (any-push old g.intakes intake (omega (arith, lt, g.many)));
        rings = same-rings ends mid new g.rings rings;
      }
    where
      at_place : (i : ℕ) (was got : Connection F) (intake : Intake F) (intakes : List (Intake F))
          (old now : List (Connection F)) (mid ends new : Ends (Answer F) (Ask F) 8)
          → length intakes ≡ i → i < length now → connection_of old i ≡ was
          → traffic_with mid i ≡ traffic_with ends i
          → Gathers worker workers (traffic_with mid i) (traffic_with new i) was got intake
          → Gathers worker workers (traffic_with ends i) (traffic_with new i)
          (connection_of old i) (connection_of (set now i got) i)
          (intake_of (intakes ++ intake ∷ []) i)
      at_place i was got intake intakes old now mid ends new many inside old_is traffic step =
          let last : intake_of (intakes ++ intake ∷ []) i ≡ intake =
          ap (λ n. intake_of (intakes ++ intake ∷ []) n) (sym many)
          ∙ get_or-last intakes intake nothing in
          let P : Traffic F → Connection F → Connection F → Intake F → Type 0 = λ t a b j.
          Gathers worker workers t (traffic_with new i) a b j in
          subst (λ t. P t (connection_of old i) (connection_of (set now i got) i)
          (intake_of (intakes ++ intake ∷ []) i)) traffic
          (subst (λ a. P (traffic_with mid i) a (connection_of (set now i got) i)
          (intake_of (intakes ++ intake ∷ []) i)) (sym old_is)
          (subst (λ b. P (traffic_with mid i) was b (intake_of (intakes ++ intake ∷ []) i))
          (sym (set-here now i got inside))
          (subst (λ j. P (traffic_with mid i) was got j) (sym last) step)))

  -- all sessions
  pub gathers-all : (worker workers : ℕ) (ends mid : Ends (Answer F) (Ask F) 8)
      (old now : List (Connection F)) (start items : List (ℕ × Task)) (i : ℕ) (moved : Bool)
      → (g : GathersFirst worker workers ends mid old now start items i moved)
      → length old ≡ peers ends → i ≡ length old
      → GathersAll worker workers ends mid old now g.intakes moved
  gathers-all worker workers ends mid old now start items i moved g size end = record {
    many = g.many ∙ end ∙ size;
    size = g.size;
    each = λ s lt. g.each s (omega (arith, lt, size, end));
    moved_is = g.moved_is;
    rings = g.rings;
  }

  -- one connection more with nothing in hand
  pub all-new : (connections : List (Connection F)) (c : Connection F) → c ≡ new_connection
      → ((s : ℕ) → connection_of connections s ≡ new_connection) → (s : ℕ)
      → connection_of (connections ++ c ∷ []) s ≡ new_connection
  all-new [] c is each zero = is
  all-new [] c is each (suc s) = refl
  all-new (first ∷ connections) c is each zero = each 0
  all-new (first ∷ connections) c is each (suc s) =
      all-new connections c is (λ k. each (suc k)) s

  -- what an index gives is in hand of no group
  pub session-idle : (old now : List (Connection F)) (i : ℕ) (was : Connection F) → AreIdle old
      → connection_of now i ≡ connection_of old i → i < length now → was ≡ get_or now i was
      → was.group ≡ None
  session-idle old now i was idle same lt read =
      ap (λ (c : Connection F). c.group) (sym (read-is now i was lt read) ∙ same) ∙ idle i

pub of_session-length : (session : ℕ) (tasks : List Task)
    → length (of_session session tasks) ≡ length tasks
of_session-length session tasks =
    length-map tasks (λ (t : Task). let p : ℕ × Task = (session, t) in p)
