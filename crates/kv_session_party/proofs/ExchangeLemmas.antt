-- Asking all workers and receiving from all, one by one.
use Rattle.std.proofs.Common.{◌≡◌, ◌≢◌, ◌⊎◌, inl, inr, ⊎_elim, ℕ, ◌+◌, ◌<◌, ◌≤◌, List}
use Rattle.std.proofs.Common.{◌++◌}
use Rattle.std.proofs.Common.{length, Option, None, Some, Bool, true, false, cond, get_or}
use Rattle.std.proofs.Common.{nat_eq}
use Rattle.std.proofs.Common.{refl, sym, ap, ◌∙◌, subst, arith}
use Rattle.std.specs.Prelude.{is_some, IsSome, ◌||◌, option_to_list}
use Rattle.std.proofs.lemmas.Bool.{false≢true}
use Rattle.std.proofs.lemmas.List.{append-nil, length-set, get_or-set_same, get_or-set_other}
use Rattle.std.proofs.lemmas.List.{get_or_past}
use Rattle.kv_ring.specs.Ends.{SameRings, places_to}
use Rattle.kv_ring.specs.declared.ends.Ends.{Ends}
use Rattle.kv_ring.specs.declared.message.Answer.{Answer}
use Rattle.kv_ring.specs.declared.message.Ask.{Ask}
use Rattle.kv_session_party.specs.Exchanges.{Asks, AsksOne, Receives, ReceivesOne, Comes}
use Rattle.kv_session_party.specs.Exchanges.{message_for}
use Rattle.kv_session_party.specs.Exchanges.{is_owed, part_behind_came}
use Rattle.kv_session_party.specs.Links.{told_to, heard_from, coming_from, waiting_for}
use Rattle.kv_session_party.specs.Links.{WaitsForPlaces}
use Rattle.kv_session_party.specs.Parts.{part_of, tasks_out, part_out, no_part}
use Rattle.kv_session_party.specs.Routes.{RoutesState}
use Rattle.kv_session_party.specs.declared.links.Links.{Links}
use Rattle.kv_session_party.specs.declared.part.Part.{Part}
use Rattle.kv_session_party.proofs.RouteLemmas.{eq_self, eq_not, same_or_not}

pub before_or_not : (m n : ℕ) → (m < n) ⊎ (n ≤ m)
before_or_not m n = grind arith

module _ {S R : Type 0} {most : ℕ} where
  pub rings-refl : (ends : Ends S R most) → SameRings ends ends
  rings-refl ends = record { peers = refl; lines = λ other. refl }

  pub rings-trans : (ends between new : Ends S R most) → SameRings ends between
      → SameRings between new → SameRings ends new
  rings-trans ends between new one two = record {
    peers = two.peers ∙ one.peers;
    lines = λ other. two.lines other ∙ one.lines other;
  }

-- what holds of this number and of each smaller one holds of each below the next
pub by-last : (P : ℕ → Type 0) (last : ℕ) → P last
    → ((other : ℕ) → other ≢ last → other < last → P other)
    → (other : ℕ) → other < last + 1 → P other
by-last P last here there other lt = ⊎_elim
    (λ (e : other ≡ last). subst P (sym e) here)
    (λ (ne : other ≢ last). there other ne (omega (arith, lt, ne)))
    (same_or_not other last)

pub not-last : (last other : ℕ) → last + 1 ≤ other → other ≢ last
not-last last other le e = absurd (omega (arith, le, e))

-- behind a message to one worker messages wait for places where they did before
pub full-more : {F : Type 0} (now next : Links F) (worker : ℕ)
    → (waiting_for next worker ≢ None → places_to next.ends worker ≡ 0)
    → ((other : ℕ) → other ≢ worker → waiting_for next other ≡ waiting_for now other)
    → ((other : ℕ) → other ≢ worker → places_to next.ends other ≡ places_to now.ends other)
    → WaitsForPlaces now → WaitsForPlaces next
full-more now next worker here waiting places full other waits = ⊎_elim
    (λ (e : other ≡ worker). subst (λ w. places_to next.ends w ≡ 0) (sym e)
    (here (subst (λ w. waiting_for next w ≢ None) e waits)))
    (λ (ne : other ≢ worker). places other ne
    ∙ full other (λ none. waits (waiting other ne ∙ none)))
    (same_or_not other worker)

module _ {F : Type 0} (seen : ℕ) (links : Links F) (routes : RoutesState) where
  -- the workers below this number were asked
  pub record AsksUpTo (now : Links F) (later : RoutesState) (worker : ℕ) : Type 0 where
    pub told : (other : ℕ) → other < worker → told_to now other
        ≡ told_to links other ++ message_for seen (tasks_out (part_of routes.parts other))
    pub untold : (other : ℕ) → worker ≤ other → told_to now other ≡ told_to links other
    pub heard : (other : ℕ) → heard_from now other ≡ heard_from links other
    pub free : (other : ℕ) → other < worker → tasks_out (part_of routes.parts other) ≡ None
        → waiting_for now other ≡ None
    pub unused : (other : ℕ) → worker ≤ other → waiting_for now other ≡ None
    pub full : WaitsForPlaces now
    pub parts : (other : ℕ) → other < worker
        → part_of later.parts other ≡ part_out (part_of routes.parts other)
    pub others : (other : ℕ) → worker ≤ other
        → part_of later.parts other ≡ part_of routes.parts other
    pub places : later.places ≡ routes.places
    pub size : length later.parts ≡ length routes.parts
    pub rings : SameRings links.ends now.ends

  pub AsksUpTo-none : ((other : ℕ) → waiting_for links other ≡ None) → AsksUpTo links routes 0
  AsksUpTo-none free = record {
    told = λ other lt. absurd (omega (arith, lt));
    untold = λ other le. refl;
    heard = λ other. refl;
    free = λ other lt. absurd (omega (arith, lt));
    unused = λ other le. free other;
    full = λ other waits. absurd (waits (free other));
    parts = λ other lt. absurd (omega (arith, lt));
    others = λ other le. refl;
    places = refl;
    size = refl;
    rings = rings-refl links.ends;
  }

  pub AsksUpTo-more : (now next : Links F) (later after : RoutesState) (worker : ℕ)
      → worker < length later.parts → AsksOne worker seen now next later after
      → AsksUpTo now later worker → AsksUpTo next after (worker + 1)
  AsksUpTo-more now next later after worker lt one u =
      let was : part_of later.parts worker ≡ part_of routes.parts worker =
      u.others worker (omega arith) in
      let out : Part = part_out (part_of later.parts worker) in
      let there : (other : ℕ) → other ≢ worker
      → part_of after.parts other ≡ part_of later.parts other = λ other ne.
      ap (λ (ps : List Part). part_of ps other) one.parts
      ∙ get_or-set_other later.parts worker other out no_part ne in
      record {
        told = by-last (λ w. told_to next w
            ≡ told_to links w ++ message_for seen (tasks_out (part_of routes.parts w))) worker
            (one.told
            ∙ ap (λ (xs : List (Ask F)).
            xs ++ message_for seen (tasks_out (part_of later.parts worker)))
            (u.untold worker (omega arith))
            ∙ ap (λ (p : Part). told_to links worker ++ message_for seen (tasks_out p)) was)
            (λ other ne less. (one.others other ne).0 ∙ u.told other less);
        untold = λ other le. (one.others other (not-last worker other le)).0
            ∙ u.untold other (omega (arith, le));
        heard = λ other. one.heard other ∙ u.heard other;
        free = by-last (λ w. tasks_out (part_of routes.parts w) ≡ None
            → waiting_for next w ≡ None) worker
            (λ none. one.free (ap tasks_out was ∙ none))
            (λ other ne less none. (one.others other ne).1 ∙ u.free other less none);
        unused = λ other le. (one.others other (not-last worker other le)).1
            ∙ u.unused other (omega (arith, le));
        full = full-more now next worker one.full (λ other ne. (one.others other ne).1)
            (λ other ne. (one.others other ne).2) u.full;
        parts = by-last (λ w. part_of after.parts w ≡ part_out (part_of routes.parts w)) worker
            (ap (λ (ps : List Part). part_of ps worker) one.parts
            ∙ get_or-set_same later.parts worker out no_part lt ∙ ap part_out was)
            (λ other ne less. there other ne ∙ u.parts other less);
        others = λ other le. there other (not-last worker other le)
            ∙ u.others other (omega (arith, le));
        places = one.places ∙ u.places;
        size = ap length one.parts ∙ length-set later.parts worker out ∙ u.size;
        rings = rings-trans links.ends now.ends next.ends u.rings one.rings;
      }

  past-parts : (other : ℕ) → length routes.parts ≤ other → part_of routes.parts other ≡ no_part
  past-parts other le = get_or_past routes.parts other no_part le

  pub AsksUpTo-all : (now : Links F) (later : RoutesState) (worker : ℕ)
      → length routes.parts ≤ worker → AsksUpTo now later worker
      → Asks seen links now routes later
  AsksUpTo-all now later worker all u =
      let pick : (P : ℕ → Type 0) → ((other : ℕ) → other < worker → P other)
      → ((other : ℕ) → worker ≤ other → P other) → (other : ℕ) → P other =
      λ P low high other. ⊎_elim (λ (lt : other < worker). low other lt)
      (λ (le : worker ≤ other). high other le) (before_or_not other worker) in
      let past : (other : ℕ) → worker ≤ other → part_of routes.parts other ≡ no_part =
      λ other le. past-parts other (omega (arith, all, le)) in
      record {
        told = pick (λ w. told_to now w
            ≡ told_to links w ++ message_for seen (tasks_out (part_of routes.parts w))) u.told
            (λ other le. u.untold other le ∙ sym (append-nil (told_to links other))
            ∙ ap (λ (p : Part). told_to links other ++ message_for seen (tasks_out p))
            (sym (past other le)));
        heard = u.heard;
        free = pick (λ w. tasks_out (part_of routes.parts w) ≡ None → waiting_for now w ≡ None)
            u.free (λ other le none. u.unused other le);
        full = u.full;
        parts = pick (λ w. part_of later.parts w ≡ part_out (part_of routes.parts w)) u.parts
            (λ other le. u.others other le ∙ past other le
            ∙ ap part_out (sym (past other le)));
        places = u.places;
        size = u.size;
        rings = u.rings;
      }

module _ {F : Type 0} (links : Links F) (routes : RoutesState) where
  -- what came of a worker, from before to now
  abbrev pub ComesTo : Links F → RoutesState → Option (Answer F) → ℕ → Type 0
  ComesTo now later came worker = Comes
      (is_owed (part_of routes.parts worker) (waiting_for links worker))
      (part_of routes.parts worker) (part_of later.parts worker) came (heard_from links worker)
      (heard_from now worker) (coming_from now worker)

  -- nothing of the worker has changed
  pub record StaysAt (now : Links F) (later : RoutesState) (worker : ℕ) : Type 0 where
    pub heard : heard_from now worker ≡ heard_from links worker
    pub part : part_of later.parts worker ≡ part_of routes.parts worker

  -- the next answers of the workers below this number were taken
  pub record ReceivesUpTo (now : Links F) (later : RoutesState) (worker : ℕ) (moved : Bool) :
      Type 0 where
    pub came : ℕ → Option (Answer F)
    pub each : (other : ℕ) → other < worker → ComesTo now later (came other) other
    pub others : (other : ℕ) → worker ≤ other → StaysAt now later other
    pub none : (other : ℕ) → worker ≤ other → came other ≡ None
    pub told : (other : ℕ) → told_to now other ≡ told_to links other
    pub unsent : now.unsent ≡ links.unsent
    pub free_places : (other : ℕ) → places_to now.ends other ≡ places_to links.ends other
    pub places : later.places ≡ routes.places
    pub size : length later.parts ≡ length routes.parts
    pub still : moved ≡ false → (other : ℕ) → came other ≡ None
    pub some : moved ≡ true → (other : ℕ) × IsSome (came other)
    pub rings : SameRings links.ends now.ends

  pub ReceivesUpTo-none : ReceivesUpTo links routes 0 false
  ReceivesUpTo-none = record {
    came = λ other. None;
    each = λ other lt. absurd (omega (arith, lt));
    others = λ other le. record { heard = refl; part = refl };
    none = λ other le. refl;
    told = λ other. refl;
    unsent = refl;
    free_places = λ other. refl;
    places = refl;
    size = refl;
    still = λ e other. refl;
    some = λ e. absurd (cc);
    rings = rings-refl links.ends;
  }

  none-of : (came : Option (Answer F)) → is_some came ≡ false → came ≡ None
  none-of None e = refl
  none-of (Some answer) e = absurd (cc)

  some-of : (came : Option (Answer F)) → is_some came ≡ true → IsSome came
  some-of came e = e

  none-some : (came : Option (Answer F)) → came ≡ None → IsSome came → ⊥
  none-some None e some = false≢true some
  none-some (Some answer) e some = absurd (cc)

  comes-here : (now next : Links F) (later after : RoutesState) (worker : ℕ) (found : Bool)
      (came : Option (Answer F)) (one : ReceivesOne worker now next later after found)
      → came ≡ one.came → now.unsent ≡ links.unsent → StaysAt now later worker
      → ComesTo next after came worker
  comes-here now next later after worker found came one is unsent stays =
      subst (λ (h : List (Answer F)). Comes
      (is_owed (part_of routes.parts worker) (waiting_for links worker))
      (part_of routes.parts worker) (part_of after.parts worker) came h (heard_from next worker)
      (coming_from next worker)) stays.heard
      (subst (λ (o : Option (Answer F)). Comes
      (is_owed (part_of routes.parts worker) (waiting_for links worker))
      (part_of routes.parts worker) (part_of after.parts worker) o (heard_from now worker)
      (heard_from next worker) (coming_from next worker)) (sym is)
      (subst (λ (p : Part). Comes (is_owed p (waiting_for links worker)) p
      (part_of after.parts worker) one.came (heard_from now worker) (heard_from next worker)
      (coming_from next worker)) stays.part
      (subst (λ ws. Comes (is_owed (part_of later.parts worker) (get_or ws.items worker None))
      (part_of later.parts worker) (part_of after.parts worker) one.came (heard_from now worker)
      (heard_from next worker) (coming_from next worker)) unsent one.comes)))

  comes-there : (now next : Links F) (later after : RoutesState) (worker other : ℕ) (found : Bool)
      (was came : Option (Answer F)) (one : ReceivesOne worker now next later after found)
      → other ≢ worker → came ≡ was → ComesTo now later was other → ComesTo next after came other
  comes-there now next later after worker other found was came one ne is before =
      let same = one.others other ne in
      let owed : Bool = is_owed (part_of routes.parts other) (waiting_for links other) in
      let part : Part = part_of routes.parts other in
      subst (λ (h : List (Answer F)). Comes owed part (part_of after.parts other) came
      (heard_from links other) h (coming_from next other)) (sym same.0)
      (subst (λ (h : List (Answer F)). Comes owed part (part_of after.parts other) came
      (heard_from links other) (heard_from now other) h) (sym same.1)
      (subst (λ (p : Part). Comes owed part p came (heard_from links other) (heard_from now other)
      (coming_from now other)) (sym same.2)
      (subst (λ (o : Option (Answer F)). Comes owed part (part_of later.parts other) o
      (heard_from links other) (heard_from now other) (coming_from now other)) (sym is) before)))

  or-no : (a b : Bool) → (a || b) ≡ false → (a ≡ false) × (b ≡ false)
  or-no true b e = absurd (cc)
  or-no false b e = (refl, e)

  or-yes : (a b : Bool) → (a || b) ≡ true → (a ≡ true) ⊎ (b ≡ true)
  or-yes true b e = inl refl
  or-yes false b e = inr e

  pub ReceivesUpTo-more : (now next : Links F) (later after : RoutesState) (worker : ℕ)
      (moved found : Bool) → ReceivesOne worker now next later after found
      → ReceivesUpTo now later worker moved
      → ReceivesUpTo next after (worker + 1) (moved || found)
  ReceivesUpTo-more now next later after worker moved found one u =
      let came : ℕ → Option (Answer F) = λ w. cond (nat_eq worker w) one.came (u.came w) in
      let here : came worker ≡ one.came =
      ap (λ b. cond b one.came (u.came worker)) (eq_self worker) in
      let there : (other : ℕ) → other ≢ worker → came other ≡ u.came other = λ other ne.
      ap (λ b. cond b one.came (u.came other)) (eq_not worker other (λ e. ne (sym e))) in
      let stays : StaysAt now later worker = u.others worker (omega arith) in
      record {
        came = came;
        each = by-last (λ w. ComesTo next after (came w) w) worker
            (comes-here now next later after worker found (came worker) one here u.unsent stays)
            (λ other ne less. comes-there now next later after worker other found (u.came other)
            (came other) one ne (there other ne) (u.each other less));
        others = λ other le.
            let ne = not-last worker other le in
            let was = u.others other (omega (arith, le)) in record {
              heard = (one.others other ne).0 ∙ was.heard;
              part = (one.others other ne).2 ∙ was.part;
            };
        none = λ other le. there other (not-last worker other le)
            ∙ u.none other (omega (arith, le));
        told = λ other. one.told other ∙ u.told other;
        unsent = one.unsent ∙ u.unsent;
        free_places = λ other. one.free_places other ∙ u.free_places other;
        places = one.places ∙ u.places;
        size = one.size ∙ u.size;
        still = λ e other.
            let fails = or-no moved found e in
            ⊎_elim
            (λ (same : other ≡ worker). subst (λ w. came w ≡ None) (sym same)
            (here ∙ none-of one.came (sym one.moved_is ∙ fails.1)))
            (λ (ne : other ≢ worker). there other ne ∙ u.still fails.0 other)
            (same_or_not other worker);
        some = λ e. ⊎_elim
            (λ (before : moved ≡ true).
            let found-before = u.some before in (
              found-before.0,
              subst IsSome (sym (there found-before.0 (λ e. none-some (u.came found-before.0)
                  (u.none found-before.0 (omega (arith, e))) found-before.1))) found-before.1,
            ))
            (λ (now-found : found ≡ true). (
              worker,
              subst IsSome (sym here) (some-of one.came (sym one.moved_is ∙ now-found)),
            ))
            (or-yes moved found e);
        rings = rings-trans links.ends now.ends next.ends u.rings one.rings;
      }

  -- a number past all workers
  comes-past : (now : Links F) (later : RoutesState) (other : ℕ) (came : Option (Answer F))
      → part_of routes.parts other ≡ no_part → came ≡ None → StaysAt now later other
      → ComesTo now later came other
  comes-past now later other came past none stays = record {
    heard_is = stays.heard ∙ sym (append-nil (heard_from links other))
        ∙ ap (λ o. heard_from links other ++ option_to_list o) (sym none);
    part_is = stays.part ∙ ap (part_behind_came (part_of routes.parts other)) (sym none);
    replied = λ answer is. absurd (none-some came none (subst IsSome (sym is) refl));
    unasked = λ e. none;
    empty = λ owed. absurd (not-owed (part_of routes.parts other) (waiting_for links other) past
        owed);
  }
    where
      not-owed : (part : Part) (waiting : Option (Ask F)) → part ≡ no_part
          → is_owed part waiting ≡ true → ⊥
      not-owed part waiting e owed =
          false≢true (subst (λ p. is_owed p waiting ≡ true) e owed)

  pub ReceivesUpTo-all : (now : Links F) (later : RoutesState) (worker : ℕ) (moved : Bool)
      → length routes.parts ≤ worker → ReceivesUpTo now later worker moved
      → Receives links now routes later moved
  ReceivesUpTo-all now later worker moved all u = record {
    came = u.came;
    each = λ other. ⊎_elim (λ (lt : other < worker). u.each other lt)
        (λ (le : worker ≤ other). comes-past now later other (u.came other)
        (get_or_past routes.parts other no_part (omega (arith, all, le))) (u.none other le)
        (u.others other le))
        (before_or_not other worker);
    told = u.told;
    unsent = u.unsent;
    free_places = u.free_places;
    places = u.places;
    size = u.size;
    still = u.still;
    some = u.some;
    rings = u.rings;
  }
