-- The ends of the first sessions are taken one by one, and given back from the last on.
use Rattle.std.proofs.Common.{◌≡◌, inl, inr, ℕ, ◌<◌, ◌≤◌, ◌+◌, List, [], ◌∷◌}
use Rattle.std.proofs.Common.{◌++◌, length, map, slice_get, Some, true}
use Rattle.std.proofs.Common.{refl, sym, ap, ◌∙◌, subst, arith, length-append, ⊎_elim}
use Rattle.std.proofs.lemmas.List.{length-map, map-append}
use Rattle.std.proofs.lemmas.Bool.{cases_eq}
use Rattle.std.proofs.lemmas.Option.{slice_get_within}
use Rattle.kv_site.specs.Held.{Held, DisksStay, ReportStays, TakesSession, GivesSession}
use Rattle.kv_serve.specs.Taken.{AreLent, GivesSessions, TookSessions}
use Rattle.kv_serve.proofs.DiskLemmas.{report-none, report-then}
use Rattle.kv_serve.proofs.PlaceLemmas.{get-more, get-there}

module _ {In Out Pages : Type 0} where
  pub disks-none : (held : Held In Out Pages) → DisksStay held held
  disks-none held = record { held = λ folder w. refl; homes = λ w. refl }

  pub disks-then : (a b c : Held In Out Pages) → DisksStay a b → DisksStay b c → DisksStay a c
  disks-then a b c first second = record {
    held = λ folder w. second.held folder w ∙ first.held folder w;
    homes = λ w. second.homes w ∙ first.homes w;
  }

  -- no session is taken
  pub took-no-session : (held : Held In Out Pages) → TookSessions held held []
  took-no-session held = record {
    was = λ n pair at. absurd (cc);
    lent = λ n below. absurd (omega (arith, below));
    others = λ n past. refl;
    disks = disks-none held;
    report = report-none held;
  }

  -- one session more is taken
  pub took-next-session : (before held now : Held In Out Pages) (ends : List (In × Out)) (n : ℕ)
      (pair : In × Out) → n ≡ length ends → TookSessions before held ends
      → TakesSession held now n pair → TookSessions before now (ends ++ pair ∷ [])
  took-next-session before held now ends n pair last took takes =
      let count : length (ends ++ pair ∷ []) ≡ length ends + 1 = length-append ends (pair ∷ []) in
      record {
        was = λ m p at. elim (get-more ends pair p m at) [
          | inl here ↦ took.was m p here
          | inr there ↦ sym (took.others m (omega (arith, there.0)))
              ∙ ap held.sessions (there.0 ∙ sym last) ∙ takes.was ∙ ap Some there.1
        ];
        lent = λ m below. ⊎_elim
            (λ (same : m ≡ n). ap now.lent same ∙ takes.lent)
            (λ (other : m ≡ n → ⊥). (takes.others m other).1
            ∙ took.lent m (omega (arith, below, count, last, other)))
            (cases_eq m n);
        others = λ m past.
            (takes.others m (λ same. omega (arith, same, last, past, count))).0
            ∙ took.others m (omega (arith, past, count));
        disks = disks-then before held now took.disks takes.disks;
        report = report-then before held now took.report takes.report;
      }

  -- the ends from one session on stand at their numbers, and nothing else changed
  pub record GivesEndsFrom (before after : Held In Out Pages) (ends : List (In × Out))
      (count : ℕ) : Type 0 where
    pub back : (n : ℕ) (pair : In × Out) → count ≤ n → slice_get ends n ≡ Some pair
        → after.sessions n ≡ Some pair
    pub others : (n : ℕ) → (count ≤ n → n < length ends → ⊥)
        → after.sessions n ≡ before.sessions n
    pub lent : (n : ℕ) → after.lent n ≡ before.lent n
    pub disks : DisksStay before after
    pub report : ReportStays before after

  pub gives-no-session : (held : Held In Out Pages) (ends : List (In × Out))
      → GivesEndsFrom held held ends (length ends)
  gives-no-session held ends = record {
    back = λ n pair above at. absurd (omega (arith, above, slice_get_within ends n pair at));
    others = λ n not. refl;
    lent = λ n. refl;
    disks = disks-none held;
    report = report-none held;
  }

  -- those of the session before them, too
  pub gives-next-session : (before held now : Held In Out Pages) (ends left given : List (In × Out))
      (pair : In × Out) → ends ≡ (left ++ pair ∷ []) ++ given → AreLent before (length ends)
      → GivesEndsFrom before held ends (length (left ++ pair ∷ []))
      → GivesSession held now (length left) pair → GivesEndsFrom before now ends (length left)
  gives-next-session before held now ends left given pair all lent gives one =
      let more : length (left ++ pair ∷ []) ≡ length left + 1 = length-append left (pair ∷ []) in
      let count : length ends ≡ length (left ++ pair ∷ []) + length given =
      ap length all ∙ length-append (left ++ pair ∷ []) given in
      let at_home : held.lent (length left) ≡ true = gives.lent (length left)
      ∙ lent (length left) (omega (arith, more, count)) in
      record {
        back = λ n p above at. ⊎_elim
            (λ (same : n ≡ length left). ap now.sessions same ∙ one.back at_home
            ∙ ap Some (get-there left given pair p
            (ap (slice_get ((left ++ pair ∷ []) ++ given)) (sym same)
            ∙ ap (λ l. slice_get l n) (sym all) ∙ at)))
            (λ (other : n ≡ length left → ⊥). one.others n other
            ∙ gives.back n p (omega (arith, above, other, more)) at)
            (cases_eq n (length left));
        others = λ n not.
            one.others n (λ same. not (omega (arith, same)) (omega (arith, same, more, count)))
            ∙ gives.others n (λ above below. not (omega (arith, above, more)) below);
        lent = λ n. one.lent n ∙ gives.lent n;
        disks = disks-then before held now gives.disks one.disks;
        report = report-then before held now gives.report one.report;
      }

  -- all are given
  pub gives-all-sessions : (before after : Held In Out Pages) (ends left : List (In × Out))
      → left ≡ [] → GivesEndsFrom before after ends (length left)
      → GivesSessions before after ends
  gives-all-sessions before after ends left none gives =
      let zero_is : length left ≡ 0 = ap length none in record {
        back = λ n pair at. gives.back n pair (omega (arith, zero_is)) at;
        others = λ n past. gives.others n (λ above below. omega (arith, past, below));
        disks = gives.disks;
        report = gives.report;
      }

  -- the same of ends that stand in other things
  module _ {X : Type 0} (f : X → In × Out) (before : Held In Out Pages) (all : List X) where
    pub gives-none-of : GivesEndsFrom before before (map f all) (length all)
    gives-none-of = subst (GivesEndsFrom before before (map f all)) (length-map all f)
        (gives-no-session before (map f all))

    pub gives-next-of : (held now : Held In Out Pages) (left given : List X) (x : X)
        → all ≡ (left ++ x ∷ []) ++ given → AreLent before (length all)
        → GivesEndsFrom before held (map f all) (length (left ++ x ∷ []))
        → GivesSession held now (length left) (f x)
        → GivesEndsFrom before now (map f all) (length left)
    gives-next-of held now left given x is lent gives one =
        let front = map-append f left (x ∷ []) in
        subst (GivesEndsFrom before now (map f all)) (length-map left f)
        (gives-next-session before held now (map f all) (map f left) (map f given) (f x)
        (ap (map f) is ∙ map-append f (left ++ x ∷ []) given ∙ ap (λ l. l ++ map f given) front)
        (subst (AreLent before) (sym (length-map all f)) lent)
        (subst (GivesEndsFrom before held (map f all))
        (sym (length-map (left ++ x ∷ []) f) ∙ ap length front) gives)
        (subst (λ n. GivesSession held now n (f x)) (sym (length-map left f)) one))

    pub gives-all-of : (after : Held In Out Pages) (left : List X) → left ≡ []
        → GivesEndsFrom before after (map f all) (length left)
        → GivesSessions before after (map f all)
    gives-all-of after left none gives = gives-all-sessions before after (map f all) [] refl
        (subst (GivesEndsFrom before after (map f all)) (ap length none) gives)
