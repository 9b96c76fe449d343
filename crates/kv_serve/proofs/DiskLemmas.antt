-- The disks of the first workers are taken one by one, and given back from the last on.
use Rattle.std.proofs.Common.{◌≡◌, inl, inr, ℕ, ◌<◌, ◌≤◌, ◌+◌, List, [], ◌∷◌}
use Rattle.std.proofs.Common.{◌++◌, length, map, slice_get, Some}
use Rattle.std.proofs.Common.{refl, sym, ap, ◌∙◌, subst, arith, length-append, ⊎_elim}
use Rattle.std.proofs.lemmas.List.{length-map, map-append}
use Rattle.std.proofs.lemmas.Bool.{cases_eq}
use Rattle.std.proofs.lemmas.Option.{same_Some, slice_get_within}
use Rattle.kv_site.specs.Held.{Held, SessionsStay, ReportStays, TakesDisk, GivesDisk}
use Rattle.kv_serve.specs.Taken.{AreHome, GivesDisks, TookDisks}
use Rattle.kv_serve.proofs.PlaceLemmas.{get-more, get-there}

module _ {In Out Pages : Type 0} where
  pub stays-none : (held : Held In Out Pages) → SessionsStay held held
  stays-none held = record { held = λ n. refl; lent = λ n. refl }

  pub stays-then : (a b c : Held In Out Pages) → SessionsStay a b → SessionsStay b c → SessionsStay a c
  stays-then a b c first second = record {
    held = λ n. second.held n ∙ first.held n;
    lent = λ n. second.lent n ∙ first.lent n;
  }

  pub report-none : (held : Held In Out Pages) → ReportStays held held
  report-none held = record { held = refl; lent = refl }

  pub report-then : (a b c : Held In Out Pages) → ReportStays a b → ReportStays b c → ReportStays a c
  report-then a b c first second = record {
    held = second.held ∙ first.held;
    lent = second.lent ∙ first.lent;
  }

  -- no disk is taken
  pub took-none : (held : Held In Out Pages) (folder : List ℕ) → TookDisks held held folder []
  took-none held folder = record {
    was = λ worker disk at. absurd (cc);
    home = λ worker below. absurd (omega (arith, below));
    others = λ other worker not. refl;
    sessions = stays-none held;
    report = report-none held;
  }

  -- one disk more is taken
  pub took-next : (before held now : Held In Out Pages) (folder : List ℕ) (disks : List Pages)
      (worker : ℕ) (disk : Pages) → worker ≡ length disks → TookDisks before held folder disks
      → TakesDisk held now folder worker disk → TookDisks before now folder (disks ++ disk ∷ [])
  took-next before held now folder disks worker disk last took takes =
      let count : length (disks ++ disk ∷ []) ≡ length disks + 1 = length-append disks (disk ∷ []) in
      record {
        was = λ w d at. elim (get-more disks disk d w at) [
          | inl here ↦ took.was w d here
          | inr there ↦
              let free : folder ≡ folder → w < length disks → ⊥ =
              λ same below. absurd (omega (arith, below, there.0)) in
              sym (took.others folder w free)
              ∙ ap (held.disks folder) (there.0 ∙ sym last) ∙ takes.was ∙ ap Some there.1
        ];
        home = λ w below. ⊎_elim
            (λ (same : w ≡ worker). ap now.home same ∙ takes.home)
            (λ (other : w ≡ worker → ⊥). takes.other_homes w other
            ∙ took.home w (omega (arith, below, count, last, other)))
            (cases_eq w worker);
        others = λ other w not.
            takes.others other w (λ same at. not same (omega (arith, at, last, count)))
            ∙ took.others other w (λ same below. not same (omega (arith, below, count)));
        sessions = stays-then before held now took.sessions takes.sessions;
        report = report-then before held now took.report takes.report;
      }

  -- the disks from one on stand in the folder, and nothing else changed
  pub record GivesFrom (before after : Held In Out Pages) (folder : List ℕ) (disks : List Pages)
      (count : ℕ) : Type 0 where
    pub back : (worker : ℕ) (disk : Pages) → count ≤ worker → slice_get disks worker ≡ Some disk
        → after.disks folder worker ≡ Some disk
    pub others : (other : List ℕ) (worker : ℕ)
        → (other ≡ folder → count ≤ worker → worker < length disks → ⊥)
        → after.disks other worker ≡ before.disks other worker
    pub homes : (worker : ℕ) → after.home worker ≡ before.home worker
    pub sessions : SessionsStay before after
    pub report : ReportStays before after

  pub gives-none : (held : Held In Out Pages) (folder : List ℕ) (disks : List Pages)
      → GivesFrom held held folder disks (length disks)
  gives-none held folder disks = record {
    back = λ worker disk above at.
        absurd (omega (arith, above, slice_get_within disks worker disk at));
    others = λ other worker not. refl;
    homes = λ worker. refl;
    sessions = stays-none held;
    report = report-none held;
  }

  -- the one before them, too
  pub gives-next : (before held now : Held In Out Pages) (folder : List ℕ)
      (disks left given : List Pages) (disk : Pages)
      → disks ≡ (left ++ disk ∷ []) ++ given → AreHome before folder (length disks)
      → GivesFrom before held folder disks (length (left ++ disk ∷ []))
      → GivesDisk held now (length left) disk → GivesFrom before now folder disks (length left)
  gives-next before held now folder disks left given disk all home gives one =
      let more : length (left ++ disk ∷ []) ≡ length left + 1 = length-append left (disk ∷ []) in
      let count : length disks ≡ length (left ++ disk ∷ []) + length given =
      ap length all ∙ length-append (left ++ disk ∷ []) given in
      let at_home : held.home (length left) ≡ Some folder = gives.homes (length left)
      ∙ home (length left) (omega (arith, more, count)) in
      record {
        back = λ w d above at. ⊎_elim
            (λ (same : w ≡ length left). ap (now.disks folder) same ∙ one.back folder at_home
            ∙ ap Some (get-there left given disk d
            (ap (slice_get ((left ++ disk ∷ []) ++ given)) (sym same)
            ∙ ap (λ l. slice_get l w) (sym all) ∙ at)))
            (λ (other : w ≡ length left → ⊥). one.others folder w (λ is same. other same)
            ∙ gives.back w d (omega (arith, above, other, more)) at)
            (cases_eq w (length left));
        others = λ other w not.
            one.others other w (λ is same.
            not (same_Some other folder (sym is ∙ at_home)) (omega (arith, same))
            (omega (arith, same, more, count)))
            ∙ gives.others other w (λ same above below. not same (omega (arith, above, more)) below);
        homes = λ w. one.homes w ∙ gives.homes w;
        sessions = stays-then before held now gives.sessions one.sessions;
        report = report-then before held now gives.report one.report;
      }

  -- all are given
  pub gives-all : (before after : Held In Out Pages) (folder : List ℕ) (disks left : List Pages)
      → left ≡ [] → GivesFrom before after folder disks (length left)
      → GivesDisks before after folder disks
  gives-all before after folder disks left none gives =
      let zero_is : length left ≡ 0 = ap length none in record {
        back = λ w d at. gives.back w d (omega (arith, zero_is)) at;
        others = λ other w not. gives.others other w (λ same above below. not same below);
        sessions = gives.sessions;
        report = gives.report;
      }

  -- the one disk and then those before it are given
  pub gives-behind : (before between after : Held In Out Pages) (folder : List ℕ)
      (disks : List Pages) (disk : Pages) → AreHome before folder (length disks + 1)
      → GivesDisk before between (length disks) disk
      → (AreHome between folder (length disks) → GivesDisks between after folder disks)
      → GivesDisks before after folder (disks ++ disk ∷ [])
  gives-behind before between after folder disks disk home one gives =
      let more : length (disks ++ disk ∷ []) ≡ length disks + 1 = length-append disks (disk ∷ []) in
      let at_home : before.home (length disks) ≡ Some folder = home (length disks) (omega arith) in
      let back = gives (λ w below. one.homes w ∙ home w (omega (arith, below))) in
      record {
        back = λ w d at. elim (get-more disks disk d w at) [
          | inl here ↦ back.back w d here
          | inr there ↦
              let past : folder ≡ folder → w < length disks → ⊥ =
              λ same below. absurd (omega (arith, below, there.0)) in
              back.others folder w past ∙ ap (between.disks folder) there.0
              ∙ one.back folder at_home ∙ ap Some there.1
        ];
        others = λ other w not.
            back.others other w (λ same below. not same (omega (arith, below, more)))
            ∙ one.others other w (λ is same.
            not (same_Some other folder (sym is ∙ at_home)) (omega (arith, same, more)));
        sessions = stays-then before between after one.sessions back.sessions;
        report = report-then before between after one.report back.report;
      }

  -- the same of disks that stand in other things
  module _ {X : Type 0} (f : X → Pages) (before : Held In Out Pages) (folder : List ℕ)
      (all : List X) where
    pub gives-none-of : GivesFrom before before folder (map f all) (length all)
    gives-none-of = subst (GivesFrom before before folder (map f all)) (length-map all f)
        (gives-none before folder (map f all))

    pub gives-next-of : (held now : Held In Out Pages) (left given : List X) (x : X)
        → all ≡ (left ++ x ∷ []) ++ given → AreHome before folder (length all)
        → GivesFrom before held folder (map f all) (length (left ++ x ∷ []))
        → GivesDisk held now (length left) (f x)
        → GivesFrom before now folder (map f all) (length left)
    gives-next-of held now left given x is home gives one =
        let front = map-append f left (x ∷ []) in
        subst (GivesFrom before now folder (map f all)) (length-map left f)
        (gives-next before held now folder (map f all) (map f left) (map f given) (f x)
        (ap (map f) is ∙ map-append f (left ++ x ∷ []) given ∙ ap (λ l. l ++ map f given) front)
        (subst (AreHome before folder) (sym (length-map all f)) home)
        (subst (GivesFrom before held folder (map f all))
        (sym (length-map (left ++ x ∷ []) f) ∙ ap length front) gives)
        (subst (λ n. GivesDisk held now n (f x)) (sym (length-map left f)) one))

    pub gives-all-of : (after : Held In Out Pages) (left : List X) → left ≡ []
        → GivesFrom before after folder (map f all) (length left)
        → GivesDisks before after folder (map f all)
    gives-all-of after left none gives = gives-all before after folder (map f all) [] refl
        (subst (GivesFrom before after folder (map f all)) (ap length none) gives)
