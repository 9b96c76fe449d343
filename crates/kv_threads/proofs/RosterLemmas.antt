-- Rosters, and what turns leave of them.
use Rattle.std.proofs.Common.{◌≡◌, ◌+◌, List, [], ◌∷◌, ◌++◌, Some, true, refl, ap, ◌∙◌, arith}
use Rattle.std.proofs.lemmas.List.Elements.{AllZip-push, All-nil, All-push, All-pop}
use Rattle.atomic_table.specs.Seated.{TableId}
use Rattle.kv_threads.proofs.ContinuingLemmas.{DrawFrom-later, AllContinue-still, AllContinue-on}
use Rattle.kv_threads.proofs.ContinuingLemmas.{Continues-on}
use Rattle.kv_threads.proofs.ZipLemmas.{AllZip-pop}
use Rattle.kv_threads.specs.Continuing.{Continues, AllContinue, DrawFrom, HaveRun}
use Rattle.kv_threads.specs.Listed.{Listed, ListedDrawFrom, ListedContinue, ListedHaveEnded, listed}
use Rattle.kv_threads.specs.declared.party.Party as parties

module _ {P : Type 0} (p : parties.Ghosts P) where
  pub ListedDrawFrom-later : (counter : TableId) (old new : Listed P) → ListedContinue p old new
      → ListedDrawFrom p counter old → ListedDrawFrom p counter new
  ListedDrawFrom-later counter old new goes draw = (
    DrawFrom-later p counter old.waiting new.waiting goes.waiting draw.0,
    DrawFrom-later p counter old.stayed new.stayed goes.stayed draw.1,
  )

  -- no party stays, and none is away
  pub ListedDrawFrom-new : (counter : TableId) (all : List P) → DrawFrom p counter all
      → ListedDrawFrom p counter (listed all [] 0)
  ListedDrawFrom-new counter all draw = (draw, All-nil (λ (x : P). p.counter x ≡ counter))

  -- all that waited have run
  pub HaveRun-listed : (counter : TableId) (old : List P) (was later : Listed P)
      → was ≡ listed old [] 0 → ListedContinue p was later → ListedHaveEnded p later
      → DrawFrom p counter old → HaveRun p counter old later.waiting
  HaveRun-listed counter old was later e on ended draw =
      let waited : AllContinue p old later.waiting =
      rw (← ap (λ (l : Listed P). l.waiting) e) on.waiting in
      record {
        each = waited;
        ended = ended.0;
        draw = DrawFrom-later p counter old later.waiting waited draw;
      }

  -- the last party that waited is taken from the roster
  pub ListedDrawFrom-sent : (counter : TableId) (old sent : Listed P) (party : P)
      → old.waiting ≡ sent.waiting ++ party ∷ [] → sent.stayed ≡ old.stayed
      → ListedDrawFrom p counter old → ListedDrawFrom p counter sent × (p.counter party ≡ counter)
  ListedDrawFrom-sent counter old sent party was same draw =
      let parts = All-pop (λ (x : P). p.counter x ≡ counter) old.waiting sent.waiting (Some party)
      was draw.0 in
      ((parts.0, rw same draw.1), parts.1)

  -- one more party stays
  pub ListedDrawFrom-left : (counter : TableId) (sent left : Listed P) (before : P)
      → left.waiting ≡ sent.waiting → left.stayed ≡ sent.stayed ++ before ∷ []
      → ListedDrawFrom p counter sent → p.counter before ≡ counter → ListedDrawFrom p counter left
  ListedDrawFrom-left counter sent left before waits stays draw own = (
    rw waits draw.0,
    rw stays (All-push (λ (x : P). p.counter x ≡ counter) sent.stayed before
        draw.1 own),
  )

  -- one more party that has ended waits
  pub HaveEnded-away : (back new : Listed P) (later : P) → new.waiting ≡ back.waiting ++ later ∷ []
      → new.stayed ≡ back.stayed → ListedHaveEnded p back → p.ended later ≡ true
      → ListedHaveEnded p new
  HaveEnded-away back new later now kept ended one = (
    rw now (All-push (λ (x : P). p.ended x ≡ true) back.waiting later ended.0 one),
    rw kept ended.1,
  )

  -- the last party that stayed waits
  pub HaveEnded-stays : (back new : Listed P) (later : P)
      → back.stayed ≡ new.stayed ++ later ∷ [] → new.waiting ≡ back.waiting ++ later ∷ []
      → ListedHaveEnded p back → ListedHaveEnded p new
  HaveEnded-stays back new later popped now ended =
      let parts = All-pop (λ (x : P). p.ended x ≡ true) back.stayed new.stayed (Some later) popped
      ended.1 in
      (rw now (All-push (λ (x : P). p.ended x ≡ true) back.waiting later ended.0 parts.1), parts.0)

  module _ (still : (party : P) → p.Stays party party)
      (on : (party later latest : P) → p.Stays party later → p.Stays later latest
      → p.Stays party latest) where
    pub ListedContinue-still : (all : Listed P) → ListedContinue p all all
    ListedContinue-still all = record {
      waiting = AllContinue-still p still on all.waiting;
      stayed = AllContinue-still p still on all.stayed;
      away = refl;
    }

    pub ListedContinue-on : (old new newer : Listed P) → ListedContinue p old new → ListedContinue
        p new newer
        → ListedContinue p old newer
    ListedContinue-on old new newer a b = record {
      waiting = AllContinue-on p still on old.waiting new.waiting newer.waiting a.waiting b.waiting;
      stayed = AllContinue-on p still on old.stayed new.stayed newer.stayed a.stayed b.stayed;
      away = b.away ∙ a.away;
    }

    -- the last party that waited is turned on a thread of its own and comes back
    pub ListedContinue-away : (old sent back new : Listed P) (party later : P)
        → old.waiting ≡ sent.waiting ++ party ∷ [] → sent.stayed ≡ old.stayed
        → sent.away ≡ old.away + 1 → ListedContinue p sent back → Continues p party later
        → new.waiting ≡ back.waiting ++ later ∷ [] → new.stayed ≡ back.stayed
        → new.away + 1 ≡ back.away → ListedContinue p old new
    ListedContinue-away old sent back new party later was same one goes turned now kept less =
        record {
          waiting = rw (was, now) (AllZip-push (Continues p) sent.waiting back.waiting party later
              goes.waiting turned);
          stayed = rw (kept, ← same) goes.stayed;
          away = omega (arith, less, goes.away, one);
        }

    -- the last party that waited stays, is turned with the others, and waits again
    pub ListedContinue-stays : (old sent left back new : Listed P) (party before later : P)
        → old.waiting ≡ sent.waiting ++ party ∷ [] → sent.stayed ≡ old.stayed
        → sent.away ≡ old.away + 1 → Continues p party before → left.waiting ≡ sent.waiting
        → left.stayed ≡ sent.stayed ++ before ∷ [] → left.away + 1 ≡ sent.away
        → ListedContinue p left back → back.stayed ≡ new.stayed ++ later ∷ []
        → new.waiting ≡ back.waiting ++ later ∷ [] → new.away ≡ back.away → ListedContinue p old new
    ListedContinue-stays old sent left back new party before later was same one goes waits stays
        less
        turned popped now kept =
        let both : AllContinue p (sent.stayed ++ before ∷ []) (new.stayed ++ later ∷ []) =
        rw (← stays, ← popped) turned.stayed in
        let parts = AllZip-pop (Continues p) sent.stayed new.stayed before later both in
        let waited : AllContinue p sent.waiting back.waiting = rw (← waits) turned.waiting in
        record {
          waiting = rw (was, now) (AllZip-push (Continues p) sent.waiting back.waiting party later
              waited (Continues-on p still on party before later goes parts.1));
          stayed = rw (← same) parts.0;
          away = omega (arith, kept, turned.away, less, one);
        }
