-- Lemmas on the messages that wait for a place in a ring.
use Rattle.std.proofs.Common.{◌≡◌, ◌≢◌, ⊎_elim, ℕ, zero, suc, ◌+◌, ◌<◌, ◌≤◌, List, [], ◌∷◌}
use Rattle.std.proofs.Common.{◌++◌}
use Rattle.std.proofs.Common.{length, set, get_or, Option, None, Some, Bool, true, false}
use Rattle.std.proofs.Common.{cond}
use Rattle.std.proofs.Common.{refl, sym, ap, ◌∙◌, subst, arith}
use Rattle.std.specs.Prelude.{◌||◌, option_to_list}
use Rattle.std.proofs.lemmas.List.{append-nil, length-set, get_or-set_same, get_or-set_other}
use Rattle.std.proofs.lemmas.List.{get_or_read, get_or_past}
use Rattle.kv_ring.specs.Ends.{SameRings, sent_to, places_to, only_at}
use Rattle.kv_ring.specs.declared.message.Ask.{Ask}
use Rattle.kv_ring.specs.declared.message.Ask.TheVariants as ask
use Rattle.kv_session_party.specs.Links.{any_went, Pushes, told_to, heard_from, coming_from}
use Rattle.kv_session_party.specs.Links.{waiting_for, WaitsForPlaces}
use Rattle.kv_session_party.specs.Sending.{Sends, has_gone}
use Rattle.kv_session_party.specs.declared.links.Links.{Links}
use Rattle.kv_session_party.proofs.RouteLemmas.{eq_self, eq_not, same_or_not}
use Rattle.kv_session_party.proofs.ExchangeLemmas.{by-last, not-last, rings-refl, rings-trans}
use Rattle.kv_session_party.proofs.ExchangeLemmas.{before_or_not, full-more}

or-later : (a b c : Bool) → (c || b) ≡ ((false || b) || c)
or-later a true true = refl
or-later a true false = refl
or-later a false true = refl
or-later a false false = refl

or-inner : (a b c : Bool) → (a || (b || c)) ≡ ((a || b) || c)
or-inner true b c = refl
or-inner false b c = refl

module _ {F : Type 0} where
  pub gone-none : (waiting : Option (Ask F)) → has_gone waiting waiting ≡ false
  gone-none None = refl
  gone-none (Some message) = refl

  pub went-none : (unsent : List (Option (Ask F))) → any_went unsent unsent ≡ false
  went-none [] = refl
  went-none (waiting ∷ unsent) = ap (λ b. b || any_went unsent unsent) (gone-none waiting)
      ∙ went-none unsent

  -- where one more went, one went
  pub went-set : (unsent later : List (Option (Ask F))) (k : ℕ) (was left : Option (Ask F))
      → k < length later → length later ≡ length unsent → get_or unsent k None ≡ was
      → get_or later k None ≡ was
      → any_went unsent (set later k left) ≡ (any_went unsent later || has_gone was left)
  went-set [] later k was left lt many is same = absurd (omega (arith, lt, many))
  went-set (u ∷ unsent) [] k was left lt many is same = absurd (omega (arith, lt))
  went-set (u ∷ unsent) (l ∷ later) zero was left lt many is same =
      ap (λ (o : Option (Ask F)). has_gone o left || any_went unsent later) is
      ∙ or-later false (any_went unsent later) (has_gone was left)
      ∙ ap (λ b. (b || any_went unsent later) || has_gone was left) (sym (gone-none was))
      ∙ ap (λ (o : Option (Ask F)). (has_gone o was || any_went unsent later) || has_gone was left)
      (sym is)
      ∙ ap (λ (o : Option (Ask F)). (has_gone u o || any_went unsent later) || has_gone was left)
      (sym same)
  went-set (u ∷ unsent) (l ∷ later) (suc k) was left lt many is same =
      ap (λ b. has_gone u l || b) (went-set unsent later k was left (omega (arith, lt))
      (omega (arith, many)) is same)
      ∙ or-inner (has_gone u l) (any_went unsent later) (has_gone was left)

-- ---- sending what waits

module _ {F : Type 0} (links : Links F) where
  -- the messages for the workers below this number were sent or wait on
  pub record PushesUpTo (now : Links F) (worker : ℕ) (moved : Bool) : Type 0 where
    pub told : (other : ℕ) → told_to now other ≡ told_to links other
    pub free : (other : ℕ) → waiting_for links other ≡ None → waiting_for now other ≡ None
    pub heard : (other : ℕ) → heard_from now other ≡ heard_from links other
    pub coming : (other : ℕ) → coming_from now other ≡ coming_from links other
    pub rest : (other : ℕ) → worker ≤ other → waiting_for now other ≡ waiting_for links other
    pub full : (other : ℕ) → other < worker → waiting_for now other ≢ None
        → places_to now.ends other ≡ 0
    pub place : (other : ℕ) → other < worker → 0 < places_to links.ends other
        → waiting_for now other ≡ None
    pub places : (other : ℕ) → worker ≤ other
        → places_to now.ends other ≡ places_to links.ends other
    pub size : length now.unsent.items ≡ length links.unsent.items
    pub moved_is : moved ≡ any_went links.unsent.items now.unsent.items
    pub rings : SameRings links.ends now.ends

  pub PushesUpTo-none : PushesUpTo links 0 false
  PushesUpTo-none = record {
    told = λ other. refl;
    free = λ other none. none;
    heard = λ other. refl;
    coming = λ other. refl;
    rest = λ other le. refl;
    full = λ other lt. absurd (omega (arith, lt));
    place = λ other lt. absurd (omega (arith, lt));
    places = λ other le. refl;
    size = refl;
    moved_is = sym (went-none links.unsent.items);
    rings = rings-refl links.ends;
  }

  module _ (now next : Links F) (worker : ℕ) (was left : Option (Ask F))
      (lt : worker < length now.unsent.items)
      (is : was ≡ get_or now.unsent.items worker was)
      (sends : Sends worker now.ends next.ends was left)
      (items : next.unsent.items ≡ set now.unsent.items worker left) where
    was-is : waiting_for now worker ≡ was
    was-is = sym (get_or_read now.unsent.items worker was lt is None)

    left-is : waiting_for next worker ≡ left
    left-is = ap (λ ws. get_or ws worker None) items
        ∙ get_or-set_same now.unsent.items worker left None lt

    there : (other : ℕ) → other ≢ worker → waiting_for next other ≡ waiting_for now other
    there other ne = ap (λ ws. get_or ws other None) items
        ∙ get_or-set_other now.unsent.items worker other left None ne

    told-all : (other : ℕ) → told_to next other ≡ told_to now other
    told-all other = ⊎_elim
        (λ (e : other ≡ worker). subst (λ w. told_to next w ≡ told_to now w) (sym e)
        (ap (λ o. sent_to next.ends worker ++ option_to_list o) left-is ∙ sends.sent
        ∙ ap (λ o. sent_to now.ends worker ++ option_to_list o) (sym was-is)))
        (λ (ne : other ≢ worker). ap (λ o. sent_to next.ends other ++ option_to_list o)
        (there other ne) ∙ ap (λ (xs : List (Ask F)). xs
        ++ option_to_list (waiting_for now other)) (sends.others other ne))
        (same_or_not other worker)

    free-all : (other : ℕ) → waiting_for now other ≡ None → waiting_for next other ≡ None
    free-all other none = ⊎_elim
        (λ (e : other ≡ worker). subst (λ w. waiting_for next w ≡ None) (sym e)
        (left-is ∙ sends.none (sym was-is
        ∙ subst (λ w. waiting_for now w ≡ None) e none)))
        (λ (ne : other ≢ worker). there other ne ∙ none)
        (same_or_not other worker)

    pub PushesUpTo-more : (moved sent : Bool) → sent ≡ has_gone was left
        → PushesUpTo now worker moved → PushesUpTo next (worker + 1) (moved || sent)
    PushesUpTo-more moved sent gone u = record {
      told = λ other. told-all other ∙ u.told other;
      free = λ other none. free-all other (u.free other none);
      heard = λ other. sends.received other ∙ u.heard other;
      coming = λ other. sends.known other ∙ u.coming other;
      rest = λ other le. there other (not-last worker other le)
          ∙ u.rest other (omega (arith, le));
      full = by-last (λ w. waiting_for next w ≢ None → places_to next.ends w ≡ 0) worker
          (λ waits. sends.full (λ none. waits (left-is ∙ none)))
          (λ other ne less waits. sends.other_places other ne
          ∙ u.full other less (λ none. waits (there other ne ∙ none)));
      place = by-last (λ w. 0 < places_to links.ends w → waiting_for next w ≡ None) worker
          (λ some. left-is ∙ sends.place (subst (λ n. 0 < n)
          (sym (u.places worker (omega arith))) some))
          (λ other ne less some. there other ne ∙ u.place other less some);
      places = λ other le. sends.other_places other (not-last worker other le)
          ∙ u.places other (omega (arith, le));
      size = ap length items ∙ length-set now.unsent.items worker left ∙ u.size;
      moved_is = ap (λ b. b || sent) u.moved_is
          ∙ ap (λ b. any_went links.unsent.items now.unsent.items || b) gone
          ∙ sym (went-set links.unsent.items now.unsent.items worker was left lt u.size
          (sym (u.rest worker (omega arith)) ∙ was-is) was-is)
          ∙ ap (any_went links.unsent.items) (sym items);
      rings = rings-trans links.ends now.ends next.ends u.rings sends.rings;
    }

  pub PushesUpTo-all : (now : Links F) (worker : ℕ) (moved : Bool)
      → length links.unsent.items ≤ worker → PushesUpTo now worker moved → Pushes links now
  PushesUpTo-all now worker moved all u =
      let size = u.size in
      let past : (other : ℕ) → worker ≤ other → waiting_for now other ≡ None =
      λ other le. get_or_past now.unsent.items other None (omega (arith, all, le, size)) in
      record {
        told = u.told;
        free = u.free;
        full = λ other waits. ⊎_elim (λ (lt : other < worker). u.full other lt waits)
            (λ (le : worker ≤ other). absurd (waits (past other le)))
            (before_or_not other worker);
        place = λ other some. ⊎_elim (λ (lt : other < worker). u.place other lt some)
            (λ (le : worker ≤ other). past other le) (before_or_not other worker);
        heard = u.heard;
        coming = u.coming;
      }

-- ---- the end

module _ {F : Type 0} (links : Links F) where
  -- the workers below this number were told that the session has ended
  pub record ByesUpTo (now : Links F) (worker : ℕ) : Type 0 where
    pub told : (other : ℕ) → other < worker
        → told_to now other ≡ told_to links other ++ ask.Bye ∷ []
    pub untold : (other : ℕ) → worker ≤ other → told_to now other ≡ told_to links other
    pub unused : (other : ℕ) → worker ≤ other → waiting_for now other ≡ None
    pub full : WaitsForPlaces now
    pub heard : (other : ℕ) → (heard_from now other ≡ heard_from links other)
        × (coming_from now other ≡ coming_from links other)
    pub rings : SameRings links.ends now.ends

  pub ByesUpTo-none : ((other : ℕ) → waiting_for links other ≡ None) → ByesUpTo links 0
  ByesUpTo-none free = record {
    told = λ other lt. absurd (omega (arith, lt));
    untold = λ other le. refl;
    unused = λ other le. free other;
    full = λ other waits. absurd (waits (free other));
    heard = λ other. (refl, refl);
    rings = rings-refl links.ends;
  }

  pub ByesUpTo-more : (now next : Links F) (worker : ℕ)
      → ((other : ℕ) → told_to next other
      ≡ told_to now other ++ only_at worker other (ask.Bye ∷ []))
      → ((other : ℕ) → other ≢ worker → waiting_for next other ≡ waiting_for now other)
      → (waiting_for next worker ≢ None → places_to next.ends worker ≡ 0)
      → ((other : ℕ) → other ≢ worker → places_to next.ends other ≡ places_to now.ends other)
      → ((other : ℕ) → (heard_from next other ≡ heard_from now other)
      × (coming_from next other ≡ coming_from now other))
      → SameRings now.ends next.ends → ByesUpTo now worker → ByesUpTo next (worker + 1)
  ByesUpTo-more now next worker told others here places heard rings u =
      let bye : List (Ask F) = ask.Bye ∷ [] in
      let there : (other : ℕ) → other ≢ worker → told_to next other ≡ told_to now other =
      λ other ne. told other
      ∙ ap (λ b. told_to now other ++ cond b bye []) (eq_not other worker ne)
      ∙ append-nil (told_to now other) in
      record {
        told = by-last (λ w. told_to next w ≡ told_to links w ++ bye) worker
            (told worker ∙ ap (λ b. told_to now worker ++ cond b bye []) (eq_self worker)
            ∙ ap (λ (xs : List (Ask F)). xs ++ bye) (u.untold worker (omega arith)))
            (λ other ne less. there other ne ∙ u.told other less);
        untold = λ other le. there other (not-last worker other le)
            ∙ u.untold other (omega (arith, le));
        unused = λ other le. others other (not-last worker other le)
            ∙ u.unused other (omega (arith, le));
        full = full-more now next worker here others places u.full;
        heard = λ other.
            ((heard other).0 ∙ (u.heard other).0, (heard other).1 ∙ (u.heard other).1);
        rings = rings-trans links.ends now.ends next.ends u.rings rings;
      }
