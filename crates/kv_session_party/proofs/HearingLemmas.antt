-- Which answers a session hears.
use Rattle.std.proofs.Common.{◌≡◌, inl, inr, ◌≤◌, List, [], ◌∷◌, ◌++◌, length, refl, ap}
use Rattle.std.proofs.Common.{arith}
use Rattle.kv_ring.specs.declared.message.Answer.{Answer}
use Rattle.kv_ring.specs.declared.message.Ask.{Ask}
use Rattle.kv_parties.specs.Messages.{Hears, IsAnswerTo}

module _ {F : Type 0} where
  hears-none : (messages : List (Ask F)) (heard : List (Answer F)) → heard ≡ []
      → Hears messages [] heard
  hears-none [] heard e = e
  hears-none (message ∷ messages) heard e = e

  none-heard : (messages : List (Ask F)) (heard : List (Answer F)) → Hears messages [] heard
      → heard ≡ []
  none-heard [] heard hears = hears
  none-heard (message ∷ messages) heard hears = hears

  -- nothing came
  pub Hears-new : (messages : List (Ask F)) → Hears messages [] []
  Hears-new messages = hears-none messages [] refl

  -- more messages were sent
  pub Hears-more : (messages more : List (Ask F)) (came heard : List (Answer F))
      → Hears messages came heard → Hears (messages ++ more) came heard
  Hears-more messages more [] heard hears =
      hears-none (messages ++ more) heard (none-heard messages heard hears)
  Hears-more [] more (next ∷ came) heard hears = absurd hears
  Hears-more (message ∷ messages) more (next ∷ came) heard (inl here) =
      inl (here.0, here.1, Hears-more messages more came here.0 here.2)
  Hears-more (message ∷ messages) more (next ∷ came) heard (inr passed) =
      inr (passed.0, Hears-more (message ∷ messages) more came heard passed.1)

  pub Hears-length : (messages : List (Ask F)) (came heard : List (Answer F))
      → Hears messages came heard → length heard ≤ length messages
  Hears-length messages [] heard hears =
      let size = ap length (none-heard messages heard hears) in omega (arith, size)
  Hears-length [] (next ∷ came) heard hears = absurd hears
  Hears-length (message ∷ messages) (next ∷ came) heard (inl here) =
      let size = ap length here.1 in
      let more = Hears-length messages came here.0 here.2 in
      omega (arith, size, more)
  Hears-length (message ∷ messages) (next ∷ came) heard (inr passed) =
      Hears-length (message ∷ messages) came heard passed.1

  -- the answer to the last message is heard
  pub Hears-taken : (earlier : List (Ask F)) (last : Ask F) (came heard : List (Answer F))
      (answer : Answer F) → length earlier ≡ length heard → Hears (earlier ++ last ∷ []) came heard
      → Hears (earlier ++ last ∷ []) (came ++ answer ∷ []) (heard ++ answer ∷ [])
  Hears-taken [] last [] heard answer size hears = inl (
    [],
    ap (λ (xs : List (Answer F)). xs ++ answer ∷ []) (none-heard (last ∷ []) heard hears),
    hears-none [] [] refl,
  )
  Hears-taken (ask ∷ earlier) last [] heard answer size hears =
      let none = ap length (none-heard (ask ∷ earlier ++ last ∷ []) heard hears) in
      absurd (omega (arith, size, none))
  Hears-taken [] last (next ∷ came) heard answer size (inl here) =
      let some = ap length here.1 in absurd (omega (arith, size, some))
  Hears-taken [] last (next ∷ came) heard answer size (inr passed) =
      inr (passed.0, Hears-taken [] last came heard answer size passed.1)
  Hears-taken (ask ∷ earlier) last (next ∷ came) heard answer size (inl here) =
      let some = ap length here.1 in inl (
        here.0 ++ answer ∷ [],
        ap (λ (xs : List (Answer F)). xs ++ answer ∷ []) here.1,
        Hears-taken earlier last came here.0 answer (omega (arith, size, some)) here.2,
      )
  Hears-taken (ask ∷ earlier) last (next ∷ came) heard answer size (inr passed) =
      inr (passed.0, Hears-taken (ask ∷ earlier) last came heard answer size passed.1)

  -- an answer that is none to the last message is passed over
  pub Hears-passed : (earlier : List (Ask F)) (last : Ask F) (came heard : List (Answer F))
      (answer : Answer F) → (IsAnswerTo last answer → ⊥) → length earlier ≡ length heard
      → Hears (earlier ++ last ∷ []) came heard
      → Hears (earlier ++ last ∷ []) (came ++ answer ∷ []) heard
  Hears-passed [] last [] heard answer none size hears =
      inr (none, hears-none (last ∷ []) heard (none-heard (last ∷ []) heard hears))
  Hears-passed (ask ∷ earlier) last [] heard answer none size hears =
      let nothing = ap length (none-heard (ask ∷ earlier ++ last ∷ []) heard hears) in
      absurd (omega (arith, size, nothing))
  Hears-passed [] last (next ∷ came) heard answer none size (inl here) =
      let some = ap length here.1 in absurd (omega (arith, size, some))
  Hears-passed [] last (next ∷ came) heard answer none size (inr passed) =
      inr (passed.0, Hears-passed [] last came heard answer none size passed.1)
  Hears-passed (ask ∷ earlier) last (next ∷ came) heard answer none size (inl here) =
      let some = ap length here.1 in inl (
        here.0,
        here.1,
        Hears-passed earlier last came here.0 answer none (omega (arith, size, some)) here.2,
      )
  Hears-passed (ask ∷ earlier) last (next ∷ came) heard answer none size (inr passed) =
      inr (passed.0, Hears-passed (ask ∷ earlier) last came heard answer none size passed.1)
