-- The text of the first session that didn't end with End.
use Rattle.std.proofs.Common.{◌≡◌, ℕ, zero, suc, ◌+◌, List, [], ◌∷◌, codes, drop, slice_get}
use Rattle.std.proofs.Common.{None, Some, ap, ◌∙◌, arith}
use Rattle.std.specs.Fmt.{decimal}
use Rattle.std.specs.List.{concat}
use Rattle.std.proofs.lemmas.Option.{same_Some}
use Rattle.kv_session.specs.declared.ending.Ending.{Ending}
use Rattle.kv_serve.specs.StatusLine.{cause_text, session_text, sessions_text}

-- what stands at a place and behind
drop-at : {A : Type 0} (xs : List A) (i : ℕ) (x : A) → slice_get xs i ≡ Some x
    → drop i xs ≡ x ∷ drop (suc i) xs
drop-at [] i x is = absurd (cc)
drop-at (y ∷ ys) zero x is = ap (λ z. z ∷ ys) (same_Some y x is)
drop-at (y ∷ ys) (suc i) x is = drop-at ys i x is

-- a session that didn't end with End
pub session-here : (endings : List Ending) (i : ℕ) (ending : Ending) (cause : List ℕ)
    → slice_get endings i ≡ Some ending → cause_text ending.cause ≡ Some cause
    → sessions_text i (drop i endings)
    ≡ concat (codes "kvell: session " ∷ decimal i ∷ codes " ended: " ∷ cause ∷ [])
session-here endings i ending cause at is = ap (sessions_text i) (drop-at endings i ending at)
    ∙ ap (λ c. session_text i c (sessions_text (i + 1) (drop (suc i) endings))) is

-- one that did
pub session-next : (endings : List Ending) (i : ℕ) (ending : Ending) → slice_get endings i ≡ Some ending
    → cause_text ending.cause ≡ None
    → sessions_text i (drop i endings) ≡ sessions_text (i + 1) (drop (i + 1) endings)
session-next endings i ending at is =
    let next : suc i ≡ i + 1 = omega arith in
    ap (sessions_text i) (drop-at endings i ending at)
    ∙ ap (λ c. session_text i c (sessions_text (i + 1) (drop (suc i) endings))) is
    ∙ ap (λ k. sessions_text (i + 1) (drop k endings)) next
