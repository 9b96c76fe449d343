-- Lemmas on bytes that pass through a source or a sink.
use Rattle.std.proofs.Common.{◌≡◌, ℕ, ◌+◌, ◌≤◌, List, [], ◌++◌, length, take, drop}
use Rattle.std.proofs.Common.{refl, sym, ap, ◌∙◌, arith, append_assoc}
use Rattle.std.proofs.Common.{length-drop, Option, None, Some}
use Rattle.std.proofs.lemmas.List.{take_at, take-append-drop, drop-drop, length-take-le, drop-take}
use Rattle.std.proofs.lemmas.List.{take-take, append-nil}
use Rattle.kv_base.specs.Stream.{Stream, Passes, Takes}

-- the bytes up to next + n are those up to next and the next n
pub take-add : (next n : ℕ) (xs : List ℕ)
    → take (next + n) xs ≡ take next xs ++ take n (drop next xs)
take-add next n xs =
    sym (take-append-drop next (take (next + n) xs))
    ∙ rw (take-take next (next + n) xs (omega arith), drop-take next n xs) refl

-- the next n bytes, in the front of a buffer, passed from what was left to what is taken
pub passes_in_front : (xs buffer front : List ℕ) (next n : ℕ) → next + n ≤ length xs
    → front ≡ take n (drop next xs)
    → (take (next + n) xs ≡ take next xs ++ take n (front ++ drop n buffer))
    × (drop next xs ≡ take n (front ++ drop n buffer) ++ drop (next + n) xs)
passes_in_front xs buffer front next n fits is =
    let here : take n (front ++ drop n buffer) ≡ take n (drop next xs) =
    take_at front (drop n buffer) n
    (rw is (length-take-le n (drop next xs) (omega (arith, length-drop next xs)))) ∙ is in (
      take-add next n xs ∙ ap (λ b. take next xs ++ b) (sym here),
      sym (rw here (rw (← drop-drop n next xs) (take-append-drop n (drop next xs)))),
    )

-- a call that took nothing from a source
pub Passes-nil : (now : Option Stream) → Passes now now []
Passes-nil None = tt
Passes-nil (Some now) = (sym (append-nil now.taken), refl)

-- one call of a source behind the other
pub Passes-trans : (a b c : Option Stream) (x y : List ℕ) → Passes a b x → Passes b c y
    → Passes a c (x ++ y)
Passes-trans None None None x y p q = tt
Passes-trans None None (Some c) x y p q = absurd q
Passes-trans None (Some b) c x y p q = absurd p
Passes-trans (Some a) None c x y p q = absurd p
Passes-trans (Some a) (Some b) None x y p q = absurd q
Passes-trans (Some a) (Some b) (Some c) x y p q = (
  q.0 ∙ ap (λ (taken : List ℕ). taken ++ y) p.0 ∙ append_assoc a.taken x y,
  p.1 ∙ ap (λ (left : List ℕ). x ++ left) q.1 ∙ sym (append_assoc x y c.left),
)

-- a call that gave nothing to a sink
pub Takes-nil : (now : Option (List ℕ)) → Takes now now []
Takes-nil None = tt
Takes-nil (Some now) = sym (append-nil now)

-- one call of a sink behind the other
pub Takes-trans : (a b c : Option (List ℕ)) (x y : List ℕ) → Takes a b x → Takes b c y
    → Takes a c (x ++ y)
Takes-trans None None None x y p q = tt
Takes-trans None None (Some c) x y p q = absurd q
Takes-trans None (Some b) c x y p q = absurd p
Takes-trans (Some a) None c x y p q = absurd p
Takes-trans (Some a) (Some b) None x y p q = absurd q
Takes-trans (Some a) (Some b) (Some c) x y p q =
    q ∙ ap (λ (held : List ℕ). held ++ y) p ∙ append_assoc a x y
