-- Lemmas on pieces that a sink took.
use Rattle.std.proofs.Common.{◌≡◌, ℕ, zero, suc, ◌+◌, ◌<◌, ◌≤◌, take, drop, List, [], ◌∷◌}
use Rattle.std.proofs.Common.{length, get_or, Option, None, Some, refl, sym, ap, subst, ◌∙◌, arith}
use Rattle.std.proofs.Common.{inl, inr, leb}
use Rattle.std.specs.Prelude.{if◌then◌else◌}
use Rattle.std.specs.List.{prefix_len}
use Rattle.std.specs.Io.KnownBytes.{Appends}
use Rattle.std.proofs.lemmas.Bool.{cases_lt, cond-true, cond-false, le-leb, lt-leb, lt-ltb, ltb-true}
use Rattle.std.proofs.lemmas.Bool.{ltb_from_iff}
use Rattle.std.proofs.lemmas.List.{take-take}
use Rattle.kv_base.specs.Calls.{next_count}
use Rattle.kv_base.specs.Stream.{Takes}
use Rattle.kv_base.specs.Pieces.{AreEnds, IsUpTo, CountedPieces}
use Rattle.kv_base.proofs.StreamLemmas.{take-add, Takes-trans}

-- a sink took the front of some bytes, and then a front of a part of the others
pub Takes-part : (a b c : Option (List ℕ)) (sent n room : ℕ) (bytes : List ℕ) → n ≤ room
    → Takes a b (take sent bytes) → Takes b c (take n (take room (drop sent bytes)))
    → Takes a c (take (sent + n) bytes)
Takes-part a b c sent n room bytes le p q = subst (Takes a c) (sym (take-add sent n bytes))
    (Takes-trans a b c (take sent bytes) (take n (drop sent bytes)) p
    (subst (Takes b c) (take-take n room (drop sent bytes) le) q))

-- a piece ends where the bytes do or before
pub ends_in : (from : ℕ) (ends : List ℕ) (size i d : ℕ) → AreEnds from ends size → i < length ends
    → get_or ends i d ≤ size
ends_in from [] size i d are lt = absurd (omega arith)
ends_in from (end ∷ ends) size zero d are lt = are.1
ends_in from (end ∷ ends) size (suc i) d are lt = ends_in end ends size i d are.2 (omega arith)

-- nothing went out so far
pub up_to-start : (from : ℕ) (ends : List ℕ) (size : ℕ) → AreEnds from ends size
    → IsUpTo from ends 0 from
up_to-start from [] size are = refl
up_to-start from (end ∷ ends) size are = (omega arith, are.0)

-- the next piece isn't out
pub is_below : (from : ℕ) (ends : List ℕ) (whole sent d : ℕ) → whole < length ends
    → IsUpTo from ends whole sent → sent < get_or ends whole d
is_below from [] whole sent d lt up_to = absurd (omega arith)
is_below from (end ∷ ends) zero sent d lt up_to = up_to.1
is_below from (end ∷ ends) (suc whole) sent d lt up_to =
    is_below end ends whole sent d (omega arith) up_to

-- more of the next piece
pub up_to-more : (from : ℕ) (ends : List ℕ) (whole sent more d : ℕ) → whole < length ends
    → IsUpTo from ends whole sent → sent ≤ more → more < get_or ends whole d
    → IsUpTo from ends whole more
up_to-more from [] whole sent more d lt up_to le below = absurd (omega arith)
up_to-more from (end ∷ ends) zero sent more d lt up_to le below = (omega (arith, up_to.0, le), below)
up_to-more from (end ∷ ends) (suc whole) sent more d lt up_to le below =
    up_to-more end ends whole sent more d (omega arith) up_to le below

-- one piece more
pub up_to-next : (from : ℕ) (ends : List ℕ) (size whole sent d : ℕ) → AreEnds from ends size
    → whole < length ends → sent ≡ get_or ends whole d → IsUpTo from ends (suc whole) sent
up_to-next from [] size whole sent d are lt at = absurd (omega arith)
up_to-next from (end ∷ ends) size zero sent d are lt at =
    subst (IsUpTo end ends 0) (sym at) (up_to-start end ends size are.2)
up_to-next from (end ∷ ends) size (suc whole) sent d are lt at =
    up_to-next end ends size whole sent d are.2 (omega arith) at

-- how many pieces are whole in so many bytes, and whether that is all of them
pub record IsWhole (from : ℕ) (ends : List ℕ) (size sent whole : ℕ) : Type 0 where
  pub up_to : IsUpTo from ends whole sent
  pub less : sent < size → whole < length ends
  pub all : whole < length ends → sent < size

-- it is the number of ends that the bytes reach
pub whole-is : (from : ℕ) (ends : List ℕ) (size sent : ℕ) → AreEnds from ends size → from ≤ sent
    → sent ≤ size → IsWhole from ends size sent (prefix_len (λ end. leb end sent) ends)
whole-is from [] size sent are low high = record {
  up_to = omega (arith, are);
  less = λ lt. omega (arith, are, lt);
  all = λ lt. omega (arith, lt);
}
whole-is from (end ∷ ends) size sent are low high = elim (cases_lt sent end) [
  | inl lt ↦
      let none : prefix_len (λ x. leb x sent) (end ∷ ends) ≡ 0 =
      cond-false (leb end sent) (1 + prefix_len (λ x. leb x sent) ends) 0 (lt-leb end sent lt) in
      record {
        up_to = subst (λ n. IsUpTo from (end ∷ ends) n sent) (sym none) (low, lt);
        less = λ _. omega (arith, none);
        all = λ _. omega (arith, lt, are.1);
      }
  | inr le ↦
      let rest = whole-is end ends size sent are.2 le high in
      let more : prefix_len (λ x. leb x sent) (end ∷ ends) ≡ suc (prefix_len (λ x. leb x sent) ends) =
      cond-true (leb end sent) (1 + prefix_len (λ x. leb x sent) ends) 0 (le-leb end sent le)
      ∙ omega arith in
      record {
        up_to = subst (λ n. IsUpTo from (end ∷ ends) n sent) (sym more) rest.up_to;
        less = λ lt. omega (arith, more, rest.less lt);
        all = λ lt. rest.all (omega (arith, more, lt));
      }
]

-- the count of faults, where all bytes or fewer were taken
pub counted-whole : (from : ℕ) (ends : List ℕ) (size sent whole before now : ℕ)
    → IsWhole from ends size sent whole → CountedPieces before now sent size
    → CountedPieces before now whole (length ends)
counted-whole from ends size sent whole before now is counted =
    counted ∙ ap (λ b. if b then next_count before else before)
    (ltb_from_iff ((λ lt. is.less (ltb-true sent size lt)), (λ lt. lt-ltb sent size (is.all lt))))

-- a writer took the front of some bytes, and then a front of the others
pub Appends-part : (a b c : Option (List ℕ)) (sent n room : ℕ) (bytes : List ℕ) → n ≤ room
    → Appends a b (take sent bytes) → Appends b c (take n (take room (drop sent bytes)))
    → Appends a c (take (sent + n) bytes)
Appends-part None b c sent n room bytes le p q = tt
Appends-part (Some a) None c sent n room bytes le p q = absurd p
Appends-part (Some a) (Some b) None sent n room bytes le p q = absurd q
Appends-part (Some a) (Some b) (Some c) sent n room bytes le p q =
    Takes-part (Some a) (Some b) (Some c) sent n room bytes le p q
