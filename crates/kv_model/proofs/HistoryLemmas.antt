-- Lemmas on histories.
use Rattle.std.proofs.Common.{◌≡◌, ℕ, Bool, true, false, cond, List, [], ◌∷◌, ◌++◌, Option, None}
use Rattle.std.proofs.Common.{Some, refl, ap, ◌∙◌, arith, ◌&&◌, nat_le}
use Rattle.std.specs.Str.{bytes_eq}
use Rattle.std.proofs.lemmas.Bool.Decides.{nat_tests}
use Rattle.kv_model.specs.History.{Write, later, later_of, latest}
use Rattle.kv_model.specs.Oracle.{preferred}

-- of three writes it doesn't matter which two are compared first
later-later : (a b c : Write) → later a (later b c) ≡ later (later a b) c
later-later a b c = grind (arith, nat_tests)

-- one more write behind, by whether the first and the last count
push_step : (first last : Bool) (write other : Write) (rest : Option Write)
    → cond first (Some (later_of write (cond last (Some (preferred rest other)) rest)))
    (cond last (Some (preferred rest other)) rest)
    ≡ cond last (Some (preferred (cond first (Some (later_of write rest)) rest) other))
    (cond first (Some (later_of write rest)) rest)
push_step true true write other None = refl
push_step true true write other (Some best) = ap Some (later-later write best other)
push_step true false write other rest = refl
push_step false true write other rest = refl
push_step false false write other rest = refl

-- the latest write of a history with one more at its end
pub latest-push : (writes : List Write) (write : Write) (stamp : ℕ) (key : List ℕ)
    → latest (writes ++ write ∷ []) stamp key ≡ cond (bytes_eq write.key key && nat_le write.stamp
    stamp) (Some (preferred (latest writes stamp key) write)) (latest writes stamp key)
latest-push [] write stamp key = refl
latest-push (first ∷ writes) write stamp key =
    ap (λ rest. cond (bytes_eq first.key key && nat_le first.stamp stamp)
    (Some (later_of first rest)) rest) (latest-push writes write stamp key)
    ∙ push_step (bytes_eq first.key key && nat_le first.stamp stamp) (bytes_eq write.key key
    && nat_le write.stamp stamp) first write (latest writes stamp key)
