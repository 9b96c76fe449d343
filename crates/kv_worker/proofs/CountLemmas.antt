-- How many keys have a last write that passes a test, before and after one more write.
use Rattle.std.proofs.Common.{◌≡◌, ℕ, ◌+◌, Bool, true, false, cond, not, ◌&&◌, List, [], ◌∷◌, ◌++◌}
use Rattle.std.proofs.Common.{Option, None, Some, refl, ap, sym, ◌∙◌, subst, arith, count_by, is_some}
use Rattle.std.specs.Option.{option_or}
use Rattle.std.specs.Str.{bytes_eq}
use Rattle.std.proofs.lemmas.List.Sums.{sum_by-cons}
use Rattle.std.proofs.lemmas.Slice.Eq.{bytes_eq-Decides}
use Rattle.std.proofs.lemmas.Bool.Decides.{same_from_decides, Decides-like}
use Rattle.kv_model.specs.History.{Write}
use Rattle.kv_model.specs.Batch.{last_write, last_writes}
use Rattle.kv_model.proofs.NetLemmas.{or_kept, or_no, is_none}
use Rattle.kv_model.proofs.AnswersLemmas.{last_write-append}

-- one where the test holds
abbrev pub one_if : Bool → ℕ
one_if b = cond b 1 0

-- one where the write is there and passes
abbrev pub counted : (Write → Bool) → Option Write → ℕ
counted p None = 0
counted p (Some write) = cond (p write) 1 0

-- the write is of another key, and passes
abbrev pub of_others : List ℕ → (Write → Bool) → Write → Bool
of_others key p write = not (bytes_eq write.key key) && p write

cons : (p : Write → Bool) (write : Write) (writes : List Write) → count_by p (write ∷ writes)
    ≡ cond (p write) 1 0 + count_by p writes
cons p write writes = sum_by-cons (λ w. cond (p w) 1 0) write writes

turn : (a b : List ℕ) → bytes_eq a b ≡ bytes_eq b a
turn a b = same_from_decides (bytes_eq a b) (bytes_eq b a) (bytes_eq-Decides a b)
    (Decides-like (bytes_eq b a) sym sym (bytes_eq-Decides b a))

-- this key counts beside the others
pub count-others : (writes : List Write) (p : Write → Bool) (key : List ℕ)
    → count_by p (last_writes writes) ≡ count_by (of_others key p) (last_writes writes)
    + counted p (last_write writes key)
count-others [] p key = refl
count-others (write ∷ writes) p key = by (is_some (last_write writes write.key)) refl
    (count-others writes p key)
  where
    rest : List Write
    rest = last_writes writes

    by : (b : Bool) → is_some (last_write writes write.key) ≡ b → count_by p rest
        ≡ count_by (of_others key p) rest + counted p (last_write writes key)
        → count_by p (cond b rest (write ∷ rest)) ≡ count_by (of_others key p) (cond b rest (write
        ∷ rest)) + counted p (option_or (last_write writes key) (cond (bytes_eq write.key key)
        (Some write) None))
    by true e h = h ∙ ap (λ o. count_by (of_others key p) rest + counted p o) (sym (or_kept
        (last_write writes key) (bytes_eq write.key key) write
        (λ same. ap (λ k. is_some (last_write writes k)) (sym ((bytes_eq-Decides write.key key).0
        same)) ∙ e)))
    by false e h = cons p write rest ∙ tail (bytes_eq write.key key) refl (p write) refl
        ∙ ap (λ n. n + counted p (option_or (last_write writes key) (cond (bytes_eq write.key key)
        (Some write) None))) (sym (cons (of_others key p) write rest))
      where
        tail : (same : Bool) → bytes_eq write.key key ≡ same → (passes : Bool) → p write ≡ passes
            → cond (p write) 1 0 + count_by p rest ≡ cond (not (bytes_eq write.key key) && p write) 1
            0 + count_by (of_others key p) rest + counted p (option_or (last_write writes key)
            (cond (bytes_eq write.key key) (Some write) None))
        tail true s passes q =
            let none : last_write writes key ≡ None = is_none (last_write writes key)
            (ap (λ k. is_some (last_write writes k)) (sym ((bytes_eq-Decides write.key key).0 s))
            ∙ e) in
            let none_counts : counted p (last_write writes key) ≡ 0 = ap (counted p) none in
            let first : one_if (not (bytes_eq write.key key) && p write) ≡ 0 =
            ap (λ b. one_if (not b && p write)) s in
            let last : counted p (option_or (last_write writes key) (cond (bytes_eq write.key key)
            (Some write) None)) ≡ one_if (p write) =
            ap (λ b. counted p (option_or (last_write writes key) (cond b (Some write) None))) s
            ∙ ap (λ o. counted p (option_or o (Some write))) none in
            omega (arith, h, none_counts, first, last)
        tail false s passes q =
            let first : one_if (not (bytes_eq write.key key) && p write) ≡ one_if (p write) =
            ap (λ b. one_if (not b && p write)) s in
            let last : counted p (option_or (last_write writes key) (cond (bytes_eq write.key key)
            (Some write) None)) ≡ counted p (last_write writes key) =
            ap (λ b. counted p (option_or (last_write writes key) (cond b (Some write) None))) s
            ∙ ap (counted p) (or_no (last_write writes key)) in
            omega (arith, h, first, last)

some-or : (same : Bool) (write : Write) (last : Option Write) → is_some (option_or (cond same
    (Some write) None) last) ≡ cond same true (is_some last)
some-or true write last = refl
some-or false write last = refl

-- one more write counts beside those of other keys
pub count-push : (writes : List Write) (p : Write → Bool) (write : Write)
    → count_by p (last_writes (writes ++ write ∷ [])) ≡ count_by (of_others write.key p)
    (last_writes writes) + cond (p write) 1 0
count-push [] p write = refl
count-push (first ∷ writes) p write =
    ap (λ b. count_by p (cond b all (first ∷ all))) (ap is_some (last_write-append writes (write
    ∷ []) first.key) ∙ some-or (bytes_eq write.key first.key) write (last_write writes first.key))
    ∙ by (is_some (last_write writes first.key)) (bytes_eq write.key first.key)
    (turn first.key write.key) (count-push writes p write)
  where
    all : List Write
    all = last_writes (writes ++ write ∷ [])

    rest : List Write
    rest = last_writes writes

    by : (b same : Bool) → bytes_eq first.key write.key ≡ same → count_by p all
        ≡ count_by (of_others write.key p) rest + cond (p write) 1 0
        → count_by p (cond (cond same true b) all (first ∷ all)) ≡ count_by (of_others write.key p)
        (cond b rest (first ∷ rest)) + cond (p write) 1 0
    by true true s h = h
    by true false s h = h
    by false true s h =
        let none : one_if (not (bytes_eq first.key write.key) && p first) ≡ 0 =
        ap (λ b. one_if (not b && p first)) s in
        let more = cons (of_others write.key p) first rest in
        omega (arith, h, none, more)
    by false false s h =
        let same : one_if (not (bytes_eq first.key write.key) && p first) ≡ one_if (p first) =
        ap (λ b. one_if (not b && p first)) s in
        let more = cons (of_others write.key p) first rest in
        let most = cons p first all in
        omega (arith, h, same, more, most)
