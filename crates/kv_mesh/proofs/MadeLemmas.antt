-- Lists of parties that are made of other lists from the last item on, and taken apart again.
use Rattle.std.proofs.Common.{◌≡◌, ℕ, ◌+◌, ◌<◌, ◌≤◌, List, [], ◌∷◌, ◌++◌, map, reverse, length, get_or, All}
use Rattle.std.proofs.Common.{refl, sym, ap, ◌∙◌, subst, arith, append_assoc, append-nil}
use Rattle.std.proofs.Common.{length-append}
use Rattle.std.specs.List.{AllByRecursion}
use Rattle.std.proofs.lemmas.List.{reverse-append, get_or_append_left, get_or_push}

-- a list without length has no item
pub none-of : {X : Type 0} (xs : List X) → length xs ≡ 0 → xs ≡ []
none-of [] e = refl
none-of (x ∷ xs) e = absurd (omega (arith, e))

pub reverse-push : {X : Type 0} (xs : List X) (x : X) → reverse (xs ++ x ∷ []) ≡ x ∷ reverse xs
reverse-push xs x = reverse-append xs (x ∷ [])

module _ {X : Type 0} (P : X → Type 0) (xs all : List X) (x : X) (e : all ≡ xs ++ x ∷ [])
    (h : All P all) where
  -- what holds of each item holds of all but the last one
  pub all-front : All P xs
  all-front = λ k d lt. subst P
      (ap (λ l. get_or l k d) e ∙ get_or_append_left xs (x ∷ []) d k lt)
      (h k d (omega (arith, lt, ap length e, length-append xs (x ∷ []))))

  -- and of that one
  pub all-last : P x
  all-last = subst P
      (ap (λ l. get_or l (length xs) x) e ∙ get_or_push xs x x (length xs) refl)
      (h (length xs) x (omega (arith, ap length e, length-append xs (x ∷ []))))

module _ {X Y P : Type 0} (f : P → X) (g : P → Y) (New : P → Type 0) where
  -- of the last of these items parties were made, and the first ones are left
  pub record Starting (xs : List X) (ys : List Y) (left : List X) (rest : List Y) (made : List P) :
      Type 0 where
    pub xs_are : left ++ map f made ≡ xs
    pub ys_are : rest ++ map g made ≡ ys
    pub new : AllByRecursion New made

  starting-none : (xs : List X) (ys : List Y) → Starting xs ys xs ys []
  starting-none xs ys = record { xs_are = append-nil xs; ys_are = append-nil ys; new = tt }

  pub starting-first : (xs : List X) (ys : List Y) (parties : List P) → parties ≡ []
      → Starting xs ys xs ys (reverse parties)
  starting-first xs ys parties e = subst (λ l. Starting xs ys xs ys (reverse l)) (sym e)
      (starting-none xs ys)

  -- one more was made, of the last ones that were left
  pub starting-more : (xs left next : List X) (ys rest later : List Y) (made : List P) (p : P)
      → left ≡ next ++ f p ∷ [] → rest ≡ later ++ g p ∷ [] → New p → Starting xs ys left rest made
      → Starting xs ys next later (p ∷ made)
  starting-more xs left next ys rest later made p e k n s = record {
    xs_are = sym (append_assoc next (f p ∷ []) (map f made)) ∙ ap (λ l. l ++ map f made) (sym e)
        ∙ s.xs_are;
    ys_are = sym (append_assoc later (g p ∷ []) (map g made)) ∙ ap (λ l. l ++ map g made) (sym k)
        ∙ s.ys_are;
    new = (n, s.new);
  }

  -- the same, where the parties lie in the order in which they were made
  pub starting-push : (xs left next : List X) (ys rest later : List Y) (parties pushed : List P)
      (p : P) → left ≡ next ++ f p ∷ [] → rest ≡ later ++ g p ∷ [] → New p
      → pushed ≡ parties ++ p ∷ [] → Starting xs ys left rest (reverse parties)
      → Starting xs ys next later (reverse pushed)
  starting-push xs left next ys rest later parties pushed p e k n is s =
      subst (Starting xs ys next later) (sym (ap (λ l. reverse l) is ∙ reverse-push parties p))
      (starting-more xs left next ys rest later (reverse parties) p e k n s)

  -- all were made
  pub starting-all : (xs left : List X) (ys rest : List Y) (made : List P) → left ≡ []
      → length rest ≡ 0 → Starting xs ys left rest made
      → (map f made ≡ xs) × (map g made ≡ ys)
  starting-all xs left ys rest made e k s = (
    ap (λ l. l ++ map f made) (sym e) ∙ s.xs_are,
    ap (λ l. l ++ map g made) (sym (none-of rest k)) ∙ s.ys_are,
  )

  -- want of memory gives all back
  pub starting-back : (xs left now : List X) (ys rest : List Y) (parties : List P)
      → now ≡ left ++ map f (reverse parties) → Starting xs ys left rest (reverse parties)
      → now ≡ xs
  starting-back xs left now ys rest parties e s = e ∙ s.xs_are

module _ {X P : Type 0} (f : P → X) where
  -- the last party is taken apart
  pub moved-more : (left now : List X) (parties rest : List P) (p : P)
      → parties ≡ rest ++ p ∷ [] → now ≡ left ++ f p ∷ []
      → now ++ map f (reverse rest) ≡ left ++ map f (reverse parties)
  moved-more left now parties rest p e k = ap (λ l. l ++ map f (reverse rest)) k
      ∙ append_assoc left (f p ∷ []) (map f (reverse rest))
      ∙ ap (λ ps. left ++ map f ps) (sym (ap (λ l. reverse l) e ∙ reverse-push rest p))

  -- none is left
  pub moved-all : (left all : List X) (parties : List P) → parties ≡ []
      → left ++ map f (reverse parties) ≡ all → left ≡ all
  moved-all left all parties e h = sym (append-nil left)
      ∙ ap (λ ps. left ++ map f (reverse ps)) (sym e) ∙ h

pub none-left : (count left : ℕ) → count ≡ left → count ≤ 0 → left ≡ 0
none-left count left e le = omega (arith, e, le)

-- where all items became parties, their list has room for all to come back
pub room-back : (left made all capacity : ℕ) → left ≡ 0 → made ≡ all → all ≤ capacity
    → left + made ≤ capacity
room-back left made all capacity none e le = omega (arith, none, e, le)

-- a seat is free for each item that is left
pub seat-left : (free all total left : ℕ) → free + all ≡ total + left → all ≤ total → 0 < left
    → 0 < free
seat-left free all total left e le some = omega (arith, e, le, some)
