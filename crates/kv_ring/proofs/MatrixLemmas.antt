-- The lines of a mesh as it grows.
use Rattle.std.proofs.Common.{◌≡◌, ℕ, zero, suc, ◌<◌, List, [], ◌∷◌, ◌++◌, length, map, get_or, set}
use Rattle.std.proofs.Common.{Option, Some, None, All, refl, sym, ap, ap₂, ◌∙◌, subst, arith}
use Rattle.std.specs.Option.{option_map}
use Rattle.std.specs.List.{AllByRecursion}
use Rattle.std.proofs.lemmas.List.{map-append, map-set, get_or-map, length-map}
use Rattle.std.proofs.lemmas.List.Elements.{All-append, All-get_or, All-set, All-from_recursion}
use Rattle.std.proofs.lemmas.List.Elements.{recursion_from_All}
use Rattle.rtrb.specs.Ring.{sent, received, known_items}
use Rattle.kv_ring.specs.Lines.{Line, line_of, other_side, IsLine, IsNew}
use Rattle.kv_ring.specs.Ends.{all_lines, line_to, peers, refusals, IsFresh}
use Rattle.kv_ring.specs.Matrix.{beside, turned_lines, HasNew, AreMesh}
use Rattle.kv_ring.specs.declared.end.End.{End}
use Rattle.kv_ring.specs.declared.ends.Ends.{Ends}
use Rattle.kv_ring.proofs.PlaceLemmas.{at-was}

module _ {X : Type 0} where
  pub beside-none : (lists : List (List X)) → beside lists [] ≡ lists
  beside-none [] = refl
  beside-none (xs ∷ lists) = refl

  -- one more item
  pub beside-more : (lists : List (List X)) (ys : List X) (y : X) (d : List X) (n : ℕ)
      → length ys ≡ n → n < length lists
      → set (beside lists ys) n (get_or (beside lists ys) n d ++ y ∷ []) ≡ beside lists (ys ++ y ∷
      [])
  beside-more [] ys y d n e lt = absurd (omega arith)
  beside-more (xs ∷ lists) [] y d zero e lt = ap (λ zs. (xs ++ y ∷ []) ∷ zs) (sym (beside-none
      lists))
  beside-more (xs ∷ lists) [] y d (suc n) e lt = absurd (omega arith)
  beside-more (xs ∷ lists) (z ∷ ys) y d zero e lt = absurd (omega arith)
  beside-more (xs ∷ lists) (z ∷ ys) y d (suc n) e lt =
      ap (λ zs. (xs ++ z ∷ []) ∷ zs) (beside-more lists ys y d n (omega (arith, e)) (omega (
        arith,
        lt,
      )))

  -- the list at a place, with its item
  pub beside-at : (lists : List (List X)) (ys : List X) (d : List X) (e : X) (n : ℕ)
      → n < length lists → n < length ys
      → get_or (beside lists ys) n d ≡ get_or lists n d ++ get_or ys n e ∷ []
  beside-at [] ys d e n lt less = absurd (omega arith)
  beside-at (xs ∷ lists) [] d e n lt less = absurd (omega arith)
  beside-at (xs ∷ lists) (y ∷ ys) d e zero lt less = refl
  beside-at (xs ∷ lists) (y ∷ ys) d e (suc n) lt less =
      beside-at lists ys d e n (omega (arith, lt)) (omega (arith, less))

module _ {S R : Type 0} where
  -- the lines of one end more
  pub lines-more : (ends : List (End S R)) (far : End S R) (items : List (End S R))
      → items ≡ ends ++ far ∷ []
      → map (λ end. Some (line_of end)) items
      ≡ map (λ end. Some (line_of end)) ends ++ Some (line_of far) ∷ []
  lines-more ends far items e = ap (map (λ end. Some (line_of end))) e
      ∙ map-append (λ end. Some (line_of end)) ends (far ∷ [])

  pub turned-at : (ends : List (End S R)) (n : ℕ)
      → get_or (map (λ end. Some (other_side (line_of end))) ends) n None
      ≡ option_map other_side (get_or (map (λ end. Some (line_of end)) ends) n None)
  turned-at [] n = refl
  turned-at (end ∷ ends) zero = refl
  turned-at (end ∷ ends) (suc n) = turned-at ends n

  fresh-at : {Y : Type 0} (f : End S R → List Y) → ((end : End S R) → IsNew end → f end ≡ [])
      → (ends : List (End S R)) → All IsNew ends → (n : ℕ) → get_or (map f ends) n [] ≡ []
  fresh-at f none ends all n = go ends (recursion_from_All IsNew ends all) n
    where
      go : (ends : List (End S R)) → AllByRecursion IsNew ends → (n : ℕ)
          → get_or (map f ends) n [] ≡ []
      go [] all n = refl
      go (end ∷ ends) all zero = none end all.0
      go (end ∷ ends) all (suc n) = go ends all.1 n

  pub is-fresh : {most : ℕ} (ends : Ends S R most) → HasNew ends → IsFresh ends
  is-fresh ends new = record {
    sent = fresh-at (λ end. sent end.out) (λ end is. is.sent) ends.ends.items new.all;
    received = fresh-at (λ end. received end.back) (λ end is. is.received) ends.ends.items new.all;
    known = fresh-at (λ end. known_items end.back) (λ end is. is.known) ends.ends.items new.all;
    refusals = new.refusals;
  }

-- the line of an end, as the other party has it
abbrev pub turned : {S R : Type 0} → End S R → Option Line
turned end = Some (other_side (line_of end))

module _ {S R : Type 0} where
  turned-more : (row all : List (End R S)) (near : End R S) (far : End S R) → IsLine near far
      → all ≡ row ++ near ∷ [] → map turned all ≡ map turned row ++ Some (line_of far) ∷ []
  turned-more row all near far line e = ap (map turned) e ∙ (map-append turned row (near ∷ [])
      ∙ ap (λ l. map turned row ++ Some (other_side l) ∷ []) line)

module _ {S R : Type 0} {most : ℕ} where
  -- one ring more for the first session
  pub first-step : (columns more : List (Ends S R most)) (row all : List (End R S))
      (column : Ends S R most) (near : End R S) (far : End S R)
      → map all_lines columns ≡ map (λ line. line ∷ []) (map turned row)
      → IsLine near far → column.ends.items ≡ far ∷ [] → all ≡ row ++ near ∷ []
      → more ≡ columns ++ column ∷ []
      → map all_lines more ≡ map (λ line. line ∷ []) (map turned all)
  first-step columns more row all column near far lines line one e f =
      ap (map all_lines) f ∙ (map-append all_lines columns (column ∷ [])
      ∙ (ap₂ (λ xs ends. xs ++ map (λ end. Some (line_of end)) ends ∷ []) lines one
      ∙ (sym (map-append (λ line. line ∷ []) (map turned row) (Some (line_of far) ∷ []))
      ∙ ap (map (λ line. line ∷ [])) (sym (turned-more row all near far line e)))))

  -- one ring more for a further session
  pub further-step : (initial columns : List (Ends S R most)) (row all : List (End R S)) (w : ℕ)
      (column now : Ends S R most) (near : End R S) (far : End S R)
      → map all_lines columns ≡ beside (map all_lines initial) (map turned row)
      → length row ≡ w → w < length columns → length columns ≡ length initial
      → column ≡ get_or columns w column → now.ends.items ≡ column.ends.items ++ far ∷ []
      → IsLine near far → all ≡ row ++ near ∷ []
      → map all_lines (set columns w now) ≡ beside (map all_lines initial) (map turned all)
  further-step initial columns row all w column now near far lines count lt same is grown line e =
      map-set all_lines columns w now
      ∙ (ap (λ xs. set (map all_lines columns) w xs)
      (lines-more column.ends.items far now.ends.items grown
      ∙ ap (λ xs. xs ++ Some (line_of far) ∷ []) (sym (at-was all_lines columns w column now lt is
      [])))
      ∙ (ap (λ xs. set xs w (get_or xs w [] ++ Some (line_of far) ∷ [])) lines
      ∙ (beside-more (map all_lines initial) (map turned row) (Some (line_of far)) [] w
      (omega (arith, count, length-map row turned))
      (omega (arith, lt, same, length-map initial all_lines))
      ∙ ap (beside (map all_lines initial)) (sym (turned-more row all near far line e)))))

  -- a line more of a column
  pub new-step : (columns : List (Ends S R most)) (w : ℕ) (column now : Ends S R most)
      (far : End S R) → w < length columns → column ≡ get_or columns w column
      → now.ends.items ≡ column.ends.items ++ far ∷ [] → refusals now ≡ refusals column → IsNew far
      → All HasNew columns → All HasNew (set columns w now)
  new-step columns w column now far lt is grown count new all =
      let was : HasNew column = subst HasNew (sym is) (All-get_or HasNew columns w column lt all) in
      All-set HasNew columns w now (record {
        all = subst (All IsNew) (sym grown) (All-append IsNew column.ends.items (far ∷ []) was.all
            (All-from_recursion IsNew (far ∷ []) (new, tt)));
        refusals = count ∙ was.refusals;
      }) all

  pub one-new : (column : Ends S R most) (far : End S R) → column.ends.items ≡ far ∷ []
      → refusals column ≡ 0 → IsNew far → HasNew column
  one-new column far one count new = record {
    all = subst (All IsNew) (sym one) (All-from_recursion IsNew (far ∷ []) (new, tt));
    refusals = count;
  }

  -- columns of one length
  all-lengths : (n : ℕ) (columns : List (Ends S R most)) → ((w : ℕ) → w < length columns
      → length (get_or (map all_lines columns) w []) ≡ n)
      → AllByRecursion (λ ends. peers ends ≡ n) columns
  all-lengths n [] each = tt
  all-lengths n (column ∷ columns) each = (
    omega (
      arith,
      each 0 (omega arith),
      length-map column.ends.items (λ end. Some (line_of
          end)),
    ),
    all-lengths n columns (λ w lt. each (suc w) (omega (arith, lt))),
  )

  all-weaker : (P Q : Ends S R most → Type 0) → ((ends : Ends S R most) → P ends → Q ends)
      → (columns : List (Ends S R most)) → AllByRecursion P columns → AllByRecursion Q columns
  all-weaker P Q f [] all = tt
  all-weaker P Q f (column ∷ columns) all = (f column all.0, all-weaker P Q f columns all.1)

  all-both : (P Q : Ends S R most → Type 0) (columns : List (Ends S R most))
      → AllByRecursion P columns → AllByRecursion Q columns
      → AllByRecursion (λ ends. P ends × Q ends) columns
  all-both P Q [] all both = tt
  all-both P Q (column ∷ columns) all both =
      ((all.0, both.0), all-both P Q columns all.1 both.1)

  pub rows-fresh : (n : ℕ) (rows : List (Ends S R most))
      → All (λ ends. (peers ends ≡ n) × HasNew ends) rows
      → All (λ ends. (peers ends ≡ n) × IsFresh ends) rows
  rows-fresh n rows all = All-from_recursion _ rows
      (all-weaker (λ ends. (peers ends ≡ n) × HasNew ends) (λ ends. (peers ends ≡ n) × IsFresh ends)
      (λ ends is. (is.0, is-fresh ends is.1)) rows (recursion_from_All _ rows all))

  -- the columns behind so many rows
  module _ (rows : List (Ends R S 16)) (columns : List (Ends S R most))
      (lines : (w : ℕ) → w < length columns → get_or (map all_lines columns) w []
      ≡ map (λ ends. option_map other_side (line_to ends w)) rows) where
    lengths : AllByRecursion (λ ends. peers ends ≡ length rows) columns
    lengths = all-lengths (length rows) columns (λ w lt. ap length (lines w lt)
        ∙ length-map rows (λ ends. option_map other_side (line_to ends w)))

    pub columns-room : (n : ℕ) → length rows < n → All (λ ends. peers ends < n) columns
    columns-room n lt = All-from_recursion _ columns
        (all-weaker (λ ends. peers ends ≡ length rows) (λ ends. peers ends < n)
        (λ ends e. omega (arith, e, lt)) columns lengths)

    pub columns-fresh : All HasNew columns
        → All (λ ends. (peers ends ≡ length rows) × IsFresh ends) columns
    columns-fresh new = All-from_recursion _ columns
        (all-weaker (λ ends. (peers ends ≡ length rows) × HasNew ends)
        (λ ends. (peers ends ≡ length rows) × IsFresh ends) (λ ends is. (is.0, is-fresh ends is.1))
        columns (all-both (λ ends. peers ends ≡ length rows) HasNew columns lengths
        (recursion_from_All HasNew columns new)))

    pub is-mesh : AreMesh rows columns
    is-mesh session worker near far lt less =
        ap (λ xs. get_or xs session None) (sym (get_or-map all_lines columns worker far [] less)
        ∙ lines worker less)
        ∙ get_or-map (λ ends. option_map other_side (line_to ends worker)) rows session near None lt

    -- one session more
    pub row-more : (more : List (Ends S R most)) (session : Ends R S 16) (all : List (Ends R S 16))
        (w : ℕ) → map all_lines more ≡ beside (map all_lines columns) (turned_lines session)
        → peers session ≡ length columns → all ≡ rows ++ session ∷ [] → w < length columns
        → get_or (map all_lines more) w []
        ≡ map (λ ends. option_map other_side (line_to ends w)) all
    row-more more session all w grown count e lt =
        ap (λ xs. get_or xs w []) grown
        ∙ (beside-at (map all_lines columns) (turned_lines session) [] None w
        (omega (arith, lt, length-map columns all_lines))
        (omega (arith, lt, count, length-map session.ends.items turned))
        ∙ (ap₂ (λ xs line. xs ++ line ∷ []) (lines w lt) (turned-at session.ends.items w)
        ∙ (sym (map-append (λ ends. option_map other_side (line_to ends w)) rows (session ∷ []))
        ∙ ap (map (λ ends. option_map other_side (line_to ends w))) (sym e))))

  -- the first session
  pub row-first : (columns : List (Ends S R most)) (session : Ends R S 16) (all : List (Ends R S
      16))
      (w : ℕ) → map all_lines columns ≡ map (λ line. line ∷ []) (turned_lines session)
      → peers session ≡ length columns → all ≡ session ∷ [] → w < length columns
      → get_or (map all_lines columns) w [] ≡ map (λ ends. option_map other_side (line_to ends w))
      all
  row-first columns session all w first count e lt =
      ap (λ xs. get_or xs w []) first
      ∙ (get_or-map (λ line. line ∷ []) (turned_lines session) w None []
      (omega (arith, lt, count, length-map session.ends.items turned))
      ∙ (ap (λ line. line ∷ []) (turned-at session.ends.items w)
      ∙ ap (map (λ ends. option_map other_side (line_to ends w))) (sym e)))
