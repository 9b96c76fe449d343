-- What is told of each element of a list of which one element was exchanged.
use Rattle.std.proofs.Common.{◌≡◌, ◌≢◌, ◌⊎◌, ⊎_elim, ℕ, ◌<◌, List, [], ◌++◌, length, map, get_or, set}
use Rattle.std.proofs.Common.{true, false, nat_eq, cond, sym, ap, ◌∙◌, subst, arith}
use Rattle.std.proofs.lemmas.Bool.Decides.{nat_tests}
use Rattle.std.proofs.lemmas.List.{map-set, get_or-map, get_or-set_same, get_or-set_other}
use Rattle.std.proofs.lemmas.List.{append-nil, length-map}
use Rattle.std.proofs.Math.Seq.{map-set_same}
use Rattle.kv_ring.specs.Ends.{only_at}

module _ {X Y : Type 0} (f : X → Y) (xs : List X) (k : ℕ) (was y : X) (lt : k < length xs)
    (is : was ≡ get_or xs k was) where
  -- the element that was there
  pub at-was : (d : Y) → get_or (map f xs) k d ≡ f was
  at-was d = get_or-map f xs k was d lt ∙ ap f (sym is)

  -- the element that is there now
  pub at-set_here : (d : Y) → get_or (map f (set xs k y)) k d ≡ f y
  at-set_here d = ap (λ ys. get_or ys k d) (map-set f xs k y)
      ∙ get_or-set_same (map f xs) k (f y) d (omega (arith, lt, length-map xs f))

  -- every other element
  pub at-set_there : (d : Y) (other : ℕ) → other ≢ k
      → get_or (map f (set xs k y)) other d ≡ get_or (map f xs) other d
  at-set_there d other ne = ap (λ ys. get_or ys other d) (map-set f xs k y)
      ∙ get_or-set_other (map f xs) k other (f y) d ne

  -- where the same is told of both, the same is told of all
  pub map-exchange_same : f y ≡ f was → map f (set xs k y) ≡ map f xs
  map-exchange_same e = map-set_same f xs k y was (e ∙ ap f is)

pub eq_self : (n : ℕ) → nat_eq n n ≡ true
eq_self n = grind (arith, nat_tests)

pub eq_not : (m n : ℕ) → m ≢ n → nat_eq m n ≡ false
eq_not m n ne = grind (arith, nat_tests)

-- where the element's list grew, just its place shows more
pub at-set_more : {X Y : Type 0} (f : X → List Y) (xs : List X) (k : ℕ) (was y : X) (more : List Y)
    → k < length xs → was ≡ get_or xs k was → f y ≡ f was ++ more → (other : ℕ)
    → get_or (map f (set xs k y)) other [] ≡ get_or (map f xs) other [] ++ only_at k other more
at-set_more f xs k was y more lt is e other = ⊎_elim
    (λ (same : other ≡ k). subst (λ n. get_or (map f (set xs k y)) n []
    ≡ get_or (map f xs) n [] ++ only_at k n more) (sym same)
    (at-set_here f xs k was y lt is [] ∙ (e ∙ ap (λ zs. zs ++ more) (sym (at-was f xs k was y lt is []))
    ∙ ap (λ b. get_or (map f xs) k [] ++ cond b more []) (sym (eq_self k)))))
    (λ (ne : other ≢ k). at-set_there f xs k was y lt is [] other ne
    ∙ (sym (append-nil (get_or (map f xs) other []))
    ∙ ap (λ b. get_or (map f xs) other [] ++ cond b more []) (sym (eq_not other k ne))))
    (let e : (other ≡ k) ⊎ (other ≢ k) = grind arith in e)
