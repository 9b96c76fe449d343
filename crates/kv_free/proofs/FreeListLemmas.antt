-- A link that is read back leaves the list.
use Rattle.std.proofs.Common.{◌≡◌, ℕ, zero, suc, ◌-◌, true, false, cond, nat_lt, List, [], ◌∷◌}
use Rattle.std.proofs.Common.{length, set, Some, None, Option, slice_get, refl, sym, ap, subst}
use Rattle.kv_free.specs.FreeList.{Tail, StandsFor, link_of, relinked}

-- a number that is written where it stands changes nothing
set_same : (list : List ℕ) (i x : ℕ) → Some x ≡ slice_get list i → set list i x ≡ list
set_same [] i x is = refl
set_same (y ∷ ys) zero x is = let same : x ≡ y = cc in ap (λ z. z ∷ ys) same
set_same (y ∷ ys) (suc i) x is = ap (λ zs. y ∷ zs) (set_same ys i x is)

relinked_at : (list : List ℕ) (link : Option ℕ) → link ≡ slice_get list (length list - 64)
    → relinked list link ≡ list
relinked_at list None is = refl
relinked_at list (Some x) is = set_same list (length list - 64) x is

-- the number that stands 64th from the end, put there again, changes nothing
relinked_same : (list : List ℕ) → relinked list (link_of list) ≡ list
relinked_same list =
    elim (nat_lt (length list) 64) as
    (λ b. relinked list (cond b None (slice_get list (length list - 64))) ≡ list) [
      | true ↦ refl
      | false ↦ relinked_at list _ refl
    ]

pub stands_for_rest : {tail : Tail} (list : List ℕ) (link : Option ℕ) → link ≡ link_of list
    → StandsFor tail (relinked list link) → StandsFor tail list
stands_for_rest {tail} list link is stands =
    let back : relinked list link ≡ list =
    subst (λ l. relinked list l ≡ list) (sym is) (relinked_same list) in
    subst (λ l. StandsFor tail l) back stands
