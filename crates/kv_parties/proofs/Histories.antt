-- What a key has depends on which writes of the key there are, not on their order.
use Rattle.std.proofs.Common.{◌≡◌, ◌⊎◌, inl, inr, ⊎_elim, ℕ, ◌≤◌, List, [], ◌∷◌}
use Rattle.std.proofs.Common.{Option, None, Some, Bool, true, false, cond, refl, sym, ap, ◌∙◌}
use Rattle.std.proofs.Common.{subst, arith}
use Rattle.std.specs.Prelude.{nat_le, ◌&&◌, unwrap_or}
use Rattle.std.specs.Str.{bytes_eq}
use Rattle.std.proofs.lemmas.Slice.Eq.{bytes_eq-Decides}
use Rattle.std.proofs.lemmas.Bool.{and_parts, and_from}
use Rattle.std.proofs.lemmas.Bool.Decides.{nat_tests}
use Rattle.kv_model.specs.History.{Write, later_of, latest}
use Rattle.kv_parties.proofs.Lists.{In}

pub from_some : {X : Type 0} (a b : X) → Some a ≡ Some b → a ≡ b
from_some a b e = ap (λ o. unwrap_or o a) e

pub le_from : (a b : ℕ) → nat_le a b ≡ true → a ≤ b
le_from a b e = grind (arith, nat_tests)

pub to_le : (a b : ℕ) → a ≤ b → nat_le a b ≡ true
to_le a b e = grind (arith, nat_tests)

-- the later of the two is one of the two
later_of-one : (w : Write) (o : Option Write) → (later_of w o ≡ w) ⊎ (o ≡ Some (later_of w o))
later_of-one w None = inl refl
later_of-one w (Some u) =
    elim (nat_le u.stamp w.stamp) as (λ b. (cond b w u ≡ w) ⊎ (Some u ≡ Some (cond b w u))) [
      | true ↦ inl refl
      | false ↦ inr refl
    ]

later_of-first : (w : Write) (o : Option Write) → w.stamp ≤ (later_of w o).stamp
later_of-first w None = omega arith
later_of-first w (Some u) =
    (elim (nat_le u.stamp w.stamp) as (λ b. nat_le u.stamp w.stamp ≡ b → w.stamp ≤ (cond b w
    u).stamp) [
      | true ↦ λ e. omega arith
      | false ↦ λ e. grind (arith, nat_tests)
    ]) refl

later_of-second : (w u : Write) → u.stamp ≤ (later_of w (Some u)).stamp
later_of-second w u =
    (elim (nat_le u.stamp w.stamp) as (λ b. nat_le u.stamp w.stamp ≡ b → u.stamp ≤ (cond b w
    u).stamp) [
      | true ↦ λ e. le_from u.stamp w.stamp e
      | false ↦ λ e. omega arith
    ]) refl

module _ (key : List ℕ) (t : ℕ) where
  counts : Write → Bool
  counts w = bytes_eq w.key key && nat_le w.stamp t

  -- what is found is a write of the key
  pub latest-in : (ws : List Write) (v : Write) → latest ws t key ≡ Some v → In v ws × (v.key ≡ key)
      × (v.stamp ≤ t)
  latest-in [] v e = absurd (cc)
  latest-in (w ∷ ws) v e =
      let rest : Option Write = latest ws t key in
      let Goal : Type 0 = In v (w ∷ ws) × (v.key ≡ key) × (v.stamp ≤ t) in
      let deeper : rest ≡ Some v → Goal = λ same. let r = latest-in ws v same in (inr r.0, r.1, r.2)
      in
      (elim (bytes_eq w.key key && nat_le w.stamp t) as (λ b. (bytes_eq w.key key && nat_le w.stamp
      t) ≡ b → cond b (Some (later_of w rest)) rest ≡ Some v → Goal) [
        | true ↦ λ at found.
            let is : later_of w rest ≡ v = from_some (later_of w rest) v found in
            ⊎_elim (λ (first : later_of w rest ≡ w).
            let same : w ≡ v = sym first ∙ is in
            let both = and_parts (bytes_eq w.key key) (nat_le w.stamp t) at in (
              inl same,
              ap (λ (x : Write). x.key) (sym same) ∙ (bytes_eq-Decides w.key key).0
                  both.0,
              subst (λ (x : Write). x.stamp ≤ t) same (le_from w.stamp t both.1),
            ))
            (λ (second : rest ≡ Some (later_of w rest)). deeper (second ∙ ap Some is))
            (later_of-one w rest)
        | false ↦ λ at found. deeper found
      ]) refl e

  -- a write of the key is not later than what is found
  pub latest-top : (ws : List Write) (w : Write) → In w ws → w.key ≡ key → w.stamp ≤ t → (v : Write)
      × (latest ws t key ≡ Some v) × (w.stamp ≤ v.stamp)
  latest-top [] w h k le = absurd h
  latest-top (x ∷ ws) w (inl e) k le =
      let rest : Option Write = latest ws t key in
      let is_key : bytes_eq x.key key ≡ true = (bytes_eq-Decides x.key key).1 (ap (λ (y : Write).
      y.key) e ∙ k) in
      let is_low : nat_le x.stamp t ≡ true = to_le x.stamp t (subst (λ (y : Write). y.stamp ≤ t)
      (sym e) le) in
      let at : (bytes_eq x.key key && nat_le x.stamp t) ≡ true = and_from (bytes_eq x.key key)
      (nat_le x.stamp t) is_key is_low in (
        later_of x rest,
        ap (λ b. cond b (Some (later_of x rest)) rest) at,
        subst (λ (y : Write). y.stamp ≤ (later_of x rest).stamp) e (later_of-first x rest),
      )
  latest-top (x ∷ ws) w (inr h) k le =
      let rest : Option Write = latest ws t key in
      let r = latest-top ws w h k le in
      let there : rest ≡ Some r.0 = r.1 in
      elim (bytes_eq x.key key && nat_le x.stamp t) as (λ b. (v : Write) × (cond b (Some (later_of x
      rest)) rest ≡ Some v) × (w.stamp ≤ v.stamp)) [
        | true ↦ (
          later_of x rest,
          refl,
          subst (λ o. w.stamp ≤ (later_of x o).stamp) (sym there) (let up = later_of-second x r.0
              in let low = r.2 in omega (arith, up, low)),
        )
        | false ↦ r
      ]

  both_found : (ws vs : List Write)
      → ((w : Write) → w.key ≡ key → In w ws → In w vs) → ((w : Write) → w.key ≡ key → In w vs → In
      w ws)
      → ((v u : Write) → In v vs → In u vs → v.key ≡ key → u.key ≡ key → v.stamp ≡ u.stamp → v ≡ u)
      → (o p : Option Write) → latest ws t key ≡ o → latest vs t key ≡ p → o ≡ p
  both_found ws vs there back one None None e f = refl
  both_found ws vs there back one None (Some u) e f =
      let i = latest-in vs u f in
      let r = latest-top ws u (back u i.1 i.0) i.1 i.2 in
      let none : None ≡ Some r.0 = sym e ∙ r.1 in
      absurd (cc)
  both_found ws vs there back one (Some v) None e f =
      let i = latest-in ws v e in
      let r = latest-top vs v (there v i.1 i.0) i.1 i.2 in
      let none : None ≡ Some r.0 = sym f ∙ r.1 in
      absurd (cc)
  both_found ws vs there back one (Some v) (Some u) e f =
      let i = latest-in ws v e in
      let j = latest-in vs u f in
      let r = latest-top vs v (there v i.1 i.0) i.1 i.2 in
      let q = latest-top ws u (back u j.1 j.0) j.1 j.2 in
      let is_u : r.0 ≡ u = from_some r.0 u (sym r.1 ∙ f) in
      let is_v : q.0 ≡ v = from_some q.0 v (sym q.1 ∙ e) in
      let up : v.stamp ≤ u.stamp = subst (λ (y : Write). v.stamp ≤ y.stamp) is_u r.2 in
      let down : u.stamp ≤ v.stamp = subst (λ (y : Write). u.stamp ≤ y.stamp) is_v q.2 in
      ap Some (one v u (there v i.1 i.0) j.0 i.1 j.1 (omega (arith, up, down)))

  -- two histories with the same writes of the key, of which no two have one stamp, give the key the
  -- same
  pub latest-same : (ws vs : List Write)
      → ((w : Write) → w.key ≡ key → In w ws → In w vs) → ((w : Write) → w.key ≡ key → In w vs → In
      w ws)
      → ((v u : Write) → In v vs → In u vs → v.key ≡ key → u.key ≡ key → v.stamp ≡ u.stamp → v ≡ u)
      → latest ws t key ≡ latest vs t key
  latest-same ws vs there back one = both_found ws vs there back one (latest ws t key) (latest vs t
      key) refl refl
