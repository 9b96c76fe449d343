-- Lemmas on the writes that are the kept items of an image.
use Rattle.std.proofs.Common.{◌≡◌, ℕ, ◌≤◌, ◌⊎◌, inl, inr, Bool, true, false, cond, List, [], ◌∷◌}
use Rattle.std.proofs.Common.{Option, None, Some, refl, ap, sym, ◌∙◌, subst, arith, ◌&&◌, nat_le}
use Rattle.std.proofs.Common.{is_some, MatchOption, Contains, le-leb, true≢false, option_and_then}
use Rattle.std.specs.List.{AllByRecursion}
use Rattle.std.specs.Str.{bytes_eq}
use Rattle.std.proofs.lemmas.Slice.Eq.{bytes_eq-Decides}
use Rattle.kv_base.specs.Image.{Image}
use Rattle.kv_model.specs.History.{Write, later_of, latest, value_at}
use Rattle.kv_model.specs.Layout.{Layout}
use Rattle.kv_model.specs.Reading.{IsKept, slot_at}
use Rattle.kv_model.specs.Recovery.{GivesValue, KeepsEach, AreKept}
use Rattle.kv_model.proofs.ContainsLemmas.{Contains-cons, Contains-first, Contains-behind}
use Rattle.kv_model.proofs.ContainsLemmas.{All-member}

-- the write is one of these, and of the key
abbrev IsOneOf : List Write → List ℕ → Write → Type 0
IsOneOf writes key write = Contains writes write × (write.key ≡ key)

behind : (first : Write) (writes : List Write) (key : List ℕ) (rest : Option Write)
    → MatchOption rest (Unit {0}) (IsOneOf writes key)
    → MatchOption rest (Unit {0}) (IsOneOf (first ∷ writes) key)
behind first writes key None inside = tt
behind first writes key (Some best) inside =
    (Contains-behind first writes best inside.0, inside.1)

chosen : (first : Write) (writes : List Write) (key : List ℕ) (rest : Option Write)
    → first.key ≡ key → MatchOption rest (Unit {0}) (IsOneOf writes key)
    → IsOneOf (first ∷ writes) key (later_of first rest)
chosen first writes key None same inside = (Contains-first first writes, same)
chosen first writes key (Some best) same inside = by (nat_le best.stamp first.stamp)
  where
    by : (b : Bool) → IsOneOf (first ∷ writes) key (cond b first best)
    by true = (Contains-first first writes, same)
    by false = (Contains-behind first writes best inside.0, inside.1)

-- the latest write of the key is one of them
latest-is-one : (writes : List Write) (stamp : ℕ) (key : List ℕ)
    → MatchOption (latest writes stamp key) (Unit {0}) (IsOneOf writes key)
latest-is-one [] stamp key = tt
latest-is-one (first ∷ writes) stamp key = by (bytes_eq first.key key) refl
    (nat_le first.stamp stamp) (latest writes stamp key) (latest-is-one writes stamp key)
  where
    by : (same : Bool) → bytes_eq first.key key ≡ same → (counts : Bool) → (rest : Option Write)
        → MatchOption rest (Unit {0}) (IsOneOf writes key)
        → MatchOption (cond (same && counts) (Some (later_of first rest)) rest) (Unit {0})
        (IsOneOf (first ∷ writes) key)
    by true e true rest inside =
        chosen first writes key rest ((bytes_eq-Decides first.key key).0 e) inside
    by true e false rest inside = behind first writes key rest inside
    by false e counts rest inside = behind first writes key rest inside

some-or : (counts : Bool) (first : Write) (rest : Option Write) → is_some rest ≡ true
    → is_some (cond counts (Some (later_of first rest)) rest) ≡ true
some-or true first rest some = refl
some-or false first rest some = some

-- where one of them is of the key, and not above the stamp, there is a latest
latest-some : (writes : List Write) (stamp : ℕ) (key : List ℕ) (write : Write)
    → Contains writes write → write.key ≡ key → write.stamp ≤ stamp
    → is_some (latest writes stamp key) ≡ true
latest-some [] stamp key write has same le = absurd (omega (arith, has.1))
latest-some (first ∷ writes) stamp key write has same le =
    by (Contains-cons first writes write has)
    (λ later. latest-some writes stamp key write later same le)
  where
    here : first ≡ write → bytes_eq first.key key && nat_le first.stamp stamp ≡ true
    here e = subst (λ w. bytes_eq w.key key && nat_le w.stamp stamp ≡ true) (sym e)
        (ap (λ b. b && nat_le write.stamp stamp) ((bytes_eq-Decides write.key key).1 same)
        ∙ le-leb write.stamp stamp le)

    by : (first ≡ write) ⊎ Contains writes write
        → (Contains writes write → is_some (latest writes stamp key) ≡ true)
        → is_some (latest (first ∷ writes) stamp key) ≡ true
    by (inl e) more = ap (λ b. is_some (cond b (Some (later_of first (latest writes stamp key)))
        (latest writes stamp key))) (here e)
    by (inr later) more = some-or (bytes_eq first.key key && nat_le first.stamp stamp) first
        (latest writes stamp key) (more later)

-- the image gives what the latest of the kept writes has
pub kept-given : (layout : Layout) (image : Image) (worker workers : ℕ) (kept : List Write)
    (stamp : ℕ) (key : List ℕ) → AreKept layout image worker workers kept
    → KeepsEach (slot_at layout image) worker workers
    → AllByRecursion (λ write. write.stamp ≤ stamp) kept
    → GivesValue (slot_at layout image) worker workers key (value_at kept stamp key)
kept-given layout image worker workers kept stamp key are keeps low =
    by (latest kept stamp key) refl (latest-is-one kept stamp key)
  where
    by : (last : Option Write) → latest kept stamp key ≡ last
        → MatchOption last (Unit {0}) (IsOneOf kept key)
        → GivesValue (slot_at layout image) worker workers key
        (option_and_then (λ write. write.value) last)
    by None e inside = λ copy found.
        let one = keeps key copy found in
        let has = are.all key one.0 one.1 in
        let write : Write = record { stamp = one.0.stamp; key = key; value = Some one.0.value } in
        true≢false (sym (latest-some kept stamp key write has refl
        (All-member (λ w. w.stamp ≤ stamp) kept write low has)) ∙ ap is_some e)
    by (Some write) e inside =
        let one = are.each write inside.0 in
        subst (GivesValue (slot_at layout image) worker workers key) (sym one.3) (
          one.0,
          subst (λ k. IsKept (slot_at layout image) worker workers k one.0) inside.1 one.1,
          refl,
        )
