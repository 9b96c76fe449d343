-- What a reading gives of each key while steps are carried out.
use Rattle.std.proofs.Common.{◌≡◌, ◌⊎◌, inl, inr, ⊎_elim, ℕ, ◌<◌, List, Option, None, Some, refl}
use Rattle.std.proofs.Common.{sym, ap, ◌∙◌, subst, arith}
use Rattle.kv_base.proofs.ImageLemmas.{one_place}
use Rattle.kv_model.specs.Slots.{Slot, Item}
use Rattle.kv_model.specs.Reading.{Reading, Copy}
use Rattle.kv_slab.specs.Given.{GivesItem, IsItemOf}
use Rattle.kv_slab.specs.Rounds.{At, To, Step, Index, Steps, IsPlace, Holds, item_of, answer_of}
use Rattle.kv_slab.specs.Rounds.{written_of, after_step, Fits, IsNew, IsNoItem, IsUnused, InFirst}
use Rattle.kv_slab.specs.Rounds.{FirstDone, IsLeft, InSecond, SecondDone, put_at, moved, OldOrNew}

-- a place as an entry tells it
abbrev pub entry : ℕ → ℕ → ℕ → At
entry c s t = record { stamp = t; place = record { class = c; slot = s } }

pub item_not : (now : Slot) (t : ℕ) (k v : List ℕ) → now ≡ Item t k v → IsNoItem now → ⊥
item_not now t k v e none = subst IsNoItem e none

some_class : {a b : At} → Some a ≡ Some b → a ≡ b
some_class e = cc

-- an item that the index leads to
pub kept_at : (read : Reading) (index : Index) (k : List ℕ) (o : Option At) → Holds index read
    → index k ≡ o → GivesItem read k (answer_of read o)
kept_at read index k None h e = λ copy found.
    let f : index k ≡ Some (entry copy.class copy.slot copy.stamp) = h.only copy.class copy.slot
    copy.stamp k copy.value found in
    cc
kept_at read index k (Some at) h e =
    let value = (h.each k at e).0 in
    let is : read at.place.class at.place.slot ≡ Item at.stamp k value = (h.each k at e).1 in
    subst (λ (slot : Slot). GivesItem read k (item_of slot)) (sym is) (
      record { class = at.place.class; slot = at.place.slot; stamp = at.stamp; value = value },
      record {
        found = is;
        first = λ other found.
            let f : index k ≡ Some (entry other.class other.slot other.stamp) = h.only other.class
            other.slot other.stamp k other.value found in
            let same : at ≡ entry other.class other.slot other.stamp = some_class (sym e ∙ f) in
            let c : at.place.class ≡ other.class = ap (λ (a : At). a.place.class) same in
            let s : at.place.slot ≡ other.slot = ap (λ (a : At). a.place.slot) same in
            let t : at.stamp ≡ other.stamp = ap (λ (a : At). a.stamp) same in
            inr (t, inr (c, omega arith));
      },
      refl,
      refl,
    )

pub holds_gives : (read : Reading) (index : Index) (k : List ℕ) → Holds index read
    → GivesItem read k (answer_of read (index k))
holds_gives read index k h = kept_at read index k (index k) h refl

-- a key whose place is as it was, and of which nothing new is found
stays_at : (old now : Reading) (index : Index) (k : List ℕ) (o : Option At) → Holds index old
    → index k ≡ o → ((e : At) → index k ≡ Some e → now e.place.class e.place.slot
    ≡ old e.place.class e.place.slot)
    → ((copy : Copy) → IsItemOf now k copy → IsItemOf old k copy)
    → GivesItem now k (answer_of old o)
stays_at old now index k None h e still none = λ copy found. kept_at old index k None h e copy
    (none copy found)
stays_at old now index k (Some at) h e still none =
    let value = (h.each k at e).0 in
    let is : old at.place.class at.place.slot ≡ Item at.stamp k value = (h.each k at e).1 in
    subst (λ (slot : Slot). GivesItem now k (item_of slot)) (sym is) (
      record { class = at.place.class; slot = at.place.slot; stamp = at.stamp; value = value },
      record {
        found = still at e ∙ is;
        first = λ other found.
            let f : index k ≡ Some (entry other.class other.slot other.stamp) = h.only other.class
            other.slot other.stamp k other.value (none other found) in
            let same : at ≡ entry other.class other.slot other.stamp = some_class (sym e ∙ f) in
            let c : at.place.class ≡ other.class = ap (λ (a : At). a.place.class) same in
            let s : at.place.slot ≡ other.slot = ap (λ (a : At). a.place.slot) same in
            let t : at.stamp ≡ other.stamp = ap (λ (a : At). a.stamp) same in
            inr (t, inr (c, omega arith));
      },
      refl,
      refl,
    )

pub stays_old : (old now : Reading) (index : Index) (k : List ℕ) → Holds index old
    → ((e : At) → index k ≡ Some e → now e.place.class e.place.slot
    ≡ old e.place.class e.place.slot)
    → ((copy : Copy) → IsItemOf now k copy → IsItemOf old k copy)
    → GivesItem now k (answer_of old (index k))
stays_old old now index k h still none = stays_at old now index k (index k) h refl still none

-- a copy of the key is the new item, or was there before
pub record IsNewest (k : List ℕ) (stamp : ℕ) (t : To) (copy : Copy) : Type 0 where
  pub stamped : copy.stamp ≡ stamp
  pub place : IsPlace t.class t.slot copy.class copy.slot

pub becomes_new : (now : Reading) (k : List ℕ) (stamp : ℕ) (t : To) → now t.class t.slot
    ≡ Item stamp k t.value
    → ((copy : Copy) → IsItemOf now k copy → (copy.stamp < stamp) ⊎ IsNewest k stamp t copy)
    → GivesItem now k (Some (stamp, t.value))
becomes_new now k stamp t is others = (
  record { class = t.class; slot = t.slot; stamp = stamp; value = t.value },
  record {
    found = is;
    first = λ other found.
        ⊎_elim
        (λ (less : other.stamp < stamp). inl less)
        (λ (new : IsNewest k stamp t other). inr (
          sym new.stamped,
          inr
              (new.place.0, let p = new.place.1 in omega arith),
        ))
        (others other found);
  },
  refl,
  refl,
)

module _ (index : Index) (steps : Steps) (old : Reading) (h : Holds index old)
    (fits : Fits index steps) where
  -- what is found of a key in the first round was there before, or is its new item
  first_found : (now : Reading) → InFirst index steps old now → (k : List ℕ) (copy : Copy)
      → IsItemOf now k copy
      → IsItemOf old k copy ⊎ ((st : Step) × (t : To) × (steps k ≡ Some st) × (st.to ≡ Some t)
      × IsNewest k st.stamp t copy × (copy.value ≡ t.value))
  first_found now in_first k copy found =
      ⊎_elim
      (λ (same : now copy.class copy.slot ≡ old copy.class copy.slot). inl (sym same ∙ found))
      (λ (other : IsNew steps copy.class copy.slot (now copy.class copy.slot)
      ⊎ IsUnused index copy.class copy.slot (now copy.class copy.slot)).
      ⊎_elim
      (λ (new : IsNew steps copy.class copy.slot (now copy.class copy.slot)).
      let e : Item copy.stamp k copy.value ≡ Item new.step.stamp new.key new.to.value = sym found
      ∙ new.is in
      let key : new.key ≡ k = cc in
      let stamp : copy.stamp ≡ new.step.stamp = cc in
      let value : copy.value ≡ new.to.value = cc in
      inr (
        new.step,
        new.to,
        subst (λ (j : List ℕ). steps j ≡ Some new.step) key new.has,
        new.goes,
        record { stamped = stamp; place = new.at },
        value,
      ))
      (λ (unused : IsUnused index copy.class copy.slot (now copy.class copy.slot)). absurd
      (item_not (now copy.class copy.slot) copy.stamp k copy.value found unused.none))
      other)
      (in_first copy.class copy.slot)

  -- a key's place stays in the first round, unless its own new item stands there
  first_stays : (now : Reading) → InFirst index steps old now → (k : List ℕ) (e : At) → index k
      ≡ Some e
      → (now e.place.class e.place.slot ≡ old e.place.class e.place.slot)
      ⊎ ((st : Step) × (t : To) × (steps k ≡ Some st) × (st.to ≡ Some t)
      × IsPlace t.class t.slot e.place.class e.place.slot)
  first_stays now in_first k e has =
      ⊎_elim
      (λ (same : now e.place.class e.place.slot ≡ old e.place.class e.place.slot). inl same)
      (λ (other : IsNew steps e.place.class e.place.slot (now e.place.class e.place.slot)
      ⊎ IsUnused index e.place.class e.place.slot (now e.place.class e.place.slot)).
      ⊎_elim
      (λ (new : IsNew steps e.place.class e.place.slot (now e.place.class e.place.slot)).
      let key : k ≡ new.key = fits.free new.key new.step new.to new.has new.goes k e has new.at in
      inr (
        new.step,
        new.to,
        subst (λ (j : List ℕ). steps j ≡ Some new.step) (sym key) new.has,
        new.goes,
        new.at,
      ))
      (λ (unused : IsUnused index e.place.class e.place.slot (now e.place.class e.place.slot)).
      absurd (unused.free k e has (refl, refl)))
      other)
      (in_first e.place.class e.place.slot)

  -- a key's older copies have lesser stamps
  older : (k : List ℕ) (st : Step) (copy : Copy) → steps k ≡ Some st → IsItemOf old k copy
      → copy.stamp < st.stamp
  older k st copy has found = fits.above k st has k (entry copy.class copy.slot copy.stamp)
      (h.only copy.class copy.slot copy.stamp k copy.value found)

  -- in the first round: of a key without a step
  first_none : (now : Reading) → InFirst index steps old now → (k : List ℕ) → steps k ≡ None
      → GivesItem now k (answer_of old (index k))
  first_none now in_first k none =
      stays_old old now index k h
      (λ e has.
      ⊎_elim
      (λ (same : now e.place.class e.place.slot ≡ old e.place.class e.place.slot). same)
      (λ (new : (st : Step) × (t : To) × (steps k ≡ Some st) × (st.to ≡ Some t)
      × IsPlace t.class t.slot e.place.class e.place.slot). absurd (let a = new.2 in cc))
      (first_stays now in_first k e has))
      (λ copy found.
      ⊎_elim
      (λ (was : IsItemOf old k copy). was)
      (λ (new : (st : Step) × (t : To) × (steps k ≡ Some st) × (st.to ≡ Some t)
      × IsNewest k st.stamp t copy × (copy.value ≡ t.value)). absurd (let a = new.2 in cc))
      (first_found now in_first k copy found))

  -- of a key whose step goes to no place
  first_out : (now : Reading) → InFirst index steps old now → (k : List ℕ) (st : Step) → steps k
      ≡ Some st → st.to ≡ None → GivesItem now k (answer_of old (index k))
  first_out now in_first k st has out =
      stays_old old now index k h
      (λ e at.
      ⊎_elim
      (λ (same : now e.place.class e.place.slot ≡ old e.place.class e.place.slot). same)
      (λ (new : (su : Step) × (t : To) × (steps k ≡ Some su) × (su.to ≡ Some t)
      × IsPlace t.class t.slot e.place.class e.place.slot).
      let same : st ≡ new.0 = (let a = new.2 in cc) in
      absurd (let a = new.3 in let b = ap (λ (s : Step). s.to) same in cc))
      (first_stays now in_first k e at))
      (λ copy found.
      ⊎_elim
      (λ (was : IsItemOf old k copy). was)
      (λ (new : (su : Step) × (t : To) × (steps k ≡ Some su) × (su.to ≡ Some t)
      × IsNewest k su.stamp t copy × (copy.value ≡ t.value)).
      let same : st ≡ new.0 = (let a = new.2 in cc) in
      absurd (let a = new.3 in let b = ap (λ (s : Step). s.to) same in cc))
      (first_found now in_first k copy found))

  -- of a key whose new item is there
  first_new : (now : Reading) → InFirst index steps old now → (k : List ℕ) (st : Step) (t : To)
      → steps k ≡ Some st → st.to ≡ Some t → now t.class t.slot ≡ Item st.stamp k t.value
      → (later : Reading) → ((copy : Copy) → IsItemOf later k copy → IsItemOf now k copy)
      → later t.class t.slot ≡ Item st.stamp k t.value → GivesItem later k
      (Some (st.stamp, t.value))
  first_new now in_first k st t has goes is later still there =
      becomes_new later k st.stamp t there (λ copy found.
      ⊎_elim
      (λ (was : IsItemOf old k copy). inl (older k st copy has was))
      (λ (new : (su : Step) × (u : To) × (steps k ≡ Some su) × (su.to ≡ Some u)
      × IsNewest k su.stamp u copy × (copy.value ≡ u.value)).
      let same : new.0 ≡ st = (let a = new.2 in cc) in
      let to : new.1 ≡ t = (let a = new.3 in let b = ap (λ (s : Step). s.to) same in cc) in
      let stamp : copy.stamp ≡ st.stamp = new.4.stamped ∙ ap (λ (s : Step). s.stamp) same in
      inr (record {
        stamped = stamp;
        place = (
          ap (λ (u : To). u.class) (sym to) ∙ new.4.place.0,
          ap (λ (u : To). u.slot) (sym to)
              ∙ new.4.place.1,
        );
      }))
      (first_found now in_first k copy (still copy found)))

  -- of a key whose new item's place is as it was, or unused
  first_goes : (now : Reading) → InFirst index steps old now → (k : List ℕ) (st : Step) (t : To)
      → steps k ≡ Some st → st.to ≡ Some t
      → (now t.class t.slot ≡ old t.class t.slot) ⊎ IsUnused index t.class t.slot
      (now t.class t.slot) → GivesItem now k (answer_of old (index k))
  first_goes now in_first k st t has goes how =
      stays_old old now index k h
      (λ e at.
      ⊎_elim
      (λ (same : now e.place.class e.place.slot ≡ old e.place.class e.place.slot). same)
      (λ (new : (su : Step) × (u : To) × (steps k ≡ Some su) × (su.to ≡ Some u)
      × IsPlace u.class u.slot e.place.class e.place.slot).
      let same : new.0 ≡ st = (let a = new.2 in cc) in
      let to : new.1 ≡ t = (let a = new.3 in let b = ap (λ (s : Step). s.to) same in cc) in
      let c : t.class ≡ e.place.class = ap (λ (u : To). u.class) (sym to) ∙ new.4.0 in
      let s : t.slot ≡ e.place.slot = ap (λ (u : To). u.slot) (sym to) ∙ new.4.1 in
      ⊎_elim
      (λ (as_was : now t.class t.slot ≡ old t.class t.slot). cc)
      (λ (unused : IsUnused index t.class t.slot (now t.class t.slot)). absurd
      (unused.free k e at (sym c, sym s)))
      how)
      (first_stays now in_first k e at))
      (λ copy found.
      ⊎_elim
      (λ (was : IsItemOf old k copy). was)
      (λ (new : (su : Step) × (u : To) × (steps k ≡ Some su) × (su.to ≡ Some u)
      × IsNewest k su.stamp u copy × (copy.value ≡ u.value)).
      let same : new.0 ≡ st = (let a = new.2 in cc) in
      let to : new.1 ≡ t = (let a = new.3 in let b = ap (λ (s : Step). s.to) same in cc) in
      let c : t.class ≡ copy.class = ap (λ (u : To). u.class) (sym to) ∙ new.4.place.0 in
      let s : t.slot ≡ copy.slot = ap (λ (u : To). u.slot) (sym to) ∙ new.4.place.1 in
      ⊎_elim
      (λ (as_was : now t.class t.slot ≡ old t.class t.slot). cc)
      (λ (unused : IsUnused index t.class t.slot (now t.class t.slot)).
      let there : now t.class t.slot ≡ Item copy.stamp k copy.value = cc in
      absurd (item_not (now t.class t.slot) copy.stamp k copy.value there unused.none))
      how)
      (first_found now in_first k copy found))

  first_to : (now : Reading) → InFirst index steps old now → (k : List ℕ) (st : Step)
      (o : Option To) → steps k ≡ Some st → st.to ≡ o
      → GivesItem now k (answer_of old (index k)) ⊎ GivesItem now k (written_of st.stamp o)
  first_to now in_first k st None has out = inl (first_out now in_first k st has out)
  first_to now in_first k st (Some t) has goes =
      ⊎_elim
      (λ (same : now t.class t.slot ≡ old t.class t.slot). inl
      (first_goes now in_first k st t has goes (inl same)))
      (λ (other : IsNew steps t.class t.slot (now t.class t.slot)
      ⊎ IsUnused index t.class t.slot (now t.class t.slot)).
      ⊎_elim
      (λ (new : IsNew steps t.class t.slot (now t.class t.slot)).
      let key : k ≡ new.key = fits.apart new.key new.step new.to new.has new.goes k st t has goes
      new.at in
      let same : new.step ≡ st = (let a = new.has in cc) in
      let to : new.to ≡ t = (let a = new.goes in let b = ap (λ (s : Step). s.to) same in cc) in
      let stamp = ap (λ (s : Step). s.stamp) same in
      let value = ap (λ (u : To). u.value) to in
      let is : now t.class t.slot ≡ Item st.stamp k t.value = (let a = new.is in cc) in
      inr (first_new now in_first k st t has goes is now (λ _ found. found) is))
      (λ (unused : IsUnused index t.class t.slot (now t.class t.slot)). inl
      (first_goes now in_first k st t has goes (inr unused)))
      other)
      (in_first t.class t.slot)

  first_one : (now : Reading) → InFirst index steps old now → (k : List ℕ) (o : Option Step)
      → steps k ≡ o
      → GivesItem now k (answer_of old (index k)) ⊎ GivesItem now k
      (after_step o (answer_of old (index k)))
  first_one now in_first k None none = inl (first_none now in_first k none)
  first_one now in_first k (Some st) has = first_to now in_first k st st.to has refl

  -- In the first round each key has its old answer or its new one.
  pub first_round : (now : Reading) → InFirst index steps old now → OldOrNew index steps old now
  first_round now in_first k = first_one now in_first k (steps k) refl

  module _ (mid : Reading) (in_first : InFirst index steps old mid) (done : FirstDone steps mid)
    where
      -- what is found in the second round was found after the first
      second_found : (now : Reading) → InSecond steps mid now → (k : List ℕ) (copy : Copy)
          → IsItemOf now k copy → IsItemOf mid k copy
      second_found now in_second k copy found =
          ⊎_elim
          (λ (same : now copy.class copy.slot ≡ mid copy.class copy.slot). sym same ∙ found)
          (λ (left : IsLeft steps copy.class copy.slot (now copy.class copy.slot)). absurd
          (item_not (now copy.class copy.slot) copy.stamp k copy.value found left.none))
          (in_second copy.class copy.slot)

      -- where a key's place is left, the key has that step
      left_key : (now : Slot) (k : List ℕ) (e : At) → index k ≡ Some e
          → (left : IsLeft steps e.place.class e.place.slot now) → left.key ≡ k
      left_key now k e at left =
          let from : index left.key ≡ Some left.leaves.at = sym
          (fits.from left.key left.step left.has) ∙ left.leaves.from in
          let c = left.leaves.place.0 in
          let s = left.leaves.place.1 in
          let a = (h.each left.key left.leaves.at from).1 in
          let b = (h.each k e at).1 in
          cc

      -- of a key without a step
      second_none : (now : Reading) → InSecond steps mid now → (k : List ℕ) → steps k ≡ None
          → ((e : At) → index k ≡ Some e → now e.place.class e.place.slot
          ≡ old e.place.class e.place.slot)
      second_none now in_second k none e at =
          let was : mid e.place.class e.place.slot ≡ old e.place.class e.place.slot =
          ⊎_elim
          (λ (same : mid e.place.class e.place.slot ≡ old e.place.class e.place.slot). same)
          (λ (new : (st : Step) × (t : To) × (steps k ≡ Some st) × (st.to ≡ Some t)
          × IsPlace t.class t.slot e.place.class e.place.slot). absurd (let a = new.2 in cc))
          (first_stays mid in_first k e at) in
          ⊎_elim
          (λ (same : now e.place.class e.place.slot ≡ mid e.place.class e.place.slot). same ∙ was)
          (λ (left : IsLeft steps e.place.class e.place.slot (now e.place.class e.place.slot)).
          absurd
          (let key = left_key (now e.place.class e.place.slot) k e at left in let has = left.has
          in cc))
          (in_second e.place.class e.place.slot)

      -- a new item is there all the while
      second_new : (now : Reading) → InSecond steps mid now → (k : List ℕ) (st : Step) (t : To)
          → steps k ≡ Some st → st.to ≡ Some t → now t.class t.slot ≡ Item st.stamp k t.value
      second_new now in_second k st t has goes =
          ⊎_elim
          (λ (same : now t.class t.slot ≡ mid t.class t.slot). same ∙ done k st t has goes)
          (λ (left : IsLeft steps t.class t.slot (now t.class t.slot)).
          let from : index left.key ≡ Some left.leaves.at = sym
          (fits.from left.key left.step left.has) ∙ left.leaves.from in
          let key : left.key ≡ k = fits.free k st t has goes left.key left.leaves.at from
          (sym left.leaves.place.0, sym left.leaves.place.1) in
          let same : left.step ≡ st = (let a = left.has in cc) in
          let to : left.step.to ≡ Some t = ap (λ (s : Step). s.to) same ∙ goes in
          absurd (left.leaves.left t to (refl, refl)))
          (in_second t.class t.slot)

      -- of a key whose step goes to no place, nothing new is found
      second_was : (now : Reading) → InSecond steps mid now → (k : List ℕ) (st : Step) → steps k
          ≡ Some st → st.to ≡ None → (copy : Copy) → IsItemOf now k copy → IsItemOf old k copy
      second_was now in_second k st has out copy found =
          ⊎_elim
          (λ (was : IsItemOf old k copy). was)
          (λ (new : (su : Step) × (t : To) × (steps k ≡ Some su) × (su.to ≡ Some t)
          × IsNewest k su.stamp t copy × (copy.value ≡ t.value)).
          let same : st ≡ new.0 = (let a = new.2 in cc) in
          absurd (let a = new.3 in let b = ap (λ (s : Step). s.to) same in cc))
          (first_found mid in_first k copy (second_found now in_second k copy found))

      mid_out : (k : List ℕ) (st : Step) → steps k ≡ Some st → st.to ≡ None → (e : At) → index k
          ≡ Some e → mid e.place.class e.place.slot ≡ old e.place.class e.place.slot
      mid_out k st has out e at =
          ⊎_elim
          (λ (same : mid e.place.class e.place.slot ≡ old e.place.class e.place.slot). same)
          (λ (new : (su : Step) × (t : To) × (steps k ≡ Some su) × (su.to ≡ Some t)
          × IsPlace t.class t.slot e.place.class e.place.slot).
          let same : st ≡ new.0 = (let a = new.2 in cc) in
          absurd (let a = new.3 in let b = ap (λ (s : Step). s.to) same in cc))
          (first_stays mid in_first k e at)

      -- a deleted key: its item, or none
      second_out : (now : Reading) → InSecond steps mid now
          → (k : List ℕ) (st : Step) (o : Option At)
          → steps k ≡ Some st → st.to ≡ None → index k ≡ o
          → GivesItem now k (answer_of old (index k)) ⊎ GivesItem now k None
      second_out now in_second k st None has out none = inr (λ copy found.
          let f = h.only copy.class copy.slot copy.stamp k copy.value
          (second_was now in_second k st has out copy found) in
          cc)
      second_out now in_second k st (Some e) has out at =
          ⊎_elim
          (λ (same : now e.place.class e.place.slot ≡ mid e.place.class e.place.slot).
          inl
          (stays_old old now index k h
          (λ f af.
          let q : e ≡ f = some_class (sym at ∙ af) in
          subst (λ (a : At). now a.place.class a.place.slot ≡ old a.place.class a.place.slot) q
          (same ∙ mid_out k st has out e at))
          (second_was now in_second k st has out)))
          (λ (left : IsLeft steps e.place.class e.place.slot (now e.place.class e.place.slot)).
          inr (λ copy found.
          let f = h.only copy.class copy.slot copy.stamp k copy.value
          (second_was now in_second k st has out copy found) in
          let q : e ≡ entry copy.class copy.slot copy.stamp = some_class (sym at ∙ f) in
          let c : e.place.class ≡ copy.class = ap (λ (a : At). a.place.class) q in
          let s : e.place.slot ≡ copy.slot = ap (λ (a : At). a.place.slot) q in
          let there : now e.place.class e.place.slot ≡ Item copy.stamp k copy.value = cc in
          item_not (now e.place.class e.place.slot) copy.stamp k copy.value there left.none))
          (in_second e.place.class e.place.slot)

      second_to : (now : Reading) → InSecond steps mid now
          → (k : List ℕ) (st : Step) (o : Option To)
          → steps k ≡ Some st → st.to ≡ o
          → GivesItem now k (answer_of old (index k)) ⊎ GivesItem now k (written_of st.stamp o)
      second_to now in_second k st None has out = second_out now in_second k st (index k) has out
          refl
      second_to now in_second k st (Some t) has goes =
          inr (first_new mid in_first k st t has goes (done k st t has goes) now
          (second_found now in_second k) (second_new now in_second k st t has goes))

      second_one : (now : Reading) → InSecond steps mid now → (k : List ℕ) (o : Option Step)
          → steps k
          ≡ o
          → GivesItem now k (answer_of old (index k)) ⊎ GivesItem now k
          (after_step o (answer_of old (index k)))
      second_one now in_second k None none =
          inl
          (stays_old old now index k h (second_none now in_second k none)
          (λ copy found.
          ⊎_elim
          (λ (was : IsItemOf old k copy). was)
          (λ (new : (st : Step) × (t : To) × (steps k ≡ Some st) × (st.to ≡ Some t)
          × IsNewest k st.stamp t copy × (copy.value ≡ t.value)). absurd (let a = new.2 in cc))
          (first_found mid in_first k copy (second_found now in_second k copy found))))
      second_one now in_second k (Some st) has = second_to now in_second k st st.to has refl

      -- In the second round too.
      pub second_round : (now : Reading) → InSecond steps mid now → OldOrNew index steps old now
      second_round now in_second k = second_one now in_second k (steps k) refl

      module _ (now : Reading) (in_second : InSecond steps mid now) (gone : SecondDone steps now)
        where
          after_put : (k : List ℕ) (st : Step) (o : Option To) (e : At) → steps k ≡ Some st → st.to
              ≡ o
              → put_at st.stamp o ≡ Some e → (value : List ℕ) × (now e.place.class e.place.slot
              ≡ Item e.stamp k value)
          after_put k st None e has goes at = absurd (cc)
          after_put k st (Some t) e has goes at =
              subst (λ (a : At). (value : List ℕ) × (now a.place.class a.place.slot
              ≡ Item a.stamp k value)) (some_class at) (
                t.value,
                second_new now in_second k st t has
                    goes,
              )

          after_each : (k : List ℕ) (o : Option Step) (e : At) → steps k ≡ o → moved o (index k)
              ≡ Some e → (value : List ℕ) × (now e.place.class e.place.slot ≡ Item e.stamp k value)
          after_each k None e none at = (
            (h.each k e at).0,
            second_none now in_second k none e at
                ∙ (h.each k e at).1,
          )
          after_each k (Some st) e has at = after_put k st st.to e has refl at

          -- an item that was at its place before, of a key that has a step, is gone or new
          still_there : (k : List ℕ) (st : Step) (o : Option To) (c s t : ℕ) (v : List ℕ) → steps k
              ≡ Some st → st.to ≡ o → index k ≡ Some (entry c s t) → now c s ≡ Item t k v
              → put_at st.stamp o ≡ Some (entry c s t)
          still_there k st None c s t v has out at is =
              absurd (item_not (now c s) t k v is
              (gone k st c s has (record {
                at = entry c s t;
                from = fits.from k st has
                    ∙ at;
                place = (refl, refl);
                left = λ u to _. absurd (let a = to in cc);
              })))
          still_there k st (Some u) c s t v has goes at is =
              ⊎_elim
              (λ (one : IsPlace u.class u.slot c s).
              let new : now u.class u.slot ≡ Item st.stamp k u.value = second_new now in_second k st
              u
              has goes in
              let c1 = one.0 in
              let s1 = one.1 in
              let stamp : st.stamp ≡ t = cc in
              cc)
              (λ (apart : (u.class ≡ c) → (u.slot ≡ s) → ⊥).
              absurd (item_not (now c s) t k v is
              (gone k st c s has
              (record {
                at = entry c s t;
                from = fits.from k st has ∙ at;
                place = (refl, refl);
                left = λ w to here.
                    let same : w ≡ u = (let a = goes in cc) in
                    apart (ap (λ (x : To). x.class) (sym same) ∙ here.0)
                    (ap (λ (x : To). x.slot) (sym same) ∙ here.1);
              }))))
              (one_place u.class u.slot c s)

          after_old : (k : List ℕ) (o : Option Step) (c s t : ℕ) (v : List ℕ) → steps k ≡ o
              → index k
              ≡ Some (entry c s t) → now c s ≡ Item t k v → moved o (index k) ≡ Some (entry c s t)
          after_old k None c s t v none at is = at
          after_old k (Some st) c s t v has at is = still_there k st st.to c s t v has refl at is

          after_only : (c s t : ℕ) (k v : List ℕ) → now c s ≡ Item t k v → moved (steps k) (index k)
              ≡ Some (entry c s t)
          after_only c s t k v is =
              let copy : Copy = record { class = c; slot = s; stamp = t; value = v } in
              ⊎_elim
              (λ (was : IsItemOf old k copy). after_old k (steps k) c s t v refl (h.only c s t k v
              was)
              is)
              (λ (new : (st : Step) × (u : To) × (steps k ≡ Some st) × (st.to ≡ Some u)
              × IsNewest k st.stamp u copy × (v ≡ u.value)).
              let st = new.0 in
              let to = new.3 in
              let stamp = new.4.stamped in
              let c1 = new.4.place.0 in
              let s1 = new.4.place.1 in
              let put : put_at (new.0).stamp (new.0).to ≡ Some (entry (new.1).class (new.1).slot
              (new.0).stamp) = ap (put_at (new.0).stamp) to in
              ap (λ (o : Option Step). moved o (index k)) new.2 ∙ put ∙ cc)
              (first_found mid in_first k copy (second_found now in_second k copy is))

          -- After both rounds the index with the steps has each item.
          pub holds_after : Holds (λ k. moved (steps k) (index k)) now
          holds_after = record {
            each = λ k e at. after_each k (steps k) e refl at;
            only =
                after_only;
          }

          answer_none : (k : List ℕ) (o : Option At) → index k ≡ o → steps k ≡ None
              → answer_of now o
              ≡ answer_of old o
          answer_none k None at none = refl
          answer_none k (Some e) at none = ap item_of (second_none now in_second k none e at)

          answer_put : (k : List ℕ) (st : Step) (o : Option To) → steps k ≡ Some st → st.to ≡ o
              → answer_of now (put_at st.stamp o) ≡ written_of st.stamp o
          answer_put k st None has goes = refl
          answer_put k st (Some t) has goes = ap item_of (second_new now in_second k st t has goes)

          answer_one : (k : List ℕ) (o : Option Step) → steps k ≡ o
              → answer_of now (moved o (index k))
              ≡ after_step o (answer_of old (index k))
          answer_one k None none = answer_none k (index k) refl none
          answer_one k (Some st) has = answer_put k st st.to has refl

          -- After both rounds each key has its new answer.
          pub answers_after : (k : List ℕ) → answer_of now (moved (steps k) (index k))
              ≡ after_step (steps k) (answer_of old (index k))
          answers_after k = answer_one k (steps k) refl
