-- The lengths of the lists and the ends, on every disk.
use Rattle.std.specs.Prelude.{if◌then◌else◌}
use Rattle.std.specs.List.{slice_get}
use Rattle.std.specs.FinMap as finite
use Rattle.std.proofs.Common.{◌≡◌, inl, inr, ◌∙◌, ℕ, zero, suc, ◌+◌, List, [], ◌∷◌, ◌++◌, length}
use Rattle.std.proofs.Common.{take, set, Some, refl, sym, ap, subst, arith, length-append}
use Rattle.std.proofs.lemmas.Bool.{cases_eq, ne_eqb, eq-eqb}
use Rattle.std.proofs.lemmas.Option.{slice_get_within}
use Rattle.kv_base.specs.declared.place.Place.{Place}
use Rattle.kv_index.specs.Entries.{Entries}
use Rattle.kv_slab.specs.declared.change.Change.{Change}
use Rattle.kv_slab.specs.declared.moves.Move.{Move}
use Rattle.kv_slab.specs.declared.room.Room.{Room}
use Rattle.kv_slab.specs.Assigned.{slots_left}
use Rattle.kv_slab.specs.Memory.{HasLength, HaveLengths, AreFilled, new_in, left_in}
use Rattle.kv_slab.specs.Moves.{IsPair, AreDistinct, AreAllMoves}
use Rattle.kv_slab.proofs.TakeLemmas.{push_get}
use Rattle.kv_slab.specs.Rooms.{needed, new_class, left_by, left_slots, slots_of}
use Rattle.kv_slab.specs.Rounds.{Index}
use Rattle.kv_slab.specs.Settled.{moved_by}
use Rattle.kv_slab.proofs.CountLemmas.{items_after}
use Rattle.kv_slab.proofs.JoinLemmas.{left_same}
use Rattle.kv_slab.proofs.SlotTaking.{set-here, set-other}
use Rattle.kv_slab.proofs.StepLemmas.{get_some}

-- nothing taken, nothing given back
pub lengths-none : (t l : ℕ → ℕ) (rooms : List Room) → ((c : ℕ) → (t c ≡ 0) × (l c ≡ 0))
    → HaveLengths t l rooms rooms
lengths-none t l rooms none c room now at there =
    let same : room ≡ now = (let a = at in let b = there in cc) in
    let zero_t = (none c).0 in
    let zero_l = (none c).1 in
    subst (λ x. HasLength (t c) (l c) room x) same (record {
      list = omega arith;
      end = omega
          arith;
    })

-- one class alone
pub lengths-set : (t l : ℕ → ℕ) (rooms : List Room) (i : ℕ) (was room : Room) → slice_get rooms i
    ≡ Some was → HasLength (t i) (l i) was room
    → ((c : ℕ) → (c ≡ i → ⊥) → (t c ≡ 0) × (l c ≡ 0)) → HaveLengths t l rooms (set rooms i room)
lengths-set t l rooms i was room at has none c old now old_at now_at = elim (cases_eq c i) [
  | inl same ↦
      let now_is : now ≡ room = set-here rooms i room now (ap (λ n. slice_get (set rooms i room) n)
      (sym same) ∙ now_at) in
      let old_is : old ≡ was = (let a = sym (ap (slice_get rooms) same)
      ∙ old_at in let b = at in cc) in
      subst (λ n. HasLength (t n) (l n) old now) (sym same) (subst
      (λ x. HasLength (t i) (l i) x now) (sym old_is) (subst (λ x. HasLength (t i) (l i) was x)
      (sym now_is) has))
  | inr other ↦
      let there : slice_get rooms c ≡ Some now = sym (set-other rooms i c room other) ∙ now_at in
      let one : old ≡ now = (let a = old_at in let b = there in cc) in
      let zero_t = (none c other).0 in
      let zero_l = (none c other).1 in
      subst (λ x. HasLength (t c) (l c) old x) one (record {
        list = omega arith;
        end = omega
            arith;
      })
]

-- more were taken
pub lengths-taken : (t u : ℕ → ℕ) (a b c : List Room) → length a ≡ length b
    → HaveLengths t (λ _. 0) a b → HaveLengths u (λ _. 0) b c
    → HaveLengths (λ k. t k + u k) (λ _. 0) a c
lengths-taken t u a b c size first next k old now old_at now_at =
    let mid = get_some b k (let e = slice_get_within a k old old_at in omega arith) in
    let one = first k old mid.0 old_at mid.1 in
    let two = next k mid.0 now mid.1 now_at in
    record {
      list = omega (arith, one.list, two.list);
      end = omega
          (arith, one.list, one.end, two.end);
    }

-- then some were given back
pub lengths-given : (t l m : ℕ → ℕ) (a b c : List Room) → length a ≡ length b → HaveLengths t l a b
    → HaveLengths (λ _. 0) m b c
    → HaveLengths t (λ k. l k + m k) a c
lengths-given t l m a b c size first next k old now old_at now_at =
    let mid = get_some b k (let e = slice_get_within a k old old_at in omega arith) in
    let one = first k old mid.0 old_at mid.1 in
    let two = next k mid.0 now mid.1 now_at in
    record { list = omega (arith, one.list, two.list); end = omega (arith, one.end, two.end) }

-- the same numbers
pub lengths-same : (t u l m : ℕ → ℕ) (a b : List Room) → ((c : ℕ) → t c ≡ u c)
    → ((c : ℕ) → l c ≡ m c) → HaveLengths t l a b → HaveLengths u m a b
lengths-same t u l m a b same_t same_l has k old now old_at now_at =
    subst (λ n. HasLength n (m k) old now) (same_t k) (subst (λ n. HasLength (t k) n old now)
    (same_l k) (has k old now old_at now_at))

-- only the class itself
pub new_in-none : (class c : ℕ) → (c ≡ class → ⊥) → new_in (Some class) c ≡ 0
new_in-none class c other = ap (λ b. if b then 1 else 0) (ne_eqb class c (λ e. other (sym e)))

pub new_in-one : (class : ℕ) → new_in (Some class) class ≡ 1
new_in-one class = ap (λ b. if b then 1 else 0) (eq-eqb class class refl)

pub left_in-none : (p : Place) (c : ℕ) → (c ≡ p.class → ⊥) → left_in (Some p) c ≡ 0
left_in-none p c other = ap (λ b. length (if b then p.slot ∷ [] else []))
    (ne_eqb p.class c (λ e. other (sym e)))

pub left_in-one : (p : Place) → left_in (Some p) p.class ≡ 1
left_in-one p = ap (λ b. length (if b then p.slot ∷ [] else [])) (eq-eqb p.class p.class refl)

-- one change more is counted
pub needed-more : (index : Index) (cs : List Change) (i : ℕ) (ch : Change) (c : ℕ) → slice_get cs i
    ≡ Some ch
    → needed index (take (i + 1) cs) c ≡ needed index (take i cs) c + new_in (new_class index ch) c
needed-more index [] i ch c at = absurd (cc)
needed-more index (x ∷ cs) zero ch c at =
    let one : x ≡ ch = cc in
    let e : new_in (new_class index x) c + 0 ≡ 0 + new_in (new_class index x) c = omega arith in
    e ∙ ap (λ y. 0 + new_in (new_class index y) c) one
needed-more index (x ∷ cs) (suc i) ch c at =
    let n : suc i + 1 ≡ suc (i + 1) = omega arith in
    let rest = needed-more index cs i ch c at in
    ap (λ k. needed index (take k (x ∷ cs)) c) n
    ∙ (let e : new_in (new_class index x) c + needed index (take (i + 1) cs) c
    ≡ new_in (new_class index x) c + needed index (take i cs) c + new_in (new_class index ch) c
    = omega arith in e)

pub left-more : (moves : List Move) (i : ℕ) (m : Move) (c : ℕ) → slice_get moves i ≡ Some m
    → length (slots_left (take (i + 1) moves) c) ≡ length (slots_left (take i moves) c) + left_in
    m.left c
left-more [] i m c at = absurd (cc)
left-more (x ∷ moves) zero m c at =
    let one : x ≡ m = cc in
    length-append (slots_of x.left c) [] ∙ (let e : left_in x.left c + 0
    ≡ 0 + left_in x.left c = omega arith in e) ∙ ap (λ (y : Move). 0 + left_in y.left c) one
left-more (x ∷ moves) (suc i) m c at =
    let n : suc i + 1 ≡ suc (i + 1) = omega arith in
    let rest = left-more moves i m c at in
    ap (λ k. length (slots_left (take k (x ∷ moves)) c)) n
    ∙ length-append (slots_of x.left c) (slots_left (take (i + 1) moves) c)
    ∙ (let e : length (slots_of x.left c) + length (slots_left (take (i + 1) moves) c)
    ≡ length (slots_of x.left c) + length (slots_left (take i moves) c) + left_in m.left c =
    omega arith in e)
    ∙ ap (λ k. k + left_in m.left c) (sym (length-append (slots_of x.left c)
    (slots_left (take i moves) c)))

-- an end is still the number of the entries and of the free slots
pub filled-after : (old new : Entries) (kept now : List Room) (changes : List Change)
    (moves : List Move) → length kept ≡ length now → AreDistinct changes
    → AreAllMoves (finite.get old) changes moves → ((k : List ℕ) → finite.get new k
    ≡ moved_by moves k (finite.get old k))
    → HaveLengths (needed (finite.get old) changes) (λ c. length
    (left_slots (finite.get old) changes c)) kept now
    → AreFilled old kept → AreFilled new now
filled-after old new kept now changes moves size distinct all is lengths filled class room at =
    let was = get_some kept class (let e = slice_get_within now class room at in omega arith) in
    let here = lengths class was.0 room was.1 at in
    let before = filled class was.0 was.1 in
    let items = items_after old new changes moves class distinct all is in
    omega (arith, here.list, here.end, before, items)

-- what holds of each change and its move
pub pair-step : (P : Change → Move → Type 0) (changes : List Change) (moves : List Move)
    (ch : Change) (mv : Move) → slice_get changes (length moves) ≡ Some ch → P ch mv
    → ((i : ℕ) (c : Change) (m : Move) → IsPair changes moves i c m → P c m)
    → (i : ℕ) (c : Change) (m : Move) → IsPair changes (moves ++ mv ∷ []) i c m → P c m
pair-step P changes moves ch mv here is each i c m pair = elim (push_get moves mv m i pair.move) [
  | inl was ↦ each i c m (record { change = pair.change; move = was })
  | inr new ↦
      let one : c ≡ ch = (let a = pair.change in let b = here in let e = new.0 in cc) in
      subst (λ x. P x m) (sym one) (subst (λ x. P ch x) (sym new.1) is)
]

-- what the moves leave is what the changes leave
pub left_lengths : (index : Index) (changes : List Change) (moves : List Move) → length moves
    ≡ length changes
    → ((i : ℕ) (c : Change) (m : Move) → IsPair changes moves i c m → m.left ≡ left_by index c)
    → (class : ℕ)
    → 0 + length (slots_left moves class) ≡ length (left_slots index changes class)
left_lengths index changes moves count left class =
    let same : length (slots_left moves class) ≡ length (left_slots index changes class) = ap length
    (left_same index changes moves class count left) in
    omega arith
