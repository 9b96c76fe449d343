-- One change more in a round.
use Rattle.std.specs.List.{slice_get}
use Rattle.std.proofs.Common.{◌≡◌, ◌⊎◌, inl, inr, ⊎_elim, ℕ, ◌<◌, ◌≤◌, ◌+◌, List, Option, None}
use Rattle.std.proofs.Common.{Some, refl, sym, ap, ◌∙◌, subst, arith}
use Rattle.std.proofs.lemmas.Bool.{cases_lt}
use Rattle.kv_base.specs.Image.{Image}
use Rattle.kv_base.specs.declared.place.Place.{Place}
use Rattle.kv_base.proofs.ImageLemmas.{one_place}
use Rattle.kv_model.specs.Slots.{Slot, Item, Tombstone}
use Rattle.kv_model.specs.Reading.{Reading, large_slot}
use Rattle.kv_slab.specs.Rounds.{To, IsPlace}
use Rattle.kv_slab.specs.declared.change.Change.{Change}
use Rattle.kv_slab.specs.declared.moves.Move.{Move}
use Rattle.kv_slab.specs.Moves.{to_of, IsPair, IsNewAt, FirstSoFar, IsLeftAt, SecondSoFar}
use Rattle.kv_slab.specs.Moves.{TargetsApart, LeftApart, StillFirst, StillSecond, StillBeside}
use Rattle.kv_slab.specs.Moves.{AreWhole, IsWhole, IsWritten, IsVacated}
use Rattle.kv_slab.specs.Images.{SameSlot}
use Rattle.kv_slab.specs.Large.{HaveStamp}
use Rattle.kv_slab.proofs.MixLemmas.{same_then}
use Rattle.kv_slab.proofs.SetLemmas.{large_same}
use Rattle.kv_slab.proofs.StepLemmas.{to_of_some, place_same}

-- a number below the next one
last : (i n : ℕ) → i < n + 1 → (i < n) ⊎ (i ≡ n)
last i n below =
    ⊎_elim
    (λ (less : i < n). inl less)
    (λ (more : n ≤ i). inr (omega arith))
    (cases_lt i n)

pub first_start : (cs : List Change) (ms : List Move) (old : Reading) → FirstSoFar cs ms 0 old old
first_start cs ms old = record {
  each = λ c s. inl refl;
  done = λ i c m t below _ _. absurd
      (omega arith);
}

pub second_start : (ms : List Move) (links : List (Option ℕ)) (old : Reading)
    → SecondSoFar ms links 0 old old
second_start ms links old = record {
  each = λ c s. inl refl;
  done = λ i m p link below _ _ _. absurd
      (omega arith);
}

new_more : (cs : List Change) (ms : List Move) (n c s : ℕ) (now : Slot) → IsNewAt cs ms n c s now
    → IsNewAt cs ms (n + 1) c s now
new_more cs ms n c s now new = record {
  i = new.i;
  change = new.change;
  move = new.move;
  to = new.to;
  below = let b = new.below in omega arith;
  pair = new.pair;
  goes = new.goes;
  at = new.at;
  is = new.is;
}

left_more : (ms : List Move) (links : List (Option ℕ)) (n c s : ℕ) (now : Slot)
    → IsLeftAt ms links n c s now → IsLeftAt ms links (n + 1) c s now
left_more ms links n c s now left = record {
  i = left.i;
  move = left.move;
  place = left.place;
  link = left.link;
  below = let b = left.below in omega arith;
  is = left.is;
  linked = left.linked;
  left = left.left;
  at = left.at;
  tombstone = left.tombstone;
}

first_more_to : (cs : List Change) (ms : List Move) (n : ℕ) (old now next : Reading) (ch : Change)
    (mv : Move) (o : Option To) → TargetsApart ms → IsPair cs ms n ch mv → to_of mv.to ch.value ≡ o
    → FirstSoFar cs ms n old now → IsWritten ch o now next → FirstSoFar cs ms (n + 1) old next
first_more_to cs ms n old now next ch mv None toes pair goes so_far same = record {
  each = λ c s.
      let e : next c s ≡ now c s = ap (λ (r : Reading). r c s) same in
      subst (λ (x : Slot). (x ≡ old c s) ⊎ IsNewAt cs ms (n + 1) c s x) (sym e)
      (⊎_elim
      (λ (was : now c s ≡ old c s). inl was)
      (λ (new : IsNewAt cs ms n c s (now c s)). inr (new_more cs ms n c s (now c s) new))
      (so_far.each c s));
  done = λ i c m t below p to.
      ⊎_elim
      (λ (less : i < n). ap (λ (r : Reading). r t.class t.slot) same
      ∙ so_far.done i c m t less p to)
      (λ (is : i ≡ n).
      let a = p.change in
      let b = pair.change in
      let d = p.move in
      let f = pair.move in
      let one : c ≡ ch = cc in
      let two : m ≡ mv = cc in
      absurd (let w = to in cc))
      (last i n below);
}
first_more_to cs ms n old now next ch mv (Some t) toes pair goes so_far sets = record {
  each = λ c s.
      ⊎_elim
      (λ (here : IsPlace c s t.class t.slot).
      inr (record {
        i = n;
        change = ch;
        move = mv;
        to = t;
        below = omega arith;
        pair = pair;
        goes = goes;
        at = (sym here.0, sym here.1);
        is = ap (λ (x : ℕ). next x s) here.0 ∙ ap (λ (x : ℕ). next t.class x) here.1 ∙ sets.here;
      }))
      (λ (far : (c ≡ t.class) → (s ≡ t.slot) → ⊥).
      let e : next c s ≡ now c s = sets.others c s (λ h. far h.0 h.1) in
      subst (λ (x : Slot). (x ≡ old c s) ⊎ IsNewAt cs ms (n + 1) c s x) (sym e)
      (⊎_elim
      (λ (was : now c s ≡ old c s). inl was)
      (λ (new : IsNewAt cs ms n c s (now c s)). inr (new_more cs ms n c s (now c s) new))
      (so_far.each c s)))
      (one_place c s t.class t.slot);
  done = λ i c m u below p to.
      ⊎_elim
      (λ (less : i < n).
      let g = to_of_some m.to c.value u to in
      let f = to_of_some mv.to ch.value t goes in
      let e : next u.class u.slot ≡ now u.class u.slot = sets.others u.class u.slot (λ h.
      let same : i ≡ n = toes i n m mv g.place f.place p.move pair.move g.to f.to
      (place_same g.place f.place (ap (λ (x : To). x.class) (sym g.is) ∙ h.0
      ∙ ap (λ (x : To). x.class) f.is) (ap (λ (x : To). x.slot) (sym g.is) ∙ h.1
      ∙ ap (λ (x : To). x.slot) f.is)) in
      omega arith) in
      e ∙ so_far.done i c m u less p to)
      (λ (is : i ≡ n).
      let a = p.change in
      let b = pair.change in
      let d = p.move in
      let f = pair.move in
      let one : c ≡ ch = cc in
      let two : m ≡ mv = cc in
      let three : u ≡ t = cc in
      subst (λ (x : To). next x.class x.slot ≡ Item c.stamp c.key x.value) (sym three)
      (subst (λ (x : Change). next t.class t.slot ≡ Item x.stamp x.key t.value) (sym one)
      sets.here))
      (last i n below);
}

pub first_more : (cs : List Change) (ms : List Move) (n : ℕ) (old now next : Reading) (ch : Change)
    (mv : Move) → TargetsApart ms → IsPair cs ms n ch mv
    → FirstSoFar cs ms n old now → IsWritten ch (to_of mv.to ch.value) now next
    → FirstSoFar cs ms (n + 1) old next
first_more cs ms n old now next ch mv toes pair so_far written = first_more_to cs ms n old now next
    ch mv (to_of mv.to ch.value) toes pair refl so_far written

second_far : (ms : List Move) (links : List (Option ℕ)) (n : ℕ) (mid now next : Reading) (c s : ℕ)
    → next c s ≡ now c s → SecondSoFar ms links n mid now → (next c s ≡ mid c s)
    ⊎ IsLeftAt ms links (n + 1) c s (next c s)
second_far ms links n mid now next c s e so_far =
    subst (λ (x : Slot). (x ≡ mid c s) ⊎ IsLeftAt ms links (n + 1) c s x) (sym e)
    (⊎_elim
    (λ (was : now c s ≡ mid c s). inl was)
    (λ (left : IsLeftAt ms links n c s (now c s)). inr (left_more ms links n c s (now c s) left))
    (so_far.each c s))

second_more_to : (ms : List Move) (links : List (Option ℕ)) (n : ℕ) (mid now next : Reading)
    (mv : Move) (link : Option ℕ) (o : Option Place) → LeftApart ms
    → slice_get ms n ≡ Some mv → slice_get links n ≡ Some link → mv.left ≡ o
    → SecondSoFar ms links n mid now → IsVacated mv.stamp o link now next
    → SecondSoFar ms links (n + 1) mid next
second_more_to ms links n mid now next mv link None apart here linked goes so_far same = record {
  each = λ c s. second_far ms links n mid now next c s (ap (λ (r : Reading). r c s) same) so_far;
  done = λ i m p l below at at_link left.
      ⊎_elim
      (λ (less : i < n). ap (λ (r : Reading). r p.class p.slot) same
      ∙ so_far.done i m p l less at at_link left)
      (λ (is : i ≡ n).
      let a = at in
      let b = here in
      let one : m ≡ mv = cc in
      absurd (let w = left in cc))
      (last i n below);
}
second_more_to ms links n mid now next mv link (Some q) apart here linked goes so_far sets =
    record {
      each = λ c s.
          ⊎_elim
          (λ (one : IsPlace c s q.class q.slot).
          inr (record {
            i = n;
            move = mv;
            place = q;
            link = link;
            below = omega arith;
            is = here;
            linked = linked;
            left = goes;
            at = (sym one.0, sym one.1);
            tombstone = ap (λ (x : ℕ). next x s) one.0 ∙ ap (λ (x : ℕ). next q.class x) one.1
                ∙ sets.here;
          }))
          (λ (far : (c ≡ q.class) → (s ≡ q.slot) → ⊥). second_far ms links n mid now next c s
          (sets.others c s (λ h. far h.0 h.1)) so_far)
          (one_place c s q.class q.slot);
      done = λ i m p l below at at_link left.
          ⊎_elim
          (λ (less : i < n).
          sets.others p.class p.slot (λ h.
          let same : i ≡ n = apart i n m mv p q at here left goes (place_same p q h.0 h.1) in
          omega arith)
          ∙ so_far.done i m p l less at at_link left)
          (λ (is : i ≡ n).
          let a = at in
          let b = here in
          let d = linked in
          let f = at_link in
          let one : m ≡ mv = cc in
          let two : l ≡ link = cc in
          let three : p ≡ q = (let w = left in cc) in
          subst (λ (x : Place). next x.class x.slot ≡ Tombstone m.stamp l) (sym three)
          (sets.here ∙ ap (λ (x : Move). Tombstone x.stamp link) (sym one)
          ∙ ap (λ (x : Option ℕ). Tombstone m.stamp x) (sym two)))
          (last i n below);
    }

pub second_more : (ms : List Move) (links : List (Option ℕ)) (n : ℕ) (mid now next : Reading)
    (mv : Move) (link : Option ℕ) → LeftApart ms
    → slice_get ms n ≡ Some mv → slice_get links n ≡ Some link
    → SecondSoFar ms links n mid now → IsVacated mv.stamp mv.left link now next
    → SecondSoFar ms links (n + 1) mid next
second_more ms links n mid now next mv link apart here linked so_far vacated =
    second_more_to ms links n mid now next mv link mv.left apart here linked refl so_far vacated

-- one slot more was written in the first round
pub still_first-more : (moves : List Move) (old mid now : Image) (i : ℕ) (m : Move)
    → slice_get moves i ≡ Some m
    → StillBeside m.to mid now → StillFirst moves old mid → StillFirst moves old now
still_first-more moves old mid now i m at same so_far c s none =
    same_then old mid now c s (so_far c s none) (same c s (λ p to here. none i m p at to here))

-- one slot more was written in the second round
pub still_second-more : (moves : List Move) (old mid now : Image) (i : ℕ) (m : Move)
    → slice_get moves i ≡ Some m
    → StillBeside m.left mid now → StillSecond moves old mid → StillSecond moves old now
still_second-more moves old mid now i m at same so_far c s none =
    same_then old mid now c s (so_far c s none) (same c s (λ p left here. none i m p at left here))

-- one large item more was written
pub whole_more : (cs : List Change) (ms : List Move) (n : ℕ) (now next : Image) (ch : Change)
    (mv : Move) → TargetsApart ms → IsPair cs ms n ch mv
    → IsWhole ch (to_of mv.to ch.value) next → StillBeside mv.to now next → AreWhole cs ms n now
    → AreWhole cs ms (n + 1) next
whole_more cs ms n now next ch mv toes pair whole still so_far i c m t below p to large =
    ⊎_elim
    (λ (less : i < n).
    let g = to_of_some m.to c.value t to in
    let same : SameSlot now next t.class t.slot = still t.class t.slot (λ q goes here.
    let one : i ≡ n = toes i n m mv g.place q p.move pair.move g.to goes
    (place_same g.place q (ap (λ (x : To). x.class) (sym g.is) ∙ here.0)
    (ap (λ (x : To). x.slot) (sym g.is) ∙ here.1)) in
    omega arith) in
    subst (λ (ps : List (List ℕ)). HaveStamp c.stamp ps) (sym
    (large_same now next t.class t.slot (same.large large))) (so_far i c m t less p to large))
    (λ (is : i ≡ n).
    let a = p.change in
    let b = pair.change in
    let d = p.move in
    let f = pair.move in
    let one : c ≡ ch = cc in
    let two : m ≡ mv = cc in
    let goes : to_of mv.to ch.value ≡ Some t = ap (λ (x : Move). to_of x.to ch.value) (sym two)
    ∙ ap (λ (x : Change). to_of m.to x.value) (sym one) ∙ to in
    subst (λ (x : Change). HaveStamp x.stamp (large_slot next t.class t.slot)) (sym one)
    (subst (λ (o : Option To). IsWhole ch o next) goes whole large))
    (last i n below)
