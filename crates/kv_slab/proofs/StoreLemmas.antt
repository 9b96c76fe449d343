-- A store while its plan is carried out, and afterwards.
use Rattle.std.specs.List.{slice_get}
use Rattle.std.specs.Str.{bytes_eq}
use Rattle.std.proofs.Common.{◌≡◌, ◌⊎◌, inl, inr, ◌∙◌, ℕ, suc, ◌<◌, ◌≤◌, Bool, true, false, List}
use Rattle.std.proofs.Common.{[], ◌∷◌, Option, None, Some, refl, sym, ap, subst, arith, IsTrue}
use Rattle.std.proofs.Common.{cond, eqb, map}
use Rattle.std.specs.List.{AllByRecursion}
use Rattle.std.proofs.lemmas.Bool.{cases_lt, cases_eq, cond-false, lt-leb, and_right}
use Rattle.std.proofs.lemmas.Option.{slice_get_within}
use Rattle.kv_base.specs.Image.{Image}
use Rattle.kv_base.specs.Partition.{owner_of}
use Rattle.kv_base.specs.declared.place.Place.{Place}
use Rattle.kv_index.specs.declared.entry.Entry.{Entry}
use Rattle.kv_model.specs.Layout.{all_classes}
use Rattle.kv_model.specs.Slots.{Slot, Item, Never, stamp_field}
use Rattle.kv_model.specs.Reading.{Reading, Gives, slot_at, large_slot}
use Rattle.kv_model.specs.Recovery.{most_pages}
use Rattle.kv_slab.specs.Given.{Answer, GivesItem}
use Rattle.kv_slab.specs.Rounds.{At, To, Index, IsPlace, Holds, Fits, InFirst, InSecond, FirstDone}
use Rattle.kv_slab.specs.Rounds.{SecondDone, OldOrNew, IsNew, IsUnused, IsLeft, answer_of, item_of}
use Rattle.kv_slab.specs.Rounds.{moved, after_step}
use Rattle.kv_slab.specs.Images.{Mix, IsZeroSlot}
use Rattle.kv_slab.specs.Floor.{HasFloorBelow}
use Rattle.kv_slab.specs.Large.{AreBelow}
use Rattle.kv_index.specs.Entries.{Entries}
use Rattle.std.specs.FinMap as finite
use Rattle.std.specs.Prelude.{◌&&◌}
use Rattle.kv_slab.specs.Pages.{over, InRounds, ArePages}
use Rattle.kv_slab.specs.declared.change.Change.{Change}
use Rattle.kv_slab.specs.declared.moves.Move.{Move}
use Rattle.kv_slab.specs.declared.page.Page.{Page}
use Rattle.kv_slab.specs.declared.room.Room.{Room}
use Rattle.kv_slab.specs.Moves.{AreDistinct, AreMoves, AreAllMoves, step_of, steps_of, answer_after}
use Rattle.kv_slab.specs.Moves.{ArePlaces, IsSlabPlace, CanHold}
use Rattle.kv_slab.specs.Rooms.{Rooms, rooms_after, item_class, left_for}
use Rattle.kv_model.specs.Layout.{is_small}
use Rattle.kv_slab.specs.Settled.{moved_by, entry_at}
use Rattle.kv_disk.specs.declared.disk.Disk.{Ghosts}
use Rattle.kv_base.specs.Crash.{MayLeave}
use Rattle.kv_base.proofs.ImageLemmas.{only_image}
use Rattle.kv_disk.specs.Steps.{ReadsAtMost}
use Rattle.kv_slab.specs.declared.change.Item.{Item as ItemOf}
use Rattle.kv_slab.specs.Plans.{CanChange, PlannedFor}
use Rattle.kv_slab.specs.View.{IsOpen, IsAnswer, HasItems, IsOfWorker, Stands, map_of, OldOrNewMap}
use Rattle.kv_slab.proofs.RoundLemmas.{first_round, second_round, holds_after, answers_after}
use Rattle.kv_slab.proofs.SlotLemmas.{slot_at-same}
use Rattle.kv_slab.proofs.SetLemmas.{slot_same, heads_at-large}
use Rattle.kv_slab.proofs.LargeTearing.{mix_large}
use Rattle.kv_slab.proofs.MixLemmas.{target_or_not, mix_small, mix_still, mix_first, zero_same}
use Rattle.kv_slab.proofs.MixLemmas.{same_then}
use Rattle.kv_slab.proofs.PageLemmas.{over_beside}
use Rattle.kv_slab.proofs.StepLemmas.{fits_of, in_first_of, first_done_of, in_second_of}
use Rattle.kv_slab.proofs.StepLemmas.{second_done_of, to_of_some, Goes, goes_there, steps_at}
use Rattle.kv_slab.proofs.StepLemmas.{change_at, get_some}
use Rattle.kv_slab.proofs.JoinLemmas.{moves_of, now_index, final, placed_after, linked_after}
use Rattle.kv_slab.proofs.JoinLemmas.{rooms_are, entry_now, target_below, left_below}
use Rattle.kv_slab.proofs.SettleLemmas.{agree_of, answers_same, moved_steps}

-- what is asked of changes where the disk tells what it reads
pub record MayChange (seen : Image) (index : Index) (worker workers : ℕ) (changes : List Change) :
    Type 0 where
  pub distinct : AreDistinct changes
  pub owned : (i : ℕ) (c : Change) → slice_get changes i ≡ Some c → owner_of c.key workers ≡ worker
  pub above : (i : ℕ) (c : Change) → slice_get changes i ≡ Some c → (k : List ℕ) (e : Entry)
      → index k ≡ Some e → e.stamp < c.stamp
  pub floor : (i : ℕ) (c : Change) → slice_get changes i ≡ Some c → HasFloorBelow c.stamp seen

pub may_of : (tells : Bool) (seen : Image) (entries : Entries) (limit worker workers : ℕ)
    (changes : List Change) → IsTrue tells
    → CanChange tells seen entries limit worker workers changes
    → MayChange seen (finite.get entries) worker workers changes
may_of tells seen entries limit worker workers changes told can = record {
  distinct = can.distinct;
  owned = can.owned;
  above = can.above;
  floor = can.floor told;
}

-- the pages of a slot have lesser numbers at their heads
below_of : (stamp : ℕ) (pages : List (List ℕ)) → AllByRecursion (λ head. head < stamp)
    (map stamp_field pages) → AreBelow stamp pages
below_of stamp [] all = tt
below_of stamp (page ∷ pages) all = (all.0, below_of stamp pages all.1)

-- a key never stays at a large place
large_left : (from : Option Entry) (item : Option ℕ) (e : Entry) (class : ℕ) → from ≡ Some e → item
    ≡ Some class → 8 ≤ class → left_for from item ≡ Some e.place
large_left from item e class from_is item_is large =
    ap (λ f. left_for f item) from_is ∙ ap (λ i. left_for (Some e) i) item_is
    ∙ cond-false (eqb e.place.class class && is_small class) None (Some e.place)
    (and_right (eqb e.place.class class) (is_small class) (lt-leb class 7 (omega arith)))

-- what the items give is what is given for an owned key
gives-owned : (reading : Reading) (worker workers : ℕ) (k : List ℕ) (a : Answer)
    → owner_of k workers ≡ worker → GivesItem reading k a → Gives reading worker workers k a
gives-owned reading worker workers k None owned gives = λ copy found. gives copy found.stands
gives-owned reading worker workers k (Some answer) owned gives = (
  gives.0,
  record {
    found = record { stands = gives.1.found; owned = owned };
    first = λ other found. gives.1.first other found.stands;
  },
  gives.2,
  gives.3,
)

module _ (seen : Image) (index : Index) (start : Rooms) (worker workers : ℕ) (changes : List Change)
    (moves : List Move) (first second : List Page) (kept : List Room)
    (stands : Stands seen index start worker workers) (can : MayChange seen index worker workers
    changes) (all_moves : AreAllMoves index changes moves)
    (first_pages : ArePages first) (second_pages : ArePages second)
    (planned : PlannedFor seen index start changes moves first second kept) where
  holds_only : (c s t : ℕ) (k v : List ℕ) → slot_at all_classes seen c s ≡ Item t k v → index k
      ≡ Some (record { stamp = t; place = record { class = c; slot = s } })
  holds_only c s t k v is = elim (cases_lt s (start c).end) [
    | inl below ↦ elim (stands.placed.all c s below) [
      | inl entry ↦
          let e = entry.1 in
          let item = stands.items entry.0 e entry.2 in
          let here : slot_at all_classes seen c s ≡ Item e.stamp entry.0 item.0 =
          ap (λ x. slot_at all_classes seen x s) (sym entry.3.0)
          ∙ ap (λ x. slot_at all_classes seen e.place.class x) (sym entry.3.1) ∙ item.1 in
          let both : Item e.stamp entry.0 item.0 ≡ Item t k v = sym here ∙ is in
          let stamp : e.stamp ≡ t = cc in
          let key : entry.0 ≡ k = cc in
          let whole : e ≡ record { stamp = t; place = record { class = c; slot = s } } = λ i.
          record { stamp = stamp i; place = record { class = entry.3.0 i; slot = entry.3.1 i } }
          in
          ap index (sym key) ∙ entry.2 ∙ ap Some whole
      | inr listed ↦
          let tomb = stands.linked c listed.0 s listed.1 in
          absurd (let a = tomb.1 in cc)
    ]
    | inr past ↦ absurd (let a = stands.unused c s past in cc)
  ]

  holds : Holds index (slot_at all_classes seen)
  holds = record { each = stands.items; only = holds_only }

  are : AreMoves index changes moves
  are = moves_of index start planned.mid changes moves can.distinct planned.assigned all_moves.count

  fits : Fits index (steps_of changes moves)
  fits = fits_of index changes moves can.distinct are can.above

  between : Image
  between = over seen first

  done : Image
  done = over (over seen first) second

  files_second : (f p : ℕ) → 12 ≤ f → over (over seen first) second f p ≡ over seen first f p
  files_second f p above = over_beside (over seen first) second f p second_pages.of_slabs
      (λ low high small. omega arith)

  in_first : InFirst index (steps_of changes moves) (slot_at all_classes seen)
      (slot_at all_classes (over seen first))
  in_first = in_first_of index changes moves can.distinct are (slot_at all_classes seen)
      (slot_at all_classes (over seen first)) planned.writes

  first_done : FirstDone (steps_of changes moves) (slot_at all_classes (over seen first))
  first_done = first_done_of index changes moves can.distinct are (slot_at all_classes seen)
      (slot_at all_classes (over seen first)) planned.writes

  in_second : InSecond (steps_of changes moves) (slot_at all_classes (over seen first))
      (slot_at all_classes (over (over seen first) second))
  in_second = in_second_of index changes moves can.distinct are planned.links
      (slot_at all_classes (over seen first)) (slot_at all_classes (over (over seen first) second))
      planned.vacates

  second_done : SecondDone (steps_of changes moves) (slot_at all_classes
      (over (over seen first) second))
  second_done = second_done_of index changes moves can.distinct are planned.links
      (slot_at all_classes (over seen first)) (slot_at all_classes (over (over seen first) second))
      planned.many planned.vacates

  answer : (k : List ℕ) → after_step (steps_of changes moves k) (map_of seen index k)
      ≡ answer_after changes k (map_of seen index k)
  answer k = answers_same changes moves k (map_of seen index k)
      (agree_of index changes moves all_moves)

  no_entry : (k : List ℕ) (o : Option At) → index k ≡ o → (owner_of k workers ≡ worker → ⊥)
      → answer_of (slot_at all_classes seen) o ≡ None
  no_entry k None is other = refl
  no_entry k (Some e) is other = absurd (other (stands.owned k e is))

  as_map : (image : Image) → OldOrNew index (steps_of changes moves) (slot_at all_classes seen)
      (slot_at all_classes image) → OldOrNewMap (map_of seen index) changes worker workers image
  as_map image either k = elim (cases_eq (owner_of k workers) worker) [
    | inl owned ↦ elim (either k) [
      | inl old ↦ inl (gives-owned (slot_at all_classes image) worker workers k
          (map_of seen index k) owned old)
      | inr new ↦ inr (gives-owned (slot_at all_classes image) worker workers k
          (answer_after changes k (map_of seen index k)) owned
          (subst (λ (a : Answer). GivesItem (slot_at all_classes image) k a) (answer k) new))
    ]
    | inr other ↦ inl (subst (λ (a : Answer). Gives (slot_at all_classes image) worker workers k a)
        (sym (no_entry k (index k) refl other)) (λ copy found. other found.owned))
  ]

  -- inside the first round a place that a large item goes to is as it was, new, or unused
  at_target : (image : Image) → Mix seen (over seen first) image → (i : ℕ) (m : Move) (p : Place)
      → slice_get moves i ≡ Some m → m.to ≡ Some p → 8 ≤ p.class
      → (slot_at all_classes image p.class p.slot ≡ slot_at all_classes seen p.class p.slot)
      ⊎ (IsNew (steps_of changes moves) p.class p.slot (slot_at all_classes image p.class p.slot)
      ⊎ IsUnused index p.class p.slot (slot_at all_classes image p.class p.slot))
  at_target image mix i m p at to large =
      let ch = change_at index changes moves can.distinct are i m at in
      let is = all_moves.each i ch.0 m ch.1 in
      let goes = goes_there ch.0 m p (ch.0).value refl is.none to in
      let target : To = record { class = p.class; slot = p.slot; value = goes.0 } in
      let value : (ch.0).value ≡ Some goes.0 = some_value (to_of_some m.to (ch.0).value target
      goes.1) in
      let some = is.some goes.0 value in
      let same : some.0 ≡ p = (let a = some.1 in cc) in
      let hold : CanHold ch.0 goes.0 p = subst (λ q. CanHold ch.0 goes.0 q) same some.2 in
      let below = slice_get_within changes i ch.0 (ch.1).change in
      let whole = planned.whole i ch.0 m target below ch.1 goes.1 large in
      let low = below_of (ch.0).stamp (large_slot seen p.class p.slot)
      (subst (λ heads. AllByRecursion (λ head. head < (ch.0).stamp) heads)
      (heads_at-large seen p.class p.slot large hold.place.high)
      (can.floor i ch.0 (ch.1).change p.class p.slot)) in
      elim (mix_large seen (over seen first) image p.class p.slot (ch.0).stamp large hold.place.high
      low whole mix) [
        | inl old ↦ inl old
        | inr other ↦ elim other [
          | inl new ↦ inr (inl (record {
            key = (ch.0).key;
            step = step_of ch.0 m;
            to = target;
            has = steps_at changes moves i ch.0 m can.distinct ch.1;
            goes = goes.1;
            at = (refl, refl);
            is = new ∙ planned.writes.done i ch.0 m target below ch.1 goes.1;
          }))
          | inr none ↦ inr (inr (record {
            none = none;
            free = λ j e has here. elim (planned.assigned.target i ch.0 m p ch.1 to) [
              | inl stays ↦
                  let gone = planned.assigned.left i ch.0 m ch.1
                  ∙ large_left (index (ch.0).key) (item_class (ch.0).key (ch.0).value)
                  (stays.0).at p.class (stays.0).has
                  (ap (λ v. item_class (ch.0).key v) value ∙ hold.class) large in
                  absurd (let a = sym stays.1 ∙ gone in cc)
              | inr used ↦ used.unused (j, e, has, here)
            ];
          }))
        ]
      ]
    where
      some_value : Goes m.to (change_at index changes moves can.distinct are i m at).0.value
          (record {
            class = p.class;
            slot = p.slot;
            value = (goes_there
                (change_at index changes moves can.distinct are i m at).0 m p
                (change_at index changes moves can.distinct are i m at).0.value refl
                (all_moves.each i (change_at index changes moves can.distinct are i m at).0 m
                (change_at index changes moves can.distinct are i m at).1).none to).0;
          })
          → (change_at index changes moves can.distinct are i m at).0.value
          ≡ Some (goes_there (change_at index changes moves can.distinct are i m at).0 m p
          (change_at index changes moves can.distinct are i m at).0.value refl
          (all_moves.each i (change_at index changes moves can.distinct are i m at).0 m
          (change_at index changes moves can.distinct are i m at).1).none to).0
      some_value g = g.has ∙ ap Some (ap (λ (t : To). t.value) (sym g.is))

  -- an image inside the first round
  first_mix : (image : Image) → Mix seen (over seen first) image
      → InFirst index (steps_of changes moves) (slot_at all_classes seen)
      (slot_at all_classes image)
  first_mix image mix c s = elim (cases_lt c 8) [
    | inl low ↦ elim (mix_small seen (over seen first) image mix c s (omega arith)) [
      | inl one ↦ inl one
      | inr two ↦
          let P : Slot → Type 0 = λ x. (x ≡ slot_at all_classes seen c s)
          ⊎ (IsNew (steps_of changes moves) c s x ⊎ IsUnused index c s x) in
          subst P (sym two) (in_first c s)
    ]
    | inr large ↦ elim (target_or_not moves c s) [
      | inl t ↦
          let P : ℕ → ℕ → Type 0 = λ x y. (slot_at all_classes image x y
          ≡ slot_at all_classes seen x y)
          ⊎ (IsNew (steps_of changes moves) x y (slot_at all_classes image x y)
          ⊎ IsUnused index x y (slot_at all_classes image x y)) in
          subst (λ x. P x s) (sym t.5.0) (subst (λ y. P (t.2).class y) (sym t.5.1)
          (at_target image mix t.0 t.1 t.2 t.3 t.4 (let e = t.5.0 in omega arith)))
      | inr none ↦ inl (slot_same seen image c s (mix_still seen (over seen first) image mix c s
          large (planned.first_still c s none)))
    ]
  ]

  -- an image inside the second round
  second_mix : (image : Image) → Mix (over seen first) (over (over seen first) second) image
      → InSecond (steps_of changes moves) (slot_at all_classes (over seen first))
      (slot_at all_classes image)
  second_mix image mix c s =
      let P : Slot → Type 0 = λ x. (x ≡ slot_at all_classes (over seen first) c s)
      ⊎ IsLeft (steps_of changes moves) c s x in
      elim (cases_lt c 8) [
        | inl low ↦ elim (mix_small (over seen first) (over (over seen first) second) image mix c s
            (omega arith)) [
              | inl one ↦ inl one
              | inr two ↦ subst P (sym two) (in_second c s)
            ]
        | inr large ↦ elim (cases_lt c 12) [
          | inl limit ↦ elim (mix_first (over seen first) (over (over seen first) second) image mix
              planned.later c s large (omega arith)) [
                | inl one ↦ inl one
                | inr two ↦ subst P (sym two) (in_second c s)
              ]
          | inr past ↦ inl (slot_at-same image (over seen first) c s (λ p. elim (mix c p) [
            | inl one ↦ one
            | inr two ↦ two ∙ files_second c p past
          ]))
        ]
      ]

  -- at each moment inside, each key has its old or its new answer
  pub inside : (image : Image) → InRounds seen first second image
      → OldOrNewMap (map_of seen index) changes worker workers image
  inside image (inl mix) =
      as_map image (first_round index (steps_of changes moves) (slot_at all_classes seen) holds fits
      (slot_at all_classes image)
      (first_mix image mix))
  inside image (inr mix) =
      as_map image (second_round index (steps_of changes moves) (slot_at all_classes seen) holds
      fits (slot_at all_classes (over seen first)) in_first first_done
      (slot_at all_classes image)
      (second_mix image mix))

  -- a page that no slab has is as it was, at each moment
  beside : (image : Image) → InRounds seen first second image → (f p : ℕ)
      → (1 ≤ f → f ≤ 11 → p < most_pages f → ⊥) → image f p ≡ seen f p
  beside image (inl mix) f p out = elim (mix f p) [
    | inl one ↦ one
    | inr two ↦ two ∙ over_beside seen first f p first_pages.of_slabs out
  ]
  beside image (inr mix) f p out = elim (mix f p) [
    | inl one ↦ one ∙ over_beside seen first f p first_pages.of_slabs out
    | inr two ↦ two ∙ over_beside (over seen first) second f p second_pages.of_slabs out
        ∙ over_beside seen first f p first_pages.of_slabs out
  ]

  pub of_worker_inside : (image : Image) → InRounds seen first second image
      → IsOfWorker worker workers image
  of_worker_inside image rounds = record {
    head = beside image rounds 0 0 (λ low high small. omega arith) ∙ stands.of_worker.head;
    bounded = λ class page low high past. beside image rounds class page (λ _ _ small. omega arith)
        ∙ stands.of_worker.bounded class page low high past;
  }

  end_up : (c : ℕ) → (start c).end ≤ (planned.mid c).end
  end_up c = let e = planned.assigned.ends c in omega arith

  -- no move goes to a slot from the end on, nor leaves one
  not_target : (c s : ℕ) → (planned.mid c).end ≤ s → (i : ℕ) (m : Move) (p : Place)
      → slice_get moves i ≡ Some m → m.to ≡ Some p → IsPlace c s p.class p.slot → ⊥
  not_target c s past i m p at to here =
      let ch = change_at index changes moves can.distinct are i m at in
      let below = target_below index start planned.mid changes moves can.distinct planned.assigned
      all_moves.count i ch.0 m p ch.1 to in
      let below_c : p.slot < (planned.mid c).end = subst (λ x. p.slot < (planned.mid x).end)
      (sym here.0) below in
      let slot = here.1 in
      omega arith

  not_left : (c s : ℕ) → (planned.mid c).end ≤ s → (i : ℕ) (m : Move) (p : Place)
      → slice_get moves i ≡ Some m → m.left ≡ Some p → IsPlace c s p.class p.slot → ⊥
  not_left c s past i m p at left here =
      let below = left_below index start planned.mid changes moves can.distinct planned.assigned
      all_moves.count i m p at left in
      let below_c : p.slot < (planned.mid c).end = subst (λ x. p.slot < (planned.mid x).end)
      (sym here.0) below in
      let slot = here.1 in
      omega arith

  unused_after : (c s : ℕ) → (planned.mid c).end ≤ s → slot_at all_classes
      (over (over seen first) second) c s ≡ Never 0
  unused_after c s past =
      let one : slot_at all_classes (over seen first) c s ≡ slot_at all_classes seen c s = elim
      (planned.writes.each c s) [
        | inl same ↦ same
        | inr new ↦
            let g = to_of_some new.move.to new.change.value new.to new.goes in
            absurd (not_target c s past new.i new.move g.place new.pair.move g.to (
              sym new.at.0 ∙ ap (λ (x : To). x.class) g.is,
              sym new.at.1
                  ∙ ap (λ (x : To). x.slot) g.is,
            ))
      ] in
      let two : slot_at all_classes (over (over seen first) second) c s
      ≡ slot_at all_classes (over seen first) c s = elim (planned.vacates.each c s) [
        | inl same ↦ same
        | inr left ↦ absurd (not_left c s past left.i left.move left.place left.is left.left
            (sym left.at.0, sym left.at.1))
      ] in
      two ∙ one ∙ stands.unused c s (omega (arith, end_up c, past))

  zeros_after : (c s : ℕ) → 1 ≤ c → c ≤ 11 → (planned.mid c).end ≤ s
      → IsZeroSlot (over (over seen first) second) c s
  zeros_after c s low high past =
      zero_same seen (over (over seen first) second) c s
      (same_then seen (over seen first) (over (over seen first) second) c s
      (planned.first_still c s (not_target c s past)) (planned.second_still c s
      (not_left c s past)))
      (stands.zeros c s low high (omega (arith, end_up c, past)))

  now_holds : Holds (now_index index start planned.mid changes moves can.distinct planned.assigned
      all_moves.count) (slot_at all_classes (over (over seen first) second))
  now_holds =
      holds_after index (steps_of changes moves) (slot_at all_classes seen) holds fits
      (slot_at all_classes (over seen first)) in_first first_done
      (slot_at all_classes (over (over seen first) second)) in_second second_done

  owned_now : (k : List ℕ) (e : Entry) → now_index index start planned.mid changes moves
      can.distinct planned.assigned all_moves.count k ≡ Some e → owner_of k workers ≡ worker
  owned_now k e at = elim (entry_now index start planned.mid changes moves can.distinct
      planned.assigned all_moves.count k e at) [
        | inl old ↦ stands.owned k e old.0
        | inr new ↦ ap (λ x. owner_of x workers) (sym new.5) ∙ can.owned new.0 new.1 (new.4).change
      ]

  pub rooms_path : final index start planned.mid changes moves can.distinct planned.assigned
      all_moves.count ≡ rooms_after index changes start
  rooms_path = λ i c.
      record {
        list = (rooms_are index start planned.mid changes moves can.distinct planned.assigned
            all_moves.count c).0 i;
        end = (rooms_are index start planned.mid changes moves can.distinct planned.assigned
            all_moves.count c).1 i;
      }

  -- the image holds the store after the changes, with the lists and ends of the batch
  pub stands_after : Stands (over (over seen first) second) (λ k. moved (steps_of changes moves k)
      (index k)) (rooms_after index changes start) worker workers
  stands_after = subst (λ r. Stands (over (over seen first) second)
      (λ k. moved (steps_of changes moves k) (index k)) r worker workers) rooms_path (record {
        items = now_holds.each;
        owned = owned_now;
        placed = placed_after index start planned.mid changes moves can.distinct planned.assigned
            all_moves.count fits;
        linked = linked_after index start planned.mid changes moves can.distinct planned.assigned
            all_moves.count planned.links (slot_at all_classes seen)
            (slot_at all_classes (over seen first)) (slot_at all_classes
            (over (over seen first) second))
            planned.many planned.linked planned.links_are planned.writes planned.vacates;
        unused = unused_after;
        zeros = zeros_after;
        of_worker = of_worker_inside (over (over seen first) second) (inr (λ f p. inr refl));
      })

  pub index_after : (now : Index) → ((k : List ℕ) → now k ≡ moved_by moves k (index k)) → now
      ≡ (λ k. moved (steps_of changes moves k) (index k))
  index_after now settled = λ i k. (settled k ∙ moved_steps changes moves k (index k)
      (agree_of index changes moves all_moves)) i

  pub answers_now : (now : Index) → ((k : List ℕ) → now k ≡ moved_by moves k (index k))
      → (image : Image) → image ≡ over (over seen first) second
      → (k : List ℕ) → map_of image now k ≡ answer_after changes k (map_of seen index k)
  answers_now now settled image is k =
      ap (λ (im : Image). map_of im now k) is
      ∙ ap (λ (ix : Index). map_of (over (over seen first) second) ix k) (index_after now settled)
      ∙ answers_after index (steps_of changes moves) (slot_at all_classes seen) holds fits
      (slot_at all_classes (over seen first)) in_first first_done
      (slot_at all_classes (over (over seen first) second)) in_second second_done k
      ∙ answer k

-- the places of the index after the moves
pub places_after : (index now : Index) (changes : List Change) (moves : List Move)
    → AreAllMoves index changes moves → ArePlaces index
    → ((k : List ℕ) → now k ≡ moved_by moves k (index k)) → ArePlaces now
places_after index now changes moves all places settled k e at =
    by_moves moves (λ i m p at_i to.
    let below = slice_get_within moves i m at_i in
    let c = get_some changes i (let n = all.count in omega arith) in
    let is = all.each i c.0 m (record { change = c.1; move = at_i }) in
    value_place c.0 m p (c.0).value refl to is.none is.some)
    (places k e) (sym (settled k) ∙ at)
  where
    value_place : (c : Change) (m : Move) (p : Place) (v : Option (List ℕ)) → c.value ≡ v → m.to
        ≡ Some p → (c.value ≡ None → m.to ≡ None)
        → ((w : List ℕ) → c.value ≡ Some w → (q : Place) × (m.to ≡ Some q) × CanHold c w q)
        → IsSlabPlace p
    value_place c m p None has to none some = absurd (let a = none has in cc)
    value_place c m p (Some w) has to none some =
        let s = some w has in
        let same : s.0 ≡ p = (let a = s.1 in cc) in
        subst IsSlabPlace same s.2.place

    by_moves : (ms : List Move) → ((i : ℕ) (m : Move) (p : Place) → slice_get ms i ≡ Some m → m.to
        ≡ Some p → IsSlabPlace p)
        → (index k ≡ Some e → IsSlabPlace e.place) → moved_by ms k (index k) ≡ Some e
        → IsSlabPlace e.place
    by_moves [] targets was is = was is
    by_moves (m ∷ ms) targets was is = one_of (bytes_eq m.key k) m.to (λ p. targets 0 m p refl)
        (by_moves ms (λ i. targets (suc i)) was) is
      where
        one_of : (b : Bool) (o : Option Place) → ((p : Place) → o ≡ Some p → IsSlabPlace p)
            → (moved_by ms k (index k) ≡ Some e → IsSlabPlace e.place)
            → cond b (entry_at m.stamp o) (moved_by ms k (index k)) ≡ Some e → IsSlabPlace e.place
        one_of true None targets2 rest is2 = absurd (cc)
        one_of true (Some p) targets2 rest is2 =
            let same : p ≡ e.place = (let a = is2 in cc) in
            subst IsSlabPlace same (targets2 p refl)
        one_of false o targets2 rest is2 = rest is2

-- reads leave the store open
pub open_stays : {D : Type 0} (d : Ghosts D) (most : ℕ) (old new : D) (index : Index)
    (kept : List Room) (worker workers : ℕ)
    → ((disk : D) (t f p : ℕ) (c : List ℕ) → d.leaves disk t f p c → IsTrue d.tells
    × MayLeave (d.leaves disk (d.calls disk)) (d.seen disk))
    → ReadsAtMost d most old new
    → IsOpen d.tells (d.seen old) (d.leaves old (d.calls old)) index kept worker workers
    → IsOpen d.tells (d.seen new) (d.leaves new (d.calls new)) index kept worker workers
open_stays d most old new index kept worker workers told reads opened = record {
  settled = λ f p c left. opened.settled f p c (reads.reads.crash.no_more f p c left)
      ∙ ap (λ (im : Image). im f p) (sym (reads.reads.seen (told new (d.calls new) f p c left).0));
  ends = opened.ends;
  places = opened.places;
  stands = λ tells. let s = opened.stands tells in (
    s.0,
    s.1,
    subst
        (λ (im : Image). Stands im index s.0 worker workers) (sym (reads.reads.seen tells)) s.2,
  );
}

-- what the item of an entry answers
pub is_answer : (seen : Image) (index : Index) (key : List ℕ) (e : Entry) (item : ItemOf)
    → HasItems seen index → index key ≡ Some e → item.key ≡ key → item.stamp ≡ e.stamp
    → ((stamp : ℕ) (k value : List ℕ) → slot_at all_classes seen e.place.class e.place.slot
    ≡ Item stamp k value → item.value ≡ value)
    → IsAnswer (Some item) key (map_of seen index key)
is_answer seen index key e item items has same_key same_stamp value =
    let it = items key e has in
    subst (λ (o : Option Entry). IsAnswer (Some item) key (answer_of (slot_at all_classes seen) o))
    (sym has)
    (subst (λ (x : Slot). IsAnswer (Some item) key (item_of x)) (sym it.1)
    (same_key, same_stamp, value e.stamp key it.0 it.1))

pub no_answer : (seen : Image) (index : Index) (key : List ℕ) → index key ≡ None
    → IsAnswer None key (map_of seen index key)
no_answer seen index key has = subst (λ (o : Option Entry). IsAnswer None key
    (answer_of (slot_at all_classes seen) o)) (sym has) tt

-- what a crash may leave of an open store's disk
pub of_worker_open : {D : Type 0} (d : Ghosts D) (disk : D) (index : Index) (kept : List Room)
    (worker workers : ℕ)
    → ((disk : D) (t f p : ℕ) (c : List ℕ) → d.leaves disk t f p c → IsTrue d.tells
    × MayLeave (d.leaves disk (d.calls disk)) (d.seen disk))
    → IsOpen d.tells (d.seen disk) (d.leaves disk (d.calls disk)) index kept worker workers
    → (image : Image) → MayLeave (d.leaves disk (d.calls disk)) image
    → IsOfWorker worker workers image
of_worker_open d disk index kept worker workers told opened image left =
    let tells = (told disk (d.calls disk) 0 0 (image 0 0) (left 0 0)).0 in
    let s = opened.stands tells in
    subst (λ (im : Image). IsOfWorker worker workers im) (sym
    (only_image (d.seen disk) (d.leaves disk (d.calls disk)) image opened.settled left))
    s.2.of_worker
