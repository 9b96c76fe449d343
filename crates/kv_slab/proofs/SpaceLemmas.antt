-- The slots that a batch takes, and the lists that it gives some back to, have room for them.
use Rattle.std.specs.List.{slice_get}
use Rattle.std.specs.FinMap as finite
use Rattle.std.proofs.Common.{◌≡◌, ◌∙◌, ℕ, zero, suc, ◌+◌, ◌^◌, ◌<◌, ◌≤◌, Bool, List, [], ◌∷◌, length, take}
use Rattle.std.proofs.Common.{Some, ap, arith, length-append}
use Rattle.std.proofs.lemmas.Option.{slice_get_within}
use Rattle.kv_base.specs.Image.{Image}
use Rattle.kv_index.specs.Entries.{Entries}
use Rattle.kv_slab.specs.declared.change.Change.{Change}
use Rattle.kv_slab.specs.declared.moves.Move.{Move}
use Rattle.kv_slab.specs.declared.room.Room.{Room}
use Rattle.kv_slab.specs.Assigned.{AreEnds, slots_left}
use Rattle.kv_slab.specs.Memory.{AreFilled, HasGap, HasSpace, HaveGaps, HaveLengths, HaveSpace}
use Rattle.kv_slab.specs.Memory.{items_in, new_in, left_in}
use Rattle.kv_slab.specs.Moves.{AreDistinct, ArePlaces}
use Rattle.kv_slab.specs.Plans.{CanChange}
use Rattle.kv_slab.specs.Rooms.{needed, new_class, left_slots, slots_of}
use Rattle.kv_slab.specs.Rounds.{Index}
use Rattle.kv_slab.proofs.ClassSums.{few-keys, left-few, new_class-within}
use Rattle.kv_slab.proofs.LengthLemmas.{needed-more, left-more, new_in-one, left_in-one}
use Rattle.kv_slab.proofs.StepLemmas.{get_some}

-- the first changes need no more than all
needed-upto : (index : Index) (cs : List Change) (n class : ℕ)
    → needed index (take n cs) class ≤ needed index cs class
needed-upto index [] zero class = omega arith
needed-upto index [] (suc n) class = omega arith
needed-upto index (c ∷ cs) zero class = omega arith
needed-upto index (c ∷ cs) (suc n) class = let rest = needed-upto index cs n class in omega arith

-- the first moves leave no more than all
left-upto : (moves : List Move) (n class : ℕ)
    → length (slots_left (take n moves) class) ≤ length (slots_left moves class)
left-upto [] zero class = omega arith
left-upto [] (suc n) class = omega arith
left-upto (m ∷ ms) zero class = omega arith
left-upto (m ∷ ms) (suc n) class =
    let rest = left-upto ms n class in
    omega (
      arith,
      length-append (slots_of m.left class) (slots_left (take n ms) class),
      length-append (slots_of m.left class) (slots_left ms class),
    )

-- one change more can take its slot
pub space-step : (index : Index) (changes : List Change) (i : ℕ) (ch : Change)
    (kept now : List Room) → length kept ≡ length now → slice_get changes i ≡ Some ch
    → HaveSpace (needed index changes) kept
    → HaveLengths (needed index (take i changes)) (λ _. 0) kept now
    → HasSpace (new_class index ch) now
space-step index changes i ch kept now size here space lengths class room taken at none =
    let range = new_class-within index ch class taken in
    let was = get_some kept class (let e = slice_get_within now class room at in omega arith) in
    let len = lengths class was.0 room was.1 at in
    let all = space class was.0 range.0 range.1 was.1 in
    let more = needed-more index changes i ch class here in
    let one : new_in (new_class index ch) class ≡ 1 = ap (λ o. new_in o class) taken
    ∙ new_in-one class in
    let upto = needed-upto index changes (i + 1) class in
    omega (arith, len.list, len.end)

-- one move more can give its place back
pub gap-step : (moves : List Move) (i : ℕ) (m : Move) (kept now : List Room)
    → length kept ≡ length now → slice_get moves i ≡ Some m
    → HaveGaps (λ c. length (slots_left moves c)) kept
    → HaveLengths (λ _. 0) (λ c. length (slots_left (take i moves) c)) kept now
    → HasGap m.left now
gap-step moves i m kept now size here gaps lengths place room left at =
    let class = place.class in
    let was = get_some kept class (let e = slice_get_within now class room at in omega arith) in
    let len = lengths class was.0 room was.1 at in
    let all = gaps class was.0 was.1 in
    let more = left-more moves i m class here in
    let one : left_in m.left class ≡ 1 = ap (λ o. left_in o class) left ∙ left_in-one place in
    let upto = left-upto moves (i + 1) class in
    omega (arith, len.list)

-- what is asked of changes gives them their slots
pub have-space : (tells : Bool) (seen : Image) (entries : Entries) (limit worker workers : ℕ)
    (changes : List Change) (kept : List Room) → limit ≤ 2 ^ 24
    → CanChange tells seen entries limit worker workers changes → AreFilled entries kept
    → AreEnds kept → HaveSpace (needed (finite.get entries) changes) kept
have-space tells seen entries limit worker workers changes kept small can filled ends class room low
    high at =
    let is = filled class room at in
    let end = ends.small class room at in
    let more = can.room class low high in
    omega arith

-- no class has more than its slots, with its new items
have-slots : (tells : Bool) (seen : Image) (entries : Entries) (limit worker workers : ℕ)
    (changes : List Change) (kept : List Room) → limit ≤ 2 ^ 24
    → CanChange tells seen entries limit worker workers changes → AreFilled entries kept
    → AreEnds kept → (class : ℕ) → 1 ≤ class → class ≤ 11
    → items_in entries class + needed (finite.get entries) changes class ≤ 2 ^ 24
have-slots tells seen entries limit worker workers changes kept small can filled ends class low
    high =
    let room = get_some kept class (let n = ends.count in omega arith) in
    let is = filled class room.0 room.1 in
    let end = ends.small class room.0 room.1 in
    let more = can.room class low high in
    omega arith

-- keys and changes together are few
pub have-few : (tells : Bool) (seen : Image) (entries : Entries) (limit worker workers : ℕ)
    (changes : List Change) (kept : List Room) → limit ≤ 2 ^ 24
    → CanChange tells seen entries limit worker workers changes → AreFilled entries kept
    → AreEnds kept → ArePlaces (finite.get entries)
    → finite.len entries + length changes < 2 ^ 32
have-few tells seen entries limit worker workers changes kept small can filled ends places =
    few-keys entries changes places can.distinct can.fit can.present
    (have-slots tells seen entries limit worker workers changes kept small can filled ends)

-- once the new slots are taken, the lists have room for those that are left
pub have-gaps : (entries : Entries) (changes : List Change) (moves : List Move)
    (kept now : List Room) → length kept ≡ length now → AreFilled entries kept → AreEnds kept
    → AreDistinct changes
    → HaveLengths (needed (finite.get entries) changes) (λ _. 0) kept now
    → ((class : ℕ) → 0 + length (slots_left moves class)
    ≡ length (left_slots (finite.get entries) changes class))
    → HaveGaps (λ c. length (slots_left moves c)) now
have-gaps entries changes moves kept now size filled ends distinct lengths same class room at =
    let was = get_some kept class (let e = slice_get_within now class room at in omega arith) in
    let len = lengths class was.0 room was.1 at in
    let is = filled class was.0 was.1 in
    let end = ends.small class was.0 was.1 in
    let few = left-few entries changes class distinct in
    let left = same class in
    omega (arith, len.list)
