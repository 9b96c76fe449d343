-- The free slots and the ends, as one list and as two.
use Rattle.std.proofs.Common.{◌≡◌, ℕ, zero, suc, ◌+◌, List, [], ◌∷◌, ◌++◌, length, take, map}
use Rattle.std.proofs.Common.{Some, Result, Ok, Err, OnOk, IsOk, refl, ap, ◌∙◌, arith}
use Rattle.std.specs.List.{slice_get}
use Rattle.kv_free.specs.FreeList.{Tail}
use Rattle.kv_slab.specs.declared.room.Room.{Room}
use Rattle.kv_slab.specs.Memory.{rooms_of}

-- of an Ok call
pub of_ok : {T E : Type 0} (result : Result T E) (P : Type 0) → IsOk result → OnOk result P → P
of_ok (Ok x) P is p = p
of_ok (Err e) P is p = absurd (cc)

-- one class more of two lists
pub rooms_more : (tails : List Tail) (ends : List ℕ) (i : ℕ) (tail : Tail) (end : ℕ)
    → slice_get tails i ≡ Some tail → slice_get ends i ≡ Some end
    → take (i + 1) (rooms_of tails ends)
    ≡ take i (rooms_of tails ends) ++ record { stack = tail; end = end } ∷ []
rooms_more [] ends i tail end at_tail at_end = absurd (cc)
rooms_more (t ∷ tails) [] i tail end at_tail at_end = absurd (cc)
rooms_more (t ∷ tails) (e ∷ ends) zero tail end at_tail at_end =
    let one : t ≡ tail = cc in
    let two : e ≡ end = cc in
    ap (λ x. record { stack = x; end = e } ∷ []) one ∙ ap (λ y. record { stack = tail; end = y } ∷
    []) two
rooms_more (t ∷ tails) (e ∷ ends) (suc i) tail end at_tail at_end =
    let n : suc i + 1 ≡ suc (i + 1) = omega arith in
    ap (λ k. take k (rooms_of (t ∷ tails) (e ∷ ends))) n
    ∙ ap (λ rs. record { stack = t; end = e } ∷ rs) (rooms_more tails ends i tail end at_tail
    at_end)

-- as many classes
pub rooms_count : (tails : List Tail) (ends : List ℕ) → length tails ≡ length ends
    → length (rooms_of tails ends) ≡ length tails
rooms_count [] [] same = refl
rooms_count [] (e ∷ ends) same = refl
rooms_count (t ∷ tails) [] same = absurd (omega arith)
rooms_count (t ∷ tails) (e ∷ ends) same = ap suc (rooms_count tails ends (omega arith))

-- the parts of a list of rooms make it again
pub rooms_again : (rooms : List Room) → rooms_of (map (λ room. room.stack) rooms)
    (map (λ room. room.end) rooms) ≡ rooms
rooms_again [] = refl
rooms_again (room ∷ rooms) = ap (λ rs. room ∷ rs) (rooms_again rooms)

-- one element more of a mapped list
pub map_more : {X Y : Type 0} (f : X → Y) (xs : List X) (i : ℕ) (x : X) → slice_get xs i ≡ Some x
    → map f (take (i + 1) xs) ≡ map f (take i xs) ++ f x ∷ []
map_more f [] i x at = absurd (cc)
map_more f (y ∷ xs) zero x at = let one : y ≡ x = cc in ap (λ z. f z ∷ []) one
map_more f (y ∷ xs) (suc i) x at =
    let n : suc i + 1 ≡ suc (i + 1) = omega arith in
    ap (λ k. map f (take k (y ∷ xs))) n ∙ ap (λ l. f y ∷ l) (map_more f xs i x at)

pub map_count : {X Y : Type 0} (f : X → Y) (xs : List X) → length (map f xs) ≡ length xs
map_count f [] = refl
map_count f (x ∷ xs) = ap suc (map_count f xs)

-- one class of two lists
pub rooms_get : (tails : List Tail) (ends : List ℕ) (i : ℕ) (room : Room)
    → slice_get (rooms_of tails ends) i ≡ Some room
    → (slice_get tails i ≡ Some room.stack) × (slice_get ends i ≡ Some room.end)
rooms_get [] ends i room at = absurd (cc)
rooms_get (t ∷ tails) [] i room at = absurd (cc)
rooms_get (t ∷ tails) (e ∷ ends) zero room at =
    let one : record { stack = t; end = e } ≡ room = cc in
    (ap (λ (r : Room). Some r.stack) one, ap (λ (r : Room). Some r.end) one)
rooms_get (t ∷ tails) (e ∷ ends) (suc i) room at = rooms_get tails ends i room at
