-- Lemmas on bytes that are put over others.
use Rattle.std.proofs.Common.{◌≡◌, ℕ, ◌+◌, List, ◌++◌, length, take, drop, refl, sym, ap, ◌∙◌}
use Rattle.std.proofs.Common.{append_assoc}
use Rattle.std.proofs.lemmas.List.{drop-drop, take_at, drop_at}
use Rattle.std.specs.Int.{w16, w32, w64, to_le_bytes}
use Rattle.kv_model.specs.SlotBytes.{header_bytes}
use Rattle.kv_slot.specs.Overwrite.{overwritten}
use borrow.Rule.Slice.PartMut.{put_mid}

-- bytes put behind a front that was put before
pub put_behind : (slot front page bytes : List ℕ) (offset count : ℕ)
    → page ≡ front ++ drop offset slot → length front ≡ offset → length bytes ≡ count
    → overwritten page offset bytes ≡ front ++ bytes ++ drop (offset + count) slot
put_behind slot front page bytes offset count page_is front_is bytes_is =
    rw (page_is, take_at front (drop offset slot) offset front_is, bytes_is)
    (ap (λ rest. front ++ bytes ++ rest)
    (sym (drop-drop count offset (front ++ drop offset slot))
    ∙ ap (drop count) (drop_at front (drop offset slot) offset front_is)
    ∙ drop-drop count offset slot))

-- the four fields of a header, put one behind the other
pub header_put : (slot first second third fourth stamp kind key_length last : List ℕ) (a b c d : ℕ)
    → stamp ≡ to_le_bytes w64 a → kind ≡ to_le_bytes w16 b → key_length ≡ to_le_bytes w16 c
    → last ≡ to_le_bytes w32 d → first ≡ overwritten slot 0 stamp
    → second ≡ overwritten first 8 kind → third ≡ overwritten second 10 key_length
    → fourth ≡ overwritten third 12 last → fourth ≡ header_bytes a b c d ++ drop 16 slot
header_put slot first second third fourth stamp kind key_length last a b c d stamp_is kind_is key_is
    last_is at_0 at_8 at_10 at_12 =
    let one : first ≡ to_le_bytes w64 a ++ drop 8 slot = at_0 ∙ ap (overwritten slot 0) stamp_is in
    let two : second ≡ to_le_bytes w64 a ++ to_le_bytes w16 b ++ drop 10 slot = at_8
    ∙ ap (overwritten first 8) kind_is ∙ put_behind slot (to_le_bytes w64 a) first
    (to_le_bytes w16 b) 8 2 one refl refl in
    let three : third ≡ to_le_bytes w64 a ++ to_le_bytes w16 b ++ to_le_bytes w16 c
    ++ drop 12 slot = at_10 ∙ ap (overwritten second 10) key_is
    ∙ put_behind slot (to_le_bytes w64 a ++ to_le_bytes w16 b) second (to_le_bytes w16 c) 10
    2 two refl refl in
    at_12 ∙ ap (overwritten third 12) last_is
    ∙ put_behind slot (to_le_bytes w64 a ++ to_le_bytes w16 b ++ to_le_bytes w16 c) third
    (to_le_bytes w32 d) 12 4 three refl refl

-- a part of the page that now holds these bytes
pub part_put : (page part bytes : List ℕ) (offset count : ℕ) → part ≡ bytes → length part ≡ count
    → put_mid offset count page part ≡ overwritten page offset bytes
part_put page part bytes offset count is fits =
    rw (← is, fits, append_assoc) (ap (λ rest. take offset page ++ (part ++ rest))
    (drop-drop count offset page))
