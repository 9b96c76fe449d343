-- The bytes that stand for an item or a tombstone.
use Rattle.std.specs.Prelude.{ℕ, ◌+◌, ◌-◌, ◌*◌, List, ◌++◌, length, take, drop, map, Option, None}
use Rattle.std.specs.Prelude.{Some, ◌==◌, if◌then◌else◌}
use Rattle.std.specs.List.{range_with_len}
use Rattle.std.specs.Int.{w16, w32, w64, to_le_bytes}
use Rattle.kv_model.specs.Layout.{is_small, slot_size, page_size, pages_in_slot}
use Rattle.kv_model.specs.Layout.{first_page_room, later_page_room}
use Rattle.kv_model.specs.Padding.{padded}

-- a header: stamp, kind, key length, and the value length or the link
abbrev pub header_bytes : ℕ → ℕ → ℕ → ℕ → List ℕ
header_bytes stamp kind key_length last = to_le_bytes w64 stamp ++ to_le_bytes w16 kind
    ++ to_le_bytes w16 key_length ++ to_le_bytes w32 last

-- the header of an item
abbrev pub item_header : ℕ → List ℕ → List ℕ → List ℕ
item_header stamp key value = header_bytes stamp 1 (length key) (length value)

-- a slot of the classes 1 to 7 with this item
unfoldable pub item_bytes : ℕ → ℕ → List ℕ → List ℕ → List ℕ
item_bytes class stamp key value = padded (slot_size class) (item_header stamp key value ++ key
    ++ value)

-- a page of a slot of the classes 8 to 11 with this item, the first being 0
unfoldable pub large_page : ℕ → List ℕ → List ℕ → ℕ → List ℕ
large_page stamp key value page =
    if page == 0
    then padded page_size (item_header stamp key value ++ take first_page_room (key ++ value))
    else padded page_size (to_le_bytes w64 stamp ++ take later_page_room
    (drop (first_page_room + later_page_room * (page - 1)) (key ++ value)))

-- all pages of a slot of the classes 8 to 11 with this item
abbrev pub large_pages : ℕ → ℕ → List ℕ → List ℕ → List (List ℕ)
large_pages class stamp key value =
    map (large_page stamp key value) (range_with_len 0 (pages_in_slot class))

-- the link field: 0 for none, else one more than the slot
abbrev pub link_field : Option ℕ → ℕ
link_field None = 0
link_field (Some slot) = slot + 1

-- the bytes that a tombstone writes: a slot, but of a large slot its first page alone
abbrev pub tombstone_size : ℕ → ℕ
tombstone_size class = if is_small class then slot_size class else page_size

-- a tombstone with this link
unfoldable pub tombstone_bytes : ℕ → ℕ → Option ℕ → List ℕ
tombstone_bytes class stamp link =
    padded (tombstone_size class) (header_bytes stamp 2 0 (link_field link))
