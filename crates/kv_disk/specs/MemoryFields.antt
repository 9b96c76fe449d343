-- What a disk in memory that keeps its calls keeps true of its fields.
use Rattle.std.specs.Prelude.{◌≡◌, ℕ, ◌≤◌, List, All, length, min, Vec, vec_capacity}
use Rattle.std.specs.declared.alloc.Global.{Global}
use Rattle.kv_disk.specs.declared.call.Held.{Held}
use Rattle.kv_disk.specs.declared.call.Spot.{Spot}
use Rattle.kv_disk.specs.declared.call.Call.{Call}
use Rattle.kv_disk.specs.Plain.{content_at}
use Rattle.kv_disk.specs.Replay.{place_in, left_in, spots_in, SpotFits, spot_of, CallFits}

-- the rooms are taken
pub record HasRooms (start : Vec Held Global) (spots : Vec Spot Global)
    (contents : Vec (List ℕ) Global) (log : Vec Call Global)
    (page_room call_room : ℕ) : Type 0 where
  pub for_start : page_room ≤ vec_capacity start
  pub for_spots : page_room ≤ vec_capacity spots
  pub for_contents : page_room ≤ vec_capacity contents
  pub for_calls : call_room ≤ vec_capacity log

-- the held pages and their contents are those that the calls leave
pub record IsReplayed (start : List Held) (spots : List Spot) (contents : List (List ℕ))
    (log : List Call) : Type 0 where
  pub held : spots ≡ spots_in start log
  pub as_many : length contents ≡ length spots
  pub reads : (f p : ℕ) → content_at contents (place_in spots f p) ≡ (left_in start log f p).seen

-- the pages and the calls are those of a disk
pub record Fits (start : List Held) (log : List Call) : Type 0 where
  pub pages : All (λ held. SpotFits (spot_of held)) start
  pub calls : All CallFits log

-- all of these, and the list of calls is as long as their count and their room allow
pub record IsMemory (start : Vec Held Global) (spots : Vec Spot Global)
    (contents : Vec (List ℕ) Global) (log : Vec Call Global) (page_room call_room calls : ℕ) : Type
    0 where
  pub rooms : HasRooms start spots contents log page_room call_room
  pub counted : length log.items ≡ min calls call_room
  pub replayed : IsReplayed start.items spots.items contents.items log.items
  pub fits : Fits start.items log.items
