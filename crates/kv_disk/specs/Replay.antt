-- What the calls of a disk in memory leave, from its pages before the first call.
use Rattle.std.specs.Prelude.{ℕ, ◌+◌, ◌-◌, ◌%◌, ◌^◌, ◌<◌, ◌==◌, ◌&&◌, ◌||◌, nat_lt, Bool, List, []}
use Rattle.std.specs.Prelude.{◌∷◌, ◌++◌, length, map, filter, fold, count_by, position, Option}
use Rattle.std.specs.Prelude.{None, Some, slice_set, is_some, slice_index, slice_index_or, ⊤}
use Rattle.std.specs.Prelude.{if◌then◌else◌}
use Rattle.kv_base.specs.Image.{zero_page}
use Rattle.kv_disk.specs.declared.call.Held.{Held}
use Rattle.kv_disk.specs.declared.call.Spot.{Spot}
use Rattle.kv_disk.specs.declared.call.Call.{Call}
use Rattle.kv_disk.specs.declared.call.Call.TheVariants.{Write, Sync, Idle}

-- the place of a page among others
abbrev pub place_in : List Spot → ℕ → ℕ → Option ℕ
place_in spots f p = position (λ s. (s.file == f) && (s.page == p)) spots

-- the page by its file and its number
abbrev pub spot : ℕ → ℕ → Spot
spot f p = record { file = f; page = p }

-- the page that is held
abbrev pub spot_of : Held → Spot
spot_of held = spot held.file held.page

-- this page with a content
abbrev pub held_with : Spot → List ℕ → Held
held_with s c = record { file = s.file; page = s.page; content = c }

-- the content of a page before the first call
abbrev pub start_of : List Held → ℕ → ℕ → List ℕ
start_of [] f p = zero_page
start_of (held ∷ pages) f p = if (held.file == f) && (held.page == p) then held.content
    else start_of pages f p

-- what one page reads as, and what a crash may leave of it: the synced content, and then each write
-- since
pub record Left : Type 0 where
  pub seen : List ℕ
  pub contents : List (List ℕ)

-- a page whose content is durable
abbrev pub durable : List ℕ → Left
durable content = record { seen = content; contents = content ∷ [] }

-- one page after a call
abbrev pub after_call : ℕ → ℕ → Left → Call → Left
after_call f p left (Write w) =
    if (w.file == f) && (w.page == p) then record {
      seen = if w.done then w.content
          else left.seen;
      contents = left.contents ++ w.content ∷ [];
    } else left
after_call f p left Sync = durable left.seen
after_call f p left Idle = left

-- one page after these calls
abbrev pub left_in : List Held → List Call → ℕ → ℕ → Left
left_in pages log f p = fold (after_call f p) (durable (start_of pages f p)) log

-- the pages that are held after a call; a page that is new comes last
abbrev pub spots_after : List Spot → Call → List Spot
spots_after spots (Write w) = if is_some (place_in spots w.file w.page) then spots
    else spots ++ spot w.file w.page ∷ []
spots_after spots Sync = spots
spots_after spots Idle = spots

-- the pages that are held after these calls
abbrev pub spots_in : List Held → List Call → List Spot
spots_in pages log = fold spots_after (map spot_of pages) log

-- the page has writes since the last sync
abbrev pub is_waiting : List Held → List Call → Spot → Bool
is_waiting pages log s = nat_lt 1 (length (left_in pages log s.file s.page).contents)

-- the held pages that have writes since the last sync
abbrev pub waiting_in : List Held → List Call → List Spot
waiting_in pages log = filter (is_waiting pages log) (spots_in pages log)

-- the page comes before another, by file and page
abbrev pub comes_before : ℕ → ℕ → Spot → Bool
comes_before f p s = nat_lt s.file f || ((s.file == f) && nat_lt s.page p)

-- what a crash leaves of a page: the j-th page of those waiting, by file and page, takes the j-th
-- choice
abbrev pub chosen_in : List Held → List Call → List ℕ → ℕ → ℕ → List ℕ
chosen_in pages log choice f p =
    let contents = (left_in pages log f p).contents in
    let rank = count_by (comes_before f p) (waiting_in pages log) in
    slice_index_or contents (slice_index choice rank % length contents) zero_page

-- the pages that a crash leaves
abbrev pub settled_in : List Held → List Call → List ℕ → List Held
settled_in pages log choice = map (λ s. held_with s (chosen_in pages log choice s.file s.page))
    (spots_in pages log)

-- one past the last held page of a file, and 0 where there is none
abbrev pub length_in : List Spot → ℕ → ℕ
length_in spots f = fold (λ longest s. if (s.file == f) && nat_lt longest (s.page + 1)
    then s.page + 1 else longest) 0 spots

-- a page of a disk
abbrev pub SpotFits : Spot → Type 0
SpotFits s = s.page < 2 ^ 32 - 1

-- a call of pages of a disk
abbrev pub CallFits : Call → Type 0
CallFits (Write w) = w.page < 2 ^ 32 - 1
CallFits Sync = ⊤
CallFits Idle = ⊤

-- pages with one of them in its place, or behind the others where it is new
abbrev pub put_at : List Held → Held → Option ℕ → List Held
put_at pages held None = pages ++ held ∷ []
put_at pages held (Some place) = slice_set pages place held

-- a call other than a write
abbrev pub IsNoWrite : Call → Type 0
IsNoWrite (Write w) = ⊥
IsNoWrite Sync = ⊤
IsNoWrite Idle = ⊤
