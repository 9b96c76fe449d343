-- A running scan of one session at a worker, and what it has still to fold.
use Rattle.std.specs.Prelude.{ℕ, ◌<◌, ◌≤◌, List, [], ◌∷◌, ◌++◌, Option, None, Some, Bool, true}
use Rattle.std.specs.Prelude.{false, nat_le, nat_lt, ◌&&◌, if◌then◌else◌, max, is_none}
use Rattle.std.specs.Ordering.{is_le, eq_by_cmp}
use Rattle.kv_model.specs.Items.{is_in_range}
use Rattle.kv_fold.specs.Bags.{order, or_else}
use Rattle.kv_fold.specs.States.{State}
use Rattle.kv_scan.specs.declared.held.Held.{Held}
use Rattle.kv_scan.specs.declared.refusal.Refusal.{Refusal}

-- the stamp and the value that a key has
abbrev pub Version : Type 0
Version = ℕ × List ℕ

-- what a worker's map has for each key
abbrev pub Contents : Type 0
Contents = List ℕ → Option Version

-- a scan: what its fold keeps, its range, its stamp once it is started, the held versions with the
-- latest first, the least key that the walk hasn't passed, whether it heard that no key is left,
-- and why a batch ended it
pub record Scan : Type 0 where
  pub state : State
  pub low : List ℕ
  pub high : List ℕ
  pub stamp : Option ℕ
  pub held : List Held
  pub cursor : List ℕ
  pub at_end : Bool
  pub refusal : Option Refusal

-- the key is in the range, and the walk hasn't passed it
abbrev pub reaches : Scan → List ℕ → Bool
reaches scan key = is_in_range scan.low scan.high key && is_le (order scan.cursor key)

-- the scan is to hear of a change of the key: it runs, and has the key still before it
abbrev pub wants : Scan → List ℕ → Bool
wants scan key = is_none scan.refusal && reaches scan key

-- the version was current at the stamp
abbrev pub covers_stamp : Held → ℕ → Bool
covers_stamp held stamp = nat_le held.since stamp && nat_lt stamp held.until

-- the version was the key's at the stamp
abbrev pub covers : Held → ℕ → List ℕ → Bool
covers held stamp key = eq_by_cmp order key held.key && covers_stamp held stamp

-- the value that a held version gives the key at the stamp
abbrev pub held_at : List Held → ℕ → List ℕ → Option (List ℕ)
held_at [] stamp key = None
held_at (held ∷ more) stamp key = if covers held stamp key then Some held.value
    else held_at more stamp key

-- the stamp from which on no held version is the key's any more
abbrev pub held_until : List Held → List ℕ → ℕ
held_until [] key = 0
held_until (held ∷ more) key = if eq_by_cmp order key held.key
    then max held.until (held_until more key) else held_until more key

-- the versions of each key follow one another, the latest first
abbrev pub AreRising : List Held → Type 0
AreRising [] = Unit {0}
AreRising (held ∷ more) = (held_until more held.key ≤ held.since) × (held.since < held.until)
    × AreRising more

-- the value of a version whose stamp isn't above this one
abbrev pub value_up_to : ℕ → Option Version → Option (List ℕ)
value_up_to stamp None = None
value_up_to stamp (Some version) = if nat_le version.0 stamp then Some version.1 else None

-- the value that the scan has still to fold for the key at the stamp: a held one, or the map's
abbrev pub pending : Scan → Contents → ℕ → List ℕ → Option (List ℕ)
pending scan map stamp key = if reaches scan key
    then or_else (held_at scan.held stamp key) (value_up_to stamp (map key)) else None

-- the key where the walk stands: the range's low end at first
abbrev pub cursor_of : Option (List ℕ) → List ℕ → List ℕ
cursor_of None low = low
cursor_of (Some cursor) low = cursor

-- the least key above this one
abbrev pub next_key : List ℕ → List ℕ
next_key key = key ++ 0 ∷ []

-- a scan that is prepared now
abbrev pub prepared_scan : State → List ℕ → List ℕ → Scan
prepared_scan state low high = record {
  state = state;
  low = low;
  high = high;
  stamp = None;
  held = [];
  cursor = low;
  at_end = false;
  refusal = None;
}

-- the scan with one more held version
abbrev pub hold : Held → Scan → Scan
hold held scan = record scan { held = held ∷ scan.held }

-- the scan with another state of its fold
abbrev pub refold : State → Scan → Scan
refold state scan = record scan { state = state }

-- the scan whose walk has passed all keys below this one
abbrev pub pass : List ℕ → Scan → Scan
pass cursor scan = record scan { cursor = cursor }

-- the scan once it is started at the stamp: it holds no version any more
abbrev pub started_scan : ℕ → State → Scan → Scan
started_scan stamp state scan = record scan { state = state; stamp = Some stamp; held = [] }

-- the scan that has heard that no key is left
abbrev pub scan_at_end : Scan → Scan
scan_at_end scan = record scan { at_end = true }

-- the scan that a batch ends, unless an earlier one has: it holds no version any more
abbrev pub ended_scan : Refusal → Scan → Scan
ended_scan why scan = if is_none scan.refusal
    then record scan { held = []; refusal = Some why } else scan
