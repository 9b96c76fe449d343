-- Laws of what a scan owes: they hold by the definitions alone.
use Rattle.std.specs.Prelude.{◌≡◌, ℕ, ◌<◌, ◌≤◌, ◌⊎◌, List, [], ◌∷◌, None, Some, true, IsTrue}
use Rattle.std.specs.Ordering.{is_le}
use Rattle.std.specs.declared.cmp.Ordering.TheVariants.{Less}
use Rattle.std.specs.FinMap.{get, empty}
use Rattle.kv_fold.specs.Bags.{Bag, order}
use Rattle.kv_fold.specs.States.{State, state_of}
use Rattle.kv_scan.specs.declared.held.Held.{Held}
use Rattle.kv_scan.specs.Scans.{Version, Contents, Scan, pending, reaches, covers, held_at}
use Rattle.kv_scan.specs.Scans.{held_until, AreRising, next_key, prepared_scan}
use Rattle.kv_scan.specs.Owes.{Owes, Changes, IsHeldUpTo, Follows}

-- a scan that was prepared with an empty fold owes, at each stamp, what the map has in its range
abbrev pub OwesView : Type 0
OwesView = (state : State) (low high : List ℕ) (map : Contents) (stamp : ℕ) (share : Bag)
    → state ≡ state_of state.kind empty
    → ((key : List ℕ) → get share key ≡ pending (prepared_scan state low high) map stamp key)
    → Owes (prepared_scan state low high) map stamp share

-- where nothing is left to walk, the fold of a started scan is that of its share
abbrev pub FoldsShare : Type 0
FoldsShare = (scan : Scan) (map : Contents) (stamp : ℕ) (share : Bag) (at : ℕ)
    → Owes scan map stamp share → scan.stamp ≡ Some at
    → ((key : List ℕ) → reaches scan key ≡ true → map key ≡ None)
    → scan.state ≡ state_of scan.state.kind share

-- a change of a key that the scan doesn't reach, or that had no version, leaves what it owes
abbrev pub OutlivesQuietly : Type 0
OutlivesQuietly = (scan : Scan) (key : List ℕ) (until : ℕ) (map after : Contents) (stamp : ℕ)
    (share : Bag) → Owes scan map stamp share → Changes key until map after → stamp < until
    → IsHeldUpTo scan.held until → (reaches scan key ≡ true → map key ≡ None)
    → Owes scan after stamp share

-- once no held version lasts beyond the stamp, a prepared scan owes there what the map has
abbrev pub RenewsView : Type 0
RenewsView = (scan : Scan) (map : Contents) (earlier : ℕ) (other : Bag) (stamp : ℕ) (share : Bag)
    → Owes scan map earlier other → scan.stamp ≡ None → IsHeldUpTo scan.held stamp
    → ((key : List ℕ) → get share key ≡ pending scan map stamp key) → Owes scan map stamp share

-- a held version gives the key this value at the stamp
abbrev pub IsHeldAt : List Held → ℕ → List ℕ → List ℕ → Type 0
IsHeldAt [] stamp key value = ⊥
IsHeldAt (held ∷ more) stamp key value = ((covers held stamp key ≡ true) × (held.value ≡ value))
    ⊎ IsHeldAt more stamp key value

-- the map gives the key this value, by a version whose stamp isn't above this one
abbrev pub IsMapped : Contents → ℕ → List ℕ → List ℕ → Type 0
IsMapped map stamp key value = (version : Version) × (map key ≡ Some version)
    × (version.0 ≤ stamp) × (version.1 ≡ value)

-- a value is pending exactly where the key is reached and a held version or the map gives it
pub record IsPending (scan : Scan) (map : Contents) (stamp : ℕ) (key value : List ℕ) : Type 0 where
  pub only : pending scan map stamp key ≡ Some value → (reaches scan key ≡ true)
      × (IsHeldAt scan.held stamp key value ⊎ IsMapped map stamp key value)
  pub all : reaches scan key ≡ true
      → (IsHeldAt scan.held stamp key value ⊎ IsMapped map stamp key value)
      → pending scan map stamp key ≡ Some value

-- what is pending at a stamp is what a held version or the map gives the keys that are reached
abbrev pub PendingIs : Type 0
PendingIs = (scan : Scan) (map : Contents) (stamp : ℕ) (key value : List ℕ)
    → AreRising scan.held → Follows scan.held map → IsPending scan map stamp key value

-- no held version is the key's at or after the stamp up to which its versions last
abbrev pub HeldIsOver : Type 0
HeldIsOver = (held : List Held) (stamp : ℕ) (key : List ℕ) → held_until held key ≤ stamp
    → held_at held stamp key ≡ None

-- of a map that gives each key the same, the same is owed
abbrev pub OwesSameMap : Type 0
OwesSameMap = (scan : Scan) (map after : Contents) (stamp : ℕ) (share : Bag)
    → Owes scan map stamp share → ((key : List ℕ) → after key ≡ map key)
    → Owes scan after stamp share

-- the key is above the other, and every key above that one is at or after it
pub record Succeeds (key next : List ℕ) : Type 0 where
  pub above : order key next ≡ Less
  pub least : (other : List ℕ) → order key other ≡ Less → IsTrue (is_le (order next other))

-- no key lies between a key and the next one
abbrev pub NextKeyFollows : Type 0
NextKeyFollows = (key : List ℕ) → Succeeds key (next_key key)
