-- What a scan owes, and how its calls keep it.
use Rattle.std.specs.Prelude.{◌≡◌, ◌≢◌, ℕ, ◌<◌, ◌≤◌, List, [], Option, None, Some, Bool, true}
use Rattle.std.specs.Prelude.{false, nat_lt, All, IsTrue}
use Rattle.std.specs.Ordering.{is_le}
use Rattle.std.specs.declared.cmp.Ordering.TheVariants.{Less}
use Rattle.std.specs.FinMap.{get}
use Rattle.kv_fold.specs.Bags.{order, Bag, or_else, IsItem}
use Rattle.kv_fold.specs.States.{state_of}
use Rattle.kv_scan.specs.declared.held.Held.{Held}
use Rattle.kv_scan.specs.Scans.{Version, Contents, Scan, reaches, pending, held_at, held_until}
use Rattle.kv_scan.specs.Scans.{AreRising}

-- no held version lasts beyond the version that the map has
abbrev pub Follows : List Held → Contents → Type 0
Follows held map = (key : List ℕ) (version : Version) → map key ≡ Some version
    → held_until held key ≤ version.0

-- no held version lasts beyond the stamp
abbrev pub IsHeldUpTo : List Held → ℕ → Type 0
IsHeldUpTo held stamp = (key : List ℕ) → held_until held key ≤ stamp

-- the share of a running scan at the stamp is the bag `share`: its fold is that of the bag `done`,
-- the rest is pending, and no key is in both
pub record Owes (scan : Scan) (map : Contents) (stamp : ℕ) (share : Bag) : Type 0 where
  pub running : scan.refusal ≡ None
  pub done : Bag
  pub state : scan.state ≡ state_of scan.state.kind done
  pub parts : (key : List ℕ) → get share key
      ≡ or_else (get done key) (pending scan map stamp key)
  pub once : (key value : List ℕ) → pending scan map stamp key ≡ Some value → get done key ≡ None
  pub rising : AreRising scan.held
  pub follows : Follows scan.held map
  pub within : (key value : List ℕ) → held_at scan.held stamp key ≡ Some value
      → reaches scan key ≡ true
  pub fresh : scan.stamp ≡ None → (key : List ℕ) → get done key ≡ None
  pub started : (at : ℕ) → scan.stamp ≡ Some at → (stamp ≡ at) × (scan.held ≡ [])

-- what the one owes, the other owes
abbrev pub KeepsOwing : Scan → Scan → Type 0
KeepsOwing before scan = (map : Contents) (stamp : ℕ) (share : Bag) → Owes before map stamp share
    → Owes scan map stamp share

-- one key changes its version, to one of this stamp or to none
pub record Changes (key : List ℕ) (stamp : ℕ) (map after : Contents) : Type 0 where
  pub others : (other : List ℕ) → other ≢ key → after other ≡ map other
  pub own : (version : Version) → after key ≡ Some version → version.0 ≡ stamp

-- only the fold's state and what is held may differ, and the kind of the fold is the same
pub record IsSameScan (old new : Scan) : Type 0 where
  pub low : new.low ≡ old.low
  pub high : new.high ≡ old.high
  pub stamp : new.stamp ≡ old.stamp
  pub cursor : new.cursor ≡ old.cursor
  pub at_end : new.at_end ≡ old.at_end
  pub refusal : new.refusal ≡ old.refusal
  pub kind : new.state.kind ≡ old.state.kind

-- what the scan owes at stamps below a change of the key's version, it owes of the changed map
abbrev pub Outlives : List ℕ → ℕ → ℕ → List ℕ → Scan → Scan → Type 0
Outlives key since until value before scan = (map after : Contents) (stamp : ℕ) (share : Bag)
    → Owes before map stamp share → map key ≡ Some (since, value)
    → Changes key until map after → stamp < until → Owes scan after stamp share

-- what is held now lasts no longer than what was held, or than the change
abbrev pub HoldsMore : ℕ → List Held → List Held → Type 0
HoldsMore until old new = (stamp : ℕ) → IsHeldUpTo old stamp → until ≤ stamp → IsHeldUpTo new stamp

-- what the scan owes at the stamp, it owes once it is started there
abbrev pub Starts : ℕ → Scan → Scan → Type 0
Starts stamp before scan = (map : Contents) (share : Bag) → Owes before map stamp share
    → Owes scan map stamp share

-- the key is the least that the scan reaches and that has a version
pub record IsNextOf (scan : Scan) (map : Contents) (key : List ℕ) : Type 0 where
  pub reached : reaches scan key ≡ true
  pub least : (other : List ℕ) → reaches scan other ≡ true → order other key ≡ Less
      → map other ≡ None

-- what the started scan owes, it owes after the walk has passed the next key
abbrev pub Walks : List ℕ → Version → Scan → Scan → Type 0
Walks key version before scan = (map : Contents) (stamp : ℕ) (share : Bag)
    → Owes before map stamp share → map key ≡ Some version → IsNextOf before map key
    → Owes scan map stamp share

-- the stamp is above that of a started scan
abbrev pub is_later : Option ℕ → ℕ → Bool
is_later None stamp = false
is_later (Some at) stamp = nat_lt at stamp

-- each version has the sizes of an item
abbrev pub AreItems : List Held → Type 0
AreItems held = All (λ version. IsItem version.key version.value) held

-- what is held has the sizes of items, and the walk stands at or after the range's low end
pub record IsEntry (held : List Held) (low cursor : List ℕ) : Type 0 where
  pub items : AreItems held
  pub from : IsTrue (is_le (order low cursor))
