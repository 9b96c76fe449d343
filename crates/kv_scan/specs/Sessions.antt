-- The scans of a worker, by session.
use Rattle.std.specs.Prelude.{◌≡◌, ℕ, List, Option, None, Some, Bool, true, false, length}
use Rattle.std.specs.Prelude.{IsSome, IsTrue, slice_index_or, slice_set}
use Rattle.kv_model.specs.Items.{is_in_range}
use Rattle.kv_fold.specs.States.{State}
use Rattle.kv_scan.specs.declared.refusal.Refusal.{Refusal}
use Rattle.kv_scan.specs.Scans.{Version, Scan, wants, next_key, refold, pass}
use Rattle.kv_scan.specs.Scans.{started_scan, scan_at_end}
use Rattle.kv_scan.specs.Owes.{KeepsOwing, IsSameScan, Outlives, HoldsMore, Starts, Walks}

-- for each session its scan, where it has one
abbrev pub Sessions : Type 0
Sessions = List (Option Scan)

-- the scan of a session
abbrev pub scan_of : Sessions → ℕ → Option Scan
scan_of sessions session = slice_index_or sessions session None

-- the scan, if there is one, is to hear of a change of the key
abbrev pub wants_key : List ℕ → Option Scan → Bool
wants_key key None = false
wants_key key (Some scan) = wants scan key

-- why a batch ended the scan
abbrev pub refusal_of : Option Scan → Option Refusal
refusal_of None = None
refusal_of (Some scan) = scan.refusal

-- the number of versions that the scan holds
abbrev pub held_by : Option Scan → ℕ
held_by None = 0
held_by (Some scan) = length scan.held

-- the scan has heard that no key of its range is left
abbrev pub is_at_end : Option Scan → Bool
is_at_end None = false
is_at_end (Some scan) = scan.at_end

-- there is a scan, and it isn't started
abbrev pub IsPrepared : Option Scan → Type 0
IsPrepared None = ⊥
IsPrepared (Some scan) = scan.stamp ≡ None

-- there is a scan, and it is started
abbrev pub IsStarted : Option Scan → Type 0
IsStarted None = ⊥
IsStarted (Some scan) = IsSome scan.stamp

-- there is a scan, and the key lies in its range
abbrev pub IsInRange : Option Scan → List ℕ → Type 0
IsInRange None key = ⊥
IsInRange (Some scan) key = IsTrue (is_in_range scan.low scan.high key)

-- the same scan as before, or none as before
abbrev pub IsSameOrNone : Option Scan → Option Scan → Type 0
IsSameOrNone None None = Unit {0}
IsSameOrNone None (Some scan) = ⊥
IsSameOrNone (Some before) None = ⊥
IsSameOrNone (Some before) (Some scan) = IsSameScan before scan

-- a scan that has heard that a version is about to be overwritten
pub record HasHeard (key : List ℕ) (since until : ℕ) (value : List ℕ) (before scan : Scan) :
    Type 0 where
  pub same : IsSameScan before scan
  pub outlives : Outlives key since until value before scan
  pub held : HoldsMore until before.held scan.held

-- the session's scan has heard it, where there is one
abbrev pub Hears : List ℕ → ℕ → ℕ → List ℕ → Option Scan → Option Scan → Type 0
Hears key since until value None None = Unit {0}
Hears key since until value None (Some scan) = ⊥
Hears key since until value (Some before) None = ⊥
Hears key since until value (Some before) (Some scan) = HasHeard key since until value before scan

-- the scan is started at the stamp, and owes there what it owed
pub record StartsScan (stamp : ℕ) (before scan : Scan) : Type 0 where
  pub is : scan ≡ started_scan stamp scan.state before
  pub kind : scan.state.kind ≡ before.state.kind
  pub owes : Starts stamp before scan

-- the scan has walked the next key, and owes what it owed
pub record WalksScan (key : List ℕ) (version : Version) (before scan : Scan) : Type 0 where
  pub is : scan ≡ pass (next_key key) (refold scan.state before)
  pub kind : scan.state.kind ≡ before.state.kind
  pub owes : Walks key version before scan

-- the scan has heard that no key is left, and owes what it owed
pub record ReachesEnd (before scan : Scan) : Type 0 where
  pub is : scan ≡ scan_at_end before
  pub owes : KeepsOwing before scan

-- the session's scan goes from the one to the other, and the other sessions keep theirs
abbrev pub Moves : (Scan → Scan → Type 0) → ℕ → Sessions → Sessions → Type 0
Moves step session old new = (before : Scan) → scan_of old session ≡ Some before
    → (scan : Scan) × step before scan × (new ≡ slice_set old session (Some scan))

-- the fold of a scan that has heard that no key is left
abbrev pub IsFinished : {F : Type 0} → (F → State) → Option F → Option Scan → Type 0
IsFinished state None None = Unit {0}
IsFinished state None (Some scan) = scan.at_end ≡ false
IsFinished state (Some fold) None = ⊥
IsFinished state (Some fold) (Some scan) = (scan.at_end ≡ true) × (state fold ≡ scan.state)
