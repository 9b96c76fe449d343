-- What a scan folds of its held versions when it is started.
use Rattle.std.specs.Prelude.{◌≡◌, ℕ, ◌≤◌, List, [], ◌∷◌, Some, if◌then◌else◌}
use Rattle.std.specs.FinMap.{get, insert}
use Rattle.kv_model.specs.Fold.{FoldKind}
use Rattle.kv_fold.specs.Bags.{Bag}
use Rattle.kv_fold.specs.States.{State, state_of}
use Rattle.kv_scan.specs.declared.held.Held.{Held}
use Rattle.kv_scan.specs.Scans.{covers_stamp, held_until, AreRising}

-- the bag with each held version that was current at the stamp
abbrev pub with_held : ℕ → List Held → Bag → Bag
with_held stamp [] done = done
with_held stamp (held ∷ more) done = if covers_stamp held stamp
    then with_held stamp more (insert done held.key held.value) else with_held stamp more done

-- no held version that was current at the stamp has a key of the bag
pub record IsReady (stamp : ℕ) (held : List Held) (done : Bag) : Type 0 where
  pub rising : AreRising held
  pub free : (key value : List ℕ) → get done key ≡ Some value → held_until held key ≤ stamp

-- with the rest of the held versions the fold becomes that of the whole bag
pub record IsDraining (stamp : ℕ) (held : List Held) (state : State) (kind : FoldKind)
    (whole : Bag) : Type 0 where
  pub done : Bag
  pub state_is : state ≡ state_of kind done
  pub ready : IsReady stamp held done
  pub rest : with_held stamp held done ≡ whole

-- from one fold and its held versions to another fold and the rest of them
abbrev pub Drains : ℕ → State → List Held → State → List Held → Type 0
Drains stamp old held new rest = (done : Bag) → old ≡ state_of old.kind done
    → IsReady stamp held done → IsDraining stamp rest new old.kind (with_held stamp held done)

-- one held version is folded or dropped
abbrev pub TakesOne : ℕ → Held → State → State → Type 0
TakesOne stamp held old new = (more : List Held) (whole : Bag)
    → IsDraining stamp (held ∷ more) old old.kind whole → IsDraining stamp more new old.kind whole
