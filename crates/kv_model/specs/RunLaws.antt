-- What runs and images keep: the agreement with one map among refusals, the values of kept items,
-- and a recovered prefix under more writes.
use Rattle.std.specs.Prelude.{◌≡◌, ℕ, ◌≤◌, ◌<◌, List, ◌++◌, Bool}
use Rattle.std.specs.List.{AllByRecursion}
use Rattle.kv_base.specs.Image.{Image}
use Rattle.kv_model.specs.History.{Write, value_at}
use Rattle.kv_model.specs.Layout.{Layout}
use Rattle.kv_model.specs.Pairs.{Pair, writes, unsure_writes, stamps}
use Rattle.kv_model.specs.Agreement.{AgreesWithMap, WithRefusals}
use Rattle.kv_model.specs.Reading.{slot_at}
use Rattle.kv_model.specs.Recovery.{GivesValue, RecoversPrefix, KeepsEach, AreKept}

-- replies that are those of one plain map stay so with refusals among the last of them
abbrev pub RefusalsAgree : Type 0
RefusalsAgree = (told : Bool) (layout : Layout) (before : List Write) (floor : ℕ)
    (pairs kept group : List Pair) → WithRefusals told layout kept group
    → AgreesWithMap told layout before floor (pairs ++ kept)
    → AgreesWithMap told layout before floor (pairs ++ group)

-- refusals carry no stamp, and leave no write acknowledged or unsure
pub record RefusalsAreSilent : Type 0 where
  pub stamped : (told : Bool) (layout : Layout) (kept group : List Pair)
      → WithRefusals told layout kept group → stamps group ≡ stamps kept
  pub acknowledged : (told : Bool) (layout : Layout) (kept group : List Pair)
      → WithRefusals told layout kept group → writes group ≡ writes kept
  pub unsure : (told : Bool) (layout : Layout) (kept group : List Pair)
      → WithRefusals told layout kept group → unsure_writes group ≡ unsure_writes kept

-- behind the writes of all kept items each key has what the image gives for it
abbrev pub KeptAreGiven : Type 0
KeptAreGiven = (layout : Layout) (image : Image) (worker workers : ℕ) (kept : List Write)
    (stamp : ℕ) (key : List ℕ) → AreKept layout image worker workers kept
    → KeepsEach (slot_at layout image) worker workers
    → AllByRecursion (λ write. write.stamp ≤ stamp) kept
    → GivesValue (slot_at layout image) worker workers key (value_at kept stamp key)

-- an image that recovers a prefix of writes does so of these and more above all their stamps, and
-- with fewer of them acknowledged
pub record PrefixesStay : Type 0 where
  pub longer : (layout : Layout) (history more acknowledged : List Write) (bound : ℕ)
      (image : Image) (worker workers : ℕ)
      → RecoversPrefix layout history acknowledged image worker workers → 1 ≤ bound
      → AllByRecursion (λ write. write.stamp < bound) history
      → AllByRecursion (λ write. write.stamp < bound) acknowledged
      → AllByRecursion (λ write. bound ≤ write.stamp) more
      → RecoversPrefix layout (history ++ more) acknowledged image worker workers
  pub fewer : (layout : Layout) (history acknowledged others : List Write)
      (image : Image) (worker workers : ℕ)
      → RecoversPrefix layout history (acknowledged ++ others) image worker workers
      → RecoversPrefix layout history acknowledged image worker workers
