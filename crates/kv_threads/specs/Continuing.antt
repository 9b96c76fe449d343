-- What turns leave of parties.
use Rattle.std.specs.Prelude.{◌≡◌, List, All, true}
use Rattle.std.specs.List.{AllZip}
use Rattle.atomic_table.specs.Seated.{TableId}
use Rattle.kv_threads.specs.declared.party.Party as parties

module _ {P : Type 0} (p : parties.Ghosts P) where
  -- the later party is what turns leave of the earlier one, and has the same counter
  abbrev pub Continues : P → P → Type 0
  Continues party later = p.Stays party later × (p.counter later ≡ p.counter party)

  -- each of the later parties is what turns leave of the one at its place
  abbrev pub AllContinue : List P → List P → Type 0
  AllContinue old new = AllZip Continues old new

  -- each of the parties has ended
  abbrev pub HaveEnded : List P → Type 0
  HaveEnded all = All (λ party. p.ended party ≡ true) all

  -- each of the parties draws from the counter
  abbrev pub DrawFrom : TableId → List P → Type 0
  DrawFrom counter all = All (λ party. p.counter party ≡ counter) all

  -- each of the later parties is what turns leave of the one at its place, has ended, and draws
  -- from the counter still
  pub record HaveRun (counter : TableId) (old new : List P) : Type 0 where
    pub each : AllContinue old new
    pub ended : HaveEnded new
    pub draw : DrawFrom counter new
