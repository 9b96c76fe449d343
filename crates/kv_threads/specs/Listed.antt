-- A roster of parties, as contracts see it.
use Rattle.std.specs.Prelude.{◌≡◌, ℕ, List}
use Rattle.atomic_table.specs.Seated.{TableId}
use Rattle.kv_threads.specs.Continuing.{AllContinue, HaveEnded, DrawFrom}
use Rattle.kv_threads.specs.declared.party.Party as parties

-- the parties that wait, those that stay, and the number of those that are away
pub record Listed (P : Type 0) : Type 0 where
  pub waiting : List P
  pub stayed : List P
  pub away : ℕ

-- a roster of these
abbrev pub listed : {P : Type 0} → List P → List P → ℕ → Listed P
listed waiting stayed away = record { waiting = waiting; stayed = stayed; away = away }

-- all parties of the roster draw from the counter
abbrev pub ListedDrawFrom : {P : Type 0} → parties.Ghosts P → TableId → Listed P → Type 0
ListedDrawFrom p counter all = DrawFrom p counter all.waiting × DrawFrom p counter all.stayed

-- all parties of the roster are what turns leave of those at their places, and as many are away
pub record ListedContinue {P : Type 0} (p : parties.Ghosts P) (old new : Listed P) : Type 0 where
  pub waiting : AllContinue p old.waiting new.waiting
  pub stayed : AllContinue p old.stayed new.stayed
  pub away : new.away ≡ old.away

-- all parties of the roster have ended
abbrev pub ListedHaveEnded : {P : Type 0} → parties.Ghosts P → Listed P → Type 0
ListedHaveEnded p all = HaveEnded p all.waiting × HaveEnded p all.stayed
