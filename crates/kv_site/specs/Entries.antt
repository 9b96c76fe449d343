-- What a site in memory holds of one kind.
use Rattle.std.specs.Prelude.{◌≡◌, ◌≢◌, ℕ, ◌==◌, ◌&&◌, Bool, List, [], ◌∷◌, Option, None, Some}
use Rattle.std.specs.Prelude.{if◌then◌else◌}
use Rattle.std.specs.Str.{bytes_eq}
use Rattle.kv_site.specs.declared.entry.Entry.{Entry}

-- it is the place of this number in this folder
abbrev pub is_at : {T : Type 0} → List ℕ → ℕ → Entry T → Bool
is_at folder n entry = bytes_eq entry.folder folder && (entry.number == n)

-- the last thing of this number was taken from it
abbrev pub is_home : {T : Type 0} → ℕ → Entry T → Bool
is_home n entry = entry.home && (entry.number == n)

-- the place once a thing of this number was taken from this folder
abbrev pub homed : {T : Type 0} → List ℕ → ℕ → Entry T → Entry T
homed folder n entry = if entry.number == n
    then record entry { home = bytes_eq entry.folder folder } else entry

-- what is held for this number in this folder
abbrev pub thing_at : {T : Type 0} → List (Entry T) → List ℕ → ℕ → Option T
thing_at [] folder n = None
thing_at (entry ∷ rest) folder n = if is_at folder n entry then entry.thing
    else thing_at rest folder n

-- the folder from which the last thing of this number was taken
abbrev pub home_of : {T : Type 0} → List (Entry T) → ℕ → Option (List ℕ)
home_of [] n = None
home_of (entry ∷ rest) n = if is_home n entry then Some entry.folder else home_of rest n

-- this is held for the number in this folder, and nothing else changes
pub record Puts {T : Type 0} (old new : List (Entry T)) (folder : List ℕ) (n : ℕ) (thing : T) : Type
    0 where
  pub put : thing_at new folder n ≡ Some thing
  pub others : (f : List ℕ) (m : ℕ) → (f ≡ folder → m ≡ n → ⊥) → thing_at new f m ≡ thing_at old f m
  pub homes : (m : ℕ) → home_of new m ≡ home_of old m

-- this was held for the number in this folder and is taken, and nothing else changes
pub record Takes {T : Type 0} (old new : List (Entry T)) (folder : List ℕ) (n : ℕ) (thing : T) :
    Type 0 where
  pub was : thing_at old folder n ≡ Some thing
  pub gone : thing_at new folder n ≡ None
  pub home : home_of new n ≡ Some folder
  pub others : (f : List ℕ) (m : ℕ) → (f ≡ folder → m ≡ n → ⊥) → thing_at new f m ≡ thing_at old f m
  pub other_homes : (m : ℕ) → m ≢ n → home_of new m ≡ home_of old m

-- this is held for the number in the folder from which its last thing was taken, and is dropped
-- where there is none; nothing else changes
pub record Gives {T : Type 0} (old new : List (Entry T)) (n : ℕ) (thing : T) : Type 0 where
  pub back : (folder : List ℕ) → home_of old n ≡ Some folder → thing_at new folder n ≡ Some thing
  pub others : (f : List ℕ) (m : ℕ) → (home_of old n ≡ Some f → m ≡ n → ⊥)
      → thing_at new f m ≡ thing_at old f m
  pub homes : (m : ℕ) → home_of new m ≡ home_of old m
