-- What stands in the slots of a class, counted by kinds.
use Rattle.std.specs.Prelude.{◌≡◌, ◌≢◌, ◌⊎◌, ℕ, zero, suc, ◌+◌, List, Option}
use Rattle.kv_base.specs.Partition.{owner_of}
use Rattle.kv_model.specs.Slots.{Slot, Never, Item, Tombstone, Bad, Torn}
use Rattle.kv_model.specs.Reading.{Reading, Copy, IsKept}

-- so many of the numbers below the end have the property
abbrev pub CountsTo : (ℕ → Type 0) → ℕ → ℕ → Type 0
CountsTo P zero n = n ≡ 0
CountsTo P (suc end) n = (P end × ((m : ℕ) × (n ≡ m + 1) × CountsTo P end m))
    ⊎ ((P end → ⊥) × CountsTo P end n)

-- the slot has the item that is kept of some key
pub record HasKept (reading : Reading) (worker workers class slot : ℕ) : Type 0 where
  pub key : List ℕ
  pub copy : Copy
  pub kept : IsKept reading worker workers key copy
  pub class_is : copy.class ≡ class
  pub slot_is : copy.slot ≡ slot

-- an item of a key that this worker owns
pub record IsOwnItem (worker workers : ℕ) (what : Slot) : Type 0 where
  pub stamp : ℕ
  pub key : List ℕ
  pub value : List ℕ
  pub is : what ≡ Item stamp key value
  pub owned : owner_of key workers ≡ worker

-- an item of a key that another worker owns
pub record IsForeignItem (worker workers : ℕ) (what : Slot) : Type 0 where
  pub stamp : ℕ
  pub key : List ℕ
  pub value : List ℕ
  pub is : what ≡ Item stamp key value
  pub foreign : owner_of key workers ≢ worker

-- the slot has an item of this worker that isn't kept
pub record IsStale (reading : Reading) (worker workers class slot : ℕ) : Type 0 where
  pub item : IsOwnItem worker workers (reading class slot)
  pub none : HasKept reading worker workers class slot → ⊥

-- how many slots of the class below the end are of each kind
pub record AreClassCounts (reading : Reading) (worker workers class end : ℕ)
    (kept stale foreign tomb never torn bad : ℕ) : Type 0 where
  pub kept_are : CountsTo (HasKept reading worker workers class) end kept
  pub stale_are : CountsTo (IsStale reading worker workers class) end stale
  pub foreign_are : CountsTo (λ slot. IsForeignItem worker workers (reading class slot)) end foreign
  pub tomb_are : CountsTo (λ slot. (stamp : ℕ) × (link : Option ℕ)
      × (reading class slot ≡ Tombstone stamp link)) end tomb
  pub never_are : CountsTo (λ slot. (stamp : ℕ) × (reading class slot ≡ Never stamp)) end never
  pub torn_are : CountsTo (λ slot. (stamp : ℕ) × (reading class slot ≡ Torn stamp)) end torn
  pub bad_are : CountsTo (λ slot. (stamp : ℕ) × (reading class slot ≡ Bad stamp)) end bad
