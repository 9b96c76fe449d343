-- The count of faults of the real site.
use Rattle.std.specs.Prelude.{◌≡◌, ℕ, Result, Ok, Err}
use Rattle.kv_base.specs.Calls.{next_count}
use Rattle.kv_site.specs.declared.fault.TakeFault.{TakeFault}
use Rattle.kv_site.specs.declared.fault.TakeFault.TheVariants.{Failed, NoMemory}

-- just a take that failed is counted
abbrev pub Counts : {T : Type 0} → ℕ → ℕ → Result T TakeFault → Type 0
Counts old new (Ok taken) = new ≡ old
Counts old new (Err Failed) = new ≡ next_count old
Counts old new (Err NoMemory) = new ≡ old
