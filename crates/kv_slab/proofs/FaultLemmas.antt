-- Faults, counted along calls.
use Rattle.std.proofs.Common.{◌≡◌, ℕ, List, Option, None, Some, Result, Ok, Err, refl, ap}
use Rattle.kv_base.specs.Fault.{Counted}
use Rattle.kv_disk.specs.declared.disk.Disk.{Ghosts}
use Rattle.kv_disk.specs.Steps.{Looks}
use Rattle.kv_cache.specs.Cache.{Cache, Hits}

-- a page that was asked for counts a fault just where its read failed
pub counted-page : {D T E : Type 0} (d : Ghosts D) (file page : ℕ) (out : List ℕ)
    (old new : Cache D) (result : Result T E) (held : Option (List ℕ))
    → ((content : List ℕ) → held ≡ Some content → Hits file page content out old new result)
    → (held ≡ None → Looks d old.disk new.disk result)
    → Counted (d.faults old.disk) (d.faults new.disk) result
counted-page d file page out old new result None hit missed = (missed refl).call.counted
counted-page {D} d file page out old new (Ok x) (Some content) hit missed =
    ap (λ (cache : Cache D). d.faults cache.disk) (hit content refl).moved
counted-page d file page out old new (Err e) (Some content) hit missed =
    absurd (let ok = (hit content refl).ok in cc)
