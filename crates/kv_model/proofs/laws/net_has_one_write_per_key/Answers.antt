-- of the last writes one part is left out
use Rattle.std.proofs.Common.{[], ◌+◌, length, le_refl}
use Rattle.kv_model.specs.Batch.{accepted_writes, last_writes, changes_something}
use Rattle.kv_model.proofs.NetLemmas.{DifferentKeys-filter, DifferentKeys-last_writes}
use Rattle.kv_model.proofs.NetLemmas.{RiseBetween-filter, RiseBetween-last_writes}
use Rattle.kv_model.proofs.NetLemmas.{RiseBetween-accepted_writes}
use Rattle.kv_model.proofs.laws.net_has_one_write_per_key.Goals as goal

pub returns : goal.returns
returns c = λ start base requests.
    let all = accepted_writes start [] base requests in (
      DifferentKeys-filter (changes_something start) (last_writes all)
          (DifferentKeys-last_writes all),
      RiseBetween-filter (last_writes all) (changes_something start) base (base + length requests)
          (RiseBetween-last_writes all base (base + length requests)
          (RiseBetween-accepted_writes requests start [] base base (le_refl base))),
    )
