-- The disk was taken as the site held it, and opened or refused.
use Rattle.std.proofs.Common.{refl}
use Rattle.kv_serve.proofs.stores.open_next.Goals as goal

pub returns-in-Ok-open_store-clause-ok : goal.returns-in-Ok-open_store-clause-ok
returns-in-Ok-open_store-clause-ok g c =
    (c.in-Ok.disk, λ t. c.in-Ok.ensures.taken t, c.in-Ok-open_store.ensures.ok)

pub returns-in-Err-open_store-clause-err : goal.returns-in-Err-open_store-clause-err
returns-in-Err-open_store-clause-err g c =
    (refl, (c.in-Ok.disk, λ t. c.in-Ok.ensures.taken t, c.in-Err-open_store.ensures.err))

pub returns-in-Err-clause-err : goal.returns-in-Err-clause-err
returns-in-Err-clause-err g c = (refl, λ t. c.in-Err.ensures.kept t)
