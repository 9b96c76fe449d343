-- All stores are opened.
use Rattle.std.proofs.Common.{◌≡◌, length, rules}
use Rattle.kv_mesh_tests.proofs.StoreLemmas.{are-stores, each-none}
use Rattle.kv_mesh_tests.proofs.stores.open_all.Goals as goal

pub returns-clause-stores : goal.returns-clause-stores
returns-clause-stores g c =
    let stores = c.open_rest.new.stores.items in
    let many : length stores ≡ c.len-in-1-to-16.result = search rules in
    are-stores stores many
    (c.in_ok-open_rest.ensures (each-none c.new-stores.result.items c.new-stores.ensures.items))
