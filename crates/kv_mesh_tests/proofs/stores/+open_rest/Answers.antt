-- What was opened before and what is opened then.
use Rattle.std.proofs.lemmas.Result.{on_ok_weaker}
use Rattle.kv_mesh_tests.proofs.stores.+open_rest.Goals as goal

pub returns-in_ok-open_next-in-Some : goal.returns-in_ok-open_next-in-Some
returns-in_ok-open_next-in-Some g t c = on_ok_weaker c.open_rest.result
    (λ goes each. goes (c.in_ok-open_next-in-Some.ensures each)) c.open_rest.ensures
