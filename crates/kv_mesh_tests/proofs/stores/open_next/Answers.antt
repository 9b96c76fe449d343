-- One store more is opened.
use Rattle.std.proofs.Common.{◌≡◌, length, rules}
use Rattle.kv_mesh_tests.proofs.StoreLemmas.{each-more}
use Rattle.kv_mesh_tests.proofs.stores.open_next.Goals as goal

pub returns : goal.returns
returns g c each =
    let last : c.len-worker.result ≡ length c.args.stores.now.items = search rules in
    each-more c.args.stores.now.items c.push.new.self.items c.in_ok-opened.opened
    c.in_ok-push.ensures.items last c.in_ok-opened.ensures each
