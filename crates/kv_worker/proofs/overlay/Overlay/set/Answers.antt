-- the table changes at this key alone
use Rattle.std.proofs.lemmas.Map.Text.{hash_map_updates_str}
use Rattle.kv_worker.proofs.overlay.Overlay.set.Goals as goal

pub returns : goal.returns
returns c = hash_map_updates_str c.args.key.now c.args.self.now.lasts
    c.insert.new.self _ c.in_ok-insert.ensures.updates
