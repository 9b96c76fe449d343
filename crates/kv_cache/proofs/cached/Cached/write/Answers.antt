-- The copy of a page goes with its content on the disk.
use Rattle.kv_cache.proofs.KeptLemmas.{agree-renewed, agree-dropped}
use Rattle.kv_cache.proofs.cached.Cached.write.Goals as goal

pub invariant_of-self : goal.invariant_of-self
invariant_of-self g c = λ told. rw (c.renew.ensures, c.in-Ok.ensures.written told)
    (agree-renewed c.args.file c.args.page _ _ c.args.content.now (c.self.invariant told))

pub invariant_of-self-in-Err : goal.invariant_of-self-in-Err
invariant_of-self-in-Err g c =
    λ told. rw c.remove.ensures (agree-dropped c.args.file c.args.page _ _ _ c.args.content.now
    (c.self.invariant told) (c.write.ensures.seen told))
