-- What was taken from the folder without a name is the session's.
use Rattle.kv_site.proofs.MemorySiteLemmas.{if_ok-from, if_some-map, takes_session}
use Rattle.kv_site.proofs.memory_site.MemSiteSite.take_session.Goals as goal
use Rattle.kv_site.proofs.memory_site.MemSiteSite.take_session.Goals.{then-begin, else-begin}

pub returns-clause-taken : goal.returns-clause-taken
returns-clause-taken c told =
    if_ok-from c.end.result c.if-begin.taken _ c.end.ensures.ok (elim c.if-begin.branch [
      | then-begin w ↦ rw w.taken-is tt
      | else-begin w ↦ rw (w.taken-is, w.self-inside-is, ← c.self.view_is)
          (if_some-map w.take-taken.result _ _ (λ ends takes. takes_session _ _ _ _ _ c.args.number
          ends takes) w.take-taken.ensures.some)
    ])
