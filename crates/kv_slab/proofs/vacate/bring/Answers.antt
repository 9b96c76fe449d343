-- A page that is read is as the first round leaves it.
use Rattle.std.proofs.Common.{◌∙◌, sym}
use Rattle.kv_slab.specs.Pages.{over}
use Rattle.kv_slab.proofs.PageLemmas.{over_missing}
use Rattle.kv_slab.proofs.vacate.bring.Goals as goal

pub returns-in_ok-fetch-in-None-clause-same : goal.returns-in_ok-fetch-in-None-clause-same
returns-in_ok-fetch-in-None-clause-same g c = λ told.
    c.hold.ensures.same (over (g.D.Disk.seen c.args.disk.now.disk) c.args.first.now)
    (c.in_ok-fetch-in-None.ensures.content told
    ∙ sym (over_missing (over (g.D.Disk.seen c.args.disk.now.disk) c.args.first.now)
    c.args.round.now c.args.file c.args.page c.in-None.ensures))
