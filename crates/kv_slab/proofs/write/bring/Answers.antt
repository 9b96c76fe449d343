-- A page that is read is as the disk has it.
use Rattle.std.proofs.Common.{◌∙◌, sym}
use Rattle.kv_slab.proofs.PageLemmas.{over_missing}
use Rattle.kv_slab.proofs.write.bring.Goals as goal

pub returns-in_ok-read_page-in-None-clause-same : goal.returns-in_ok-read_page-in-None-clause-same
returns-in_ok-read_page-in-None-clause-same g c = λ told.
    c.hold.ensures.same (g.D.Disk.seen c.args.disk.now.disk)
    (c.in_ok-read_page-in-None.ensures.content told
    ∙ sym (over_missing (g.D.Disk.seen c.args.disk.now.disk) c.args.round.now c.args.file
    c.args.page c.in-None.ensures))
