-- A page that isn't planned is as the disk has it.
use Rattle.std.proofs.Common.{◌∙◌, sym}
use Rattle.kv_slab.proofs.PageLemmas.{over_missing}
use Rattle.kv_slab.proofs.vacate.fetch.Goals as goal

pub returns-in-Some-clause-content : goal.returns-in-Some-clause-content
returns-in-Some-clause-content g c = λ told. c.in-Some.ensures (g.D.Disk.seen
    c.args.disk.now.disk) c.requires.first.apart

pub returns-in_ok-read_page-in-None-clause-content : goal.returns-in_ok-read_page-in-None-clause-content
returns-in_ok-read_page-in-None-clause-content g c = λ told. c.in_ok-read_page-in-None.ensures.content told
    ∙ sym (over_missing (g.D.Disk.seen c.args.disk.now.disk) c.args.first.now c.args.file
    c.args.page c.in-None.ensures)
