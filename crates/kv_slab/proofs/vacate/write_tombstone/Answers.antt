-- A page that is written whole is the same over any image.
use Rattle.kv_slab.specs.Pages.{over}
use Rattle.kv_slab.proofs.vacate.write_tombstone.Goals as goal

pub returns-else-place-lt7-clause-set : goal.returns-else-place-lt7-clause-set
returns-else-place-lt7-clause-set g c = λ told. c.vacate_page.ensures.set
    (over (g.D.Disk.seen c.args.disk.now.disk) c.args.first.now)

pub returns-else-place-lt7-clause-later : goal.returns-else-place-lt7-clause-later
returns-else-place-lt7-clause-later g c = λ told. c.vacate_page.ensures.later
    (over (g.D.Disk.seen c.args.disk.now.disk) c.args.first.now)
