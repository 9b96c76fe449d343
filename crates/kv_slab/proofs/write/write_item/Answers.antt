-- Pages that are written whole are the same over any image.
use Rattle.kv_slab.proofs.write.write_item.Goals as goal

pub returns-in-7-clause-set : goal.returns-in-7-clause-set
returns-in-7-clause-set g c = λ told. c.write_page.ensures.set (g.D.Disk.seen c.args.disk.now.disk)

pub returns-in_default-clause-set : goal.returns-in_default-clause-set
returns-in_default-clause-set g c = λ told. c.write_large.ensures.set
    (g.D.Disk.seen c.args.disk.now.disk)

pub returns-in_default-clause-whole : goal.returns-in_default-clause-whole
returns-in_default-clause-whole g c = λ told large. c.write_large.ensures.whole
    (g.D.Disk.seen c.args.disk.now.disk)
