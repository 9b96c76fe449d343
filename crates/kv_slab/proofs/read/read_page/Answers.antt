-- A page that is kept takes no call.
use Rattle.kv_cache.specs.Kept.{content_of}
use Rattle.kv_slab.proofs.FaultLemmas.{counted-page}
use Rattle.kv_slab.proofs.read.read_page.Goals as goal

pub returns-clause-counted : goal.returns-clause-counted
returns-clause-counted g c = counted-page g.D.Disk c.args.file c.args.page c.page.new.out
    c.args.disk.now c.page.new.self c.page.result
    (content_of c.args.disk.now.pages c.args.file c.args.page) c.page.ensures.hit
    c.page.ensures.missed
