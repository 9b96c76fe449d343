-- What is found is listed.
use Rattle.kv_recover.proofs.ReadingLemmas.{found-holds, listed-kept, listed-places}
use Rattle.kv_recover.proofs.listing.kept.Goals as goal

pub returns-clause-kept : goal.returns-clause-kept
returns-clause-kept g c = λ tells.
    listed-kept (g.D.Disk.seen c.args.disk.now) c.args.worker c.args.workers
    c.read_all.new.items.index.entries c.in_ok-list.list.items
    (found-holds (g.D.Disk.seen c.args.disk.now) c.args.worker c.args.workers _ _ _
    (c.in_ok-read_all.ensures.found tells)) c.in_ok-list.ensures

pub returns-clause-places : goal.returns-clause-places
returns-clause-places g c = listed-places c.read_all.new.items.index.entries _ _
    c.in_ok-list.list.items c.in_ok-read_all.ensures.ends c.in_ok-read_all.ensures.placed
    c.in_ok-list.ensures
