-- the store is read by one get
use Rattle.kv_worker.proofs.ReadLemmas.{get-reads}
use Rattle.kv_worker.proofs.value.kept_reply.Goals as goal

pub returns-in_err-value-clause-read : goal.returns-in_err-value-clause-read
returns-in_err-value-clause-read g c = get-reads g.D.Disk g.I.Index c.args.slabs.now
    c.get.new.self c.args.key.now c.requires c.get.ensures.reads c.get.ensures.rest

pub returns-in-Some-clause-read : goal.returns-in-Some-clause-read
returns-in-Some-clause-read g c = get-reads g.D.Disk g.I.Index c.args.slabs.now
    c.get.new.self c.args.key.now c.requires c.get.ensures.reads c.get.ensures.rest
