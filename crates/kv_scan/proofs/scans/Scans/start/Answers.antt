use Rattle.kv_scan.specs.Sessions.{StartsScan}
use Rattle.kv_scan.proofs.SessionLemmas.{moves_by}
use Rattle.kv_scan.proofs.scans.Scans.start.Goals as goal

-- The entry is taken out, started and put back.
pub returns-in_ok-start-in-Some-clause-ok : goal.returns-in_ok-start-in-Some-clause-ok
returns-in_ok-start-in-Some-clause-ok g c =
    moves_by (StartsScan c.args.stamp) c.self.inside.entries.items c.args.self.now c.args.session
    c.index_mut.result.now c.take.new.self c.in-Some.entry c.start.new.self c.requires.session
    c.self.view_is c.in-Some.ensures.value c.index_mut.ensures.value
    (record {
      is = c.in_ok-start-in-Some.ensures.ok;
      kind = c.start.ensures.kind;
      owes = c.in_ok-start-in-Some.ensures.owes;
    })
