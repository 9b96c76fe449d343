use Rattle.kv_scan.specs.Sessions.{WalksScan}
use Rattle.kv_scan.proofs.SessionLemmas.{moves_by}
use Rattle.kv_scan.proofs.scans.Scans.walked.Goals as goal

-- The entry is taken out, walks the key and is put back.
pub returns-in_ok-walked-in-Some-clause-ok : goal.returns-in_ok-walked-in-Some-clause-ok
returns-in_ok-walked-in-Some-clause-ok g c =
    moves_by (WalksScan c.args.key.now (c.args.stamp, c.args.value.now))
    c.self.inside.entries.items c.args.self.now c.args.session c.index_mut.result.now
    c.take.new.self c.in-Some.entry c.walked.new.self c.requires.session c.self.view_is
    c.in-Some.ensures.value c.index_mut.ensures.value
    (record {
      is = c.in_ok-walked-in-Some.ensures.ok;
      kind = c.walked.ensures.kind;
      owes = c.in_ok-walked-in-Some.ensures.owes;
    })
