use Rattle.std.proofs.Common.{sym, ◌∙◌}
use Rattle.kv_scan.proofs.DrainLemmas.{takes_in, takes_none}
use Rattle.kv_scan.proofs.drain.take_one.Goals as goal

-- The version was current at the stamp.
pub returns-clause-ok : goal.returns-clause-ok
returns-clause-ok g c =
    let adds = rw (c.as_slice.ensures, c.as_slice-2.ensures) at c.in_ok-add.ensures.ok in
    takes_in c.args.stamp c.args.version (g.F.Fold.state c.args.fold.now)
    (g.F.Fold.state c.add.new.self) (sym c.covers_stamp.ensures ∙ c.if-not-covers_stamp.false) adds

-- The version wasn't.
pub returns-then-not-covers_stamp-clause-ok : goal.returns-then-not-covers_stamp-clause-ok
returns-then-not-covers_stamp-clause-ok g c =
    takes_none c.args.stamp c.args.version (g.F.Fold.state c.args.fold.now)
    (sym c.covers_stamp.ensures ∙ c.if-not-covers_stamp.true)
