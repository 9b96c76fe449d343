-- The disks come back, and then the sink.
use Rattle.kv_serve.proofs.ReportLemmas.{returns-all}
use Rattle.kv_serve.proofs.report.give_all.Goals as goal

pub returns-clause-given : goal.returns-clause-given
returns-clause-given g c before between folder olds old tells takes took same =
    returns-all before between (g.S.Site.holds c.args.site.now)
    (g.S.Site.holds c.give_disks.new.site) (g.S.Site.holds c.give_report.new.self) folder olds
    c.args.disks.items old c.args.out takes took same
    (λ home. c.give_disks.ensures.given tells folder home) (c.give_report.ensures.given tells)
