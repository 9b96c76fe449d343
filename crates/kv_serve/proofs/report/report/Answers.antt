-- The sink was taken as the site held it.
use Rattle.std.proofs.Common.{sym}
use Rattle.kv_serve.proofs.report.report.Goals as goal

pub returns-in-Ok-take_report : goal.returns-in-Ok-take_report
returns-in-Ok-take_report g c = c.report_to.ensures (g.S.Site.holds c.args.site.now)
    (g.S.Site.faults c.args.site.now) (λ t. c.in-Ok-take_report.ensures.taken t)
    (sym c.in-Ok-take_report.ensures.counted)
