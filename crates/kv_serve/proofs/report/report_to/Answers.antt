-- The report is made, or what was taken comes back as it was.
use Rattle.std.proofs.Common.{Err, refl, sym, ◌∙◌, inl, subst, subst₂}
use Rattle.kv_site.specs.FileSite.{Counts}
use Rattle.kv_serve.specs.Report.{IsReported}
use Rattle.kv_serve.specs.Outside.{outside_of}
use Rattle.kv_serve.proofs.ReportLemmas.{all-kept, refuses-disks}
use Rattle.kv_serve.proofs.report.report_to.Goals as goal

pub returns-in-Ok : goal.returns-in-Ok
returns-in-Ok g c before n takes calm =
    let o = outside_of g.S.In.Source g.S.Out.Sink g.S.Site.tells before
    (g.S.Site.holds c.report_taken.new.site) n (g.S.Site.faults c.report_taken.new.site) in
    subst (λ count. IsReported g.S.Pages.Disk o c.args.kind c.args.folder.now count c.report_taken.result)
    c.in-Ok.ensures.ok
    (c.report_taken.ensures before (g.S.Site.holds c.args.site.now) c.args.folder.now n takes
    (λ t. c.in-Ok.ensures.took t) (calm ∙ sym c.in-Ok.ensures.counted))

pub returns-in-Err : goal.returns-in-Err
returns-in-Err g c before n takes calm =
    let o = outside_of g.S.In.Source g.S.Out.Sink g.S.Site.tells before
    (g.S.Site.holds c.give_all.new.site) n (g.S.Site.faults c.give_all.new.site) in
    record {
      endings = c.refused_by.ensures.endings;
      did = inl (
        λ t. all-kept before (g.S.Site.holds c.give_all.new.site) c.args.folder.now
            c.take_disks.new.disks.items c.args.out
            (c.give_all.ensures.given before (g.S.Site.holds c.args.site.now) c.args.folder.now
            c.take_disks.new.disks.items c.args.out t (takes t) (c.in-Err.ensures.took t) refl),
        refuses-disks o c.args.workers c.refused_by.result.status c.in-Err.worker
            c.refused_by.result.refused c.in-Err.fault c.in-Err.ensures.err
            (subst₂ (λ a b. Counts {T = Unit {0}} a b (Err c.in-Err.fault)) (sym calm)
            (sym c.give_all.ensures.still) c.in-Err.ensures.counted) c.refused_by.ensures.cause,
      );
    }
