-- What was taken came back, and the report was made over the disks as they were taken.
use Rattle.std.proofs.Common.{ap, length, refl, sym, subst, ◌∙◌, inr}
use Rattle.kv_serve.specs.Report.{Makes, ReturnsAll}
use Rattle.kv_serve.proofs.PlaceLemmas.{lent-back}
use Rattle.kv_serve.proofs.report.report_taken.Goals as goal

pub returns : goal.returns
returns g c before between folder n takes took calm =
    let made = c.make_report-outcome in
    let items = c.args.disks.items in
    let count = made.ensures.reads.count ∙ ap length c.as_mut_slice.ensures.items in
    let back = lent-back items made.new.disks count in
    record {
      endings = c.reported.ensures.endings;
      did = inr (record {
        olds = items;
        news = made.new.disks;
        old = c.args.out;
        new = made.new.out;
        outcome = made.result;
        count = refl;
        returns = λ t. subst (λ news. ReturnsAll before (g.S.Site.holds c.give_all.new.site) folder items
            news c.args.out made.new.out) back
            (c.give_all.ensures.given before between folder items c.args.out t (takes t) (took t)
            (ap length back ∙ count));
        makes = subst (λ olds. Makes g.S.Pages.Disk g.S.Out.Sink.held g.S.Out.Sink.faults c.args.kind
            olds made.new.disks c.args.out made.new.out made.result) c.as_mut_slice.ensures.items
            made.ensures;
        ends = c.reported.ensures.ends;
        calm = c.give_all.ensures.still ∙ sym calm;
      });
    }
