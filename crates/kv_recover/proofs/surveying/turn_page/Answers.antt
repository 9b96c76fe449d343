-- The page is still that of the slot before.
use Rattle.std.proofs.Common.{ap, ◌∙◌}
use Rattle.kv_recover.proofs.SurveyLemmas.{same_page}
use Rattle.kv_recover.proofs.surveying.turn_page.Goals as goal

pub returns-else-offset-eq0-clause-page : goal.returns-else-offset-eq0-clause-page
returns-else-offset-eq0-clause-page g c = λ tells before.
    let same = same_page c.args.place.class c.args.place.slot c.requires.class.1
    (λ is. c.if-offset-eq0.false (c.spot-number.ensures.offset ∙ is)) in
    before same.0 ∙ ap (g.D.Disk.seen c.args.disk.now c.args.place.class) same.1
