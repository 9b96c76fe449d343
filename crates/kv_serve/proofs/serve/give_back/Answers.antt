-- The ends come back, and then the disks.
use Rattle.std.proofs.Common.{map, ◌∙◌, subst}
use Rattle.std.proofs.lemmas.List.{length-map}
use Rattle.kv_serve.specs.Taken.{AreHome, AreLent}
use Rattle.kv_serve.proofs.BringLemmas.{brings-all}
use Rattle.kv_serve.proofs.ServedLemmas.{disk_of, ends_from}
use Rattle.kv_serve.proofs.serve.give_back.Goals as goal

pub returns-clause-brings : goal.returns-clause-brings
returns-clause-brings g c before between folder olds ends t took lent many also =
    let workers = c.args.finished.workers.items in
    let parts = c.args.finished.sessions.items in
    let held = g.S.Site.holds c.args.site.now in
    let given = g.S.Site.holds c.give_stopped-endings.new.site in
    brings-all before between held given (g.S.Site.holds c.give_workers.new.site) folder olds
    (map disk_of workers) ends (map ends_from parts) took lent (length-map workers disk_of ∙ many)
    (length-map parts ends_from ∙ also)
    (λ all. c.give_stopped-endings.ensures.given t
    (subst (AreLent held) (length-map parts ends_from) all))
    (λ all. c.give_workers.ensures.given t folder
    (subst (AreHome given folder) (length-map workers disk_of) all))
