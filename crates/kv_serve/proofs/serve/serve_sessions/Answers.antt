-- What was taken came back, and what was served was served over the disks as they were taken.
use denote.Exit.{no}
use denote.Param.Send.{param_send, arg_send}
use Rattle.std.proofs.Common.{◌≡◌, ◌≤◌, refl, sym, ◌∙◌, subst, arith, length}
use Rattle.kv_serve.specs.Opening.{AreOpenedFrom}
use Rattle.kv_serve.specs.Outside.{outside_of}
use Rattle.kv_serve.specs.Taken.{TookSessions}
use Rattle.kv_serve.proofs.DoneLemmas.{done-no-memory}
use Rattle.kv_serve.proofs.MeshLemmas.{are-stores, done-served, many-ended}
use Rattle.kv_serve.proofs.serve.serve_sessions.Goals as goal

pub new-requires-clause-stores : goal.new-requires-clause-stores
new-requires-clause-stores g c =
    let opened = c.requires.opened in
    are-stores g.S.Pages.Disk _ c.opened_stores_begin.ensures opened.1 opened.0 c.args.stores.items
    opened.2 c.requires.workers.0 c.requires.workers.1

pub run-requires-send-I : goal.run-requires-send-I
run-requires-send-I g c κs within = param_send 3 _
    (arg_send _ no _ c.tree_indexes_cross_threads.ensures)

-- as many workers and sessions are handed out as began
many : (g : _) (c : goal.After-run g)
    → (length c.run.result.workers.items ≡ length c.args.stores.items)
    × (length c.run.result.sessions.items ≡ length c.args.ends.items)
many g c =
    let opened = c.requires.opened in
    let finished = c.run.result in
    let mesh = c.in-Ok.mesh in
    let some : 1 ≤ length opened.0 = omega (arith, opened.2.many, c.requires.workers.0) in
    many-ended c.disks_tell.ensures c.opened_stores_begin.ensures opened.1 opened.0
    c.args.stores.items opened.2 some mesh.all.workers.items mesh.all.sessions.items mesh.all.start
    c.args.ends.items c.in-Ok.ensures.stores c.in-Ok.ensures.ends c.in-Ok.ensures.start
    finished.workers.items finished.sessions.items finished.unsure
    (λ was begun is. c.run.ensures.in_all was begun is c.in-Ok.ensures.seats)

pub give_back-requires-clause-workers : goal.give_back-requires-clause-workers
give_back-requires-clause-workers g c κs within =
    omega (arith, (many g c).0, c.requires.workers.1)

pub give_back-requires-clause-sessions : goal.give_back-requires-clause-sessions
give_back-requires-clause-sessions g c κs within =
    omega (arith, (many g c).1, c.requires.sessions.1)

pub give_back-requires-clause-endings : goal.give_back-requires-clause-endings
give_back-requires-clause-endings g c κs within =
    (c.requires.endings.0, omega (arith, (many g c).1, c.requires.endings.1))

pub returns-in-Err : goal.returns-in-Err
returns-in-Err g c before between folder n olds limits took lent opened calm =
    let o = outside_of g.S.In.Source g.S.Out.Sink g.S.Site.tells before
    (g.S.Site.holds c.give_stores.new.site) n (g.S.Site.faults c.give_stores.new.site) in
    done-no-memory g.S.Pages.Disk o folder (length olds) limits (length c.args.ends.items)
    c.not_served.result c.not_served.ensures.endings _ (g.S.Site.holds c.args.site.now)
    c.in-Err.stores.items between (g.S.Site.holds c.give_sessions.new.site) olds c.in-Err.ends.items
    (subst (AreOpenedFrom g.S.Pages.Disk _ (length olds) limits olds) (sym c.in-Err.ensures.err.0)
    opened) refl took (λ t. subst (TookSessions between (g.S.Site.holds c.args.site.now))
    (sym c.in-Err.ensures.err.1) (lent t)) (λ t all. c.give_sessions.ensures.given t all)
    (λ t home. c.give_stores.ensures.given t folder home)
    (c.give_stores.ensures.still ∙ c.give_sessions.ensures.still ∙ sym calm)
    c.not_served.ensures.status c.not_served.ensures.refused

pub returns : goal.returns
returns g c before between folder n olds limits took lent opened calm =
    let finished = c.run.result in
    let mesh = c.in-Ok.mesh in
    let some : 1 ≤ length olds = omega (arith, opened.many, c.requires.workers.0) in
    let many = many-ended c.disks_tell.ensures c.opened_stores_begin.ensures limits olds
    c.args.stores.items opened some mesh.all.workers.items mesh.all.sessions.items mesh.all.start
    c.args.ends.items c.in-Ok.ensures.stores c.in-Ok.ensures.ends c.in-Ok.ensures.start
    finished.workers.items finished.sessions.items finished.unsure
    (λ was begun is. c.run.ensures.in_all was begun is c.in-Ok.ensures.seats) in
    done-served c.disks_tell.ensures c.opened_stores_begin.ensures limits olds
    c.args.stores.items opened some mesh.all.workers.items mesh.all.sessions.items mesh.all.start
    c.args.ends.items c.in-Ok.ensures.stores c.in-Ok.ensures.ends c.in-Ok.ensures.start
    finished.workers.items finished.sessions.items finished.unsure
    (λ was begun is. c.run.ensures.in_all was begun is c.in-Ok.ensures.seats)
    (outside_of g.S.In.Source g.S.Out.Sink g.S.Site.tells before
    (g.S.Site.holds c.give_back.new.site) n (g.S.Site.faults c.give_back.new.site)) folder
    c.give_back.result refl c.run.ensures.ended c.give_back.ensures.endings
    c.give_back.ensures.status c.give_back.ensures.refused
    (λ t. c.give_back.ensures.brings before between folder olds c.args.ends.items t (took t) (lent t)
    (many.0 ∙ opened.many) many.1) (c.give_back.ensures.still ∙ sym calm)
