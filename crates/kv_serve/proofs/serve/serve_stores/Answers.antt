-- All that was taken comes back where a session is refused; else the sessions are served.
use Rattle.std.proofs.Common.{Err, length, refl, sym, ◌∙◌, subst, subst₂}
use Rattle.kv_site.specs.FileSite.{Counts}
use Rattle.kv_serve.specs.Outside.{outside_of}
use Rattle.kv_serve.specs.Serve.{IsDone}
use Rattle.kv_serve.proofs.DoneLemmas.{done-no-session}
use Rattle.kv_serve.proofs.serve.serve_stores.Goals as goal

pub returns-in-Ok : goal.returns-in-Ok
returns-in-Ok g c before folder n olds limits took opened calm =
    let o = outside_of g.S.In.Source g.S.Out.Sink g.S.Site.tells before
    (g.S.Site.holds c.serve_sessions.new.site) n (g.S.Site.faults c.serve_sessions.new.site) in
    subst (λ count. IsDone g.S.Pages.Disk o folder (length olds) limits count
    c.serve_sessions.result) c.in-Ok.ensures.ok (c.serve_sessions.ensures before
    (g.S.Site.holds c.args.site.now) folder n olds limits took (λ t. c.in-Ok.ensures.took t) opened
    (calm ∙ sym c.in-Ok.ensures.counted))

pub returns-in-Err : goal.returns-in-Err
returns-in-Err g c before folder n olds limits took opened calm =
    let o = outside_of g.S.In.Source g.S.Out.Sink g.S.Site.tells before
    (g.S.Site.holds c.give_stores.new.site) n (g.S.Site.faults c.give_stores.new.site) in
    done-no-session g.S.Pages.Disk o folder (length olds) limits (length c.args.names.now)
    c.refused_by.result c.refused_by.ensures.endings _ (g.S.Site.holds c.take_sessions.new.site)
    c.args.stores.items (g.S.Site.holds c.args.site.now) (g.S.Site.holds c.give_sessions.new.site)
    olds c.take_sessions.new.ends.items opened refl took (λ t. c.in-Err.ensures.took t)
    (λ t lent. c.give_sessions.ensures.given t lent)
    (λ t home. c.give_stores.ensures.given t folder home) c.in-Err.session c.in-Err.fault
    c.in-Err.ensures.err
    (subst₂ (λ a b. Counts {T = Unit {0}} a b (Err c.in-Err.fault)) (sym calm)
    (sym (c.give_stores.ensures.still ∙ c.give_sessions.ensures.still)) c.in-Err.ensures.counted)
    c.refused_by.ensures.cause
