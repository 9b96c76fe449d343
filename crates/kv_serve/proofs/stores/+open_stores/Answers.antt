-- One store more is opened, or the next one isn't.
use Rattle.std.proofs.Common.{◌≡◌, ◌<◌, ◌∷◌, [], ◌++◌, length, arith, rules}
use Rattle.std.proofs.lemmas.Result.{IfErr-weaker, on_ok_weaker}
use Rattle.kv_serve.proofs.StoreLemmas.{stops-behind, took-pushed}
use Rattle.kv_serve.proofs.stores.+open_stores.Goals as goal

pub returns-in-Err-clause-err : goal.returns-in-Err-clause-err
returns-in-Err-clause-err g t c = λ before took.
    let last : c.len-worker.result ≡ length c.args.stores.now.items = search rules in
    let lt : c.len-worker.result < c.args.workers = omega arith in
    stops-behind g.S.Pages.Disk _ c.args.workers c.args.limits g.S.Site.tells before
    c.args.folder.now (g.S.Site.holds c.args.site.now) (g.S.Site.holds c.open_next.new.site)
    c.args.stores.now.items c.len-worker.result c.in-Err.why last lt took c.in-Err.ensures.err

pub returns-clause-ok : goal.returns-clause-ok
returns-clause-ok g t c =
    let last : c.len-worker.result ≡ length c.args.stores.now.items = search rules in
    let pushed : c.push.new.self.items ≡ c.args.stores.now.items ++ c.in-Ok.opened ∷ [] =
    search rules in
    on_ok_weaker c.open_stores.result (λ goes before took. goes before (took-pushed
    g.S.Pages.Disk _ c.args.workers c.args.limits g.S.Site.tells before c.args.folder.now
    (g.S.Site.holds c.args.site.now) (g.S.Site.holds c.open_next.new.site) c.args.stores.now.items
    c.push.new.self.items c.len-worker.result c.in-Ok.ensures.ok.0 c.in-Ok.opened pushed last took
    c.in-Ok.ensures.ok.1 c.in-Ok.ensures.ok.2)) c.open_stores.ensures.ok

pub returns-clause-err : goal.returns-clause-err
returns-clause-err g t c =
    let last : c.len-worker.result ≡ length c.args.stores.now.items = search rules in
    let pushed : c.push.new.self.items ≡ c.args.stores.now.items ++ c.in-Ok.opened ∷ [] =
    search rules in
    IfErr-weaker c.open_stores.result _ _ (λ why goes before took. goes before (took-pushed
    g.S.Pages.Disk _ c.args.workers c.args.limits g.S.Site.tells before c.args.folder.now
    (g.S.Site.holds c.args.site.now) (g.S.Site.holds c.open_next.new.site) c.args.stores.now.items
    c.push.new.self.items c.len-worker.result c.in-Ok.ensures.ok.0 c.in-Ok.opened pushed last took
    c.in-Ok.ensures.ok.1 c.in-Ok.ensures.ok.2)) c.open_stores.ensures.err
