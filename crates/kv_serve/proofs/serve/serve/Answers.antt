-- All that was taken comes back where a disk isn't opened; else sessions are served.
use Rattle.std.proofs.Common.{Err, refl, sym, ◌∙◌, subst, length, rules}
use Rattle.kv_site.specs.FileSite.{Counts}
use Rattle.kv_serve.specs.Outside.{outside_of}
use Rattle.kv_serve.specs.Serve.{IsDone}
use Rattle.kv_serve.proofs.DoneLemmas.{done-at-once, done-not-opened, done-not-taken}
use Rattle.kv_serve.proofs.StoreLemmas.{opened-of-as-many, took-none-in}
use Rattle.kv_serve.proofs.serve.serve.Goals as goal

pub serve_stores-requires-clause-opened : goal.serve_stores-requires-clause-opened
serve_stores-requires-clause-opened g c lives among =
    let held = g.S.Site.holds c.args.site.now in
    let took = c.in-Ok-open_stores.ensures.ok held (took-none-in g.S.Pages.Disk _ c.args.workers
    c.args.limits g.S.Site.tells held c.args.folder.now _ (search rules)) in (
      took.olds,
      c.args.limits,
      opened-of-as-many (sym c.in-Ok-open_stores.ensures.many ∙ took.opened.many) took.opened,
    )

pub returns-in-Ok-open_stores : goal.returns-in-Ok-open_stores
returns-in-Ok-open_stores g c =
    let held = g.S.Site.holds c.args.site.now in
    let o = outside_of g.S.In.Source g.S.Out.Sink g.S.Site.tells held
    (g.S.Site.holds c.serve_stores.new.site) (g.S.Site.faults c.args.site.now)
    (g.S.Site.faults c.serve_stores.new.site) in
    let took = c.in-Ok-open_stores.ensures.ok held (took-none-in g.S.Pages.Disk _ c.args.workers
    c.args.limits g.S.Site.tells held c.args.folder.now _ (search rules)) in
    let many = sym c.in-Ok-open_stores.ensures.many ∙ took.opened.many in
    subst (λ w. IsDone g.S.Pages.Disk o c.args.folder.now w c.args.limits
    (length c.args.names.now) c.serve_stores.result) (sym many)
    (c.serve_stores.ensures held c.args.folder.now (g.S.Site.faults c.args.site.now) took.olds
    c.args.limits (λ t. took.took t) (opened-of-as-many many took.opened)
    (sym c.in-Ok-open_stores.ensures.counted))

pub returns-in-Err-NotTaken : goal.returns-in-Err-NotTaken
returns-in-Err-NotTaken g c =
    let held = g.S.Site.holds c.args.site.now in
    let o = outside_of g.S.In.Source g.S.Out.Sink g.S.Site.tells held
    (g.S.Site.holds c.give_stores.new.site) (g.S.Site.faults c.args.site.now)
    (g.S.Site.faults c.give_stores.new.site) in
    let stops = rw c.in-Err-NotTaken.field-0-is at (c.in-Err-NotTaken.ensures.err held
    (took-none-in g.S.Pages.Disk _ c.args.workers c.args.limits g.S.Site.tells held
    c.args.folder.now _ (search rules))) in
    done-not-taken g.S.Pages.Disk o c.args.folder.now c.args.workers c.args.limits
    (length c.args.names.now) c.refused_by.result c.refused_by.ensures.endings _
    (g.S.Site.holds c.open_stores.new.site) c.open_stores.new.stores.items c.in-Err-NotTaken.worker
    c.in-Err-NotTaken.fault stops
    (subst (λ after. Counts {T = Unit {0}} (g.S.Site.faults c.args.site.now) after
    (Err c.in-Err-NotTaken.fault)) (sym c.give_stores.ensures.still)
    (rw c.in-Err-NotTaken.field-0-is at c.in-Err-NotTaken.ensures.counted))
    (rw c.in-Err-NotTaken.field-0-is at c.refused_by.ensures.cause)
    (λ t home. c.give_stores.ensures.given t c.args.folder.now home)

pub returns : goal.returns
returns g c =
    let held = g.S.Site.holds c.args.site.now in
    let o = outside_of g.S.In.Source g.S.Out.Sink g.S.Site.tells held
    (g.S.Site.holds c.give_stores-in-Err-NotOpened.new.site) (g.S.Site.faults c.args.site.now)
    (g.S.Site.faults c.give_stores-in-Err-NotOpened.new.site) in
    let stops = rw c.in-Err-NotOpened.field-0-is at (c.in-Err-NotOpened.ensures.err held
    (took-none-in g.S.Pages.Disk _ c.args.workers c.args.limits g.S.Site.tells held
    c.args.folder.now _ (search rules))) in
    done-not-opened g.S.Pages.Disk o c.args.folder.now c.args.workers c.args.limits
    (length c.args.names.now) c.refuse_disk.result c.refuse_disk.ensures.endings _
    (g.S.Site.holds c.open_stores.new.site) c.open_stores.new.stores.items
    (g.S.Site.holds c.give_disk.new.self) c.in-Err-NotOpened.worker c.in-Err-NotOpened.disk
    c.in-Err-NotOpened.fault stops
    (c.give_stores-in-Err-NotOpened.ensures.still ∙ c.give_disk.ensures.still
    ∙ (rw c.in-Err-NotOpened.field-0-is at c.in-Err-NotOpened.ensures.counted))
    (rw c.in-Err-NotOpened.field-0-is at c.refuse_disk.ensures.cause)
    (rw c.in-Err-NotOpened.field-0-is at c.give_disk.ensures.given)
    (λ t home. c.give_stores-in-Err-NotOpened.ensures.given t c.args.folder.now home)

pub returns-in_default : goal.returns-in_default
returns-in_default g c =
    done-at-once g.S.Pages.Disk (outside_of g.S.In.Source g.S.Out.Sink g.S.Site.tells
    (g.S.Site.holds c.args.site.now) (g.S.Site.holds c.args.site.now)
    (g.S.Site.faults c.args.site.now) (g.S.Site.faults c.args.site.now)) c.args.folder.now
    c.args.workers c.args.limits (length c.args.names.now) c.not_served.result
    c.not_served.ensures.endings (λ t. refl) refl c.not_served.ensures.status
    c.not_served.ensures.refused

pub returns-in_default-with_capacity : goal.returns-in_default-with_capacity
returns-in_default-with_capacity g c =
    let ended = c.not_served-in_default-with_capacity in
    done-at-once g.S.Pages.Disk (outside_of g.S.In.Source g.S.Out.Sink g.S.Site.tells
    (g.S.Site.holds c.args.site.now) (g.S.Site.holds c.args.site.now)
    (g.S.Site.faults c.args.site.now) (g.S.Site.faults c.args.site.now)) c.args.folder.now
    c.args.workers c.args.limits (length c.args.names.now) ended.result ended.ensures.endings
    (λ t. refl) refl ended.ensures.status ended.ensures.refused

pub returns-in_default-with_capacity-2 : goal.returns-in_default-with_capacity-2
returns-in_default-with_capacity-2 g c =
    let ended = c.not_served-in_default-with_capacity-2 in
    done-at-once g.S.Pages.Disk (outside_of g.S.In.Source g.S.Out.Sink g.S.Site.tells
    (g.S.Site.holds c.args.site.now) (g.S.Site.holds c.args.site.now)
    (g.S.Site.faults c.args.site.now) (g.S.Site.faults c.args.site.now)) c.args.folder.now
    c.args.workers c.args.limits (length c.args.names.now) ended.result ended.ensures.endings
    (λ t. refl) refl ended.ensures.status ended.ensures.refused
