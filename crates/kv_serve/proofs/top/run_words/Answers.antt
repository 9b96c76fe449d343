-- The words ask the command that was read, and no other.
use Rattle.std.proofs.Common.{ap, length, refl, subst, sym, ◌∙◌, Err}
use Rattle.std.proofs.lemmas.List.{length-map}
use Rattle.kv_words.specs.Asked.{asked_by, ends_of}
use Rattle.kv_serve.specs.Command.{Does}
use Rattle.kv_serve.specs.Outside.{outside_of}
use Rattle.kv_serve.specs.Serve.{IsDone}
use Rattle.kv_serve.proofs.DoneLemmas.{does-at-once, done-not-two}
use Rattle.kv_serve.proofs.top.run_words.Goals as goal

pub returns-in-Ok-Serve-clause-done : goal.returns-in-Ok-Serve-clause-done
returns-in-Ok-Serve-clause-done g c asked asks =
    let o = outside_of g.S.In.Source g.S.Out.Sink g.S.Site.tells (g.S.Site.holds c.args.site.now)
    (g.S.Site.holds c.serve.new.site) (g.S.Site.faults c.args.site.now)
    (g.S.Site.faults c.serve.new.site) in
    subst (λ a. Does g.S.Pages.Disk o a c.serve.result)
    (sym (c.in-Ok-Serve.ensures.only asked asks ∙ ap asked_by c.in-Ok-Serve.field-0-is))
    (subst (λ sessions. IsDone g.S.Pages.Disk o c.in-Ok-Serve.folder.now c.in-Ok-Serve.workers
    c.in-Ok-Serve.limits sessions c.serve.result) (ap length c.as_slice.ensures
    ∙ sym (length-map c.in-Ok-Serve.sessions.items ends_of)) c.serve.ensures)

pub returns-in-Ok-Serve-clause-only : goal.returns-in-Ok-Serve-clause-only
returns-in-Ok-Serve-clause-only g c two asked asks =
    absurd (done-not-two _ _ _ _ _ _ c.serve.result c.serve.ensures two)

pub returns-in-Err-Usage-clause-done : goal.returns-in-Err-Usage-clause-done
returns-in-Err-Usage-clause-done g c asked asks =
    absurd (c.in-Err-Usage.ensures.usage (ap Err c.in-Err-Usage.field-0-is) asked asks)

pub returns-in-Err-Usage-clause-only : goal.returns-in-Err-Usage-clause-only
returns-in-Err-Usage-clause-only g c two asked asks =
    c.in-Err-Usage.ensures.usage (ap Err c.in-Err-Usage.field-0-is) asked asks

pub returns-in-Err-NoMemory-clause-done : goal.returns-in-Err-NoMemory-clause-done
returns-in-Err-NoMemory-clause-done g c asked asks =
    let ended = c.not_served-in-Err-NoMemory in
    does-at-once g.S.Pages.Disk (outside_of g.S.In.Source g.S.Out.Sink g.S.Site.tells
    (g.S.Site.holds c.args.site.now) (g.S.Site.holds c.args.site.now)
    (g.S.Site.faults c.args.site.now) (g.S.Site.faults c.args.site.now)) asked
    ended.result ended.ensures.endings (λ t. refl) refl ended.ensures.status ended.ensures.refused
