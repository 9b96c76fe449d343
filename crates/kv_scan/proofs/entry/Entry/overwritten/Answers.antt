use Rattle.std.proofs.Common.{sym, ap, ◌∙◌}
use Rattle.kv_scan.specs.Scans.{Scan}
use Rattle.kv_scan.proofs.ChangeLemmas.{outlives_held, outlives_late, outlives_folded}
use Rattle.kv_scan.proofs.EntryLemmas.{outlives_by, outlives_unwanted, reached_of}
use Rattle.kv_scan.proofs.entry.Entry.overwritten.Goals as goal

-- The scan has ended, or doesn't reach the key.
pub returns-then-not-wants-clause-ok : goal.returns-then-not-wants-clause-ok
returns-then-not-wants-clause-ok g c =
    outlives_unwanted c.args.key.now c.args.since c.args.until c.args.value.now c.args.self.now
    c.requires.later (sym c.wants.ensures ∙ c.if-not-wants.true)

-- The version is later than the scan.
pub returns-then-stamp-since-clause-ok : goal.returns-then-stamp-since-clause-ok
returns-then-stamp-since-clause-ok g c =
    outlives_late c.args.key.now c.args.since c.args.until c.args.value.now c.args.self.now
    c.in-Some.stamp c.requires.later
    (ap (λ (q : Scan). q.stamp) (sym c.self.view_is) ∙ c.in-Some.is) c.if-stamp-since.true

-- The version is held.
pub returns-in_ok-hold-in-None-clause-ok : goal.returns-in_ok-hold-in-None-clause-ok
returns-in_ok-hold-in-None-clause-ok g c =
    outlives_by _ _ _ _ _ _ _ c.in_ok-hold-in-None.ensures.ok
    (outlives_held c.args.key.now c.args.since c.args.until c.args.value.now c.args.self.now
    c.requires.later (ap (λ (q : Scan). q.stamp) (sym c.self.view_is) ∙ c.in-None.is)
    (reached_of c.args.self.now c.args.key.now (sym c.wants.ensures ∙ c.if-not-wants.false)))

-- The version is folded.
pub returns-in_ok-fold_in-in-Some-clause-ok : goal.returns-in_ok-fold_in-in-Some-clause-ok
returns-in_ok-fold_in-in-Some-clause-ok g c =
    outlives_by _ _ _ _ _ _ _ c.fold_in.ensures.rest
    (outlives_folded c.args.key.now c.args.since c.args.until c.args.value.now c.args.self.now
    c.in-Some.stamp c.fold_in.new.self.state c.requires.later
    (reached_of c.args.self.now c.args.key.now (sym c.wants.ensures ∙ c.if-not-wants.false))
    (ap (λ (q : Scan). q.stamp) (sym c.self.view_is) ∙ c.in-Some.is) c.if-stamp-since.false
    c.fold_in.ensures.kind c.in_ok-fold_in-in-Some.ensures.ok)
