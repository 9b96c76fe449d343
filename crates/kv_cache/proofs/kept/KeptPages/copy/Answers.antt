-- A look-up moves what it finds to the front, and leaves the list where it finds nothing.
use Rattle.std.proofs.Common.{sym}
use Rattle.kv_cache.proofs.KeptLemmas.{kept-to_front}
use Rattle.kv_cache.proofs.CopiesLemmas.{content_of-found, content_of-absent, kept_of-got}
use Rattle.kv_cache.proofs.CopiesLemmas.{kept_of-missed}
use Rattle.kv_cache.proofs.kept.KeptPages.copy.Goals as goal

pub invariant_of-self : goal.invariant_of-self
invariant_of-self c = rw (kept_of-missed c.args.file c.args.page _ c.get.follows.lender-at-none
    (sym c.in_default.ensures.value) c.get.follows.holds-at-none) c.self.invariant

pub returns-in_default-clause-content : goal.returns-in_default-clause-content
returns-in_default-clause-content c =
    rw (← c.self.view_is) (content_of-absent c.args.file c.args.page c.self.inside.copies
    (sym c.in_default.ensures.value))

pub returns-in_default-clause-pages : goal.returns-in_default-clause-pages
returns-in_default-clause-pages c =
    rw (← c.self.view_is) (kept_of-missed c.args.file c.args.page _ _
    (sym c.in_default.ensures.value) c.get.follows.holds-at-none)

pub invariant_of-self-2 : goal.invariant_of-self-2
invariant_of-self-2 c =
    let found = content_of-found c.args.file c.args.page c.self.inside.copies _
    (sym c.in-Some.ensures.value) in
    rw (kept_of-got _ _ _ c.get.follows.lender-at-none _ c.self.invariant
    (sym c.in-Some.ensures.value) c.get.follows.holds-at-none)
    (kept-to_front _ _ _ c.self.invariant _ _ found)

pub returns-clause-content : goal.returns-clause-content
returns-clause-content c =
    rw (← c.self.view_is, c.deref.ensures) (content_of-found c.args.file c.args.page
    c.self.inside.copies _ (sym c.in-Some.ensures.value))

pub returns-clause-pages : goal.returns-clause-pages
returns-clause-pages c =
    rw (← c.self.view_is, c.deref.ensures) (kept_of-got _ _ _ _ _ c.self.invariant
    (sym c.in-Some.ensures.value) c.get.follows.holds-at-none)
