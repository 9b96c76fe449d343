-- A page that is found comes to the front with what is written there.
use Rattle.std.proofs.Common.{sym, refl}
use Rattle.kv_cache.proofs.KeptLemmas.{kept-to_front}
use Rattle.kv_cache.proofs.CopiesLemmas.{content_of-found, content_of-absent, kept_of-written}
use Rattle.kv_cache.proofs.kept.KeptPages.renew.Goals as goal

pub returns-in_default : goal.returns-in_default
returns-in_default c =
    rw (
      ← c.self.view_is,
      content_of-absent c.args.file c.args.page c.self.inside.copies
          (sym c.in_default.ensures.value),
    ) refl

pub invariant_of-self-2 : goal.invariant_of-self-2
invariant_of-self-2 c =
    let found = content_of-found c.args.file c.args.page c.self.inside.copies _
    (sym c.in-Some.ensures.value) in
    rw (kept_of-written c.args.file c.args.page c.self.inside.copies _ _ c.self.invariant
    (sym c.in-Some.ensures.value)) (kept-to_front _ _ _ c.self.invariant _ c.args.content.now
    found)

pub returns : goal.returns
returns c =
    rw (
      ← c.self.view_is,
      content_of-found c.args.file c.args.page c.self.inside.copies _
          (sym c.in-Some.ensures.value),
    )
    (kept_of-written c.args.file c.args.page c.self.inside.copies _ _ c.self.invariant
    (sym c.in-Some.ensures.value))
