-- The map has the page's place too.
use Rattle.std.proofs.Common.{◌∙◌, List, sym, subst}
use Rattle.kv_slab.specs.Pages.{AreLocated}
use Rattle.kv_slab.specs.declared.page.Page.{Page}
use Rattle.kv_slab.proofs.PlacesLemmas.{located-push}
use Rattle.kv_slab.proofs.round.Round.push.Goals as goal

pub invariant_of-self-in-Ok : goal.invariant_of-self-in-Ok
invariant_of-self-in-Ok c =
    let pages = c.self.inside.pages in
    subst (λ (ps : List Page). AreLocated c.insert.new.self ps) (sym c.in_ok-push.ensures.items)
    (located-push c.self.inside.places c.insert.new.self pages.items c.args.held c.len-at.result
    (c.len-at.ensures ∙ pages.ok.0) c.in-Ok.ensures.updates.0 c.self.invariant)
