-- The page that is found has its content.
use Rattle.std.proofs.Common.{◌∙◌, List, slice_index_or, ap}
use Rattle.kv_slab.specs.declared.page.Page.{Page}
use Rattle.kv_slab.proofs.PageLemmas.{content_at}
use Rattle.kv_slab.proofs.round.Round.content.Goals as goal

pub returns-in-Some : goal.returns-in-Some
returns-in-Some c = λ image apart.
    let page = c.index.result.now in
    ap (λ (q : Page). q.content) c.index.ensures
    ∙ ap (λ (ps : List Page). (slice_index_or ps c.in-Some.at page).content) c.self.view_is
    ∙ content_at image c.args.file c.args.page c.args.self.now c.in-Some.at page apart
    c.in-Some.ensures
