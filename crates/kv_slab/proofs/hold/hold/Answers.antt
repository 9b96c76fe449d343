-- The list is one page longer.
use Rattle.std.proofs.Common.{◌∷◌, [], List, refl, sym, ap, subst, ◌∙◌}
use Rattle.std.proofs.Common.{true, ℕ, ◌++◌}
use Rattle.kv_slab.specs.Pages.{over, HasAt}
use Rattle.kv_slab.specs.declared.page.Page.{Page}
use Rattle.kv_slab.proofs.PageLemmas.{over_push, over_push_set, has_push, pages_pushed}
use Rattle.kv_slab.proofs.hold.hold.Goals as goal

pub returns-clause-same : goal.returns-clause-same
returns-clause-same c = λ image same.
    ap (λ (ps : List Page). over image ps) c.in_ok-push.ensures.ok
    ∙ over_push image c.args.held.file c.args.held.page c.args.round.now c.args.held
    c.requires.missing refl refl same

pub returns-clause-set : goal.returns-clause-set
returns-clause-set c = λ image.
    ap (λ (ps : List Page). over image ps) c.in_ok-push.ensures.ok
    ∙ over_push_set image c.args.held.file c.args.held.page c.args.round.now c.args.held
    c.requires.missing refl refl

pub returns-clause-at : goal.returns-clause-at
returns-clause-at c =
    let last = has_push c.args.held.file c.args.held.page c.args.round.now c.args.held refl refl in
    subst (λ (ps : List Page). HasAt ps c.in_ok-push.field-0 c.args.held.file c.args.held.page)
    (sym c.in_ok-push.ensures.ok) (subst (λ (n : ℕ). HasAt (c.args.round.now ++ c.args.held ∷ []) n
    c.args.held.file c.args.held.page) (sym c.in_ok-push.ensures.at) last)

pub returns-clause-pages : goal.returns-clause-pages
returns-clause-pages c = pages_pushed c.args.held.file c.args.held.page c.args.round.now
    c.push.new.self true c.args.held refl c.in_ok-push.ensures.ok c.requires.missing refl refl
    c.requires.low.0 c.requires.low.1 c.requires.page c.requires.pages
