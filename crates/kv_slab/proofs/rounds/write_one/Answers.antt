-- The page is the one with this number.
use Rattle.std.proofs.Common.{◌∙◌, [], get_or, sym, subst}
use Rattle.kv_disk.specs.Steps.{WritesPage}
use Rattle.kv_slab.specs.declared.page.Page.{Page}
use Rattle.kv_slab.proofs.PageLemmas.{of_slab_at, same_default}
use Rattle.kv_slab.proofs.rounds.write_one.Goals as goal

abbrev nothing : Page
nothing = record { file = 0; page = 0; content = [] }

pub write-requires-clause-file : goal.write-requires-clause-file
write-requires-clause-file g c =
    let page = get_or c.args.pages.now c.args.number nothing in
    (of_slab_at c.args.pages.now c.args.number page c.requires.pages.of_slabs c.requires.number
    (same_default c.args.pages.now c.args.number nothing page c.requires.number)).0

pub write-requires-clause-page : goal.write-requires-clause-page
write-requires-clause-page g c =
    let page = get_or c.args.pages.now c.args.number nothing in
    (of_slab_at c.args.pages.now c.args.number page c.requires.pages.of_slabs c.requires.number
    (same_default c.args.pages.now c.args.number nothing page c.requires.number)).1

pub returns-clause-writes : goal.returns-clause-writes
returns-clause-writes g c = λ page is.
    subst (λ (q : Page). WritesPage g.D.Disk q.file q.page q.content c.args.disk.now.disk
    c.write.new.self.disk c.write.result)
    (sym (is ∙ same_default c.args.pages.now c.args.number page nothing c.requires.number))
    c.write.ensures.disk
