-- The first place of the number and folder loses its thing, and is then the home of the number.
use Rattle.std.proofs.Common.{sym, ◌∙◌}
use Rattle.kv_site.specs.Entries.{is_at}
use Rattle.kv_site.proofs.EntryLemmas.{is_first, none_pass, thing_at-first, thing_at-none}
use Rattle.kv_site.proofs.EntryLemmas.{takes-set}
use Rattle.kv_site.proofs.entries.Entries.take.Goals as goal

pub returns-in_default-clause-none : goal.returns-in_default-clause-none
returns-in_default-clause-none g c = thing_at-none c.args.folder.now c.args.number
    c.args.self.now.entries.items (none_pass _ _ (sym c.find.ensures ∙ c.in_default.is))

pub returns-in_default-take-clause-none : goal.returns-in_default-take-clause-none
returns-in_default-take-clause-none g c =
    let first = is_first (is_at c.args.folder.now c.args.number) c.args.self.now.entries.items
    c.in-Some.at c.index_mut.result.now (sym c.find.ensures
    ∙ c.in-Some.is) c.index_mut.ensures.value in
    thing_at-first c.args.folder.now c.args.number c.args.self.now.entries.items c.in-Some.at
    c.index_mut.result.now first ∙ sym c.take.ensures.value ∙ c.in_default-take.is

pub returns-clause-some : goal.returns-clause-some
returns-clause-some g c =
    let first = is_first (is_at c.args.folder.now c.args.number) c.args.self.now.entries.items
    c.in-Some.at c.index_mut.result.now (sym c.find.ensures
    ∙ c.in-Some.is) c.index_mut.ensures.value in
    rw (c.note_home.ensures, c.take.ensures.after) (takes-set c.args.folder.now c.args.number
    c.args.self.now.entries.items c.in-Some.at c.index_mut.result.now c.in-Some-take.thing first
    (sym c.take.ensures.value ∙ c.in-Some-take.is))
