-- The first place of the number and folder is what counts.
use Rattle.std.proofs.Common.{sym, ◌∙◌}
use Rattle.kv_site.specs.Entries.{is_at}
use Rattle.kv_site.proofs.EntryLemmas.{is_first, none_pass, thing_at-first, thing_at-none}
use Rattle.kv_site.proofs.entries.Entries.get.Goals as goal

pub returns-in-Some : goal.returns-in-Some
returns-in-Some g c =
    let first = is_first (is_at c.args.folder.now c.args.number) c.args.self.now.entries.items
    c.in-Some.at c.index.result.now (sym c.find.ensures ∙ c.in-Some.is) c.index.ensures in
    c.as_ref.ensures.value
    ∙ sym (thing_at-first c.args.folder.now c.args.number c.args.self.now.entries.items
    c.in-Some.at c.index.result.now first)

pub returns-in-None : goal.returns-in-None
returns-in-None g c =
    sym (thing_at-none c.args.folder.now c.args.number c.args.self.now.entries.items
    (none_pass _ _ (sym c.find.ensures ∙ c.in-None.is)))
