-- The first place of the number and folder gets the thing, or a new one behind the others.
use Rattle.std.proofs.Common.{false, Some, refl, sym, ◌∙◌}
use Rattle.kv_site.specs.Entries.{is_at}
use Rattle.kv_site.proofs.EntryLemmas.{is_first, none_pass, puts-set, puts-push}
use Rattle.kv_site.proofs.entries.Entries.put.Goals as goal

pub returns-in-Some-clause-ok : goal.returns-in-Some-clause-ok
returns-in-Some-clause-ok g c =
    let first = is_first (is_at c.args.folder.now c.args.number) c.args.self.now.entries.items
    c.in-Some.at c.index_mut.result.now (sym c.find.ensures
    ∙ c.in-Some.is) c.index_mut.ensures.value in
    puts-set c.args.folder.now c.args.number c.args.self.now.entries.items c.in-Some.at
    c.index_mut.result.now c.args.thing first

pub returns-clause-ok : goal.returns-clause-ok
returns-clause-ok g c =
    rw c.in_ok-push.ensures.items (puts-push c.args.folder.now c.args.number
    c.args.self.now.entries.items (record {
      folder = c.in_ok-folder.folder;
      number = c.args.number;
      thing = Some c.args.thing;
      home = false;
    }) c.args.thing
    (none_pass _ _ (sym c.find.ensures ∙ c.in_default.is)) c.in_ok-folder.ensures.ok refl refl
    refl)
