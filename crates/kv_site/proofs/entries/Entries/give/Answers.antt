-- The place from which the thing was taken is the first of its number and folder.
use Rattle.std.proofs.Common.{◌≡◌, ℕ, List, Some, None, sym, ◌∙◌, subst}
use Rattle.std.specs.List.{position}
use Rattle.kv_site.specs.Entries.{is_at, is_home}
use Rattle.kv_site.proofs.EntryLemmas.{is_first, none_pass, home_of-first, home_of-none, is_at-home}
use Rattle.kv_site.proofs.EntryLemmas.{first_passes, some_pass, gives-set, gives-none}
use Rattle.kv_site.proofs.entries.Entries.give.Goals as goal

pub returns-in_default : goal.returns-in_default
returns-in_default g c = gives-none c.args.number c.args.self.now.entries.items c.args.thing
    (home_of-none c.args.number c.args.self.now.entries.items
    (none_pass _ _ (sym c.find_home.ensures ∙ c.in_default.is)))

pub returns-in-Some-find : goal.returns-in-Some-find
returns-in-Some-find g c =
    let items = c.args.self.now.entries.items in
    let home = is_first (is_home c.args.number) items c.in-Some.home c.index.result.now
    (sym c.find_home.ensures ∙ c.in-Some.is) c.index.ensures in
    let P : List ℕ → Type 0 = λ f. position (is_at f c.args.number) items
    ≡ Some c.in-Some-find.at in
    let found : P c.index.result.now.folder = subst P c.as_slice.ensures (sym c.find.ensures
    ∙ c.in-Some-find.is) in
    let first = is_first (is_at c.index.result.now.folder c.args.number) items c.in-Some-find.at
    c.index_mut.result.now found c.index_mut.ensures.value in
    gives-set c.args.number c.index.result.now.folder items c.in-Some-find.at c.index_mut.result.now
    c.args.thing (home_of-first c.args.number items c.in-Some.home c.index.result.now home)
    first

pub returns-in_default-find : goal.returns-in_default-find
returns-in_default-find g c =
    let items = c.args.self.now.entries.items in
    let home = is_first (is_home c.args.number) items c.in-Some.home c.index.result.now
    (sym c.find_home.ensures ∙ c.in-Some.is) c.index.ensures in
    let P : List ℕ → Type 0 = λ f. position (is_at f c.args.number) items ≡ None in
    let found : P c.index.result.now.folder = subst P c.as_slice.ensures (sym c.find.ensures
    ∙ c.in_default-find.is) in
    absurd (some_pass (is_home c.args.number) (is_at c.index.result.now.folder c.args.number) items
    c.in-Some.home c.index.result.now home (is_at-home c.args.number c.index.result.now
    (first_passes (is_home c.args.number) items c.in-Some.home c.index.result.now home))
    (none_pass _ _ found))
