-- One disk more is given back.
use Rattle.std.proofs.Common.{◌≡◌, ◌∷◌, [], ◌++◌, length, map, refl, sym, ap, ◌∙◌}
use Rattle.std.proofs.Common.{subst, subst₂, append-nil, rules}
use Rattle.kv_site.specs.Held.{GivesDisk}
use Rattle.kv_serve.proofs.DiskLemmas.{GivesFrom, gives-none-of, gives-next-of, gives-all-of}
use Rattle.kv_serve.proofs.PlaceLemmas.{one-more}
use Rattle.kv_serve.proofs.RefuseLemmas.{disk_in}
use Rattle.kv_serve.proofs.stores.give_stores.Goals as goal

pub loop-opened-init : goal.loop-opened-init
loop-opened-init g c = record {
  rest = ([], sym (append-nil c.args.stores.items));
  gives = λ t folder home. gives-none-of disk_in (g.S.Site.holds c.args.site.now) folder
      c.args.stores.items;
  calm = refl;
}

pub loop-opened-preserved : goal.loop-opened-preserved
loop-opened-preserved g c =
    let rest = c.loop-opened.invariant.rest in
    let left = c.pop.new.self.items in
    let one = c.in-Some.opened in
    let all : c.args.stores.items ≡ (left ++ one ∷ []) ++ rest.0 =
    rest.1 ∙ ap (λ l. l ++ rest.0) c.in-Some.ensures.items in
    record {
      rest = (one ∷ rest.0, one-more c.args.stores.items left rest.0 one all);
      gives = λ t folder home. gives-next-of disk_in (g.S.Site.holds c.args.site.now) folder
          c.args.stores.items (g.S.Site.holds c.loop-opened.site)
          (g.S.Site.holds c.give_disk.new.self) left rest.0 one all home
          (subst (λ l. GivesFrom (g.S.Site.holds c.args.site.now)
          (g.S.Site.holds c.loop-opened.site) folder (map disk_in c.args.stores.items) (length l))
          c.in-Some.ensures.items (c.loop-opened.invariant.gives t folder home))
          (subst₂ (λ n disk. GivesDisk (g.S.Site.holds c.loop-opened.site)
          (g.S.Site.holds c.give_disk.new.self) n disk)
          (let n : c.len.result ≡ length left = search rules in n) c.into_disk.ensures
          (c.give_disk.ensures.given t));
      calm = c.give_disk.ensures.still ∙ c.loop-opened.invariant.calm;
    }

pub returns-clause-given : goal.returns-clause-given
returns-clause-given g c t folder home =
    gives-all-of disk_in (g.S.Site.holds c.args.site.now) folder c.args.stores.items
    (g.S.Site.holds c.loop-opened.site) c.loop-opened.stores.items
    (let none : c.loop-opened.stores.items ≡ [] = search rules in none)
    (c.loop-opened.invariant.gives t folder home)
