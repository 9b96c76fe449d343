-- One disk more is given back.
use Rattle.std.proofs.Common.{◌≡◌, ◌≤◌, ◌∷◌, [], ◌++◌, length, refl, sym, ap, ◌∙◌, subst, arith}
use Rattle.std.proofs.Common.{append-nil, length-append, rules}
use Rattle.std.proofs.lemmas.Bool.{false≢true}
use Rattle.kv_site.specs.Held.{GivesDisk}
use Rattle.kv_serve.proofs.DiskLemmas.{GivesFrom, gives-none, gives-next, gives-all}
use Rattle.kv_serve.proofs.PlaceLemmas.{none-left, one-more}
use Rattle.kv_serve.proofs.disks.give_disks.Goals as goal

pub loop-disk-init : goal.loop-disk-init
loop-disk-init g c = record {
  rest = ([], sym (append-nil c.args.disks.items));
  gives = λ t folder home. gives-none (g.S.Site.holds c.args.site.now) folder c.args.disks.items;
  calm = refl;
}

pub overflow_cast-as_slice : goal.overflow_cast-as_slice
overflow_cast-as_slice g c =
    let rest = c.loop-disk.invariant.rest in
    let left = c.take_last.new.self.items in
    let whole = ap length rest.1 ∙ length-append c.loop-disk.disks.items rest.0 in
    let more = ap length c.in-Some.ensures.last ∙ length-append left (c.in-Some.disk ∷ []) in
    let small : length c.as_slice.result.now ≤ 16 =
    omega (arith, whole, more, ap length c.as_slice.ensures, c.requires) in
    search rules

pub loop-disk-preserved : goal.loop-disk-preserved
loop-disk-preserved g c =
    let rest = c.loop-disk.invariant.rest in
    let left = c.take_last.new.self.items in
    let disk = c.in-Some.disk in
    let all : c.args.disks.items ≡ (left ++ disk ∷ []) ++ rest.0 =
    rest.1 ∙ ap (λ l. l ++ rest.0) c.in-Some.ensures.last in
    record {
      rest = (disk ∷ rest.0, one-more c.args.disks.items left rest.0 disk all);
      gives = λ t folder home. gives-next (g.S.Site.holds c.args.site.now)
          (g.S.Site.holds c.loop-disk.site) (g.S.Site.holds c.give_disk.new.self) folder
          c.args.disks.items left rest.0 disk all home
          (subst (λ l. GivesFrom (g.S.Site.holds c.args.site.now) (g.S.Site.holds c.loop-disk.site)
          folder c.args.disks.items (length l)) c.in-Some.ensures.last
          (c.loop-disk.invariant.gives t folder home))
          (subst (λ l. GivesDisk (g.S.Site.holds c.loop-disk.site) (g.S.Site.holds c.give_disk.new.self)
          (length l) disk) c.as_slice.ensures (c.give_disk.ensures.given t));
      calm = c.give_disk.ensures.still ∙ c.loop-disk.invariant.calm;
    }

pub returns-clause-given : goal.returns-clause-given
returns-clause-given g c t folder home =
    gives-all (g.S.Site.holds c.args.site.now) (g.S.Site.holds c.loop-disk.site) folder
    c.args.disks.items c.loop-disk.disks.items
    (none-left c.loop-disk.disks.items (λ some. false≢true (c.in_default.ensures.some.1 some)))
    (c.loop-disk.invariant.gives t folder home)
