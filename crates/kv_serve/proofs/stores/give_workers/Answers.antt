-- One disk more is given back.
use Rattle.std.proofs.Common.{◌≡◌, ◌∷◌, [], ◌++◌, length, map, refl, sym, ap, ◌∙◌}
use Rattle.std.proofs.Common.{subst, subst₂, append-nil}
use Rattle.std.proofs.lemmas.Bool.{false≢true}
use Rattle.kv_site.specs.Held.{GivesDisk}
use Rattle.kv_serve.proofs.DiskLemmas.{GivesFrom, gives-none-of, gives-next-of, gives-all-of}
use Rattle.kv_serve.proofs.PlaceLemmas.{none-left, one-more}
use Rattle.kv_serve.proofs.ServedLemmas.{disk_of}
use Rattle.kv_serve.proofs.stores.give_workers.Goals as goal

pub loop-worker-init : goal.loop-worker-init
loop-worker-init g c = record {
  rest = ([], sym (append-nil c.args.workers.items));
  gives = λ t folder home. gives-none-of disk_of (g.S.Site.holds c.args.site.now) folder
      c.args.workers.items;
  calm = refl;
}

pub loop-worker-preserved : goal.loop-worker-preserved
loop-worker-preserved g c =
    let rest = c.loop-worker.invariant.rest in
    let left = c.take_last.new.self.items in
    let one = c.in-Some.worker in
    let all : c.args.workers.items ≡ (left ++ one ∷ []) ++ rest.0 =
    rest.1 ∙ ap (λ l. l ++ rest.0) c.in-Some.ensures.last in
    record {
      rest = (one ∷ rest.0, one-more c.args.workers.items left rest.0 one all);
      gives = λ t folder home. gives-next-of disk_of (g.S.Site.holds c.args.site.now) folder
          c.args.workers.items (g.S.Site.holds c.loop-worker.site)
          (g.S.Site.holds c.give_disk.new.self) left rest.0 one all home
          (subst (λ l. GivesFrom (g.S.Site.holds c.args.site.now)
          (g.S.Site.holds c.loop-worker.site) folder (map disk_of c.args.workers.items) (length l))
          c.in-Some.ensures.last (c.loop-worker.invariant.gives t folder home))
          (subst₂ (λ n disk. GivesDisk (g.S.Site.holds c.loop-worker.site)
          (g.S.Site.holds c.give_disk.new.self) n disk) (ap length c.as_slice.ensures)
          c.into_disk.ensures
          (c.give_disk.ensures.given t));
      calm = c.give_disk.ensures.still ∙ c.loop-worker.invariant.calm;
    }

pub returns-clause-given : goal.returns-clause-given
returns-clause-given g c t folder home =
    gives-all-of disk_of (g.S.Site.holds c.args.site.now) folder c.args.workers.items
    (g.S.Site.holds c.loop-worker.site) c.loop-worker.workers.items
    (none-left c.loop-worker.workers.items (λ some. false≢true (c.in_default.ensures.some.1 some)))
    (c.loop-worker.invariant.gives t folder home)
