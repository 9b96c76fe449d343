use Rattle.std.proofs.Common.{refl, ◌∙◌, ◌≡◌, reverse, [], ◌∷◌, List, subst, All, arith}
use Rattle.kv_fold.specs.Bags.{IsItem}
use Rattle.kv_scan.specs.declared.held.Held.{Held}
use Rattle.kv_scan.specs.Drains.{Drains}
use Rattle.kv_scan.proofs.DrainLemmas.{drains_more, drains_start, All-front, no_items}
use Rattle.kv_scan.proofs.drain.drain.Goals as goal

-- Nothing is taken yet.
pub loop-version-init : goal.loop-version-init
loop-version-init g c = record { items = c.requires; kind = refl; rest = drains_start _ _ _ }

-- The last version is taken.
pub loop-version-preserved : goal.loop-version-preserved
loop-version-preserved g c =
    let P : Held → Type 0 = λ h. IsItem h.key h.value in
    record {
      items =
          All-front P c.pop.new.self.items (c.in-Some.version ∷ [])
          (subst (λ l. All P l) c.in-Some.ensures.items c.loop-version.invariant.items);
      kind = c.take_one.ensures.kind ∙ c.loop-version.invariant.kind;
      rest =
          drains_more c.args.stamp (g.F.Fold.state c.args.fold.now)
          (g.F.Fold.state c.loop-version.fold) (g.F.Fold.state c.take_one.new.fold)
          (reverse c.args.held.now.items) c.pop.new.self.items c.loop-version.held.items
          c.in-Some.version c.loop-version.invariant.rest c.loop-version.invariant.kind
          c.in-Some.ensures.items c.in_ok-take_one.ensures.ok;
    }

-- All are taken.
pub returns-clause-ok : goal.returns-clause-ok
returns-clause-ok g c =
    let cases = c.in_default.ensures.cases in
    let none : c.loop-version.held.items ≡ [] =
    no_items _ (omega (arith, c.loop-version.held.ok.0, cases)) in
    let P : List Held → Type 0 =
    λ l. Drains c.args.stamp (g.F.Fold.state c.args.fold.now) (reverse c.args.held.now.items)
    (g.F.Fold.state c.loop-version.fold) (reverse l) in
    subst P none c.loop-version.invariant.rest
