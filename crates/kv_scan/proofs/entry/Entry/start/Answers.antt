use Rattle.std.proofs.Common.{ap, reverse, List}
use Rattle.kv_scan.specs.declared.held.Held.{Held}
use Rattle.kv_scan.specs.Scans.{Scan, started_scan, cursor_of}
use Rattle.kv_scan.proofs.EntryLemmas.{starts_by}
use Rattle.kv_scan.proofs.entry.Entry.start.Goals as goal

-- What was held and owed at the stamp is in the fold now.
pub returns-clause-owes : goal.returns-clause-owes
returns-clause-owes g c =
    let inside = c.self.inside in
    let view : Scan = record {
      state = g.F.Fold.state inside.fold;
      low = inside.low;
      high = inside.high;
      stamp = inside.stamp;
      held = reverse inside.held.items;
      cursor = cursor_of inside.cursor inside.low;
      at_end = inside.at_end;
      refusal = inside.refusal;
    } in
    let state = g.F.Fold.state c.drain.new.fold in
    starts_by c.args.stamp view c.args.self.now _ state c.self.view_is c.requires
    c.drain.ensures.kind c.in_ok-drain.ensures.ok
    (ap (λ (l : List Held). record (started_scan c.args.stamp state view) { held = reverse l })
    c.in_ok-drain.ensures.none)
