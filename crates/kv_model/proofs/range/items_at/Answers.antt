-- each next item comes behind the others
use Rattle.std.proofs.Common.{None, refl, sym, ap, subst}
use Rattle.std.specs.Option.{option_copied}
use Rattle.kv_model.specs.Oracle.{history_of, items_of, item_seen, lookup_of}
use Rattle.kv_model.specs.Lookup.{AreItemsSoFar}
use Rattle.kv_model.proofs.LookupLemmas.{items-are-all, items-grow, no-items, behind-less}
use Rattle.kv_model.proofs.LookupLemmas.{behind_key}
use Rattle.kv_model.proofs.range.items_at.Goals as goal

pub loop-next-init : goal.loop-next-init
loop-next-init c = subst (AreItemsSoFar (lookup_of (history_of c.args.writes.now) c.args.asked
    None))
    (ap items_of (sym c.in_ok-items.ensures.empty)) (no-items _ refl)

pub loop-next-smaller : goal.loop-next-smaller
loop-next-smaller c =
    behind-less (lookup_of (history_of c.args.writes.now) c.args.asked
    (option_copied c.loop-next.last)) (item_seen c.in-Some.next) c.in-Some.ensures

pub loop-next-preserved : goal.loop-next-preserved
loop-next-preserved c =
    subst (AreItemsSoFar (behind_key (lookup_of (history_of c.args.writes.now) c.args.asked
    (option_copied c.loop-next.last)) c.in-Some.next.key.now)) (sym c.in_ok-push.ensures)
    (items-grow (lookup_of (history_of c.args.writes.now) c.args.asked
    (option_copied c.loop-next.last)) (items_of c.loop-next.items.items) (item_seen c.in-Some.next)
    c.loop-next.invariant c.in-Some.ensures)

pub returns : goal.returns
returns c = items-are-all (lookup_of (history_of c.args.writes.now) c.args.asked
    (option_copied c.loop-next.last)) (items_of c.loop-next.items.items) c.loop-next.invariant
    c.in_default.ensures
