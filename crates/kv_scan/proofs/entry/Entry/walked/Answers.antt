use Rattle.std.proofs.Common.{sym, ap, ◌∙◌}
use Rattle.std.specs.Ordering.{is_le}
use Rattle.kv_fold.specs.Bags.{order}
use Rattle.kv_scan.specs.Scans.{Scan, pass, next_key}
use Rattle.kv_scan.proofs.EntryLemmas.{walks_over, walks_in, from_next}
use Rattle.kv_scan.proofs.entry.Entry.walked.Goals as goal

-- A later version is passed over.
pub returns-then-is_later-clause-owes : goal.returns-then-is_later-clause-owes
returns-then-is_later-clause-owes g c =
    walks_over c.args.key.now c.args.value.now c.args.stamp c.args.self.now c.set_cursor.new.self
    c.requires.started (sym c.is_later.ensures ∙ c.if-is_later.true)
    (c.set_cursor.ensures ∙ ap (λ k. pass k c.args.self.now) c.in_ok-next.ensures)

-- The version of the scan's stamp is folded.
pub returns-clause-owes : goal.returns-clause-owes
returns-clause-owes g c =
    walks_in c.args.key.now c.args.value.now c.args.stamp c.args.self.now c.set_cursor-2.new.self
    c.fold_in.new.self.state c.requires.started (sym c.is_later.ensures ∙ c.if-is_later.false)
    c.fold_in.ensures.kind c.in_ok-fold_in.ensures.ok
    (c.set_cursor-2.ensures ∙ ap (λ k. pass k c.fold_in.new.self) c.in_ok-next.ensures
    ∙ ap (λ (q : Scan). pass (next_key c.args.key.now) q) c.fold_in.ensures.rest)

-- The walk stands at or after the range's low end.
pub set_cursor-requires : goal.set_cursor-requires
set_cursor-requires g c =
    from_next c.args.self.now.low c.args.self.now.high c.args.key.now c.in_ok-next.next
    c.requires.inside c.in_ok-next.ensures

pub set_cursor-requires-2 : goal.set_cursor-requires-2
set_cursor-requires-2 g c =
    ap (λ (q : Scan). is_le (order q.low c.in_ok-next.next)) c.fold_in.ensures.rest
    ∙ from_next c.args.self.now.low c.args.self.now.high c.args.key.now c.in_ok-next.next
    c.requires.inside c.in_ok-next.ensures
