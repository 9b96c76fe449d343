use Rattle.std.proofs.Common.{◌≡◌, ℕ, Bool, ap, arith, cond, reverse, is_some}
use Rattle.std.proofs.lemmas.List.{length-reverse}
use Rattle.kv_session.proofs.OutgoingLemmas.{take_off-more}
use Rattle.kv_session.proofs.outbox.take_off.Goals as goal

-- one more is taken off the end
pub loop-preserved : goal.loop-preserved
loop-preserved c =
    let inv = c.loop.invariant in
    let p = c.take_last.ensures in
    let size = length-reverse c.args.replies.now.items in
    let more = take_off-more (reverse c.args.replies.now.items) c.loop.counter
    c.loop.replies.items c.take_last.new.self.items c.take_last.result p.last p.some inv.0
    (omega (arith, size, c.loop-test.true, c.requires)) (omega (arith, inv.2, size)) in
    let one : ◌≡◌ {A = ℕ} (cond (is_some c.take_last.result) 1 0) 1 =
    ap (λ (some : Bool). cond some 1 0) more.1 in (
      more.0,
      omega (arith, p.spare, one, inv.1),
      omega (arith, more.2, inv.2),
    )
