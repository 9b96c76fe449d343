use Rattle.std.proofs.Common.{◌≡◌, None, get_or, sym, subst, arith}
use Rattle.kv_session_party.proofs.SendingLemmas.{none-more}
use Rattle.kv_session_party.proofs.send.no_messages.Goals as goal

pub loop-worker-preserved : goal.loop-worker-preserved
loop-worker-preserved g c =
    let count = c.loop-worker.invariant.count in
    let room = c.loop-worker.invariant.room in
    let longer = c.in_ok-push.ensures.len in
    let wide = c.in_ok-push.ensures.capacity in record {
      count = omega (arith, count, longer);
      room = omega (arith, room, wide);
      none = λ worker. subst (λ ws. get_or ws worker None ≡ None)
          (sym c.in_ok-push.ensures.items)
          (none-more c.loop-worker.unsent.items c.loop-worker.invariant.none worker);
    }
