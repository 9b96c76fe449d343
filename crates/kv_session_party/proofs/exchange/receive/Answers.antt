use Rattle.std.proofs.Common.{◌+◌, sym, subst, arith}
use Rattle.kv_session_party.proofs.ExchangeLemmas.{ReceivesUpTo, ReceivesUpTo-none}
use Rattle.kv_session_party.proofs.ExchangeLemmas.{ReceivesUpTo-more, ReceivesUpTo-all}
use Rattle.kv_session_party.proofs.exchange.receive.Goals as goal

pub loop-worker-init : goal.loop-worker-init
loop-worker-init g c = ReceivesUpTo-none c.args.links.now c.args.routes.now

pub loop-worker-preserved : goal.loop-worker-preserved
loop-worker-preserved g c = subst (λ b. ReceivesUpTo c.args.links.now c.args.routes.now
    c.receive_from-came.new.links c.receive_from-came.new.routes (c.loop-worker.worker + 1) b)
    (sym c.either-moved.ensures)
    (ReceivesUpTo-more c.args.links.now c.args.routes.now c.loop-worker.links
    c.receive_from-came.new.links c.loop-worker.routes c.receive_from-came.new.routes
    c.loop-worker.worker c.loop-worker.moved c.receive_from-came.result
    c.receive_from-came.ensures c.loop-worker.invariant)

pub returns : goal.returns
returns g c =
    let count = c.workers-worker-end.ensures.value in
    let end = c.loop-worker-test.false in
    ReceivesUpTo-all c.args.links.now c.args.routes.now c.loop-worker.links c.loop-worker.routes
    c.loop-worker.worker c.loop-worker.moved (omega (arith, count, end)) c.loop-worker.invariant
