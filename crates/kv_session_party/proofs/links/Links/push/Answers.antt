use Rattle.std.proofs.Common.{refl, arith}
use Rattle.kv_session_party.proofs.LinkLemmas.{PushesUpTo-none, PushesUpTo-more, PushesUpTo-all}
use Rattle.kv_session_party.proofs.links.Links.push.Goals as goal

pub loop-worker-init : goal.loop-worker-init
loop-worker-init g c = PushesUpTo-none _

pub loop-worker-preserved : goal.loop-worker-preserved
loop-worker-preserved g c =
    let test = c.loop-worker-test.true in
    let size = c.len-worker-end.ensures in
    let same = c.loop-worker.invariant.size in
    let ok = c.args.self.now.unsent.ok in
    rw c.either-moved.ensures
    (PushesUpTo-more _ c.loop-worker.self _ c.loop-worker.worker c.index_mut.result.now
    c.send_waiting-sent.new.waiting (omega (arith, test, size, same, ok)) c.index_mut.ensures.value
    c.send_waiting-sent.ensures.sent refl c.loop-worker.moved c.send_waiting-sent.result
    c.send_waiting-sent.ensures.moved c.loop-worker.invariant)

pub returns-clause-pushed : goal.returns-clause-pushed
returns-clause-pushed g c =
    let end = c.loop-worker-test.false in
    let size = c.len-worker-end.ensures in
    let all = PushesUpTo-all _ c.loop-worker.self c.loop-worker.worker c.loop-worker.moved
    (omega (arith, end, size)) c.loop-worker.invariant in
    record {
      told = all.told;
      free = all.free;
      full = all.full;
      place = all.place;
      heard = all.heard;
      coming = all.coming;
    }
