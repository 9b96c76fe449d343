-- one session and one worker
use Rattle.std.proofs.Common.{arith}
use Rattle.kv_mesh.proofs.LookLemmas.{compared-looks, compared-order}
use Rattle.kv_mesh.proofs.compare.compare.Goals as goal

pub overflow_cast-near : goal.overflow_cast-near
overflow_cast-near g c = omega (arith, c.requires.place.0, c.requires.ringed.few_sessions)

pub overflow_cast-far : goal.overflow_cast-far
overflow_cast-far g c = omega (arith, c.requires.place.1, c.requires.ringed.few_workers)

pub left_between-requires-clause-worker : goal.left_between-requires-clause-worker
left_between-requires-clause-worker g c =
    let peers = c.requires.ringed.session_peers c.args.session c.index_mut.result.now
    (c.requires.place.0, c.index_mut.ensures.value) in
    omega (arith, c.requires.place.1, peers)

pub left_between-requires-clause-session : goal.left_between-requires-clause-session
left_between-requires-clause-session g c =
    let peers = c.requires.ringed.worker_peers c.args.worker c.index_mut-2.result.now
    (c.requires.place.1, c.index_mut-2.ensures.value) in
    omega (arith, c.requires.place.0, peers)

pub left_between-requires-clause-rings : goal.left_between-requires-clause-rings
left_between-requires-clause-rings g c =
    c.requires.ringed.rings c.args.session c.args.worker c.index_mut.result.now
    c.index_mut-2.result.now (c.requires.place.0, c.index_mut.ensures.value)
    (c.requires.place.1, c.index_mut-2.ensures.value)

pub returns-clause-order : goal.returns-clause-order
returns-clause-order g c =
    compared-order c.args.workers.now.items c.args.sessions.now.items c.args.session
    c.args.worker c.index_mut.result.now c.left_between.new.self c.index_mut-2.result.now
    c.left_between.new.worker_side (c.requires.place.0, c.index_mut.ensures.value)
    (c.requires.place.1, c.index_mut-2.ensures.value) c.left_between.result
    c.left_between.ensures.compared

pub returns-clause-same : goal.returns-clause-same
returns-clause-same g c =
    compared-looks c.args.workers.now.items c.args.sessions.now.items c.args.session
    c.args.worker c.index_mut.result.now c.left_between.new.self c.index_mut-2.result.now
    c.left_between.new.worker_side (c.requires.place.0, c.index_mut.ensures.value)
    (c.requires.place.1, c.index_mut-2.ensures.value) c.left_between.result
    c.left_between.ensures.compared c.left_between.ensures.stays c.left_between.ensures.kept
