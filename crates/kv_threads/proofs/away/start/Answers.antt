use Rattle.kv_threads.proofs.away.start.Goals as goal
use denote.Param.Send.{param_send, arg_send, struct_send, recorded_send, sendable}
use Rattle.std.proofs.Crossing.{Arc-send}
use Rattle.kv_stamps.proofs.counter.Stamps.TheSendSync as counter
use Rattle.kv_threads.proofs.crew.Crew.TheSendSync as crews
use Rattle.kv_threads.proofs.ContinuingLemmas.{Continues-still}

pub spawn_with-requires-send-F : goal.spawn_with-requires-send-F
spawn_with-requires-send-F g c κs within =
    let party = c.type_bounds.send-P in
    let handle = c.type_bounds.send-R in
    let stamps = Arc-send _ counter.the_send counter.the_sync in
    let crew = Arc-send _ crews.the_send crews.the_sync in
    search (param_send, arg_send, struct_send, recorded_send, sendable) depth 20

pub returns-in_default-clause-err : goal.returns-in_default-clause-err
returns-in_default-clause-err g c =
    let laws = g.met.P.Party g.world.𝓛 g.world.𝓜 g.world.𝓡 ((λ s x. x), (λ x. x), (λ x. x), λ x. x)
    in
    Continues-still g.P.Party laws.stays_still laws.stays_on c.args.party
