-- a message came, or none is known of
use Rattle.std.proofs.Common.{Some, None, refl}
use Rattle.kv_groups.proofs.ReceiveLemmas.{popped-receives}
use Rattle.kv_groups.proofs.gathering.receive.Goals as goal

pub returns-in-Some : goal.returns-in-Some
returns-in-Some g c = popped-receives c.args.session c.args.worker c.args.workers c.args.ends.now
    c.pop.new.self c.args.connection.now c.take.new.self (Some c.in-Some.message) _ refl
    c.in-Some.ensures.received (λ e. absurd (cc)) c.in-Some.ensures.others c.in-Some.ensures.out
    c.in-Some.ensures.rings c.take.ensures

pub returns-in-None : goal.returns-in-None
returns-in-None g c = popped-receives c.args.session c.args.worker c.args.workers c.args.ends.now
    c.pop.new.self c.args.connection.now c.args.connection.now None _ refl
    c.in-None.ensures.received (λ e. c.in-None.ensures.none) c.in-None.ensures.others
    c.in-None.ensures.out c.in-None.ensures.rings refl
