use Rattle.std.proofs.Common.{◌++◌}
use Rattle.kv_base.proofs.StreamLemmas.{Takes-trans}
use Rattle.kv_session.proofs.OutboxLemmas.{left_have, SendsUpTo-more}
use Rattle.kv_session.proofs.OutgoingLemmas.{HaveGone-goes}
use Rattle.kv_session.proofs.outbox.Outbox.send.Goals as goal

pub send_first-requires-clause-framed : goal.send_first-requires-clause-framed
send_first-requires-clause-framed g c =
    left_have g.Si.Sink.held g.Si.Sink.faults c.args.sink.now c.loop-self.sink c.args.self.now
    c.loop-self.self c.loop-self.invariant c.requires.framed

-- the sink failed
pub returns-then-not-send_first-clause-sent : goal.returns-then-not-send_first-clause-sent
returns-then-not-send_first-clause-sent g c =
    let inv = c.loop-self.invariant in
    let sent = c.if-not-send_first.ensures.sent in (
      inv.given ++ sent.0,
      Takes-trans _ _ _ inv.given sent.0 inv.took sent.1,
      HaveGone-goes _ _ _ inv.given sent.0 inv.gone sent.2.0,
    )

pub loop-self-preserved : goal.loop-self-preserved
loop-self-preserved g c =
    let p = c.if-not-send_first.ensures in
    SendsUpTo-more g.Si.Sink.held g.Si.Sink.faults c.args.sink.now c.loop-self.sink
    c.args.self.now c.loop-self.self c.loop-self.invariant c.send_first.new.sink
    c.send_first.new.self p.sent.0 p.sent.1 p.sent.2.0 p.counted p.spare
