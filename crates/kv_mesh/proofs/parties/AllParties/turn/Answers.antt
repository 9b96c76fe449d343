-- no party has this number
use Rattle.std.proofs.Common.{arith}
use Rattle.kv_mesh.proofs.LookLemmas.{become-same}
use Rattle.kv_mesh.proofs.TurnLemmas.{turned-none}
use Rattle.kv_mesh.proofs.parties.AllParties.turn.Goals as goal

pub returns-clause-became : goal.returns-clause-became
returns-clause-became g c =
    let old = c.args.self.now in
    become-same old.workers.items old.sessions.items old.start

pub returns-clause-turned : goal.returns-clause-turned
returns-clause-turned g c =
    let old = c.args.self.now in
    turned-none old.workers.items old.sessions.items c.args.number (omega (
      arith,
      c.if-number-workers.false,
      c.if-session-len.false,
      c.len-workers.ensures,
      c.len.ensures,
      old.workers.ok,
      old.sessions.ok,
    ))
