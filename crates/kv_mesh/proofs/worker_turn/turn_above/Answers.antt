-- the counter is raised, the worker makes its turn, and looks at the counter
use Rattle.kv_mesh.proofs.DrawLemmas.{worker-moved}
use Rattle.kv_mesh.proofs.worker_turn.turn_above.Goals as goal

pub returns : goal.returns
returns g c = worker-moved c.args.party.now c.raise.new.self c.turn.new.self c.look.new.self
    c.turn.result c.args.kept c.look.result c.requires.kept c.raise.ensures.counter
    c.raise.ensures.view c.raise.ensures.kept c.raise.ensures.goes_on c.turn.ensures.goes_on
    c.turn.ensures.turned c.turn.ensures.ahead c.turn.ensures.counter c.turn.ensures.first
    c.look.ensures.counter c.look.ensures.value c.look.ensures.kept c.look.ensures.goes_on
