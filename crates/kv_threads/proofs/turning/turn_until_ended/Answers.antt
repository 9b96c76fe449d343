-- one turn more goes on
use Rattle.std.proofs.Common.{◌∙◌}
use Rattle.kv_threads.proofs.ContinuingLemmas.{Continues-on, Continues-still}
use Rattle.kv_threads.proofs.turning.turn_until_ended.Goals as goal

pub loop-init : goal.loop-init
loop-init g c = Continues-still g.P.Party g.met.P.Party.stays_still g.met.P.Party.stays_on
    c.args.party

pub turn_one-round-requires : goal.turn_one-round-requires
turn_one-round-requires g c = c.loop.invariant.1 ∙ c.requires

pub loop-preserved : goal.loop-preserved
loop-preserved g c = Continues-on g.P.Party g.met.P.Party.stays_still g.met.P.Party.stays_on
    c.args.party c.loop.party c.turn_one-round.new.party c.loop.invariant
    c.turn_one-round.ensures.continues

pub returns-then-round-clause-continues : goal.returns-then-round-clause-continues
returns-then-round-clause-continues g c = Continues-on g.P.Party g.met.P.Party.stays_still
    g.met.P.Party.stays_on c.args.party c.loop.party c.turn_one-round.new.party
    c.loop.invariant c.turn_one-round.ensures.continues
