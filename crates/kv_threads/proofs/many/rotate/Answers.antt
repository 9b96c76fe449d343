-- one round more
use Rattle.kv_threads.proofs.RosterLemmas.{ListedContinue-still, ListedContinue-on}
use Rattle.kv_threads.proofs.RosterLemmas.{ListedDrawFrom-later}
use Rattle.kv_threads.proofs.many.rotate.Goals as goal

pub loop-init : goal.loop-init
loop-init g c = record {
  first = ListedContinue-still g.P.Party g.met.P.Party.stays_still g.met.P.Party.stays_on
      c.args.first.now;
  second = ListedContinue-still g.Q.Party g.met.Q.Party.stays_still g.met.Q.Party.stays_on
      c.args.second.now;
}

pub turn_each-one-requires : goal.turn_each-one-requires
turn_each-one-requires g c = ListedDrawFrom-later g.P.Party _ c.args.first.now c.loop.first
    c.loop.invariant.first c.requires.first

pub turn_each-requires : goal.turn_each-requires
turn_each-requires g c = ListedDrawFrom-later g.Q.Party _ c.args.second.now c.loop.second
    c.loop.invariant.second c.requires.second

pub loop-preserved : goal.loop-preserved
loop-preserved g c = record {
  first = ListedContinue-on g.P.Party g.met.P.Party.stays_still g.met.P.Party.stays_on
      c.args.first.now c.loop.first c.turn_each-one.new.self c.loop.invariant.first
      c.turn_each-one.ensures.continues;
  second = ListedContinue-on g.Q.Party g.met.Q.Party.stays_still g.met.Q.Party.stays_on
      c.args.second.now c.loop.second c.turn_each.new.self c.loop.invariant.second
      c.turn_each.ensures.continues;
}

pub returns-then-round-clause-first : goal.returns-then-round-clause-first
returns-then-round-clause-first g c = ListedContinue-on g.P.Party g.met.P.Party.stays_still
    g.met.P.Party.stays_on c.args.first.now c.loop.first c.turn_each-one.new.self
    c.loop.invariant.first c.turn_each-one.ensures.continues

pub returns-then-round-clause-second : goal.returns-then-round-clause-second
returns-then-round-clause-second g c = ListedContinue-on g.Q.Party g.met.Q.Party.stays_still
    g.met.Q.Party.stays_on c.args.second.now c.loop.second c.turn_each.new.self
    c.loop.invariant.second c.turn_each.ensures.continues

pub returns-then-round-clause-first_ended : goal.returns-then-round-clause-first_ended
returns-then-round-clause-first_ended g c =
    c.turn_each-one.ensures.over (c.beside-round.ensures c.if-round.true).0

pub returns-then-round-clause-second_ended : goal.returns-then-round-clause-second_ended
returns-then-round-clause-second_ended g c =
    c.turn_each.ensures.over (c.beside-round.ensures c.if-round.true).1
