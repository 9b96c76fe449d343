-- the last party that waits goes away or stays, the others run, and it comes back
use Rattle.std.proofs.Common.{ap, sym, ◌∙◌, subst}
use Rattle.kv_threads.proofs.ContinuingLemmas.{Continues-on}
use Rattle.kv_threads.proofs.RosterLemmas.{ListedContinue-away, ListedContinue-stays}
use Rattle.kv_threads.proofs.RosterLemmas.{ListedDrawFrom-sent, HaveEnded-away, HaveEnded-stays}
use Rattle.kv_threads.specs.Continuing.{Continues}
use Rattle.kv_threads.proofs.many.+run_second.Goals as goal

pub start-requires-clause-counter : goal.start-requires-clause-counter
start-requires-clause-counter g t c = λ κs within. (ListedDrawFrom-sent g.Q.Party _
    c.args.second.now c.next.new.self
    c.in-Some.party c.in-Some.ensures.some.0 c.in-Some.ensures.some.1 c.requires.second).1

pub turn_until_ended-turned-requires : goal.turn_until_ended-turned-requires
turn_until_ended-turned-requires g t c =
    let draw = ListedDrawFrom-sent g.Q.Party _ c.args.second.now c.next.new.self c.in-Some.party
    c.in-Some.ensures.some.0 c.in-Some.ensures.some.1 c.requires.second in
    c.join.ensures.1 ∙ (ap g.Q.Party.counter c.in-Ok.ensures.ok ∙ (draw.1 ∙ sym
    c.deref-in-Ok.ensures))

pub returns-in-Ok-clause-second : goal.returns-in-Ok-clause-second
returns-in-Ok-clause-second g t c =
    let laws = g.met.Q.Party g.world.𝓛 g.world.𝓜 g.world.𝓡 ((λ s x. x), (λ x. x), (λ x. x), λ x. x)
    in
    let back : Continues g.Q.Party c.in-Some.party c.join.result =
    subst (λ x. Continues g.Q.Party x c.join.result) c.in-Ok.ensures.ok c.join.ensures in
    ListedContinue-away g.Q.Party laws.stays_still laws.stays_on
    c.args.second.now c.next.new.self c.run_second.new.second c.come_back.new.self c.in-Some.party
    c.turn_until_ended-turned.result c.in-Some.ensures.some.0 c.in-Some.ensures.some.1
    c.in-Some.ensures.some.2
    c.run_second.ensures.second (Continues-on g.Q.Party laws.stays_still
    laws.stays_on c.in-Some.party c.join.result c.turn_until_ended-turned.result back
    c.turn_until_ended-turned.ensures.continues) c.come_back.ensures.waiting
    c.come_back.ensures.stayed c.come_back.ensures.away

pub returns-in-Ok-clause-second_ended : goal.returns-in-Ok-clause-second_ended
returns-in-Ok-clause-second_ended g t c = HaveEnded-away g.Q.Party c.run_second.new.second
    c.come_back.new.self c.turn_until_ended-turned.result c.come_back.ensures.waiting
    c.come_back.ensures.stayed c.run_second.ensures.second_ended
    c.turn_until_ended-turned.ensures.ended

pub returns-in-Err-clause-second : goal.returns-in-Err-clause-second
returns-in-Err-clause-second g t c =
    let laws = g.met.Q.Party g.world.𝓛 g.world.𝓜 g.world.𝓡 ((λ s x. x), (λ x. x), (λ x. x), λ x. x)
    in
    let last = c.return_last.ensures in
    ListedContinue-stays g.Q.Party laws.stays_still laws.stays_on
    c.args.second.now c.next.new.self c.stay.new.self c.run_second-in-Err.new.second
    c.return_last.new.self
    c.in-Some.party c.in-Err.left last.0 c.in-Some.ensures.some.0 c.in-Some.ensures.some.1
    c.in-Some.ensures.some.2 c.in-Err.ensures.err c.stay.ensures.waiting c.stay.ensures.stayed
    c.stay.ensures.away c.run_second-in-Err.ensures.second last.1 last.2 last.3

pub returns-in-Err-clause-second_ended : goal.returns-in-Err-clause-second_ended
returns-in-Err-clause-second_ended g t c =
    let last = c.return_last.ensures in
    HaveEnded-stays g.Q.Party c.run_second-in-Err.new.second c.return_last.new.self last.0 last.1
    last.2
    c.run_second-in-Err.ensures.second_ended
