-- one party more is turned
use Rattle.std.proofs.Common.{◌≡◌, ◌<◌, length, arith, true}
use Rattle.std.proofs.lemmas.List.Elements.{AllWithin-more_set, AllWithin-none, AllWithin-upto}
use Rattle.std.proofs.lemmas.List.Elements.{All-from_all_within}
use Rattle.kv_threads.proofs.ContinuingLemmas.{AllContinue-still, AllContinue-set, DrawFrom-later}
use Rattle.kv_threads.proofs.turning.turn_each.Goals as goal

pub loop-at-init : goal.loop-at-init
loop-at-init g c = record {
  goes = AllContinue-still g.P.Party g.met.P.Party.stays_still g.met.P.Party.stays_on
      c.args.parties.now;
  over = λ _. AllWithin-none (λ (x : g.row.P.Denot). g.P.Party.ended x ≡ true)
      c.args.parties.now 0;
}

pub turn_one-one-requires : goal.turn_one-one-requires
turn_one-one-requires g c =
    let draw = DrawFrom-later g.P.Party _ c.args.parties.now c.loop-at.parties
    c.loop-at.invariant.goes c.requires in
    draw c.loop-at.at c.index-parties-at.result (omega (arith, c.loop-at-test.true))

pub loop-at-preserved : goal.loop-at-preserved
loop-at-preserved g c =
    let inv = c.loop-at.invariant in
    let later = c.turn_one-one.new.party in
    let within : c.loop-at.at < length c.loop-at.parties = omega (arith, c.loop-at-test.true) in
    record {
      goes = AllContinue-set g.P.Party g.met.P.Party.stays_still g.met.P.Party.stays_on
          c.args.parties.now c.loop-at.parties c.loop-at.at c.index-parties-at.result later
          inv.goes c.turn_one-one.ensures.continues;
      over = λ over. let both = c.beside-round.ensures over in
          AllWithin-more_set c.loop-at.parties c.loop-at.at later within
          (λ (x : g.row.P.Denot). g.P.Party.ended x ≡ true) (inv.over both.0)
          (c.turn_one-one.ensures.over both.1);
    }

pub returns-clause-over : goal.returns-clause-over
returns-clause-over g c = λ over.
    let ended = λ (x : g.row.P.Denot). g.P.Party.ended x ≡ true in
    All-from_all_within ended c.loop-at.parties (AllWithin-upto ended c.loop-at.parties 0
    c.loop-at.at (length c.loop-at.parties) (omega (arith, c.loop-at-test.false))
    (c.loop-at.invariant.over over))
