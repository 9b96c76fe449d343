use Rattle.kv_threads.proofs.RosterLemmas.{ListedDrawFrom-new, HaveRun-listed}
use Rattle.kv_threads.proofs.many.run_all.Goals as goal

pub run_first-requires-clause-first : goal.run_first-requires-clause-first
run_first-requires-clause-first g c = λ κs within. rw c.new-first.ensures
    (ListedDrawFrom-new g.P.Party _ _ c.requires.parties)

pub run_first-requires-clause-second : goal.run_first-requires-clause-second
run_first-requires-clause-second g c = λ κs within. rw c.new-second.ensures
    (ListedDrawFrom-new g.Q.Party _ _ c.requires.others)

pub returns-clause-parties : goal.returns-clause-parties
returns-clause-parties g c = rw c.into_parties.ensures (HaveRun-listed g.P.Party _ _ _ _
    c.new-first.ensures c.run_first.ensures.first c.run_first.ensures.first_ended
    c.requires.parties)

pub returns-clause-others : goal.returns-clause-others
returns-clause-others g c = rw c.into_parties-2.ensures (HaveRun-listed g.Q.Party _ _ _ _
    c.new-second.ensures c.run_first.ensures.second c.run_first.ensures.second_ended
    c.requires.others)
