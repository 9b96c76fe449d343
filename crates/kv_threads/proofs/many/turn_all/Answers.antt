use Rattle.kv_threads.proofs.RosterLemmas.{ListedDrawFrom-new, HaveRun-listed}
use Rattle.kv_threads.proofs.many.turn_all.Goals as goal

pub rotate-requires-clause-first : goal.rotate-requires-clause-first
rotate-requires-clause-first g c = rw c.without_room-first.ensures
    (ListedDrawFrom-new g.P.Party _ _ c.requires.parties)

pub rotate-requires-clause-second : goal.rotate-requires-clause-second
rotate-requires-clause-second g c = rw c.without_room-second.ensures
    (ListedDrawFrom-new g.Q.Party _ _ c.requires.others)

pub returns-clause-parties : goal.returns-clause-parties
returns-clause-parties g c = rw c.into_parties.ensures (HaveRun-listed g.P.Party _ _ _ _
    c.without_room-first.ensures c.rotate.ensures.first c.rotate.ensures.first_ended
    c.requires.parties)

pub returns-clause-others : goal.returns-clause-others
returns-clause-others g c = rw c.into_parties-2.ensures (HaveRun-listed g.Q.Party _ _ _ _
    c.without_room-second.ensures c.rotate.ensures.second c.rotate.ensures.second_ended
    c.requires.others)
