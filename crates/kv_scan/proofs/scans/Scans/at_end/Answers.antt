use Rattle.kv_scan.specs.Sessions.{ReachesEnd}
use Rattle.kv_scan.proofs.SessionLemmas.{moves_at}
use Rattle.kv_scan.proofs.scans.Scans.at_end.Goals as goal

-- The entry hears it where it is.
pub returns-clause-moves : goal.returns-clause-moves
returns-clause-moves g c =
    moves_at ReachesEnd c.self.inside.entries.items c.args.self.now c.args.session
    c.index_mut.result.now c.in-Some.entry c.reach_end.new.self c.requires.session
    c.self.view_is c.in-Some.is c.index_mut.ensures.value
    (record { is = c.reach_end.ensures.value; owes = c.reach_end.ensures.owes })
