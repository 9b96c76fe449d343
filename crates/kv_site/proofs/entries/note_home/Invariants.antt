use Rattle.std.proofs.Common.{◌≡◌, ◌++◌, map, take, drop}
use Rattle.kv_site.specs.Entries.{homed}
use Rattle.kv_site.proofs.entries.note_home.Given as goal

-- the places before this one are noted
abbrev pub invariant-loop-at : goal.invariant-loop-at
invariant-loop-at g l = l.entries.items ≡ map (homed l.folder l.number)
    (take l.at l.fn.entries.items) ++ drop l.at l.fn.entries.items
