-- the next item, as far as the writes so far tell
use Rattle.std.proofs.Common.{take}
use Rattle.std.specs.Option.{option_copied, option_map}
use Rattle.kv_model.specs.Oracle.{history_of, item_seen, lookup_of}
use Rattle.kv_model.specs.Lookup.{IsNext}
use Rattle.kv_model.proofs.lookup.find_next.Given as goal

abbrev pub invariant-loop-write : goal.invariant-loop-write
invariant-loop-write l = IsNext (lookup_of (history_of l.writes) l.asked (option_copied l.last))
    (history_of (take l.write-index l.writes)) (option_map item_seen l.next)
