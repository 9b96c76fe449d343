-- What a party's turn was.
use Rattle.std.specs.Prelude.{Bool, if◌then◌else◌}
use Rattle.kv_ring.specs.declared.turn.Turn.{Turn}
use Rattle.kv_ring.specs.declared.turn.Turn.TheVariants.{Moved, Idle, Ended}

-- the party has ended, or else went on, or else had nothing to do
abbrev pub turn_of : Bool → Bool → Turn
turn_of ended moved = if ended then Ended else (if moved then Moved else Idle)
