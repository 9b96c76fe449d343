-- The seats of a new counter.
use Rattle.kv_stamps.specs.Seats.{Seat, new_seat}
use Rattle.kv_mesh.specs.declared.seats.Seats.{Seats}

-- what each free seat is
abbrev pub first-seat : Seats → Seat
first-seat seats = new_seat seats.stamps seats.start seats.many
