use Rattle.std.proofs.Common.{◌≡◌, ◌+◌, All, vec_len}
use Rattle.kv_stamps.specs.Seats.{Seat, new_seat}
use Rattle.kv_stamps.proofs.counter.Stamps.new.Given as goal

abbrev pub invariant-loop-made : goal.invariant-loop-made
invariant-loop-made l =
    let counter = l.stamps-inside.table.shared.table_id in
    let weight = l.first.view.weight in
    let seat = new_seat counter l.start l.seats in
    record {
      own : l.first.counter ≡ counter;
      shares : weight + l._made ≡ l.seats + 1;
      first : l.first.view ≡ record (seat.view) { weight = weight };
      made : vec_len l.all + 1 ≡ l._made;
      all : All (λ (s : Seat). s ≡ seat) l.all.items;
    }
