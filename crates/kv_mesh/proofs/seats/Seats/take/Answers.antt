-- the last seat
use Rattle.std.proofs.Common.{◌≡◌}
use Rattle.kv_stamps.specs.Seats.{Seat, new_seat}
use Rattle.kv_mesh.proofs.MadeLemmas.{all-front, all-last}
use Rattle.kv_mesh.proofs.seats.Seats.take.Goals as goal

pub returns-clause-seat : goal.returns-clause-seat
returns-clause-seat c = all-last (λ (seat : Seat). seat ≡ new_seat c.args.self.now.stamps
    c.args.self.now.start c.args.self.now.many) c.take_last.new.items.items
    c.args.self.now.free.items c.take_last.result c.take_last.ensures.items c.args.self.now.unused

pub invariant_of-self : goal.invariant_of-self
invariant_of-self c = record {
  unused = all-front (λ (seat : Seat). seat ≡ new_seat c.args.self.now.stamps c.args.self.now.start
      c.args.self.now.many) c.take_last.new.items.items c.args.self.now.free.items
      c.take_last.result c.take_last.ensures.items c.args.self.now.unused;
}
