use Rattle.std.proofs.Common.{ap, ◌∙◌}
use Rattle.kv_stamps.specs.Seats.{Seat}
use Rattle.kv_ring_tests.proofs.stamps.draw_all.Goals as goal

-- each seat is one of the counter, and new
pub map_vec-requires-after_bounds : goal.map_vec-requires-after_bounds
map_vec-requires-after_bounds g c _ _ i seat lt same _ _ _ _ _ _ = (
  ap (λ (s : Seat). s.counter) same ∙ c.requires.counter i seat lt,
  ap (λ (s : Seat). s.view.drawn) same ∙ c.requires.new i seat lt,
)
