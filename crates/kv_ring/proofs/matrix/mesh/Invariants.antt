use Rattle.std.proofs.Common.{◌≡◌, ℕ, ◌≤◌, ◌<◌, [], map, get_or, vec_len, All}
use Rattle.std.specs.Option.{option_map}
use Rattle.kv_ring.specs.Lines.{other_side}
use Rattle.kv_ring.specs.Ends.{all_lines, line_to, peers}
use Rattle.kv_ring.specs.Matrix.{HasNew}
use Rattle.kv_ring.proofs.matrix.mesh.Given as goal

abbrev pub invariant-loop-session : goal.invariant-loop-session
invariant-loop-session g l = record {
  rows : vec_len l.all ≡ l._session;
  columns : vec_len l.columns ≡ l.workers;
  some : 1 ≤ l._session;
  lines : (w : ℕ) → w < l.workers → get_or (map all_lines l.columns.items) w []
      ≡ map (λ ends. option_map other_side (line_to ends w)) l.all.items;
  rows_new : All (λ ends. (peers ends ≡ l.workers) × HasNew ends) l.all.items;
  columns_new : All HasNew l.columns.items;
}
