use Rattle.std.proofs.Common.{◌≡◌, ℕ, ◌≤◌, map, get_or, vec_len, All, Some}
use Rattle.kv_ring.specs.Lines.{line_of, other_side, IsNew}
use Rattle.kv_ring.specs.Ends.{all_lines}
use Rattle.kv_ring.specs.Matrix.{beside, HasNew}
use Rattle.kv_ring.proofs.matrix.further.Given as goal

abbrev pub invariant-loop-worker : goal.invariant-loop-worker
invariant-loop-worker g l = record {
  count : vec_len l.row ≡ l.worker;
  workers : vec_len l.columns ≡ vec_len l.initial.columns;
  lines : map all_lines l.columns.items ≡ beside (map all_lines l.initial.columns.items)
      (map (λ end. Some (other_side (line_of end))) l.row.items);
  left : (k : ℕ) (d : _) → l.worker ≤ k
      → get_or l.columns.items k d ≡ get_or l.initial.columns.items k d;
  new : All IsNew l.row.items;
  still : All HasNew l.initial.columns.items → All HasNew l.columns.items;
}
