use Rattle.std.proofs.Common.{◌≡◌, ◌∷◌, [], map, vec_len, All, Some}
use Rattle.kv_ring.specs.Lines.{line_of, other_side, IsNew}
use Rattle.kv_ring.specs.Ends.{all_lines}
use Rattle.kv_ring.specs.Matrix.{HasNew}
use Rattle.kv_ring.proofs.matrix.first.Given as goal

abbrev pub invariant-loop-worker : goal.invariant-loop-worker
invariant-loop-worker g l = record {
  row : vec_len l.row ≡ l._worker;
  columns : vec_len l.columns ≡ l._worker;
  lines : map all_lines l.columns.items
      ≡ map (λ line. line ∷ []) (map (λ end. Some (other_side (line_of end))) l.row.items);
  new : All IsNew l.row.items;
  all_new : All HasNew l.columns.items;
}
