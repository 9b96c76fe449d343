use Rattle.std.proofs.Common.{ℕ, ◌<◌, [], ◌∷◌, length, map, refl, sym}
use Rattle.std.proofs.Common.{ap, ◌∙◌, subst, arith, All}
use Rattle.std.proofs.lemmas.List.{get_or-set_other}
use Rattle.std.proofs.lemmas.List.Elements.{All-append, All-get_or, All-from_recursion}
use Rattle.kv_ring.specs.Lines.{IsNew}
use Rattle.kv_ring.specs.Ends.{all_lines, peers}
use Rattle.kv_ring.specs.Matrix.{beside}
use Rattle.kv_ring.proofs.MatrixLemmas.{beside-none, turned, further-step, new-step}
use Rattle.kv_ring.proofs.matrix.further.Goals as goal

pub loop-worker-init : goal.loop-worker-init
loop-worker-init g c = record {
  count = c.in_ok-row.ensures.len;
  workers = refl;
  lines = sym (beside-none (map all_lines c.args.columns.now.items))
      ∙ ap (λ row. beside (map all_lines c.args.columns.now.items) (map turned row))
      (sym c.in_ok-row.ensures.items);
  left = λ k d le. refl;
  new = subst (All IsNew) (sym c.in_ok-row.ensures.items) (All-from_recursion IsNew [] tt);
  still = λ all. all;
}

pub add-requires : goal.add-requires
add-requires g c =
    let w : ℕ = c.loop-worker.worker in
    let lt : w < length c.args.columns.now.items =
    omega (arith, c.loop-worker-test.true, c.len-worker-end.ensures, c.args.columns.now.ok) in (
      omega arith,
      subst (λ ends. peers ends < 8)
          (sym (c.index_mut.ensures.value
          ∙ c.loop-worker.invariant.left w c.index_mut.result.now (omega arith)))
          (All-get_or (λ ends. peers ends < 8) c.args.columns.now.items w c.index_mut.result.now lt
          c.requires.room),
    )

pub loop-worker-preserved : goal.loop-worker-preserved
loop-worker-preserved g c =
    let inv = c.loop-worker.invariant in
    let w : ℕ = c.loop-worker.worker in
    let lt : w < length c.loop-worker.columns.items = omega (
      arith,
      c.loop-worker-test.true,
      c.len-worker-end.ensures,
      inv.workers,
      c.loop-worker.columns.ok,
    ) in
    record {
      count = omega (arith, inv.count, c.in_ok-push.ensures.len);
      workers = inv.workers;
      lines = further-step c.args.columns.now.items c.loop-worker.columns.items
          c.loop-worker.row.items c.push.new.self.items w c.index_mut.result.now c.add.new.self
          c.in_ok-near.near c.in_ok-near.far inv.lines
          (omega (arith, inv.count, c.loop-worker.row.ok)) lt
          (omega (arith, inv.workers, c.loop-worker.columns.ok, c.args.columns.now.ok))
          c.index_mut.ensures.value c.in_ok-add.ensures.ends c.in_ok-near.ensures.line
          c.in_ok-push.ensures.items;
      left = λ k d le. get_or-set_other c.loop-worker.columns.items w k c.add.new.self d
          (λ e. absurd (omega (arith, e, le))) ∙ inv.left k d (omega (arith, le));
      new = subst (All IsNew) (sym c.in_ok-push.ensures.items)
          (All-append IsNew c.loop-worker.row.items (c.in_ok-near.near ∷ []) inv.new
          (All-from_recursion IsNew (c.in_ok-near.near ∷ []) (c.in_ok-near.ensures.new.0, tt)));
      still = λ all. new-step c.loop-worker.columns.items w c.index_mut.result.now c.add.new.self
          c.in_ok-near.far lt c.index_mut.ensures.value c.in_ok-add.ensures.ends
          c.add.ensures.refusals c.in_ok-near.ensures.new.1 (inv.still all);
    }
