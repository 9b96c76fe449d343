use Rattle.std.proofs.Common.{[], ◌∷◌, sym, subst, arith, All}
use Rattle.std.proofs.lemmas.List.Elements.{All-append, All-from_recursion}
use Rattle.kv_ring.specs.Lines.{IsNew}
use Rattle.kv_ring.specs.Matrix.{HasNew}
use Rattle.kv_ring.proofs.MatrixLemmas.{first-step, one-new}
use Rattle.kv_ring.proofs.matrix.first.Goals as goal

pub loop-worker-preserved : goal.loop-worker-preserved
loop-worker-preserved g c =
    let inv = c.loop-worker.invariant in
    record {
      row = omega (arith, inv.row, c.in_ok-push.ensures.len);
      columns = omega (arith, inv.columns, c.in_ok-push-2.ensures.len);
      lines = first-step c.loop-worker.columns.items c.push-in-loop-worker.new.self.items
          c.loop-worker.row.items c.push.new.self.items c.in_ok-one.field-0 c.in_ok-near.near
          c.in_ok-near.far inv.lines c.in_ok-near.ensures.line c.in_ok-one.ensures.0
          c.in_ok-push.ensures.items c.in_ok-push-2.ensures.items;
      new = subst (All IsNew) (sym c.in_ok-push.ensures.items)
          (All-append IsNew c.loop-worker.row.items (c.in_ok-near.near ∷ []) inv.new
          (All-from_recursion IsNew (c.in_ok-near.near ∷ []) (c.in_ok-near.ensures.new.0, tt)));
      all_new = subst (All HasNew) (sym c.in_ok-push-2.ensures.items)
          (All-append HasNew c.loop-worker.columns.items (c.in_ok-one.field-0 ∷ []) inv.all_new
          (All-from_recursion HasNew (c.in_ok-one.field-0 ∷ []) (
            one-new c.in_ok-one.field-0 c.in_ok-near.far c.in_ok-one.ensures.0 c.in_ok-one.ensures.1
                c.in_ok-near.ensures.new.1,
            tt,
          )));
    }
