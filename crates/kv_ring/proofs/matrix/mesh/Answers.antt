use Rattle.std.proofs.Common.{◌≡◌, [], ◌∷◌, ◌++◌, length, sym}
use Rattle.std.proofs.Common.{ap}
use Rattle.std.proofs.Common.{◌∙◌, subst, arith, All}
use Rattle.std.proofs.lemmas.List.Elements.{All-append, All-from_recursion}
use Rattle.kv_ring.specs.Ends.{peers, IsFresh}
use Rattle.kv_ring.specs.Matrix.{HasNew}
use Rattle.kv_ring.proofs.MatrixLemmas.{row-first, row-more, columns-room, columns-fresh}
use Rattle.kv_ring.proofs.MatrixLemmas.{rows-fresh, is-mesh}
use Rattle.kv_ring.proofs.matrix.mesh.Goals as goal

pub loop-session-init : goal.loop-session-init
loop-session-init g c =
    let first = c.in_ok-session in
    let one = c.in_ok-push.ensures.items ∙ ap (λ xs. xs ++ first.session ∷ [])
    c.in_ok-all.ensures.items in
    record {
      rows = omega (arith, c.in_ok-push.ensures.len, c.in_ok-all.ensures.len);
      columns = first.ensures.counts.1;
      some = omega arith;
      lines = λ w lt. row-first first.columns.items first.session c.push.new.self.items w
          first.ensures.lines (omega (
            arith,
            first.ensures.counts.0,
            first.ensures.counts.1,
            first.columns.ok,
          ))
          one (omega (arith, lt, first.ensures.counts.1, first.columns.ok));
      rows_new = subst (All (λ ends. (peers ends ≡ c.args.workers) × HasNew ends)) (sym one)
          (All-from_recursion (λ ends. (peers ends ≡ c.args.workers) × HasNew ends) (first.session ∷
          [])
          ((first.ensures.counts.0, first.ensures.new.0), tt));
      columns_new = first.ensures.new.1;
    }

pub further-requires-clause-room : goal.further-requires-clause-room
further-requires-clause-room g c =
    let inv = c.loop-session.invariant in
    columns-room c.loop-session.all.items c.loop-session.columns.items
    (λ w lt. inv.lines w (omega (arith, lt, inv.columns, c.loop-session.columns.ok))) 8
    (omega (arith, inv.rows, c.loop-session.all.ok, c.loop-session-test.true, c.requires.sessions))

pub loop-session-preserved : goal.loop-session-preserved
loop-session-preserved g c =
    let inv = c.loop-session.invariant in
    let columns = c.loop-session.columns.items in
    let session = c.in_ok-further.field-0 in
    let made = c.in_ok-further.ensures in
    let e = c.in_ok-push-2.ensures.items in
    record {
      rows = omega (arith, inv.rows, c.in_ok-push-2.ensures.len);
      columns = c.further.ensures.workers ∙ inv.columns;
      some = omega arith;
      lines = λ w lt. row-more c.loop-session.all.items columns
          (λ v less. inv.lines v (omega (arith, less, inv.columns, c.loop-session.columns.ok)))
          c.further.new.columns.items session c.push-in-loop-session.new.self.items w made.lines
          (omega (arith, made.count, c.loop-session.columns.ok)) e
          (omega (arith, lt, inv.columns, c.loop-session.columns.ok));
      rows_new = subst (All (λ ends. (peers ends ≡ c.args.workers) × HasNew ends)) (sym e)
          (All-append (λ ends. (peers ends ≡ c.args.workers) × HasNew ends) c.loop-session.all.items
          (session ∷ []) inv.rows_new
          (All-from_recursion (λ ends. (peers ends ≡ c.args.workers) × HasNew ends) (session ∷ [])
          ((made.count ∙ inv.columns, made.new), tt)));
      columns_new = made.still inv.columns_new;
    }

pub returns-clause-session_ends : goal.returns-clause-session_ends
returns-clause-session_ends g c =
    rows-fresh c.args.workers c.loop-session.all.items c.loop-session.invariant.rows_new

pub returns-clause-worker_ends : goal.returns-clause-worker_ends
returns-clause-worker_ends g c =
    let inv = c.loop-session.invariant in
    let rows : length c.loop-session.all.items ≡ c.args.sessions =
    omega (arith, inv.rows, c.loop-session.all.ok, c.loop-session-test.false) in
    subst (λ n. All (λ ends. (peers ends ≡ n) × IsFresh ends) c.loop-session.columns.items) rows
    (columns-fresh c.loop-session.all.items c.loop-session.columns.items
    (λ w lt. inv.lines w (omega (arith, lt, inv.columns, c.loop-session.columns.ok)))
    inv.columns_new)

pub returns-clause-rings : goal.returns-clause-rings
returns-clause-rings g c =
    let inv = c.loop-session.invariant in
    is-mesh c.loop-session.all.items c.loop-session.columns.items
    (λ w lt. inv.lines w (omega (arith, lt, inv.columns, c.loop-session.columns.ok)))
