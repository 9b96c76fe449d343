-- a closed worker answers each so, and a counter without stamps too
use Rattle.std.proofs.Common.{◌≡◌, ◌⊎◌, inl, inr, [], Some, map, length, refl, sym, ap}
use Rattle.std.proofs.Common.{◌∙◌, arith, true, false, subst}
use Rattle.kv_base.specs.declared.reply.Reply.TheVariants.{Closed, StampsSpent}
use Rattle.kv_stamps.specs.Seats.{first_spent}
use Rattle.kv_stamps.specs.Steps.{Draws, Spends}
use Rattle.kv_worker.specs.Batches.{requests_in}
use Rattle.kv_worker_party.proofs.SilentLemmas.{all-framed, frame-closed, frame-spent}
use Rattle.kv_worker.proofs.TaskLemmas.{length-requests}
use Rattle.kv_worker_party.proofs.serve.serve.Goals as goal

pub returns-then-closed-clause-served : goal.returns-then-closed-clause-served
returns-then-closed-clause-served g c =
    let batch = c.args.batch.now.items in
    let requests = requests_in batch in
    let closed : c.args.worker.now.store.closed ≡ true = cc in
    let r = c.step.ensures.closed closed in (
      map (λ _. Closed) requests,
      r.1,
      all-framed Closed requests frame-closed,
      inr (inl record {
        some = omega (arith, ap length c.as_slice-many.ensures, length-requests batch);
        closed = closed;
        replies_are = refl;
        worker = r.0;
        view_is = refl;
      }),
    )

pub returns-in-Ok-clause-served : goal.returns-in-Ok-clause-served
returns-in-Ok-clause-served g c =
    let batch = c.args.batch.now.items in
    let requests = requests_in batch in
    let open_ : c.args.worker.now.store.closed ≡ false = cc in
    let r = c.step-in-Ok.ensures.stepped open_ in
    let many : c.as_slice-many.result.now ≡ batch = c.as_slice-many.ensures in
    let n : length c.as_slice-many.result.now ≡ length requests =
    ap length many ∙ sym (length-requests batch) in (
      r.0,
      r.1,
      r.2.framed,
      inr (inr (inr record {
        some = omega (arith, n);
        open_ = open_;
        base = c.in-Ok.base;
        drawn = record {
          between = c.raise.new.seat.view;
          found = c.raise.ensures.view.0;
          raises = c.raise.ensures.view.1;
          draws = subst (λ k. Draws k c.raise.new.seat.view c.in-Ok.base
              c.draw.new.seat.view) n c.in-Ok.ensures.ok;
        };
        steps = r.2;
      })),
    )

pub returns-in-Err-clause-served : goal.returns-in-Err-clause-served
returns-in-Err-clause-served g c =
    let batch = c.args.batch.now.items in
    let requests = requests_in batch in
    let number = c.in-Err.spent.number in
    let open_ : c.args.worker.now.store.closed ≡ false = cc in
    let many : c.as_slice-many.result.now ≡ batch = c.as_slice-many.ensures in
    let n : length c.as_slice-many.result.now ≡ length requests =
    ap length many ∙ sym (length-requests batch) in (
      map (λ _. StampsSpent number) requests,
      c.refuse_spent.ensures.answered,
      all-framed (StampsSpent number) requests (frame-spent number (omega arith)),
      inr (inr (inl record {
        some = omega (arith, n);
        open_ = open_;
        number = number;
        met = record {
          between = c.raise.new.seat.view;
          found = c.raise.ensures.view.0;
          raises = c.raise.ensures.view.1;
          spends = subst (λ k. ((first_spent c.raise.new.seat.view.spent ≡ Some number)
              × (c.draw.new.seat.view ≡ c.raise.new.seat.view))
              ⊎ ((c.raise.new.seat.view.spent ≡ [])
              × Spends k c.raise.new.seat.view number c.draw.new.seat.view)) n
              c.in-Err.ensures.err;
          limit = c.in-Err.ensures.limit;
        };
        replies_are = refl;
        worker = refl;
      })),
    )
