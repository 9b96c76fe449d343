-- the replies so far, and then those to the requests that are left
use Rattle.std.proofs.Common.{◌≡◌, ◌++◌, ◌+◌, drop}
use Rattle.kv_model.specs.Batch.{answers, accepted_writes}
use Rattle.kv_model.specs.Oracle.{history_of, start_of}
use Rattle.kv_model.proofs.batch.answer_all.Given as goal

abbrev pub invariant-loop-i : goal.invariant-loop-i
invariant-loop-i l = record {
  replies : l.replies.items ++ answers (start_of l.found) (history_of l.written.items) (l.base +
      l.i)
      (drop l.i l.requests)
      ≡ answers (start_of l.found) (history_of l.fn.written.items) l.base l.requests;
  written : accepted_writes (start_of l.found) (history_of l.written.items) (l.base + l.i)
      (drop l.i l.requests)
      ≡ accepted_writes (start_of l.found) (history_of l.fn.written.items) l.base l.requests;
}
