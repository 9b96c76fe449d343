-- one more write
use Rattle.std.proofs.Common.{arith, rules, ◌≡◌, true, false, refl}
use Rattle.std.specs.Str.{bytes_eq}
use Rattle.std.proofs.lemmas.List.{map_more}
use Rattle.kv_model.specs.Oracle.{write_of}
use Rattle.kv_model.proofs.AnswersLemmas.{last_write-push}
use Rattle.kv_model.proofs.found.last_write.Goals as goal
use Rattle.kv_model.proofs.found.last_write.Goals.{then-eq, else-eq}

pub loop-write-preserved : goal.loop-write-preserved
loop-write-preserved c =
    rw (
      map_more write_of c.args.written.now c.loop-write.write-index c.write-item.result
          (omega arith),
      ← c.write-item.is,
      last_write-push,
    ) (elim c.if-eq.branch [
      | then-eq w ↦
          let same : bytes_eq c.write-item.result.key c.args.key.now ≡ true = search rules in
          rw (w.last-is, same) refl
      | else-eq w ↦
          let other : bytes_eq c.write-item.result.key c.args.key.now ≡ false = search rules in
          rw (w.last-is, other) c.loop-write.invariant
    ])
