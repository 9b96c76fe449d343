-- by induction over the batch
use Rattle.std.proofs.Common.{[]}
use Rattle.kv_model.specs.Batch.{answers}
use Rattle.kv_model.proofs.FailedLemmas.{unsure-failed, writes-failed, unsure-answers}
use Rattle.kv_model.proofs.laws.failed_writes_are_unsure.Goals as goal

pub returns : goal.returns
returns c = record {
  unsure = λ start base requests. unsure-failed requests start [] base;
  unacknowledged = λ start base requests. writes-failed requests (answers start [] base requests)
      base;
  sure = λ start base requests. unsure-answers requests start [] base;
}
