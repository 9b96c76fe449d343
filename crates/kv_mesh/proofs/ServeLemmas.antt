-- All parties serve as one.
use Rattle.std.proofs.Common.{ℕ, List}
use Rattle.std.proofs.Math.Logic.{∥∥₁_map}
use Rattle.atomic_table.specs.Seated.{TableId}
use Rattle.kv_base.specs.declared.sink.Sink as sinks
use Rattle.kv_base.specs.declared.source.Source as sources
use Rattle.kv_disk.specs.declared.disk.Disk as disks
use Rattle.kv_index.specs.declared.index.Index as indexes
use Rattle.kv_model.specs.History.{Write}
use Rattle.kv_parties.specs.Begun.{IsBefore}
use Rattle.kv_session_party.specs.declared.party.SessionParty.{SessionParty}
use Rattle.kv_worker_party.specs.declared.party.WorkerParty.{WorkerParty}
use Rattle.kv_mesh.specs.Laws.{MeshLaws}
use Rattle.kv_mesh.specs.Linked.{AreLinked, first_workers, setting_for}
use Rattle.kv_mesh.specs.Settled.{AreSettled, HaveBegun}
use Rattle.kv_mesh.specs.Standing.{KeepPromises, ServeAsOne, parties_of}
use Rattle.kv_mesh.proofs.PromiseLemmas.{promises-kept}
use Rattle.kv_mesh.proofs.SettleLemmas.{none-passed}

module _ {So Si D I F : Type 0} {so : sources.Ghosts So} {si : sinks.Ghosts Si}
    {d : disks.Ghosts D} {i : indexes.Ghosts I} (laws : MeshLaws F D d)
    (workers : List (WorkerParty D I F d i)) (sessions : List (SessionParty So Si F so si))
    (counter : TableId) (start kept : ℕ) (linked : AreLinked workers sessions counter start kept)
    (settled : AreSettled workers sessions start) (before : ℕ → List Write)
    (begun : HaveBegun d i (first_workers workers) start before)
    (is_before : IsBefore (setting_for workers sessions start) before) where
  pub serve-as-one : ∥ ServeAsOne workers sessions start before ∥₁
  serve-as-one = ∥∥₁_map
      (promises-kept workers sessions counter start kept linked before begun settled.order)
      (λ (k : KeepPromises workers sessions start before).
      let passed = none-passed workers sessions counter start kept linked settled before begun k in
      let stands = laws.join (setting_for workers sessions start)
      (parties_of workers sessions before k.own k.groups k.requests k.views) is_before k.keep
      passed in
      record {
        promises = k;
        passed = passed;
        stands = stands.0;
        replied = stands.1;
      })
