-- the parties of the last stores were made, and the first stores are left
use Rattle.std.proofs.Common.{◌≡◌, ◌+◌, ◌≤◌, All, reverse, vec_len, vec_capacity}
use Rattle.kv_ring.specs.Ends.{IsFresh}
use Rattle.kv_worker_party.specs.declared.party.WorkerParty.{WorkerParty}
use Rattle.kv_mesh.specs.Started.{IsNewWorker, IsReady, opened_of}
use Rattle.kv_mesh.proofs.MadeLemmas.{Starting}
use Rattle.kv_mesh.proofs.SeatLemmas.{first-seat}
use Rattle.kv_mesh.proofs.start_workers.start_workers.Given as goal

abbrev pub invariant-loop-alloc : goal.invariant-loop-alloc
invariant-loop-alloc g l =
    let Party = WorkerParty g.row.D.Denot g.row.I.Denot g.row.F.Denot g.D.Disk g.I.Index in
    record {
      starting : Starting (λ (party : Party). opened_of party.worker) (λ (party : Party). party.ends)
          (IsNewWorker (first-seat l.initial.seats)) l.initial.stores.items
          l.initial.ends.items l.stores.items l.ends.items (reverse l.parties.items);
      ready : All (IsReady g.D.Disk g.I.Index l.initial.seats.start) l.stores.items;
      fresh : All IsFresh l.ends.items;
      counts : vec_len l.ends ≡ vec_len l.stores;
      seats : vec_len l.seats.free + vec_len l.initial.stores
          ≡ vec_len l.initial.seats.free + vec_len l.stores;
      seat : first-seat l.seats ≡ first-seat l.initial.seats;
      sum : vec_len l.stores + vec_len l.parties ≡ vec_len l.initial.stores;
      capacity : vec_len l.initial.stores ≤ vec_capacity l.stores;
      room : vec_len l.initial.stores ≤ vec_capacity l.parties;
    }

abbrev pub decreases-loop-alloc : goal.decreases-loop-alloc
decreases-loop-alloc g l = vec_len l.stores
