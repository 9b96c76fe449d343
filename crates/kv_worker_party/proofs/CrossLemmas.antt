-- A worker's party may move to another thread where its disk, its index and the fold in a message may.
use denote.Builtin.{u32}
use denote.Param.{number}
use denote.RattleType.{RattleType}
use denote.Struct.Declared.{shape}
use denote.Struct.Tuple.{Tuple}
use denote.Param.Send.{IsSend, struct_send, recorded_send, sendable}
use mathlib.Core.List.{[], ◌∷◌}
use Rattle.std.proofs.Crossing.{Vec-send, crosses}
use Rattle.kv_base.proofs.reserved.ReservedList.TheSendSync as lists
use Rattle.kv_disk.specs.declared.disk.Disk as disks
use Rattle.kv_groups.proofs.connection.Connection.TheSendSync as connections
use Rattle.kv_index.specs.declared.index.Index as indexes
use Rattle.kv_ring.proofs.ends.Ends.TheSendSync as ends
use Rattle.kv_ring.proofs.message.Answer.TheSendSync as answers
use Rattle.kv_ring.proofs.message.Ask.TheSendSync as asks
use Rattle.kv_ring.proofs.task.Task.TheSendSync as tasks
use Rattle.kv_ring.specs.contracts.task.Task.{the_row as task}
use Rattle.kv_stamps.proofs.seat.StampSeat.TheSendSync as seats
use Rattle.kv_worker.proofs.worker.Worker.TheSendSync as workers
use Rattle.kv_worker_party.specs.contracts.party.WorkerParty.{the_row, the_field, the_type}

-- a task with the number of its session
pair-send : IsSend (Tuple (u32 ∷ task ∷ []))
pair-send = search (sendable, tasks.the_send)

module _ (D I F : RattleType) (d : disks.Ghosts D.Denot) (i : indexes.Ghosts I.Denot)
    (disk : IsSend D) (index : IsSend I) (fold : IsSend F) where
  -- as a field of another type
  pub party-field-send : IsSend (the_field D I F d i).row
  party-field-send =
      let worker = workers.the_send D I d i disk index in
      let rings = ends.the_field_send _ _ (number 8) (answers.the_send F fold) (asks.the_send F fold) in
      let batch = lists.the_send (Tuple (u32 ∷ task ∷ [])) pair-send in
      struct_send (shape (the_type D I F d i)) (
        worker,
        (
          search sendable,
          (
            search sendable,
            (
              rings,
              (
                Vec-send _ (connections.the_send F fold),
                (
                  batch,
                  (
                    seats.the_send,
                    (
                      search (sendable, crosses),
                      (
                        search sendable,
                        (search (sendable, crosses), tt),
                      ),
                    ),
                  ),
                ),
              ),
            ),
          ),
        ),
      )

  -- by itself
  pub party-send : IsSend (the_row D I F d i)
  party-send =
      recorded_send (the_field D I F d i).row _ _ (the_type D I F d i).to_one party-field-send
