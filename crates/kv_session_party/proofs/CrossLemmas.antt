-- A session's party may move to another thread where its source, its sink and the fold in a message
-- may.
use denote.RattleType.{RattleType}
use denote.Struct.Declared.{shape}
use denote.Param.Send.{IsSend, struct_send, recorded_send, sendable}
use Rattle.std.proofs.Crossing.{crosses}
use Rattle.kv_base.proofs.reserved.ReservedList.TheSendSync as lists
use Rattle.kv_base.specs.declared.sink.Sink as sinks
use Rattle.kv_base.specs.declared.source.Source as sources
use Rattle.kv_ring.proofs.task.Task.TheSendSync as tasks
use Rattle.kv_session.proofs.session.Session.TheSendSync as sessions
use Rattle.kv_session_party.proofs.links.Links.TheSendSync as links
use Rattle.kv_session_party.proofs.routes.Routes.TheSendSync as routes
use Rattle.kv_session_party.specs.contracts.party.SessionParty.{the_row, the_field, the_type}
use Rattle.kv_stamps.proofs.seat.StampSeat.TheSendSync as seats

module _ (So Si F : RattleType) (g : sources.Ghosts So.Denot) (h : sinks.Ghosts Si.Denot)
    (source : IsSend So) (sink : IsSend Si) (fold : IsSend F) where
  -- as a field of another type
  pub party-field-send : IsSend (the_field So Si F g h).row
  party-field-send = struct_send (shape (the_type So Si F g h)) (
    sessions.the_send So Si g h source sink,
    (
      links.the_field_send F fold,
      (
        routes.the_send,
        (
          lists.the_send _ tasks.the_send,
          (
            search sendable,
            (
              search sendable,
              (
                search sendable,
                (
                  search sendable,
                  (
                    search sendable,
                    (
                      seats.the_send,
                      (search (sendable, crosses), tt),
                    ),
                  ),
                ),
              ),
            ),
          ),
        ),
      ),
    ),
  )

  -- by itself
  pub party-send : IsSend (the_row So Si F g h)
  party-send = recorded_send (the_field So Si F g h).row _ _ (the_type So Si F g h).to_one
      party-field-send
