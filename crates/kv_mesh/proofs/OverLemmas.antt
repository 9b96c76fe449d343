-- Sessions that have ended, and what a look at the rings leaves of all parties.
use Rattle.std.proofs.Common.{◌≡◌, zero, suc, List, [], ◌∷◌, Bool, true, false, IsSome}
use Rattle.std.proofs.Common.{true≢false, refl, sym, ap, ◌∙◌, subst, arith}
use Rattle.std.specs.Prelude.{All, ◌&&◌, not, is_some}
use Rattle.atomic_table.specs.Seated.{TableId}
use Rattle.kv_base.specs.declared.sink.Sink as sinks
use Rattle.kv_base.specs.declared.source.Source as sources
use Rattle.kv_disk.specs.declared.disk.Disk as disks
use Rattle.kv_index.specs.declared.index.Index as indexes
use Rattle.kv_session.specs.Session.{SessionState}
use Rattle.kv_session_party.specs.Links.{any_waits}
use Rattle.kv_session_party.specs.Party.{is_over}
use Rattle.kv_session_party.specs.declared.party.SessionParty.{SessionParty}
use Rattle.kv_stamps.specs.Seats.{Seat}
use Rattle.kv_worker_party.specs.declared.party.WorkerParty.{WorkerParty}
use Rattle.kv_mesh.specs.Drawing.{SessionsDraw, WorkersDraw}
use Rattle.kv_mesh.specs.Mesh.{sessions_ended}
use Rattle.kv_mesh.specs.Moves.{Looks}
use Rattle.kv_mesh.specs.Running.{AreOver}
use Rattle.kv_mesh.proofs.EachLemmas.{all-at}
use Rattle.kv_mesh.proofs.LookLemmas.{sessions-long, workers-long}
use Rattle.kv_mesh.proofs.PlaceLemmas.{pick}

and-left : (a b : Bool) → a && b ≡ true → a ≡ true
and-left true b e = refl
and-left false b e = e

and-right : (a b : Bool) → a && b ≡ true → b ≡ true
and-right true b e = e
and-right false b e = absurd (true≢false (sym e))

module _ {So Si F : Type 0} {so : sources.Ghosts So} {si : sinks.Ghosts Si} where
  -- parties that tell so have ended
  pub told-over : (sessions : List (SessionParty So Si F so si))
      → All (λ (p : SessionParty So Si F so si). (is_over p.session.ending p.links
      && not p.waiting) ≡ true) sessions → AreOver sessions
  told-over sessions all s party at =
      let told = all-at (λ (p : SessionParty So Si F so si). (is_over p.session.ending p.links
      && not p.waiting) ≡ true) sessions all s party at in
      and-left (is_some party.session.ending) (not (any_waits party.links.unsent.items))
      (and-left (is_over party.session.ending party.links) (not party.waiting) told)

module _ {So Si F : Type 0} {so : sources.Ghosts So} {si : sinks.Ghosts Si} where
  -- sessions that have all ended
  pub ended-over : (sessions : List (SessionParty So Si F so si))
      → sessions_ended sessions ≡ true → AreOver sessions
  ended-over [] e s party at = absurd (omega (arith, at.0))
  ended-over (p ∷ sessions) e zero party at =
      subst (λ (q : SessionParty So Si F so si). IsSome q.session.ending) (sym at.1)
      (and-left (is_some p.session.ending) (not (any_waits p.links.unsent.items))
      (and-left (is_over p.session.ending p.links) (sessions_ended sessions) e))
  ended-over (p ∷ sessions) e (suc s) party at = ended-over sessions
      (and-right (is_over p.session.ending p.links) (sessions_ended sessions) e) s party
      (omega (arith, at.0), at.1)

module _ {So Si D I F : Type 0} {so : sources.Ghosts So} {si : sinks.Ghosts Si}
    {d : disks.Ghosts D} {i : indexes.Ghosts I} (workers now : List (WorkerParty D I F d i))
    (sessions new : List (SessionParty So Si F so si)) where
  -- a look leaves what has ended
  pub looks-over : Looks workers sessions now new → AreOver sessions → AreOver new
  looks-over looks over s party at =
      let p = pick sessions s
      (omega (arith, at.0, sessions-long sessions new looks.sessions_began)) in
      let l = looks.each_session s p.0 party p.1 at in
      ap (λ (t : SessionState So Si). is_some t.ending) l.session ∙ over s p.0 p.1

  -- and the counter that all draw from
  pub looks-draw : (counter : TableId) → Looks workers sessions now new
      → WorkersDraw counter workers × SessionsDraw counter sessions
      → WorkersDraw counter now × SessionsDraw counter new
  looks-draw counter looks draw = (
    λ w party at.
        let p = pick workers w (omega (arith, at.0, workers-long workers now looks.workers_began)) in
        ap (λ (seat : Seat). seat.counter) (looks.each_worker w p.0 party p.1 at).seat
        ∙ draw.0 w p.0 p.1,
    λ s party at.
        let p = pick sessions s
        (omega (arith, at.0, sessions-long sessions new looks.sessions_began)) in
        ap (λ (seat : Seat). seat.counter) (looks.each_session s p.0 party p.1 at).seat
        ∙ draw.1 s p.0 p.1,
  )
