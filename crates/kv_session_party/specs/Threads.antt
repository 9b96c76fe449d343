-- What turns leave of a session's party.
use Rattle.std.specs.Prelude.{◌≡◌, refl}
use mathlib.Core.Path.{◌∙◌}
use Rattle.kv_base.specs.declared.sink.Sink as sinks
use Rattle.kv_base.specs.declared.source.Source as sources
use Rattle.kv_ring.specs.Ends.{SameRings}
use Rattle.kv_session_party.specs.declared.party.SessionParty.{SessionParty}

-- the party began the same, and has the same rings and the same share of the same counter, which
-- wasn't lifted meanwhile from outside
pub record SessionStays {So Si F : Type 0} {so : sources.Ghosts So} {si : sinks.Ghosts Si}
    (party later : SessionParty So Si F so si) : Type 0 where
  pub first : later.first.value ≡ party.first.value
  pub lifted : later.lifted ≡ party.lifted
  pub rings : SameRings party.links.ends later.links.ends
  pub counter : later.seat.counter ≡ party.seat.counter
  pub start : later.seat.view.start ≡ party.seat.view.start
  pub weight : later.seat.view.weight ≡ party.seat.view.weight
  pub seats : later.seat.view.seats ≡ party.seat.view.seats

module _ {So Si F : Type 0} {so : sources.Ghosts So} {si : sinks.Ghosts Si} where
  -- no turn leaves all
  pub SessionStays-still : (party : SessionParty So Si F so si) → SessionStays party party
  SessionStays-still party = record {
    first = refl;
    lifted = refl;
    rings = record { peers = refl; lines = λ other. refl };
    counter = refl;
    start = refl;
    weight = refl;
    seats = refl;
  }

  -- turns behind turns
  pub SessionStays-on : (party later latest : SessionParty So Si F so si)
      → SessionStays party later → SessionStays later latest → SessionStays party latest
  SessionStays-on party later latest one two = record {
    first = two.first ∙ one.first;
    lifted = two.lifted ∙ one.lifted;
    rings = record {
      peers = two.rings.peers ∙ one.rings.peers;
      lines = λ other. two.rings.lines other ∙ one.rings.lines other;
    };
    counter = two.counter ∙ one.counter;
    start = two.start ∙ one.start;
    weight = two.weight ∙ one.weight;
    seats = two.seats ∙ one.seats;
  }
