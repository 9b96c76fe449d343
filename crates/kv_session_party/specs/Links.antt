-- What goes through the rings between a session and the workers.
use Rattle.std.specs.Prelude.{◌≡◌, ◌≢◌, ℕ, ◌<◌, List, [], ◌∷◌, ◌++◌, Option, None, Bool, false}
use Rattle.std.specs.Prelude.{is_some, ◌||◌}
use Rattle.std.specs.Prelude.{option_to_list, slice_index_or}
use Rattle.kv_ring.specs.Ends.{sent_to, received_from, known_from, places_to}
use Rattle.kv_ring.specs.declared.message.Answer.{Answer}
use Rattle.kv_ring.specs.declared.message.Ask.{Ask}
use Rattle.kv_session_party.specs.Sending.{has_gone}
use Rattle.kv_session_party.specs.declared.links.Links.{Links}

module _ {F : Type 0} where
  -- the message that waits for a place in the ring to the worker of this number, if one does
  abbrev pub waiting_for : Links F → ℕ → Option (Ask F)
  waiting_for links worker = slice_index_or links.unsent.items worker None

  -- what was sent to the worker, and what waits to be sent
  abbrev pub told_to : Links F → ℕ → List (Ask F)
  told_to links worker = sent_to links.ends worker ++ option_to_list (waiting_for links worker)

  -- what was received from the worker
  abbrev pub heard_from : Links F → ℕ → List (Answer F)
  heard_from links worker = received_from links.ends worker

  -- what is known to lie in the ring from the worker
  abbrev pub coming_from : Links F → ℕ → List (Answer F)
  coming_from links worker = known_from links.ends worker

  -- a message waits in the list
  abbrev pub any_waits : List (Option (Ask F)) → Bool
  any_waits [] = false
  any_waits (unsent ∷ others) = is_some unsent || any_waits others

  -- one of the messages that waited was sent
  abbrev pub any_went : List (Option (Ask F)) → List (Option (Ask F)) → Bool
  any_went [] later = false
  any_went (unsent ∷ others) [] = false
  any_went (unsent ∷ others) (left ∷ later) = has_gone unsent left
      || any_went others later

  -- a message waits only where this end knows of no place in its ring
  abbrev pub WaitsForPlaces : Links F → Type 0
  WaitsForPlaces links = (worker : ℕ) → waiting_for links worker ≢ None
      → places_to links.ends worker ≡ 0

  -- each message that waited went out where a place was known, or waits on where none is, and
  -- nothing else changed
  pub record Pushes (links new : Links F) : Type 0 where
    pub told : (worker : ℕ) → told_to new worker ≡ told_to links worker
    pub free : (worker : ℕ) → waiting_for links worker ≡ None → waiting_for new worker ≡ None
    pub full : WaitsForPlaces new
    pub place : (worker : ℕ) → 0 < places_to links.ends worker → waiting_for new worker ≡ None
    pub heard : (worker : ℕ) → heard_from new worker ≡ heard_from links worker
    pub coming : (worker : ℕ) → coming_from new worker ≡ coming_from links worker
