-- What goes through the rings between a worker and one session.
use Rattle.std.specs.Prelude.{◌≡◌, ◌≢◌, ℕ, List, [], ◌++◌, Option, None, Bool, is_some, IsSome}
use Rattle.std.specs.Prelude.{option_to_list}
use Rattle.kv_ring.specs.Ends.{sent_to, received_from, known_from, places_to, SameRings}
use Rattle.kv_ring.specs.declared.ends.Ends.{Ends}
use Rattle.kv_ring.specs.declared.message.Answer.{Answer}
use Rattle.kv_ring.specs.declared.message.Ask.{Ask}
use Rattle.kv_groups.specs.declared.connection.Connection.{Connection}
use Rattle.kv_groups.specs.Taking.{after_came}

-- what was received from the session, what was sent to it, what lies in the ring from it as far as
-- this end knows, and how many free places this end knows of in the ring to it
pub record Traffic (F : Type 0) : Type 0 where
  pub received : List (Ask F)
  pub sent : List (Answer F)
  pub known : List (Ask F)
  pub places : ℕ

module _ {F : Type 0} where
  -- the traffic with the session of this number
  abbrev pub traffic_with : Ends (Answer F) (Ask F) 8 → ℕ → Traffic F
  traffic_with ends session = record {
    received = received_from ends session;
    sent = sent_to ends session;
    known = known_from ends session;
    places = places_to ends session;
  }

  -- an answer waits only where this end knows of no place in the ring to the session
  abbrev pub WaitsForPlace : Option (Answer F) → Traffic F → Type 0
  WaitsForPlace waiting traffic = IsSome waiting → traffic.places ≡ 0

  -- the answer that waits for the session, if one does, is sent, or waits on for want of a place
  pub record Sends (session : ℕ) (ends new : Ends (Answer F) (Ask F) 8)
      (waiting left : Option (Answer F)) : Type 0 where
    pub sent : sent_to new session ++ option_to_list left
        ≡ sent_to ends session ++ option_to_list waiting
    pub received : received_from new session ≡ received_from ends session
    pub known : known_from new session ≡ known_from ends session
    pub none : waiting ≡ None → left ≡ None
    pub full : WaitsForPlace left (traffic_with new session)
    pub others : (other : ℕ) → other ≢ session
        → traffic_with new other ≡ traffic_with ends other
    pub rings : SameRings ends new

  -- the session's next message is taken, if one is known of
  pub record Receives (session worker workers : ℕ) (ends new : Ends (Answer F) (Ask F) 8)
      (old now : Connection F) (found : Bool) : Type 0 where
    pub came : Option (Ask F)
    pub found_is : found ≡ is_some came
    pub received : received_from new session
        ≡ received_from ends session ++ option_to_list came
    pub none : came ≡ None → known_from new session ≡ []
    pub sent : sent_to new session ≡ sent_to ends session
    pub places : places_to new session ≡ places_to ends session
    pub taken : now ≡ after_came worker workers old came
    pub others : (other : ℕ) → other ≢ session
        → traffic_with new other ≡ traffic_with ends other
    pub rings : SameRings ends new
