-- A message to a worker, which waits where its ring has no place.
use Rattle.std.specs.Prelude.{◌≡◌, ◌≢◌, ℕ, ◌<◌, ◌++◌, Option, None, Bool, is_some, not, ◌&&◌}
use Rattle.std.specs.Prelude.{option_to_list}
use Rattle.kv_ring.specs.Ends.{sent_to, received_from, known_from, places_to, SameRings}
use Rattle.kv_ring.specs.declared.ends.Ends.{Ends}
use Rattle.kv_ring.specs.declared.message.Answer.{Answer}
use Rattle.kv_ring.specs.declared.message.Ask.{Ask}

module _ {F : Type 0} where
  -- a message waited and waits no more
  abbrev pub has_gone : Option (Ask F) → Option (Ask F) → Bool
  has_gone waiting left = is_some waiting && not (is_some left)

  -- the message that waits for the worker, if one does, is sent, or waits on where this end knows of
  -- no place in its ring
  pub record Sends (worker : ℕ) (ends new : Ends (Ask F) (Answer F) 16)
      (waiting left : Option (Ask F)) : Type 0 where
    pub sent : sent_to new worker ++ option_to_list left
        ≡ sent_to ends worker ++ option_to_list waiting
    pub others : (other : ℕ) → other ≢ worker → sent_to new other ≡ sent_to ends other
    pub received : (other : ℕ) → received_from new other ≡ received_from ends other
    pub known : (other : ℕ) → known_from new other ≡ known_from ends other
    pub none : waiting ≡ None → left ≡ None
    pub full : left ≢ None → places_to new worker ≡ 0
    pub place : 0 < places_to ends worker → left ≡ None
    pub other_places : (other : ℕ) → other ≢ worker → places_to new other ≡ places_to ends other
    pub rings : SameRings ends new
