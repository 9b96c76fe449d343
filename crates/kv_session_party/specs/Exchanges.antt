-- A group's way to the workers and back.
use Rattle.std.specs.Prelude.{◌≡◌, ◌≢◌, ℕ, slice_set, List, [], ◌∷◌, ◌++◌, length, Option, None}
use Rattle.std.specs.Prelude.{Some, Bool}
use Rattle.std.specs.Prelude.{true, false, is_some, not, ◌&&◌, IsSome, option_to_list}
use Rattle.std.specs.List.{AllByRecursion}
use Rattle.kv_base.specs.Reserved.{Reserved}
use Rattle.kv_ring.specs.Ends.{SameRings, places_to}
use Rattle.kv_ring.specs.declared.message.Answer.{Answer}
use Rattle.kv_ring.specs.declared.message.Ask.{Ask}
use Rattle.kv_ring.specs.declared.message.Ask.TheVariants as ask
use Rattle.kv_ring.specs.declared.task.Task.{Task}
use Rattle.kv_session_party.specs.Links.{told_to, heard_from, coming_from, waiting_for}
use Rattle.kv_session_party.specs.Links.{WaitsForPlaces}
use Rattle.kv_parties.specs.Messages.{IsReplied}
use Rattle.kv_session_party.specs.Parts.{part_of, tasks_out, part_out, tasks_here}
use Rattle.kv_session_party.specs.Routes.{RoutesState}
use Rattle.kv_session_party.specs.Parts.{is_away, is_taken, part_after}
use Rattle.kv_session_party.specs.declared.links.Links.{Links}
use Rattle.kv_session_party.specs.declared.part.Part.{Part}

module _ {F : Type 0} where
  -- the message for these tasks, if there are any
  abbrev pub message_for : ℕ → Option (Reserved Task) → List (Ask F)
  message_for seen None = []
  message_for seen (Some tasks) = ask.Group seen tasks ∷ []

  -- each worker that has a task is asked for all of its own, with what the session has seen
  pub record Asks (seen : ℕ) (links new : Links F) (routes after : RoutesState) : Type 0 where
    pub told : (worker : ℕ) → told_to new worker
        ≡ told_to links worker ++ message_for seen (tasks_out (part_of routes.parts worker))
    pub heard : (worker : ℕ) → heard_from new worker ≡ heard_from links worker
    pub free : (worker : ℕ) → tasks_out (part_of routes.parts worker) ≡ None
        → waiting_for new worker ≡ None
    pub full : WaitsForPlaces new
    pub parts : (worker : ℕ) → part_of after.parts worker ≡ part_out (part_of routes.parts worker)
    pub places : after.places ≡ routes.places
    pub size : length after.parts ≡ length routes.parts
    pub rings : SameRings links.ends new.ends

  -- so it is with the worker of this number
  pub record AsksOne (worker seen : ℕ) (links new : Links F) (routes after : RoutesState) :
      Type 0 where
    pub told : told_to new worker
        ≡ told_to links worker ++ message_for seen (tasks_out (part_of routes.parts worker))
    pub free : tasks_out (part_of routes.parts worker) ≡ None → waiting_for new worker ≡ None
    pub full : waiting_for new worker ≢ None → places_to new.ends worker ≡ 0
    pub others : (other : ℕ) → other ≢ worker → (told_to new other ≡ told_to links other)
        × (waiting_for new other ≡ waiting_for links other)
        × (places_to new.ends other ≡ places_to links.ends other)
    pub heard : (other : ℕ) → heard_from new other ≡ heard_from links other
    pub parts : after.parts
        ≡ slice_set routes.parts worker (part_out (part_of routes.parts worker))
    pub places : after.places ≡ routes.places
    pub rings : SameRings links.ends new.ends

  -- the part behind what came
  abbrev pub part_behind_came : Part → Option (Answer F) → Part
  part_behind_came part None = part
  part_behind_came part (Some answer) = part_after part answer

  -- an answer is owed: the tasks are away, and the message with them was sent
  abbrev pub is_owed : Part → Option (Ask F) → Bool
  is_owed part waiting = is_away part && not (is_some waiting)

  -- where an answer is owed the next one is taken or passed over, if one is known of
  pub record Comes (owed : Bool) (part later : Part) (came : Option (Answer F))
      (heard hears coming : List (Answer F)) : Type 0 where
    pub heard_is : hears ≡ heard ++ option_to_list came
    pub part_is : later ≡ part_behind_came part came
    pub replied : (answer : Answer F) → came ≡ Some answer → is_taken part answer ≡ true
        → AllByRecursion IsReplied (tasks_here later)
    pub unasked : owed ≡ false → came ≡ None
    pub empty : owed ≡ true → came ≡ None → coming ≡ []

  -- so it is with each worker
  pub record Receives (links new : Links F) (routes after : RoutesState) (moved : Bool) :
      Type 0 where
    pub came : ℕ → Option (Answer F)
    pub each : (worker : ℕ) → Comes
        (is_owed (part_of routes.parts worker) (waiting_for links worker))
        (part_of routes.parts worker) (part_of after.parts worker) (came worker)
        (heard_from links worker) (heard_from new worker) (coming_from new worker)
    pub told : (worker : ℕ) → told_to new worker ≡ told_to links worker
    pub unsent : new.unsent ≡ links.unsent
    pub free_places : (worker : ℕ) → places_to new.ends worker ≡ places_to links.ends worker
    pub places : after.places ≡ routes.places
    pub size : length after.parts ≡ length routes.parts
    pub still : moved ≡ false → (worker : ℕ) → came worker ≡ None
    pub some : moved ≡ true → (worker : ℕ) × IsSome (came worker)
    pub rings : SameRings links.ends new.ends

  -- so it is with the worker of this number
  pub record ReceivesOne (worker : ℕ) (links new : Links F) (routes after : RoutesState)
      (moved : Bool) : Type 0 where
    pub came : Option (Answer F)
    pub comes : Comes (is_owed (part_of routes.parts worker) (waiting_for links worker))
        (part_of routes.parts worker) (part_of after.parts worker) came
        (heard_from links worker) (heard_from new worker) (coming_from new worker)
    pub others : (other : ℕ) → other ≢ worker → (heard_from new other ≡ heard_from links other)
        × (coming_from new other ≡ coming_from links other)
        × (part_of after.parts other ≡ part_of routes.parts other)
    pub told : (other : ℕ) → told_to new other ≡ told_to links other
    pub unsent : new.unsent ≡ links.unsent
    pub free_places : (other : ℕ) → places_to new.ends other ≡ places_to links.ends other
    pub places : after.places ≡ routes.places
    pub size : length after.parts ≡ length routes.parts
    pub moved_is : moved ≡ is_some came
    pub rings : SameRings links.ends new.ends
