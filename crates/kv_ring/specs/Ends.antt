-- A party's ends, as contracts see them: what it sent and received, by the other party's number.
use Rattle.std.specs.Prelude.{◌≡◌, ℕ, List, [], length, map, slice_index_or}
use Rattle.std.specs.Prelude.{◌≢◌, ◌+◌, ◌++◌, ◌≤◌, Option, Some, None, nat_eq, if◌then◌else◌}
use Rattle.std.specs.Option.{option_map}
use Rattle.rtrb.specs.Ring.{sent, received, known_free, known_items}
use Rattle.kv_ring.specs.Lines.{Line, line_of, other_side}
use Rattle.kv_ring.specs.declared.ends.Ends.{Ends}

-- the list where the numbers are the same, and else nothing
abbrev pub only_at : {X : Type 0} → ℕ → ℕ → List X → List X
only_at place other xs = if nat_eq other place then xs else []

module _ {S R : Type 0} {most : ℕ} where
  -- the rings, by the other party's number
  abbrev pub all_lines : Ends S R most → List (Option Line)
  all_lines ends = map (λ end. Some (line_of end)) ends.ends.items

  -- the rings between this party and the other of this number
  abbrev pub line_to : Ends S R most → ℕ → Option Line
  line_to ends other = slice_index_or (all_lines ends) other None

  -- how many parties there are at the other side
  abbrev pub peers : Ends S R most → ℕ
  peers ends = length ends.ends.items

  -- what was sent to the party of this number
  abbrev pub sent_to : Ends S R most → ℕ → List S
  sent_to ends other = slice_index_or (map (λ end. sent end.out) ends.ends.items) other []

  -- what was received from it
  abbrev pub received_from : Ends S R most → ℕ → List R
  received_from ends other =
      slice_index_or (map (λ end. received end.back) ends.ends.items) other []

  -- what this end knows to lie in the ring from it: the next pops give it
  abbrev pub known_from : Ends S R most → ℕ → List R
  known_from ends other =
      slice_index_or (map (λ end. known_items end.back) ends.ends.items) other []

  -- how many free places this end knows of in the ring to it
  abbrev pub places_to : Ends S R most → ℕ → ℕ
  places_to ends other = slice_index_or (map (λ end. known_free end.out) ends.ends.items) other 0

  -- how many pushes were handed back
  abbrev pub refusals : Ends S R most → ℕ
  refusals ends = ends.handed_back

  -- the same rings
  pub record SameRings (ends new : Ends S R most) : Type 0 where
    pub peers : peers new ≡ peers ends
    pub lines : (other : ℕ) → line_to new other ≡ line_to ends other

  -- nothing was sent, and all places that were known are
  pub record SameOut (ends new : Ends S R most) : Type 0 where
    pub sent : (other : ℕ) → sent_to new other ≡ sent_to ends other
    pub places : (other : ℕ) → places_to new other ≡ places_to ends other
    pub refusals : refusals new ≡ refusals ends

  -- nothing was received, and all messages that were known are
  pub record SameBack (ends new : Ends S R most) : Type 0 where
    pub received : (other : ℕ) → received_from new other ≡ received_from ends other
    pub known : (other : ℕ) → known_from new other ≡ known_from ends other

  -- nothing was sent or received on any ring, and only on those to and from the party of this
  -- number may more be known
  pub record Looked (peer : ℕ) (ends new : Ends S R most) : Type 0 where
    pub rings : SameRings ends new
    pub sent : (other : ℕ) → sent_to new other ≡ sent_to ends other
    pub received : (other : ℕ) → received_from new other ≡ received_from ends other
    pub refusals : refusals new ≡ refusals ends
    pub known : (other : ℕ) → other ≢ peer → known_from new other ≡ known_from ends other
    pub places : (other : ℕ) → other ≢ peer → places_to new other ≡ places_to ends other

  -- nothing was sent, received or handed back
  pub record IsFresh (ends : Ends S R most) : Type 0 where
    pub sent : (other : ℕ) → sent_to ends other ≡ []
    pub received : (other : ℕ) → received_from ends other ≡ []
    pub known : (other : ℕ) → known_from ends other ≡ []
    pub refusals : refusals ends ≡ 0

module _ {S R : Type 0} {most limit : ℕ} where
  -- these are ends of the same two rings: of a session of this number, and of a worker of this
  -- number
  abbrev pub AreBetween : Ends S R most → ℕ → Ends R S limit → ℕ → Type 0
  AreBetween session_ends session worker_ends worker =
      line_to worker_ends session ≡ option_map other_side (line_to session_ends worker)

  -- all that was sent was received, or is known to lie in the ring
  abbrev pub HasAll : Ends S R most → ℕ → Ends R S limit → ℕ → Type 0
  HasAll sender receiver receiving peer =
      sent_to sender receiver ≡ received_from receiving peer ++ known_from receiving peer

  -- the places of the ring that hold no message are known to be free
  abbrev pub KnowsPlaces : Ends S R most → ℕ → Ends R S limit → ℕ → Type 0
  KnowsPlaces sender receiver receiving peer =
      2 ≤ places_to sender receiver + length (known_from receiving peer)
