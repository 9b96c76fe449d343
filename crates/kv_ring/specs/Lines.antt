-- One party's ends of the two rings between it and another party.
use Rattle.std.specs.Prelude.{◌≡◌, []}
use Rattle.std.specs.declared.alloc.Global.{Global}
use denote.RawPtr.{Ptr}
use Rattle.rtrb.specs.Shared.{Names}
use Rattle.rtrb.specs.Ring.{sent, received, known_items}
use Rattle.rtrb.specs.declared.producer.Producer.{Producer}
use Rattle.rtrb.specs.declared.consumer.Consumer.{Consumer}
use Rattle.kv_ring.specs.declared.end.End.{End}

-- which ring an end is one of
pub record Ring : Type 0 where
  pub words : Ptr
  pub slots : Ptr
  pub names : Names
  pub heap : Global

-- the two rings between a party and another: the one into which it pushes, and the one from which
-- it pops
pub record Line : Type 0 where
  pub out : Ring
  pub back : Ring

-- the ring of a producer
abbrev pub ring_into : {T P : Type 0} → Producer T Global P → Ring
ring_into producer = record {
  words = producer.end.words;
  slots = producer.end.slots;
  names = producer.end.names;
  heap = producer.end.heap;
}

-- the ring of a consumer
abbrev pub ring_from : {T P : Type 0} → Consumer T Global P → Ring
ring_from consumer = record {
  words = consumer.end.words;
  slots = consumer.end.slots;
  names = consumer.end.names;
  heap = consumer.end.heap;
}

-- the rings of a party's end
abbrev pub line_of : {S R : Type 0} → End S R → Line
line_of end = record { out = ring_into end.out; back = ring_from end.back }

-- the same rings as the other party has them
abbrev pub other_side : Line → Line
other_side line = record { out = line.back; back = line.out }

-- the two ends of the same rings
abbrev pub IsLine : {S R : Type 0} → End S R → End R S → Type 0
IsLine near far = line_of near ≡ other_side (line_of far)

-- nothing was sent or received
pub record IsNew {S R : Type 0} (end : End S R) : Type 0 where
  pub sent : sent end.out ≡ []
  pub received : received end.back ≡ []
  pub known : known_items end.back ≡ []
