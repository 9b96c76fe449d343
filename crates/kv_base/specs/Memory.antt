-- Sources and sinks in memory, as their callers see them.
use Rattle.std.specs.Prelude.{◌≡◌, ℕ, ◌-◌, ◌⊎◌, ◌↔◌, min, List, length, Contains, Result, IsErr}
use Rattle.std.specs.Prelude.{IfOk, IsOkAnd, OnErr, is_err, if◌then◌else◌}
use Rattle.kv_base.specs.Calls.{next_count}
use Rattle.kv_base.specs.Stream.{Stream}

-- a source in memory: its bytes, the most that one read gives, the numbers of the calls that fail,
-- and its counts
pub record MemorySource : Type 0 where
  pub stream : Stream
  pub piece : ℕ
  pub failing : List ℕ
  pub calls : ℕ
  pub faults : ℕ

-- a read fails exactly at a listed call, and otherwise gives as much as the buffer, the piece and
-- the rest allow
pub record Reads {E : Type 0} (old new : MemorySource) (buffer : List ℕ)
    (result : Result ℕ E) : Type 0 where
  pub failed : IsErr result ↔ Contains old.failing (next_count old.calls)
  pub given : IfOk result (λ n. n ≡ min (length buffer) (min old.piece (length old.stream.left)))
  pub piece : new.piece ≡ old.piece
  pub failing : new.failing ≡ old.failing
  pub calls : new.calls ≡ next_count old.calls
  pub faults : new.faults ≡ (if is_err result then next_count old.faults else old.faults)

-- a source in memory that never fails: its bytes, and the most that one read gives
pub record FaultlessSource : Type 0 where
  pub stream : Stream
  pub piece : ℕ

-- a read never fails, and gives as much as the buffer, the piece and the rest allow
pub record FaultlessReads {E : Type 0} (old new : FaultlessSource) (buffer : List ℕ) (result : Result ℕ E) :
    Type 0 where
  pub given : IsOkAnd result (λ n. n ≡ min (length buffer) (min old.piece (length old.stream.left)))
  pub piece : new.piece ≡ old.piece

-- a sink in memory: what it took, the room that is left, the numbers of the calls that fail, and
-- its counts
pub record MemorySink : Type 0 where
  pub taken : List ℕ
  pub room : ℕ
  pub failing : List ℕ
  pub calls : ℕ
  pub faults : ℕ

-- a write fails exactly at a listed call and where no room is left, and otherwise takes what the
-- room holds
pub record Writes {E : Type 0} (old new : MemorySink) (bytes : List ℕ)
    (result : Result ℕ E) : Type 0 where
  pub failed : IsErr result ↔ (Contains old.failing (next_count old.calls) ⊎ (old.room ≡ 0))
  pub given : IfOk result (λ n. (n ≡ min (length bytes) old.room) × (new.room ≡ old.room - n))
  pub room : OnErr result (new.room ≡ old.room)
  pub failing : new.failing ≡ old.failing
  pub calls : new.calls ≡ next_count old.calls
  pub faults : new.faults ≡ (if is_err result then next_count old.faults else old.faults)
