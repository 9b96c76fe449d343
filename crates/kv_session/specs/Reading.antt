-- A session's bytes as they come from its source.
use Rattle.std.specs.Prelude.{◌≡◌, ℕ, ◌+◌, ◌^◌, ◌<◌, List, [], ◌∷◌, ◌++◌, length, Option}
use Rattle.std.specs.Prelude.{Bool, true, false}
use Rattle.kv_base.specs.declared.cause.Cause.{Cause}
use Rattle.kv_base.specs.declared.cause.Cause.TheVariants.{End, Malformed, Limit, SourceFault}
use Rattle.kv_base.specs.declared.cause.Cause.TheVariants.{SinkFault}
use Rattle.kv_base.specs.declared.reply.Reply.{Reply}
use Rattle.kv_base.specs.declared.reply.Reply.TheVariants as reply
use Rattle.kv_base.specs.declared.request.Request.{Request}
use Rattle.kv_base.specs.Stream.{Stream, Passes}
use Rattle.kv_model.specs.Frames.{BeginsWithRequest, BeginsWithNoRequest, IsPartial, IsMalformed}
use Rattle.kv_model.specs.Transcript.{EndsReading}
use Rattle.kv_session.specs.Passage.{source_faults_for}
use Rattle.kv_session.specs.declared.fill.Front.{Front}
use Rattle.kv_session.specs.declared.fill.Front.TheVariants as front

-- the bytes that were taken and not used up, how many were taken, and whether the input ended
-- behind them
pub record ReaderState (So : Type 0) : Type 0 where
  pub source : So
  pub waiting : List ℕ
  pub taken : ℕ
  pub ended : Bool

-- no byte was taken so far
pub record NothingRead {So : Type 0} (reader : ReaderState So) : Type 0 where
  pub none_waits : reader.waiting ≡ []
  pub none_taken : reader.taken ≡ 0
  pub goes_on : reader.ended ≡ false

-- bytes passed from the source and stand behind those that waited, and they are counted
pub record Arrives (before now : Option Stream) (waiting after : List ℕ)
    (count total : ℕ) : Type 0 where
  pub bytes : List ℕ
  pub passed : Passes before now bytes
  pub behind : after ≡ waiting ++ bytes
  pub counted : total ≡ count + length bytes

-- a request's frame begins the bytes
pub record HasRequest (waiting : List ℕ) : Type 0 where
  pub request : Request
  pub rest : List ℕ
  pub begins : BeginsWithRequest waiting request rest

-- what is replied behind the last group where reading ended for this cause
abbrev pub closing_for : Cause → List Reply
closing_for End = []
closing_for (Malformed offset) = reply.Malformed offset ∷ []
closing_for Limit = []
closing_for SourceFault = []
closing_for SinkFault = []

-- reading ends for this cause with this rest of the bytes, of which so many were taken
abbrev pub EndsFor : Cause → List ℕ → Bool → ℕ → Type 0
EndsFor cause waiting ended taken = (bytes : List ℕ) → length bytes ≡ taken
    → EndsReading cause bytes waiting ended (closing_for cause)

-- no request begins the bytes, and more of them could make one
pub record IsUndecided (waiting : List ℕ) (ended : Bool) : Type 0 where
  pub none : BeginsWithNoRequest waiting
  pub goes_on : ended ≡ false
  pub good : IsMalformed waiting → ⊥

-- a part of a frame or nothing stands at the front, and more bytes may be taken
pub record NeedsMore (waiting : List ℕ) (ended : Bool) (taken : ℕ) : Type 0 where
  pub partial : IsPartial waiting
  pub undecided : IsUndecided waiting ended
  pub below : taken < 2 ^ 40

-- reading ends for this cause, which no read shows
pub record EndsUnread (cause : Cause) (waiting : List ℕ) (ended : Bool) (taken : ℕ) : Type 0 where
  pub ends : EndsFor cause waiting ended taken
  pub calm : (n : ℕ) → source_faults_for cause n ≡ n

-- what stands at the front of the bytes, of which so many were taken
abbrev pub IsFront : Front → List ℕ → Bool → ℕ → Type 0
IsFront front.Request waiting ended taken = HasRequest waiting
IsFront (front.Over cause) waiting ended taken = EndsUnread cause waiting ended taken
IsFront front.More waiting ended taken = NeedsMore waiting ended taken

-- the reader stays as it was where a request stands at the front, or what never becomes one, or
-- where the input has ended
pub record StaysDecided {So : Type 0} (old new : ReaderState So) : Type 0 where
  pub front : HasRequest old.waiting → new ≡ old
  pub bad : IsMalformed old.waiting → new ≡ old
  pub ended : old.ended ≡ true → new ≡ old
