-- A session as its callers see it.
use Rattle.std.specs.Prelude.{◌≡◌, ℕ, List, [], Option, None, Some, Bool, false}
use Rattle.kv_base.specs.declared.cause.Cause.{Cause}
use Rattle.kv_session.specs.declared.ending.Ending.{Ending}
use Rattle.kv_session.specs.declared.gathered.Gathered.{Gathered}
use Rattle.kv_session.specs.declared.gathered.Gathered.TheVariants.{More, After, Ending as EndingOf}

-- its source and sink; the bytes that were taken and not used up, how many were taken, and whether
-- the input ended behind them; why reading ended, where it has; the stamp of the After that was
-- used up and isn't handled yet, where there is one; and how the session ended, where it has
pub record SessionState (So Si : Type 0) : Type 0 where
  pub source : So
  pub sink : Si
  pub waiting : List ℕ
  pub taken : ℕ
  pub ended : Bool
  pub closing : Option Cause
  pub after : Option ℕ
  pub ending : Option Ending

-- nothing was taken so far
pub record IsNew {So Si : Type 0} (session : SessionState So Si) : Type 0 where
  pub none_waits : session.waiting ≡ []
  pub none_taken : session.taken ≡ 0
  pub input : session.ended ≡ false
  pub reads : session.closing ≡ None
  pub none_after : session.after ≡ None
  pub goes_on : session.ending ≡ None

-- what the session took stays, and so does why its reading ended, and what isn't handled yet
pub record KeepsReading {So Si : Type 0} (old new : SessionState So Si) : Type 0 where
  pub source : new.source ≡ old.source
  pub waiting : new.waiting ≡ old.waiting
  pub taken : new.taken ≡ old.taken
  pub ended : new.ended ≡ old.ended
  pub closing : new.closing ≡ old.closing
  pub after : new.after ≡ old.after

-- the same without the After that isn't handled yet
abbrev pub after_taken : {So Si : Type 0} → SessionState So Si → SessionState So Si
after_taken session = record session { after = None }

-- the group ended by its last request, a Flush or an After while reading goes on, or with the
-- reading
abbrev pub EndsGroup : Gathered → Option Cause → Type 0
EndsGroup More closing = closing ≡ None
EndsGroup (After stamp) closing = closing ≡ None
EndsGroup (EndingOf cause) closing = closing ≡ Some cause
