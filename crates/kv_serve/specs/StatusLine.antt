-- What is said of how a command ended.
use Rattle.std.specs.Prelude.{ℕ, ◌+◌, ◌==◌, List, [], ◌∷◌, ◌++◌, codes}
use Rattle.std.specs.Prelude.{Option, None, Some, if◌then◌else◌}
use Rattle.std.specs.Fmt.{decimal}
use Rattle.std.specs.List.{concat}
use Rattle.kv_base.specs.declared.cause.Cause.{Cause}
use Rattle.kv_base.specs.declared.cause.Cause.TheVariants.{End, Malformed, Limit, SourceFault}
use Rattle.kv_base.specs.declared.cause.Cause.TheVariants.{SinkFault}
use Rattle.kv_recover.specs.declared.fault.OpenFault.{OpenFault}
use Rattle.kv_recover.specs.declared.fault.OpenFault.TheVariants.{NotAStore, OtherStore, StampsSpent}
use Rattle.kv_recover.specs.declared.fault.OpenFault.TheVariants.{DiskFault, NoMemory}
use Rattle.kv_session.specs.declared.ending.Ending.{Ending}
use Rattle.kv_serve.specs.declared.ended.Refused.{Refused}
use Rattle.kv_serve.specs.declared.ended.Refused.TheVariants.{Disk, TakeDisk, TakeSession}
use Rattle.kv_serve.specs.declared.ended.Refused.TheVariants.{TakeReport}
use Rattle.kv_serve.specs.declared.ended.Ended.{Ended}

-- a cause that isn't End
abbrev pub cause_text : Cause → Option (List ℕ)
cause_text End = None
cause_text (Malformed offset) = Some (codes "malformed at " ++ decimal offset)
cause_text Limit = Some (codes "limit")
cause_text SourceFault = Some (codes "source fault")
cause_text SinkFault = Some (codes "sink fault")

-- a session with a cause that isn't End, or the sessions behind it
abbrev pub session_text : ℕ → Option (List ℕ) → List ℕ → List ℕ
session_text session None behind = behind
session_text session (Some cause) behind = concat (
    codes "kvell: session " ∷ decimal session ∷ codes " ended: " ∷ cause ∷ [])

-- the first session from this one on whose cause isn't End; else a write is unsure
abbrev pub sessions_text : ℕ → List Ending → List ℕ
sessions_text session [] = codes "kvell: a write is unsure"
sessions_text session (ending ∷ endings) = session_text session (cause_text ending.cause)
    (sessions_text (session + 1) endings)

-- the text at status 1
abbrev pub failed_text : List Ending → List ℕ
failed_text [] = codes "kvell: report fault"
failed_text (ending ∷ endings) = sessions_text 0 (ending ∷ endings)

-- a worker of so many
abbrev pub worker_text : ℕ → ℕ → List ℕ
worker_text worker workers =
    concat (codes "worker " ∷ decimal worker ∷ codes " of " ∷ decimal workers ∷ [])

-- why a disk was refused
abbrev pub fault_text : OpenFault → List ℕ
fault_text NotAStore = codes "not a store"
fault_text (OtherStore worker workers asked asked_workers) = concat (
    codes "store of " ∷ worker_text worker workers ∷ codes ", asked for "
    ∷ worker_text asked asked_workers ∷ [])
fault_text (StampsSpent stamp) = codes "stamps spent at " ++ decimal stamp
fault_text DiskFault = codes "disk fault"
fault_text NoMemory = codes "out of memory"

-- what was refused
abbrev pub refused_text : Refused → List ℕ
refused_text (Disk worker fault) = concat (
    codes "kvell: disk " ∷ decimal worker ∷ codes ": " ∷ fault_text fault ∷ [])
refused_text (TakeDisk worker) = concat (
    codes "kvell: disk " ∷ decimal worker ∷ codes ": cannot be taken" ∷ [])
refused_text (TakeSession session) = concat (
    codes "kvell: session " ∷ decimal session ∷ codes ": cannot be taken" ∷ [])
refused_text TakeReport = codes "kvell: report: cannot be taken"

-- the text where something was refused
abbrev pub refusal_text : Option Refused → Option (List ℕ)
refusal_text None = None
refusal_text (Some refused) = Some (refused_text refused)

-- the text of words that are no command
abbrev pub usage_text : List ℕ
usage_text = codes "kvell: usage: serve DIR N IN OUT [IN OUT ..] / check DIR N / dump DIR N / try SEED COUNT N"

-- the text by the status
abbrev pub text_at : ℕ → Ended → Option (List ℕ)
text_at status ended = if status == 1 then Some (failed_text ended.endings.items)
    else if status == 2 then Some usage_text
    else if status == 3 then refusal_text ended.refused
    else if status == 4 then Some (codes "kvell: out of memory")
    else None

-- what is said of how a command ended; nothing where all went well
abbrev pub status_text : Ended → Option (List ℕ)
status_text ended = text_at ended.status ended
