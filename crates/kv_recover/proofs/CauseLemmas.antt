-- Causes of refusals, handed on.
use Rattle.std.proofs.Common.{◌≡◌, inl, inr, ℕ, sym, subst, ap, ◌∙◌}
use Rattle.std.proofs.Common.{Result, Ok, Err, IfErr, OnErr}
use Rattle.std.specs.Result.{IsErrAnd}
use Rattle.kv_base.specs.Image.{Image, zero_page}
use Rattle.kv_slot.proofs.HeadLemmas.{zeros_no_head}
use Rattle.kv_recover.specs.declared.fault.OpenFault.{OpenFault}
use Rattle.kv_recover.specs.declared.fault.OpenFault.TheVariants.{NotAStore, OtherStore, StampsSpent}
use Rattle.kv_recover.specs.declared.fault.OpenFault.TheVariants.{DiskFault, NoMemory}
use Rattle.kv_recover.specs.Faults.{faults_after, AreFaultsCounted}
use Rattle.kv_recover.specs.Causes.{HasReadCause, HasHeadCause, HasMakeCause, IsUsed}
use Rattle.kv_recover.specs.Causes.{HasCheckCause, IsPastEnd, IsNoOthers, IsOwn}

-- what is known of an error holds of the error that is handed on
pub handed : {T E : Type 0} (result : Result T E) (P Q : E → Type 0) → IsErrAnd result P
    → ((e : E) → P e → Q e) → IfErr result Q
handed (Ok x) P Q is so = tt
handed (Err e) P Q is so = so e is

-- what an error ensures gives another fact of it
pub if_err : {T E : Type 0} (result : Result T E) (P Q : E → Type 0) → IfErr result P
    → ((e : E) → P e → Q e) → IfErr result Q
if_err (Ok x) P Q ensured so = tt
if_err (Err e) P Q ensured so = so e ensured

-- what holds anyway holds where there is an error
pub on_err : {T E : Type 0} (result : Result T E) (P : Type 0) → P → OnErr result P
on_err (Ok x) P is = tt
on_err (Err e) P is = is

-- a disk that can't be made a store
pub make-cause : (tells : Type 0) (first now : Image) (worker workers : ℕ)
    (fault : OpenFault) → (tells → now ≡ first) → (tells → first 0 0 ≡ zero_page)
    → HasCheckCause (tells → IsUsed now) fault
    → HasMakeCause tells first worker workers fault
make-cause tells first now worker workers NotAStore same zero cause = λ told. (
  inr (inl (zero told, subst IsUsed (same told) (cause told))),
  (λ a b head. absurd (zeros_no_head (first 0 0) a b (zero told) head)),
)
make-cause tells first now worker workers (OtherStore a b c d) same zero cause = absurd cause
make-cause tells first now worker workers (StampsSpent stamp) same zero cause = absurd cause
make-cause tells first now worker workers DiskFault same zero cause = tt
make-cause tells first now worker workers NoMemory same zero cause = absurd cause

-- a disk whose head page is refused
pub head-cause : (tells : Type 0) (first : Image) (worker workers : ℕ)
    (fault : OpenFault) → HasHeadCause tells (first 0 0) worker workers fault
    → HasMakeCause tells first worker workers fault
head-cause tells first worker workers NotAStore cause = λ told. (
  inl (cause told),
  (λ a b head. absurd ((cause told).1 a b head)),
)
head-cause tells first worker workers (OtherStore a b c d) cause = cause
head-cause tells first worker workers (StampsSpent stamp) cause = absurd cause
head-cause tells first worker workers DiskFault cause = cause
head-cause tells first worker workers NoMemory cause = absurd cause

-- a disk with a byte past the most slots of a class
pub past-cause : (tells : Type 0) (first : Image) (worker workers : ℕ)
    (fault : OpenFault) → (tells → IsNoOthers (first 0 0) worker workers)
    → (tells → IsOwn first worker workers)
    → HasReadCause (tells → IsPastEnd first) fault
    → HasMakeCause tells first worker workers fault
past-cause tells first worker workers NotAStore others own cause = λ told. (
  inr (inr (cause told)),
  others told,
)
past-cause tells first worker workers (OtherStore a b c d) others own cause = absurd cause
past-cause tells first worker workers (StampsSpent stamp) others own cause = absurd cause
past-cause tells first worker workers DiskFault others own cause = tt
past-cause tells first worker workers NoMemory others own cause = own

-- the refusal of a disk that reads as another one does
pub at_first : (tells : Type 0) (now first : Image) (fault : OpenFault)
    → (tells → now ≡ first) → HasReadCause (tells → IsPastEnd now) fault
    → HasReadCause (tells → IsPastEnd first) fault
at_first tells now first NotAStore same cause = λ told.
    subst IsPastEnd (same told) (cause told)
at_first tells now first (OtherStore a b c d) same cause = cause
at_first tells now first (StampsSpent stamp) same cause = cause
at_first tells now first DiskFault same cause = cause
at_first tells now first NoMemory same cause = tt

-- counted from the beginning, where nothing failed before
pub counted_since : {T : Type 0} (before mid now : ℕ) (result : Result T OpenFault)
    → mid ≡ before → AreFaultsCounted mid now result → AreFaultsCounted before now result
counted_since before mid now (Ok x) same counted = counted ∙ same
counted_since before mid now (Err fault) same counted =
    counted ∙ ap (λ n. faults_after n fault) same

-- the count at a refusal that is handed on
pub counted_on : {T : Type 0} (before mid now : ℕ) (fault : OpenFault) (result : Result T OpenFault)
    → mid ≡ before → now ≡ faults_after mid fault → IsErrAnd result (λ e. e ≡ fault)
    → AreFaultsCounted before now result
counted_on before mid now fault (Ok x) same counted is = absurd is
counted_on before mid now fault (Err e) same counted is =
    counted ∙ ap (λ n. faults_after n fault) same ∙ ap (faults_after before) (sym is)
