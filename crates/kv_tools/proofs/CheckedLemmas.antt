-- One disk more is reported.
use Rattle.std.proofs.Common.{◌≡◌, ◌≢◌, inl, inr, ℕ, ◌+◌, ◌<◌, List, [], ◌∷◌, ◌++◌, length}
use Rattle.std.proofs.Common.{slice_get, Some, Option, Err, IsTrue, refl, sym, ap, ◌∙◌, subst, arith}
use Rattle.std.proofs.Common.{append_assoc, append-nil, length-append}
use Rattle.std.proofs.lemmas.Option.{same_Some}
use Rattle.kv_base.specs.Image.{Image}
use Rattle.kv_base.specs.Stream.{Takes}
use Rattle.kv_base.proofs.StreamLemmas.{Takes-trans}
use Rattle.kv_disk.specs.declared.disk.Disk.{Ghosts}
use Rattle.kv_model.specs.Layout.{all_classes}
use Rattle.kv_model.specs.Recovery.{OpensAs}
use Rattle.kv_recover.specs.declared.kind.Survey.{Survey}
use Rattle.kv_recover.specs.declared.fault.OpenFault.{OpenFault}
use Rattle.kv_recover.specs.declared.fault.OpenFault.TheVariants.{NotAStore, OtherStore, StampsSpent}
use Rattle.kv_recover.specs.declared.fault.OpenFault.TheVariants as open_faults
use Rattle.kv_recover.specs.Causes.{HasMakeCause, IsNoStore, IsNoOthers, IsOtherStore, IsOwn}
use Rattle.kv_recover.specs.Kinds.{IsSurvey}
use Rattle.kv_recover.proofs.FilteredLemmas.{get-push}
use Rattle.kv_tools.specs.declared.fault.ToolFault.{ToolFault}
use Rattle.kv_tools.specs.declared.fault.ToolFault.TheVariants.{Store, DiskFault, SinkFault, NoMemory}
use Rattle.kv_tools.specs.Checked.{IsSurveyOf, AreSurveys, Checks, ChecksUntil}
use Rattle.kv_tools.specs.CheckedDisk.{ChecksDisk, ChecksDiskUntil}
use Rattle.kv_tools.specs.Faults.{HasReportCause, disk_faults}
use Rattle.kv_tools.specs.Lines.{disk_lines, report}
use Rattle.kv_tools.proofs.DisksLemmas.{other_count}
use Rattle.kv_tools.proofs.SentLemmas.{front_behind}

-- a cause of a disk that was only read until now
pub cause_was : {D : Type 0} (d : Ghosts D) (disk mid : D) (worker workers : ℕ) (fault : OpenFault)
    → (IsTrue d.tells → d.seen mid ≡ d.seen disk)
    → HasMakeCause (IsTrue d.tells) (d.seen mid) worker workers fault
    → HasMakeCause (IsTrue d.tells) (d.seen disk) worker workers fault
cause_was d disk mid worker workers NotAStore same cause = λ tells.
    subst (λ (i : Image). IsNoStore i × IsNoOthers (i 0 0) worker workers) (same tells) (cause tells)
cause_was d disk mid worker workers (OtherStore a b c e) same cause = (
  cause.0,
  cause.1,
  (λ tells. subst (λ (i : Image). IsOtherStore (i 0 0) worker workers a b) (same tells)
      (cause.2 tells)),
)
cause_was d disk mid worker workers (StampsSpent stamp) same cause = absurd cause
cause_was d disk mid worker workers open_faults.DiskFault same cause = tt
cause_was d disk mid worker workers open_faults.NoMemory same cause = λ tells.
    subst (λ (i : Image). IsOwn i worker workers) (same tells) (cause tells)

-- the lines of one disk more
report-push : (first : ℕ) (surveys : List Survey) (survey : Survey)
    → report first (surveys ++ survey ∷ [])
    ≡ report first surveys ++ disk_lines (first + length surveys) survey
report-push first [] survey =
    append-nil (disk_lines first survey)
    ∙ ap (λ n. disk_lines n survey) (let same : first ≡ first + 0 = omega arith in same)
report-push first (x ∷ xs) survey =
    ap (λ t. disk_lines first x ++ t) (report-push (first + 1) xs survey)
    ∙ ap (λ n. disk_lines first x ++ (report (first + 1) xs ++ disk_lines n survey))
    (let same : first + 1 + length xs ≡ first + length (x ∷ xs) = omega arith in same)
    ∙ sym (append_assoc (disk_lines first x) (report (first + 1) xs)
    (disk_lines (first + length (x ∷ xs)) survey))

module _ {D : Type 0} (d : Ghosts D) (disks : List D) (worker : ℕ) (disk mid : D)
    (at : slice_get disks worker ≡ Some disk) (within : worker < length disks)
    (same : IsTrue d.tells → d.seen mid ≡ d.seen disk) where
  -- a disk that was only read until now
  survey_was : (survey : Survey) → IsSurveyOf d mid worker (length disks) survey
      → IsSurveyOf d disk worker (length disks) survey
  survey_was survey is = record {
    opens = λ tells. subst (λ (i : Image). OpensAs all_classes i worker (length disks)) (same tells)
        (is.opens tells);
    says = λ tells. subst (λ (i : Image). IsSurvey i worker (length disks) survey.fresh survey.floor
        survey.classes.items) (same tells) (is.says tells);
    classes = is.classes;
    sums = is.sums;
    keys = is.keys;
  }

  surveys_more : (surveys : List Survey) (survey : Survey) → AreSurveys d disks surveys
      → length surveys ≡ worker → IsSurveyOf d mid worker (length disks) survey
      → AreSurveys d disks (surveys ++ survey ∷ [])
  surveys_more surveys survey are count is = record {
    within = omega (arith, length-append surveys (survey ∷ []));
    each = λ w x s at_w at_s. elim (get-push surveys survey s w at_s) [
      | inl was ↦ are.each w x s at_w was
      | inr last ↦
          let here : w ≡ worker = last.0 ∙ count in
          let disk_is : disk ≡ x = same_Some disk x (sym at ∙ ap (slice_get disks) (sym here) ∙ at_w) in
          subst (λ n. IsSurveyOf d x n (length disks) s) (sym here)
          (subst (λ y. IsSurveyOf d y worker (length disks) s) disk_is
          (subst (IsSurveyOf d disk worker (length disks)) last.1 (survey_was survey is)))
    ];
  }

  report_more : (surveys : List Survey) (survey : Survey) → length surveys ≡ worker
      → report 0 surveys ++ disk_lines worker survey ≡ report 0 (surveys ++ survey ∷ [])
  report_more surveys survey count = sym (report-push 0 surveys survey
      ∙ ap (λ n. report 0 surveys ++ disk_lines n survey)
      (let is : 0 + length surveys ≡ worker = omega arith in is))

  pub checks-next : (before between now : Option (List ℕ)) → Checks d disks worker before between
      → ChecksDisk d mid worker (length disks) between now → Checks d disks (worker + 1) before now
  checks-next before between now checks next = record {
    surveys = checks.surveys ++ next.survey ∷ [];
    surveys_are = surveys_more checks.surveys next.survey checks.surveys_are checks.count_is
        next.survey_is;
    count_is = length-append checks.surveys (next.survey ∷ []) ∙ ap (λ n. n + 1) checks.count_is;
    took = subst (Takes before now) (report_more checks.surveys next.survey checks.count_is)
        (Takes-trans before between now (report 0 checks.surveys) (disk_lines worker next.survey)
        checks.took next.took);
  }

  checks-none : (before between now : Option (List ℕ)) → Checks d disks worker before between
      → Takes between now [] → Checks d disks worker before now
  checks-none before between now checks none = record {
    surveys = checks.surveys;
    surveys_are = checks.surveys_are;
    count_is = checks.count_is;
    took = subst (Takes before now) (append-nil (report 0 checks.surveys))
        (Takes-trans before between now (report 0 checks.surveys) [] checks.took none);
  }

  pub checks-until : (before between now : Option (List ℕ)) (fault : ToolFault)
      → Checks d disks worker before between
      → ChecksDiskUntil d mid worker (length disks) between now fault
      → ChecksUntil d disks before now fault
  checks-until before between now (Store other fault) checks until =
      subst (λ w. Checks d disks w before now) (sym until.0)
      (checks-none before between now checks until.2)
  checks-until before between now (DiskFault other) checks until = absurd until
  checks-until before between now SinkFault checks until = record {
    surveys = checks.surveys ++ until.survey ∷ [];
    surveys_are = surveys_more checks.surveys until.survey checks.surveys_are checks.count_is
        until.survey_is;
    took = front_behind before between now (report 0 checks.surveys)
        (disk_lines worker until.survey) (report 0 (checks.surveys ++ until.survey ∷ []))
        (report_more checks.surveys until.survey checks.count_is) checks.took until.took;
  }
  checks-until before between now NoMemory checks until =
      (worker, checks-none before between now checks until)

  pub checks-cause : (between now : Option (List ℕ)) (fault : ToolFault)
      → ChecksDiskUntil d mid worker (length disks) between now fault
      → HasReportCause d disks fault
  checks-cause between now (Store other fault) until = (
    disk,
    ap (slice_get disks) until.0 ∙ at,
    record {
      cause = subst (λ w. HasMakeCause (IsTrue d.tells) (d.seen disk) w (length disks) fault)
          (sym until.0) (cause_was d disk mid worker (length disks) fault same until.1.cause);
      other = until.1.other;
    },
  )
  checks-cause between now (DiskFault other) until = absurd until
  checks-cause between now SinkFault until = tt
  checks-cause between now NoMemory until = tt

-- no other disk has a fault
pub checks-others : {D : Type 0} (T : Type 0) (d : Ghosts D) (mid : D) (worker workers : ℕ)
    (between now : Option (List ℕ)) (fault : ToolFault)
    → ChecksDiskUntil d mid worker workers between now fault → (w n : ℕ) → w ≢ worker
    → disk_faults {T = T} (Err fault) w n ≡ n
checks-others T d mid worker workers between now (Store at fault) until w n other =
    other_count at w _ n (λ same. other (sym same ∙ until.0))
checks-others T d mid worker workers between now (DiskFault at) until w n other = absurd until
checks-others T d mid worker workers between now SinkFault until w n other = refl
checks-others T d mid worker workers between now NoMemory until w n other = refl
