-- Disks and a sink that a report took are given back.
use Rattle.std.proofs.Common.{◌≡◌, inl, inr, ℕ, ◌<◌, List, [], length, Option}
use Rattle.std.proofs.Common.{Err, None, IsTrue, sym, ap, ◌∙◌, arith}
use Rattle.kv_disk.specs.declared.disk.Disk as disks
use Rattle.kv_site.specs.FileSite.{Counts}
use Rattle.kv_site.specs.Held.{Held, TakesReport, GivesReport}
use Rattle.kv_site.specs.declared.fault.TakeFault.{TakeFault}
use Rattle.kv_site.specs.declared.fault.TakeFault.TheVariants.{Failed, NoMemory}
use Rattle.kv_serve.specs.Outside.{Outside}
use Rattle.kv_serve.specs.Report.{AllKept, IsReported, RefusesReport, ReturnsAll}
use Rattle.kv_serve.specs.Taken.{AreHome, GivesDisks, IsTakeRefusal, TookDisks}
use Rattle.kv_serve.specs.declared.ended.Ended.{Ended}
use Rattle.kv_serve.specs.declared.ended.Refused.{Refused}
use Rattle.kv_serve.specs.declared.ended.Refused.TheVariants.{TakeDisk, TakeReport}
use Rattle.kv_serve.specs.declared.report.ReportKind.{ReportKind}
use Rattle.kv_serve.proofs.PlaceLemmas.{at-or-past, is_folder}

module _ {In Out Pages : Type 0} where
  -- the disks and the sink came back
  pub returns-all : (before between held given after : Held In Out Pages) (folder : List ℕ)
      (olds news : List Pages) (old new : Out) → TakesReport before between old
      → TookDisks between held folder olds → length news ≡ length olds
      → (AreHome held folder (length news) → GivesDisks held given folder news)
      → GivesReport given after new → ReturnsAll before after folder olds news old new
  returns-all before between held given after folder olds news old new takes took same gives sink =
      let back = gives (λ worker below. took.home worker (omega (arith, below, same))) in record {
        was = λ w d at. sym (takes.disks.held folder w) ∙ took.was w d at;
        back = λ w d at. sink.disks.held folder w ∙ back.back w d at;
        others = λ other w not. sink.disks.held other w
            ∙ back.others other w (λ is below. not is (omega (arith, below, same)))
            ∙ took.others other w not ∙ takes.disks.held other w;
        report_was = takes.was;
        report_back = sink.back (back.report.lent ∙ took.report.lent ∙ takes.lent);
        sessions = λ n. sink.sessions.held n ∙ back.sessions.held n ∙ took.sessions.held n
            ∙ takes.sessions.held n;
      }

  -- where they came back as they were taken, all is held as before
  pub all-kept : (before after : Held In Out Pages) (folder : List ℕ) (disks : List Pages) (old : Out)
      → ReturnsAll before after folder disks disks old old → AllKept before after
  all-kept before after folder disks old returns = record {
    sessions = returns.sessions;
    disks = λ f w. elim (is_folder f folder) [
      | inl same ↦ elim (at-or-past disks w) [
        | inl at ↦ ap (λ x. after.disks x w) same ∙ returns.back w at.0 at.1
            ∙ sym (returns.was w at.0 at.1) ∙ ap (λ x. before.disks x w) (sym same)
        | inr past ↦ returns.others f w (λ is below. absurd (omega (arith, past, below)))
      ]
      | inr other ↦ returns.others f w (λ is below. other is)
    ];
    report = returns.report_back ∙ sym returns.report_was;
  }

  -- a command whose report's sink the site refused
  pub refuses-sink : (o : Outside In Out Pages) (workers status : ℕ) (refused : Option Refused)
      (fault : TakeFault) → Counts {T = Unit {0}} o.faults o.faults' (Err fault)
      → IsTakeRefusal fault TakeReport status refused → RefusesReport o workers status refused
  refuses-sink o workers status refused Failed counted h = rw h.1 (h.0, counted)
  refuses-sink o workers status refused NoMemory counted h = rw h.1 (h.0, counted)

  -- a command one of whose disks the site refused
  pub refuses-disks : (o : Outside In Out Pages) (workers status worker : ℕ)
      (refused : Option Refused) (fault : TakeFault) → worker < workers
      → Counts {T = Unit {0}} o.faults o.faults' (Err fault)
      → IsTakeRefusal fault (TakeDisk worker) status refused
      → RefusesReport o workers status refused
  refuses-disks o workers status worker refused Failed below counted h =
      rw h.1 (h.0, below, counted)
  refuses-disks o workers status worker refused NoMemory below counted h = rw h.1 (h.0, counted)

  -- memory ran out before a report was made
  pub reported-at-once : (d : disks.Ghosts Pages) (o : Outside In Out Pages) (kind : ReportKind)
      (folder : List ℕ) (workers : ℕ) (ended : Ended) → ended.endings.items ≡ []
      → (IsTrue o.tells → o.after ≡ o.before) → o.faults' ≡ o.faults → ended.status ≡ 4
      → ended.refused ≡ None → IsReported d o kind folder workers ended
  reported-at-once d o kind folder workers ended none same calm four refused = record {
    endings = none;
    did = inl (
      λ t. record {
        sessions = λ n. ap (λ (held : Held In Out Pages). held.sessions n) (same t);
        disks = λ other worker.
            ap (λ (held : Held In Out Pages). held.disks other worker) (same t);
        report = ap (λ (held : Held In Out Pages). held.report) (same t);
      },
      rw refused (four, calm),
    );
  }
