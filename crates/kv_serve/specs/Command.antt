-- What a command does, from the site as it was to the site as it is.
use Rattle.std.specs.Prelude.{length}
use Rattle.kv_disk.specs.declared.disk.Disk.{Ghosts}
use Rattle.kv_words.specs.Words.{Asked, serve, check, dump}
use Rattle.kv_serve.specs.Outside.{Outside}
use Rattle.kv_serve.specs.Report.{IsReported}
use Rattle.kv_serve.specs.Serve.{IsDone}
use Rattle.kv_serve.specs.declared.ended.Ended.{Ended}
use Rattle.kv_serve.specs.declared.report.ReportKind.TheVariants.{Check, Dump}

-- sessions are served, or a report is made
abbrev pub Does : {In Out Pages : Type 0} → Ghosts Pages → Outside In Out Pages → Asked → Ended
    → Type 0
Does d o (serve serving) ended = IsDone d o serving.folder serving.workers serving.limits
    (length serving.sessions) ended
Does d o (check reporting) ended = IsReported d o Check reporting.folder reporting.workers ended
Does d o (dump reporting) ended = IsReported d o Dump reporting.folder reporting.workers ended
