-- the value is one of the batch's
use Rattle.std.proofs.Common.{◌≡◌, ◌≤◌, ◌∙◌, sym, subst, length, ap, option_copied}
use Rattle.kv_worker.proofs.FitLemmas.{framed-found, written-fits}
use Rattle.kv_worker.specs.Batches.{requests_in}
use Rattle.kv_worker.proofs.value.written_reply.Goals as goal

pub returns-in_ok-value-in-Some-clause-framed : goal.returns-in_ok-value-in-Some-clause-framed
returns-in_ok-value-in-Some-clause-framed c =
    framed-found c.args.stamp c.in_ok-value-in-Some.value c.ranges.stamp.fits
    (subst (λ v. length v ≤ 65400) (sym c.in_ok-value-in-Some.ensures.ok)
    (written-fits (requests_in c.args.tasks.now) c.args.task c.in-Some.value.now c.requires
    (sym c.value_written.ensures ∙ ap option_copied c.in-Some.is)))
