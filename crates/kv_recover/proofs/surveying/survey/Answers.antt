-- What is found is counted.
use Rattle.std.proofs.Common.{◌≡◌, ℕ, ◌+◌, ◌-◌, ◌<◌, slice_get, get_or, Bool, true, false}
use Rattle.std.proofs.Common.{sym, ap, ◌∙◌, subst, arith}
use Rattle.std.proofs.lemmas.Bool.{false≢true}
use Rattle.kv_base.specs.Image.{Image}
use Rattle.kv_disk.proofs.StepsLemmas.{reads-then}
use Rattle.kv_model.specs.Head.{head_page}
use Rattle.kv_model.specs.Layout.{all_classes}
use Rattle.kv_model.specs.Reading.{slot_at, IsFloor}
use Rattle.kv_model.specs.Recovery.{IsNew}
use Rattle.kv_recover.specs.HeadCheck.{IsReadable}
use Rattle.kv_recover.specs.Kinds.{kind_at, HasTally}
use Rattle.kv_recover.specs.Opened.{IsEndOf}
use Rattle.kv_recover.proofs.FilteredLemmas.{get-within}
use Rattle.kv_recover.proofs.OpenedLemmas.{all-heads}
use Rattle.kv_recover.proofs.ReadingLemmas.{found-holds}
use Rattle.kv_recover.proofs.SurveyLemmas.{tally-counts}
use Rattle.kv_recover.proofs.surveying.survey.Goals as goal

is_new : (fresh : Bool) (image : Image) (worker workers : ℕ) → IsReadable fresh image worker workers
    → fresh ≡ true → IsNew image
is_new true image worker workers readable is = readable
is_new false image worker workers readable is = absurd (false≢true is)

is_old : (fresh : Bool) (image : Image) (worker workers : ℕ) → IsReadable fresh image worker workers
    → fresh ≡ false → image 0 0 ≡ head_page worker workers
is_old true image worker workers readable is = absurd (false≢true (sym is))
is_old false image worker workers readable is = readable

pub returns-in_err-counts-clause-reads : goal.returns-in_err-counts-clause-reads
returns-in_err-counts-clause-reads g c =
    reads-then g.D.Disk _ _ _ c.read_all.ensures.reads c.count_all.ensures.reads

pub returns-clause-reads : goal.returns-clause-reads
returns-clause-reads g c =
    reads-then g.D.Disk _ _ _ c.read_all.ensures.reads c.count_all.ensures.reads

pub returns-clause-sums : goal.returns-clause-sums
returns-clause-sums g c = λ class count is.
    let same : class ≡ class + 1 - 1 = omega arith in
    (c.in_ok-counts.ensures.ends (class + 1) count (omega arith)
    (ap (slice_get c.in_ok-counts.counts.classes.items) (sym same) ∙ is)).1

pub returns-clause-survey : goal.returns-clause-survey
returns-clause-survey g c = λ tells.
    let image = g.D.Disk.seen c.args.disk.now in
    let worker = c.args.worker in
    let workers = c.args.workers in
    let entries = c.read_all.new.items.index.entries in
    let found = c.in_ok-fresh.ensures.found tells in
    let ends = c.in_ok-fresh.found.ends in
    record {
      fresh_is = is_new c.in_ok-fresh.fresh image worker workers
          (c.in_ok-fresh.ensures.readable tells);
      old_is = is_old c.in_ok-fresh.fresh image worker workers
          (c.in_ok-fresh.ensures.readable tells);
      floor_is = subst (λ h. IsFloor h c.in_ok-fresh.found.floor) (all-heads image)
          found.found.floor_is;
      each = λ class count low is.
          let within = get-within c.in_ok-counts.counts.classes.items count (class - 1) is in
          let all = c.in_ok-counts.ensures.count in
          let below : class < 12 = omega arith in
          let end_is : get_or ends class 0 ≡ count.end =
          sym (c.in_ok-counts.ensures.ends class count low is).0 in
          record {
            end_is = subst (IsEndOf image class) end_is (found.ends_are class low below);
            counts = tally-counts image worker workers c.in_ok-fresh.found.floor entries
                (found-holds image worker workers entries _ _ found) class count.end count
                (subst (λ n. HasTally (λ s. kind_at entries worker workers class s
                (slot_at all_classes image class s)) n count) end_is
                (subst (λ i. HasTally (λ s. kind_at entries worker workers class s
                (slot_at all_classes i class s)) (get_or ends class 0) count)
                (c.read_all.ensures.reads.seen tells)
                (c.in_ok-counts.ensures.tally tells class count low is)));
          };
    }
