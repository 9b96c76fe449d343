use Rattle.std.proofs.Common.{◌≡◌, ◌<◌, ◌+◌, suc, true, map, set, get_or, length, drop}
use Rattle.std.proofs.Common.{replicate, ◌++◌, ap, sym, ◌∙◌, arith, Bool, List}
use Rattle.std.proofs.lemmas.List.{map-set, get_or-map, length-map}
use Rattle.std.proofs.Math.Seq.{map-set_same}
use Rattle.kv_site.proofs.FileLemmas.{image-kept, marks-synced, marks-here}
use Rattle.kv_site.proofs.file_disk.sync_files.Goals as goal

pub returns-in-Err-clause-seen : goal.returns-in-Err-clause-seen
returns-in-Err-clause-seen g c = λ tells.
    let files = c.loop-at.files.items in
    let was = c.index_mut.result.now in
    let here : was ≡ get_or files c.loop-at.at was = c.index_mut.ensures.value in
    image-kept g.F.PageFile.reads files c.loop-at.at c.sync_file.new.file was
    (c.sync_file.ensures.seen tells ∙ ap g.F.PageFile.reads here) ∙ c.loop-at.invariant.seen tells

-- the file that failed wasn't durable, nor is it
pub returns-in-Err-clause-marks : goal.returns-in-Err-clause-marks
returns-in-Err-clause-marks g c =
    let synced = g.F.PageFile.synced in
    let files = c.loop-at.files.items in
    let at = c.loop-at.at in
    let old : List Bool = map synced c.args.files.now.items in
    let was = c.index_mut.result.now in
    let here : was ≡ get_or files at was = c.index_mut.ensures.value in
    let size : at < length files = omega (
      arith,
      c.loop-at-test.true,
      c.len-at-end.ensures,
      c.loop-at.invariant.length,
      c.requires,
      c.loop-at.files.ok.0,
    ) in
    let old_size : at < length old = omega (
      arith,
      c.loop-at-test.true,
      c.len-at-end.ensures,
      c.requires,
      c.args.files.now.ok.0,
      length-map c.args.files.now.items synced,
    ) in (
      at,
      omega (arith, c.loop-at-test.true, c.len-at-end.ensures, c.requires),
      sym (marks-here old at true old_size)
          ∙ ap (λ (marks : List Bool). get_or marks at true) (sym c.loop-at.invariant.marks)
          ∙ get_or-map synced files at was true size ∙ ap synced (sym here) ∙ c.in-Err.ensures.was,
      map-set_same synced files at c.sync_file.new.file was
          (c.in-Err.ensures.still ∙ sym c.in-Err.ensures.was ∙ ap synced here)
          ∙ c.loop-at.invariant.marks,
    )

pub loop-at-preserved : goal.loop-at-preserved
loop-at-preserved g c =
    let synced = g.F.PageFile.synced in
    let files = c.loop-at.files.items in
    let at = c.loop-at.at in
    let old : List Bool = map synced c.args.files.now.items in
    let was = c.index_mut.result.now in
    let here : was ≡ get_or files at was = c.index_mut.ensures.value in
    let old_size : at < length old = omega (
      arith,
      c.loop-at-test.true,
      c.len-at-end.ensures,
      c.requires,
      c.args.files.now.ok.0,
      length-map c.args.files.now.items synced,
    ) in
    let next : suc at ≡ at + 1 = omega arith in
    record {
      length = c.loop-at.invariant.length;
      marks = map-set synced files at c.sync_file.new.file
          ∙ ap (λ mark. set (map synced files) at mark) c.in-Ok.ensures.done
          ∙ ap (λ (marks : List Bool). set marks at true) c.loop-at.invariant.marks
          ∙ marks-synced old at old_size
          ∙ ap (λ n. replicate n true ++ drop n old) next;
      seen = λ tells. image-kept g.F.PageFile.reads files at c.sync_file.new.file was
          (c.sync_file.ensures.seen tells ∙ ap g.F.PageFile.reads here)
          ∙ c.loop-at.invariant.seen tells;
    }
