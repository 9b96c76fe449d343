use Rattle.std.proofs.Common.{◌≡◌, ◌<◌, map, set, get_or, length, List, ap, sym, subst, ◌∙◌, arith}
use Rattle.std.proofs.lemmas.List.{map-set}
use Rattle.kv_base.specs.Fault.{Counted}
use Rattle.kv_site.specs.PageFile.{DiskFiles, image_in, put_page, IsPutOrNot}
use Rattle.kv_site.specs.PageFile.{CountedIn}
use Rattle.kv_site.proofs.FileLemmas.{image-put, image-put_or_not, counted_in, on_ok}
use Rattle.kv_site.proofs.file_disk.FileDiskDisk.write.Goals as goal

pub returns-clause-written : goal.returns-clause-written
returns-clause-written g c = λ tells.
    let files = c.args.self.now.files in
    let is : c.self.inside.files.items ≡ files =
    ap (λ (d : DiskFiles g.row.F.Denot). d.files) c.self.view_is in
    let file = c.write-outcome.new.self in
    let was = c.index_mut.result.now in
    let here : was ≡ get_or files c.args.file was = c.index_mut.ensures.value
    ∙ ap (λ (fs : List g.row.F.Denot). get_or fs c.args.file was) is in
    let now : c.count.new.self.files ≡ set files c.args.file file =
    ap (λ (d : DiskFiles g.row.F.Denot). d.files) c.count.ensures
    ∙ ap (λ (fs : List g.row.F.Denot). set fs c.args.file file) is in
    let size : c.args.file < length files = omega (
      arith,
      c.requires.file,
      c.self.invariant,
      c.self.inside.files.ok.0,
      ap (λ (fs : List g.row.F.Denot). length fs) is,
    ) in
    on_ok c.write-outcome.result (λ put. ap (image_in g.F.PageFile.reads) now
    ∙ image-put g.F.PageFile.reads files c.args.file file was c.args.page c.args.content.now size
    (put ∙ ap (λ (f : g.row.F.Denot). put_page (g.F.PageFile.reads f) c.args.page
    c.args.content.now) here)) (c.write-outcome.ensures.written tells)

pub returns-clause-seen : goal.returns-clause-seen
returns-clause-seen g c = λ tells.
    let files = c.args.self.now.files in
    let is : c.self.inside.files.items ≡ files =
    ap (λ (d : DiskFiles g.row.F.Denot). d.files) c.self.view_is in
    let file = c.write-outcome.new.self in
    let was = c.index_mut.result.now in
    let here : was ≡ get_or files c.args.file was = c.index_mut.ensures.value
    ∙ ap (λ (fs : List g.row.F.Denot). get_or fs c.args.file was) is in
    let now : c.count.new.self.files ≡ set files c.args.file file =
    ap (λ (d : DiskFiles g.row.F.Denot). d.files) c.count.ensures
    ∙ ap (λ (fs : List g.row.F.Denot). set fs c.args.file file) is in
    let size : c.args.file < length files = omega (
      arith,
      c.requires.file,
      c.self.invariant,
      c.self.inside.files.ok.0,
      ap (λ (fs : List g.row.F.Denot). length fs) is,
    ) in
    rw now (image-put_or_not g.F.PageFile.reads files c.args.file file was c.args.page
    c.args.content.now size (subst (λ f. IsPutOrNot (g.F.PageFile.reads f)
    (g.F.PageFile.reads file) c.args.page c.args.content.now) here (c.write-outcome.ensures.seen tells)))

pub returns-clause-marked : goal.returns-clause-marked
returns-clause-marked g c =
    let files = c.args.self.now.files in
    let is : c.self.inside.files.items ≡ files =
    ap (λ (d : DiskFiles g.row.F.Denot). d.files) c.self.view_is in
    let file = c.write-outcome.new.self in
    let was = c.index_mut.result.now in
    let here : was ≡ get_or files c.args.file was = c.index_mut.ensures.value
    ∙ ap (λ (fs : List g.row.F.Denot). get_or fs c.args.file was) is in
    let now : c.count.new.self.files ≡ set files c.args.file file =
    ap (λ (d : DiskFiles g.row.F.Denot). d.files) c.count.ensures
    ∙ ap (λ (fs : List g.row.F.Denot). set fs c.args.file file) is in
    ap (map g.F.PageFile.synced) now ∙ map-set g.F.PageFile.synced files c.args.file file
    ∙ ap (λ mark. set (map g.F.PageFile.synced files) c.args.file mark) c.write-outcome.ensures.marked

pub returns-clause-file : goal.returns-clause-file
returns-clause-file g c =
    let files = c.args.self.now.files in
    let is : c.self.inside.files.items ≡ files =
    ap (λ (d : DiskFiles g.row.F.Denot). d.files) c.self.view_is in
    let file = c.write-outcome.new.self in
    let was = c.index_mut.result.now in
    let here : was ≡ get_or files c.args.file was = c.index_mut.ensures.value
    ∙ ap (λ (fs : List g.row.F.Denot). get_or fs c.args.file was) is in
    let now : c.count.new.self.files ≡ set files c.args.file file =
    ap (λ (d : DiskFiles g.row.F.Denot). d.files) c.count.ensures
    ∙ ap (λ (fs : List g.row.F.Denot). set fs c.args.file file) is in
    let size : c.args.file < length files = omega (
      arith,
      c.requires.file,
      c.self.invariant,
      c.self.inside.files.ok.0,
      ap (λ (fs : List g.row.F.Denot). length fs) is,
    ) in
    subst (λ (after : List g.row.F.Denot). CountedIn g.F.PageFile.faults c.args.file files after
    c.write-outcome.result) (sym now) (counted_in g.F.PageFile.faults files c.args.file file was
    c.write-outcome.result size (subst (λ (f : g.row.F.Denot). Counted (g.F.PageFile.faults f)
    (g.F.PageFile.faults file) c.write-outcome.result) here c.write-outcome.ensures.counted))
