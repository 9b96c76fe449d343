use Rattle.std.proofs.Common.{◌≡◌, ◌<◌, map, set, get_or, length, List, ap, sym, subst, ◌∙◌, arith}
use Rattle.std.proofs.Math.Seq.{map-set_same}
use Rattle.kv_base.specs.Fault.{Counted}
use Rattle.kv_site.specs.PageFile.{DiskFiles, image_in, CountedIn}
use Rattle.kv_site.proofs.FileLemmas.{image-kept, counted_in}
use Rattle.kv_site.proofs.file_disk.FileDiskDisk.read.Goals as goal

pub returns-clause-seen : goal.returns-clause-seen
returns-clause-seen g c = λ tells.
    let files = c.args.self.now.files in
    let is : c.self.inside.files.items ≡ files =
    ap (λ (d : DiskFiles g.row.F.Denot). d.files) c.self.view_is in
    let file = c.read-outcome.new.self in
    let was = c.index_mut.result.now in
    let here : was ≡ get_or files c.args.file was = c.index_mut.ensures.value
    ∙ ap (λ (fs : List g.row.F.Denot). get_or fs c.args.file was) is in
    let now : c.count.new.self.files ≡ set files c.args.file file =
    ap (λ (d : DiskFiles g.row.F.Denot). d.files) c.count.ensures
    ∙ ap (λ (fs : List g.row.F.Denot). set fs c.args.file file) is in
    ap (image_in g.F.PageFile.reads) now ∙ image-kept g.F.PageFile.reads files c.args.file file was
    (c.read-outcome.ensures.seen tells ∙ ap g.F.PageFile.reads here)

pub returns-clause-kept : goal.returns-clause-kept
returns-clause-kept g c =
    let files = c.args.self.now.files in
    let is : c.self.inside.files.items ≡ files =
    ap (λ (d : DiskFiles g.row.F.Denot). d.files) c.self.view_is in
    let file = c.read-outcome.new.self in
    let was = c.index_mut.result.now in
    let here : was ≡ get_or files c.args.file was = c.index_mut.ensures.value
    ∙ ap (λ (fs : List g.row.F.Denot). get_or fs c.args.file was) is in
    let now : c.count.new.self.files ≡ set files c.args.file file =
    ap (λ (d : DiskFiles g.row.F.Denot). d.files) c.count.ensures
    ∙ ap (λ (fs : List g.row.F.Denot). set fs c.args.file file) is in
    ap (map g.F.PageFile.synced) now ∙ map-set_same g.F.PageFile.synced files c.args.file file was
    (c.read-outcome.ensures.kept ∙ ap g.F.PageFile.synced here)

pub returns-clause-file : goal.returns-clause-file
returns-clause-file g c =
    let files = c.args.self.now.files in
    let is : c.self.inside.files.items ≡ files =
    ap (λ (d : DiskFiles g.row.F.Denot). d.files) c.self.view_is in
    let file = c.read-outcome.new.self in
    let was = c.index_mut.result.now in
    let here : was ≡ get_or files c.args.file was = c.index_mut.ensures.value
    ∙ ap (λ (fs : List g.row.F.Denot). get_or fs c.args.file was) is in
    let now : c.count.new.self.files ≡ set files c.args.file file =
    ap (λ (d : DiskFiles g.row.F.Denot). d.files) c.count.ensures
    ∙ ap (λ (fs : List g.row.F.Denot). set fs c.args.file file) is in
    let size : c.args.file < length files = omega (
      arith,
      c.requires.file,
      c.self.invariant,
      c.self.inside.files.ok.0,
      ap (λ (fs : List g.row.F.Denot). length fs) is,
    ) in
    subst (λ (after : List g.row.F.Denot). CountedIn g.F.PageFile.faults c.args.file files after
    c.read-outcome.result) (sym now) (counted_in g.F.PageFile.faults files c.args.file file was
    c.read-outcome.result size (subst (λ (f : g.row.F.Denot). Counted (g.F.PageFile.faults f)
    (g.F.PageFile.faults file) c.read-outcome.result) here c.read-outcome.ensures.counted))
