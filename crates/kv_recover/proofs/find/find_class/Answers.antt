-- The length, the pages that may have slots, and the pages past them.
use Rattle.std.proofs.Common.{◌*◌, sym, ap, ◌∙◌, subst, length}
use Rattle.kv_model.specs.Layout.{slots_in_page}
use Rattle.kv_recover.specs.Pass.{HasFound}
use Rattle.kv_recover.proofs.SlabLemmas.{finds-class}
use Rattle.kv_disk.proofs.StepsLemmas.{reads-then}
use Rattle.kv_recover.proofs.find.find_class.Goals as goal

pub returns-in_err-seen-clause-reads : goal.returns-in_err-seen-clause-reads
returns-in_err-seen-clause-reads g c =
    reads-then g.D.Disk _ _ _ c.length_of.ensures.reads c.find_in_pages.ensures.reads

pub returns-in_err-check_blanks-clause-reads : goal.returns-in_err-check_blanks-clause-reads
returns-in_err-check_blanks-clause-reads g c =
    reads-then g.D.Disk _ _ _ (reads-then g.D.Disk _ _ _ c.length_of.ensures.reads
    c.find_in_pages.ensures.reads) c.check_blanks.ensures.reads

pub returns-clause-reads : goal.returns-clause-reads
returns-clause-reads g c =
    reads-then g.D.Disk _ _ _ (reads-then g.D.Disk _ _ _ c.length_of.ensures.reads
    c.find_in_pages.ensures.reads) c.check_blanks.ensures.reads

pub returns-clause-found : goal.returns-clause-found
returns-clause-found g c = λ tells.
    let first = c.length_of.ensures.reads.seen tells in
    let second = c.find_in_pages.ensures.reads.seen tells in
    let pages = c.in_ok-seen.ensures.found tells in
    finds-class (g.D.Disk.seen c.args.disk.now) c.args.class c.in_ok-pages.pages
    c.most_pages-most.result c.min.result c.args.share.worker c.args.share.workers _ _ c.args.floor
    c.in_ok-seen.seen.floor c.in_ok-seen.seen.end c.requires.class.0 c.requires.class.1
    c.most_pages-most.ensures.value c.min.ensures (c.in_ok-pages.ensures.rest tells)
    (λ page from below. ap (λ image. image c.args.class page) (sym first)
    ∙ ap (λ image. image c.args.class page) (sym second)
    ∙ c.in_ok-check_blanks.ensures.ok tells page from below)
    (λ page below. ap (λ image. length (image c.args.class page)) (sym first)
    ∙ c.in_ok-seen.ensures.whole tells page below)
    (subst (λ image. HasFound image c.args.share.worker c.args.share.workers c.args.class 0
    (g.I.Index.entries c.args.items.now.index) c.args.floor 0
    → HasFound image c.args.share.worker c.args.share.workers c.args.class
    (c.min.result * slots_in_page c.args.class) (g.I.Index.entries c.find_in_pages.new.items.index)
    c.in_ok-seen.seen.floor c.in_ok-seen.seen.end) first pages)
