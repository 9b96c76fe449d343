-- Each call goes on from what a crash could leave before it; the look at the first page adds
-- nothing.
use Rattle.std.proofs.Common.{◌≡◌, ℕ, ◌⊎◌, inl, inr, refl}
use Rattle.kv_base.specs.Image.{Image, with_page}
use Rattle.kv_base.proofs.CrashLemmas.{started, stays, writes, left-before}
use Rattle.kv_base.proofs.ImageLemmas.{only_image}
use Rattle.kv_disk.proofs.StepsLemmas.{reads_on}
use Rattle.kv_disk_tests.proofs.cache.copy_page.Goals as goal

-- the image before, or with the copy
abbrev IsCopied : Image → ℕ → ℕ → ℕ → Image → Type 0
IsCopied base file from to image = (image ≡ base)
    ⊎ (image ≡ with_page base file to (base file from))

pub returns-in_err-page-clause-any_moment : goal.returns-in_err-page-clause-any_moment
returns-in_err-page-clause-any_moment g c =
    let begun = started _ _ (IsCopied (g.D.Disk.seen c.args.cache.now.disk) c.args.file c.args.from
    c.args.to) (λ image left. inl (only_image _ _ image c.requires.durable left)) in
    reads_on g.D.Disk _ _ _ _ _ begun c.page.ensures.reads.reads

pub returns-in_err-write-clause-any_moment : goal.returns-in_err-write-clause-any_moment
returns-in_err-write-clause-any_moment g c =
    let base : Image = g.D.Disk.seen c.args.cache.now.disk in
    let begun = started _ _ (IsCopied base c.args.file c.args.from c.args.to)
    (λ image left. inl (only_image _ _ image c.requires.durable left)) in
    let looked = reads_on g.D.Disk _ _ _ _ _ begun c.page.ensures.reads.reads in
    writes c.args.file c.args.to _ c.write.result _ _ _ _ _ _ _ _
    (λ f p x left. (g.met.D.Disk.told c.page.new.self.disk _ f p x left).1) looked
    c.write.ensures.disk.call.past c.write.ensures.disk.crash
    (λ before left.
    let told = (g.met.D.Disk.told c.page.new.self.disk _ 0 0 (before 0 0) (left 0 0)).0 in
    let same : before ≡ base =
    only_image _ _ before c.requires.durable
    (left-before _ _ before c.page.ensures.reads.reads.crash.no_more left) in
    inr (rw (same, c.in_ok-page.ensures.content told) refl))

pub returns-clause-any_moment : goal.returns-clause-any_moment
returns-clause-any_moment g c =
    let base : Image = g.D.Disk.seen c.args.cache.now.disk in
    let begun = started _ _ (IsCopied base c.args.file c.args.from c.args.to)
    (λ image left. inl (only_image _ _ image c.requires.durable left)) in
    let looked = reads_on g.D.Disk _ _ _ _ _ begun c.page.ensures.reads.reads in
    let written = writes c.args.file c.args.to _ c.write.result _ _ _ _ _ _ _ _
    (λ f p x left. (g.met.D.Disk.told c.page.new.self.disk _ f p x left).1) looked
    c.write.ensures.disk.call.past c.write.ensures.disk.crash
    (λ before left.
    let told = (g.met.D.Disk.told c.page.new.self.disk _ 0 0 (before 0 0) (left 0 0)).0 in
    let same : before ≡ base =
    only_image _ _ before c.requires.durable
    (left-before _ _ before c.page.ensures.reads.reads.crash.no_more left) in
    inr (rw (same, c.in_ok-page.ensures.content told) refl)) in
    stays _ _ _ _ _ _ _ written c.sync.ensures.disk.call.past c.sync.ensures.disk.crash
