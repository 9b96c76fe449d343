use Rattle.std.proofs.Common.{◌≡◌, inl, inr, subst, OnOk}
use Rattle.kv_base.specs.Image.{Image}
use Rattle.kv_base.proofs.CrashLemmas.{joins}
use Rattle.kv_slab.specs.Images.{Mix}
use Rattle.kv_slab.specs.Pages.{over, InRounds}
use Rattle.kv_slab.proofs.RunLemmas.{weaker_left}
use Rattle.kv_slab.proofs.rounds.carry_out.Goals as goal

pub returns-in_err-write_pages-clause-any_moment : goal.returns-in_err-write_pages-clause-any_moment
returns-in_err-write_pages-clause-any_moment g c = weaker_left _ _ _ _ _ _
    c.write_pages.ensures.any_moment (λ _ image _ h. inl h)

pub returns-clause-any_moment : goal.returns-clause-any_moment
returns-clause-any_moment g c =
    joins (g.D.Disk.calls c.args.disk.now.disk) (g.D.Disk.calls c.write_pages.new.disk.disk)
    (g.D.Disk.calls c.write_pages-2.new.disk.disk)
    (g.D.Disk.leaves c.args.disk.now.disk) (g.D.Disk.leaves c.write_pages.new.disk.disk)
    (g.D.Disk.leaves c.write_pages-2.new.disk.disk)
    (InRounds (g.D.Disk.seen c.args.disk.now.disk) c.args.first.now c.args.second.now)
    (weaker_left _ _ _ _ _ _ c.write_pages.ensures.any_moment (λ _ image _ h. inl h))
    (weaker_left _ _ _ _ _ _ c.write_pages-2.ensures.any_moment (λ t image may h.
    let told = g.met.D.Disk.told c.write_pages-2.new.disk.disk t 0 0 (image 0 0) (may 0 0) in
    inr (subst (λ (i : Image). Mix i (over i c.args.second.now) image)
    (c.in_ok-write_pages.ensures.written told.0) h)))

pub returns-clause-written : goal.returns-clause-written
returns-clause-written g c = λ told.
    subst (λ (i : Image). OnOk c.write_pages-2.result (g.D.Disk.seen c.write_pages-2.new.disk.disk
    ≡ over i c.args.second.now)) (c.in_ok-write_pages.ensures.written told)
    (c.write_pages-2.ensures.written told)
