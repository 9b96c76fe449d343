-- The tombstone is put into its page.
use Rattle.std.proofs.Common.{ℕ, IsTrue, subst, ◌<◌, ◌^◌}
use Rattle.kv_base.specs.Image.{Image}
use Rattle.kv_model.specs.Layout.{all_classes}
use Rattle.kv_model.specs.SlotBytes.{tombstone_bytes}
use Rattle.kv_slot.proofs.PlaceLemmas.{begin_with_stamp}
use Rattle.kv_slot.proofs.AgainLemmas.{tombstones_again}
use Rattle.kv_slab.specs.Images.{Sets}
use Rattle.kv_slab.specs.Pages.{over, HasAt}
use Rattle.kv_slab.proofs.LeaveSteps.{if_some}
use Rattle.kv_slab.proofs.SetLemmas.{set_of_sets, sets_later}
use Rattle.kv_slab.proofs.vacate.vacate_part.Given.{Over}
use Rattle.kv_slab.proofs.vacate.vacate_part.Goals as goal
use Rattle.kv_slab.proofs.vacate.vacate_part.Goals.{After-put_tombstone}

pub put_tombstone-requires-clause-at : goal.put_tombstone-requires-clause-at
put_tombstone-requires-clause-at g c = subst (λ (n : ℕ). HasAt c.bring.new.round c.in_ok-at.at
    c.args.place.class n) c.place_spot-page.ensures.page c.in_ok-at.ensures.at

-- the slot has its bytes
sets : (g : Over) (c : After-put_tombstone g) → IsTrue g.D.Disk.tells
    → Sets c.args.place.class c.args.place.slot
    (tombstone_bytes c.args.place.class c.args.stamp c.args.link)
    (over (over (g.D.Disk.seen c.args.disk.now.disk) c.args.first.now) c.args.round.now)
    (over (over (g.D.Disk.seen c.args.disk.now.disk) c.args.first.now) c.put_tombstone.new.self)
sets g c told =
    let base = over (g.D.Disk.seen c.args.disk.now.disk) c.args.first.now in
    subst (λ (im : Image). Sets c.args.place.class c.args.place.slot (tombstone_bytes
    c.args.place.class c.args.stamp c.args.link) im (over base c.put_tombstone.new.self))
    (c.in_ok-at.ensures.same told) (c.put_tombstone.ensures.set base)

pub returns-clause-set : goal.returns-clause-set
returns-clause-set g c = λ told.
    set_of_sets c.args.place.class c.args.place.slot (tombstone_bytes c.args.place.class
    c.args.stamp c.args.link) _ c.args.stamp (over (over (g.D.Disk.seen c.args.disk.now.disk)
    c.args.first.now) c.args.round.now) _ c.requires.place.low c.requires.small
    (tombstones_again all_classes c.args.place.class c.args.stamp c.args.link c.ranges.stamp.fits
    (if_some c.args.link (λ slot. slot < 2 ^ 24) c.requires.link))
    (begin_with_stamp.tombstone c.args.place.class c.args.stamp c.args.link c.ranges.stamp.fits)
    (sets g (goal.at.returns-clause-set g c).After-put_tombstone told)

pub returns-clause-later : goal.returns-clause-later
returns-clause-later g c = λ told.
    sets_later c.args.place.class c.args.place.slot (tombstone_bytes c.args.place.class c.args.stamp
    c.args.link) (over (over (g.D.Disk.seen c.args.disk.now.disk) c.args.first.now)
    c.args.round.now) _ c.requires.small
    (sets g (goal.at.returns-clause-later g c).After-put_tombstone told)
