-- A tombstone fills the first page of its slot.
use Rattle.std.proofs.Common.{◌<◌, ◌^◌, refl}
use Rattle.kv_slab.specs.Pages.{over}
use Rattle.kv_slab.proofs.LeaveSteps.{on_ok_map, if_some}
use Rattle.kv_slab.proofs.WholeLemmas.{tombstone_page, tombstone_later}
use Rattle.kv_slab.proofs.vacate.vacate_page.Goals as goal

pub returns-clause-set : goal.returns-clause-set
returns-clause-set c = λ image. on_ok_map c.hold_whole.result (c.hold_whole.ensures.set image)
    (λ set.
    tombstone_page c.args.place.class c.args.place.slot c.args.stamp c.args.link
    (over image c.args.round.now) (over image c.hold_whole.new.round)
    c.place_spot-page.result.0 _ _ c.requires.class c.requires.place.high c.ranges.stamp.fits
    (if_some c.args.link (λ slot. slot < 2 ^ 24) c.requires.link)
    c.place_spot-page.ensures.page refl c.put_tombstone.ensures.bytes set)

pub returns-clause-later : goal.returns-clause-later
returns-clause-later c = λ image. on_ok_map c.hold_whole.result (c.hold_whole.ensures.set image)
    (λ set.
    tombstone_later c.args.place.class c.args.place.slot (over image c.args.round.now)
    (over image c.hold_whole.new.round)
    c.place_spot-page.result.0 _ c.requires.class c.place_spot-page.ensures.page set)
