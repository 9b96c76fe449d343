-- A slot of class 7 is its page.
use Rattle.std.proofs.Common.{refl}
use Rattle.kv_slab.specs.Pages.{over}
use Rattle.kv_slab.proofs.LeaveSteps.{on_ok_map}
use Rattle.kv_slab.proofs.WholeLemmas.{item_page}
use Rattle.kv_slab.proofs.write.write_page.Goals as goal

pub returns-clause-set : goal.returns-clause-set
returns-clause-set c = λ image. on_ok_map c.hold_whole.result (c.hold_whole.ensures.set image)
    (λ set.
    item_page c.args.place.class c.args.place.slot c.args.stamp c.args.key.now c.args.value.now
    (over image c.args.round.now) (over image c.hold_whole.new.round)
    c.place_spot-page.result.0 _ _ c.requires.class c.ranges.stamp.fits c.requires.item
    c.place_spot-page.ensures.page refl c.put_item.ensures.bytes set)
