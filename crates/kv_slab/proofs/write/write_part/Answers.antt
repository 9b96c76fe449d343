-- The item is put into its page.
use Rattle.std.proofs.Common.{ℕ, subst}
use Rattle.kv_base.specs.Image.{Image}
use Rattle.kv_model.specs.Layout.{all_classes}
use Rattle.kv_model.specs.SlotBytes.{item_bytes}
use Rattle.kv_slot.proofs.PlaceLemmas.{begin_with_stamp}
use Rattle.kv_slot.proofs.AgainLemmas.{items_again}
use Rattle.kv_slab.specs.Images.{Sets}
use Rattle.kv_slab.specs.Pages.{over, HasAt}
use Rattle.kv_slab.proofs.SetLemmas.{set_of_sets}
use Rattle.kv_slab.proofs.write.write_part.Goals as goal

pub put_item-requires-clause-at : goal.put_item-requires-clause-at
put_item-requires-clause-at g c = subst (λ (n : ℕ). HasAt c.bring.new.round c.in_ok-at.at
    c.args.place.class n) c.place_spot-page.ensures.page c.in_ok-at.ensures.at

pub returns-clause-set : goal.returns-clause-set
returns-clause-set g c = λ told.
    let seen = g.D.Disk.seen c.args.disk.now.disk in
    let bytes = item_bytes c.args.place.class c.args.stamp c.args.key.now c.args.value.now in
    set_of_sets c.args.place.class c.args.place.slot bytes _ c.args.stamp
    (over seen c.args.round.now) _ c.requires.place.low c.requires.small
    (items_again all_classes c.args.place.class c.args.stamp c.args.key.now c.args.value.now
    c.requires.small c.ranges.stamp.fits c.requires.item)
    (begin_with_stamp.item c.args.place.class c.args.stamp c.args.key.now c.args.value.now
    c.ranges.stamp.fits)
    (subst (λ (im : Image). Sets c.args.place.class c.args.place.slot bytes im
    (over seen c.put_item.new.self)) (c.in_ok-at.ensures.same told) (c.put_item.ensures.set seen))
