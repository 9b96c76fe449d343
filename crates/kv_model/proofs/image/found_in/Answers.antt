-- One more slot.
use Rattle.std.proofs.Common.{arith}
use Rattle.kv_base.specs.declared.place.Place.{Place}
use Rattle.kv_model.specs.Layout.{all_classes}
use Rattle.kv_model.specs.Plain.{image_of, item_in}
use Rattle.kv_model.specs.Reading.{slot_at}
use Rattle.kv_model.proofs.ListedLemmas.{flat_map-step}
use Rattle.kv_model.proofs.image.found_in.Goals as goal

pub loop-place-preserved : goal.loop-place-preserved
loop-place-preserved c = flat_map-step (λ (place : Place). item_in c.args.share.worker
    c.args.share.workers place (slot_at all_classes (image_of c.args.pages.now) place.class
    place.slot)) c.args.places.now c.loop-place.place-index _ c.loop-place.found.items _
    (omega arith) c.in_ok-push_found.ensures c.loop-place.invariant
