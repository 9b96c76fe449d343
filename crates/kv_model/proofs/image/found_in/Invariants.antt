-- the items in the slots so far
use Rattle.std.proofs.Common.{◌≡◌, take}
use Rattle.kv_model.specs.Plain.{image_of, found_in}
use Rattle.kv_model.proofs.image.found_in.Given as goal

abbrev pub invariant-loop-place : goal.invariant-loop-place
invariant-loop-place l = l.found.items
    ≡ found_in (image_of l.pages) l.share.worker l.share.workers (take l.place-index l.places)
