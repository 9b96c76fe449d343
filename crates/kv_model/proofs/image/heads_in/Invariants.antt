-- the numbers in the slots so far
use Rattle.std.proofs.Common.{◌≡◌, take}
use Rattle.kv_model.specs.Plain.{image_of, heads_in}
use Rattle.kv_model.proofs.image.heads_in.Given as goal

abbrev pub invariant-loop-place : goal.invariant-loop-place
invariant-loop-place l = l.heads.items
    ≡ heads_in (image_of l.pages) (take l.place-index l.places)
