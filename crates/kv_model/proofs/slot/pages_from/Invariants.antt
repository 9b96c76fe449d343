-- the pages so far
use Rattle.std.proofs.Common.{◌≡◌, map}
use Rattle.std.specs.List.{range_with_len}
use Rattle.kv_model.specs.Plain.{image_of}
use Rattle.kv_model.proofs.slot.pages_from.Given as goal

abbrev pub invariant-loop-number : goal.invariant-loop-number
invariant-loop-number l = l.list.items
    ≡ map (image_of l.pages l.file) (range_with_len l.first l.number)
