-- What reads with its class alone reads with all, but for items of a lesser class.
use Rattle.std.proofs.Common.{◌≤◌, ap, sym, ◌∙◌, length, take, drop, arith, length-drop}
use Rattle.std.proofs.lemmas.List.{length-take-le}
use Rattle.kv_model.specs.Layout.{slot_size}
use Rattle.kv_slot.proofs.SlotLemmas.{read_of_least, room_of_small}
use Rattle.kv_slot.specs.Views.{of_least_class}
use Rattle.kv_slot.proofs.small.read_slot.Goals as goal

pub returns : goal.returns
returns c =
    let class = c.args.class in
    let left = drop c.args.offset c.args.page.now in
    let fits : slot_size class ≤ length left =
    omega (
      arith,
      length-drop c.args.offset c.args.page.now,
      c.told-page,
      c.requires.within,
    ) in
    c.of_least_class.ensures ∙ ap (of_least_class class) c.read_fitting.ensures
    ∙ sym (read_of_least class (take (slot_size class) left) (length-take-le (slot_size class) left
    fits ∙ sym (room_of_small class c.requires.class.1)))
