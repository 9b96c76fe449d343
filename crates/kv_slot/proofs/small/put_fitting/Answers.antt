-- The part of the page that is filled is the slot.
use Rattle.std.proofs.Common.{◌++◌, ap, ◌∙◌, arith}
use Rattle.std.proofs.lemmas.Grind.{common_steps}
use Rattle.kv_model.specs.Padding.{padded}
use Rattle.kv_model.specs.SlotBytes.{item_bytes, item_header}
use Rattle.kv_slot.proofs.OverwriteLemmas.{part_put}
use Rattle.kv_slot.proofs.small.put_fitting.Goals as goal

pub returns-clause-bytes : goal.returns-clause-bytes
unfolding item_bytes
returns-clause-bytes c =
    let key = c.args.key.now in
    let value = c.args.value.now in
    part_put c.args.page.now c.fill_item.new.slot _ c.args.offset _ (c.fill_item.ensures
    ∙ ap (λ size. padded size (item_header c.args.stamp key value ++ key ++ value))
    (grind (arith, common_steps))) (c.fill_item.auto.slot ∙ grind (arith, common_steps))
