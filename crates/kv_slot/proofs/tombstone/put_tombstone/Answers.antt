-- The part of the page that is filled is the tombstone.
use Rattle.std.proofs.Common.{◌≡◌, ◌+◌, ◌-◌, sym, ap, ◌∙◌, length, arith}
use Rattle.std.proofs.lemmas.Grind.{common_steps}
use Rattle.kv_model.specs.Padding.{padded}
use Rattle.kv_model.specs.SlotBytes.{header_bytes, tombstone_bytes, tombstone_size}
use Rattle.kv_slot.proofs.OverwriteLemmas.{part_put}
use Rattle.kv_slot.proofs.tombstone.put_tombstone.Goals as goal

pub returns-clause-bytes : goal.returns-clause-bytes
unfolding tombstone_bytes
returns-clause-bytes c =
    let count : length c.fill_tombstone.new.slot ≡ c.args.offset + c.tombstone_size-size.result
    - c.args.offset = c.fill_tombstone.auto.slot ∙ grind (arith, common_steps) in
    let size : c.args.offset + c.tombstone_size-size.result - c.args.offset
    ≡ tombstone_size c.args.class = omega (arith, c.tombstone_size-size.ensures.value) in
    part_put c.args.page.now c.fill_tombstone.new.slot _ c.args.offset _ (c.fill_tombstone.ensures
    ∙ ap (λ n. padded n (header_bytes c.args.stamp 2 0 c.link_field.result))
    (sym c.fill_tombstone.auto.slot ∙ count ∙ size)
    ∙ ap (λ field. padded (tombstone_size c.args.class) (header_bytes c.args.stamp 2 0 field))
    c.link_field.ensures) count
