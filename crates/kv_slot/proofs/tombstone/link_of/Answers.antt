-- The link is read from the slot's header.
use Rattle.std.proofs.Common.{sym, ap, ◌∙◌, take, drop, arith}
use Rattle.std.proofs.lemmas.List.{take-take}
use Rattle.kv_model.specs.Layout.{slot_size}
use Rattle.kv_model.specs.Slots.{link_named, last_field}
use Rattle.kv_slot.proofs.SlotLemmas.{link_of_small, link_of_large}
use Rattle.kv_slot.proofs.tombstone.link_of.Goals as goal

pub returns-clause-value : goal.returns-clause-value
returns-clause-value c =
    c.link_at.ensures ∙ ap (λ header. link_named (last_field header))
    (take-take 16 _ (drop c.args.offset c.args.page.now) (omega arith))

pub returns-clause-small : goal.returns-clause-small
returns-clause-small c layout stamp link small is =
    let size = slot_size c.args.class in
    returns-clause-value c
    ∙ sym (ap (λ header. link_named (last_field header))
    (take-take 16 size (drop c.args.offset c.args.page.now)
    (omega (arith, c.tombstone_size-size.ensures.small small))))
    ∙ link_of_small layout c.args.class stamp _ link is

pub returns-clause-large : goal.returns-clause-large
returns-clause-large c layout stamp link later large is =
    returns-clause-value c
    ∙ ap (λ offset. link_named (last_field (take 16 (drop offset c.args.page.now))))
    (c.requires.large large)
    ∙ link_of_large layout c.args.class stamp c.args.page.now later link is
