-- What stands in the slot is read from its bytes.
use Rattle.std.proofs.Common.{◌≡◌, IfOk, ap, sym, ◌∙◌, subst}
use Rattle.std.specs.Option.{option_to_list}
use Rattle.kv_model.specs.Layout.{all_classes}
use Rattle.kv_model.specs.Plain.{image_of, item_in}
use Rattle.kv_model.specs.Slots.{Slot, read_large}
use Rattle.kv_model.proofs.PlainLemmas.{has_class-some, slot_at-parts}
use Rattle.kv_model.proofs.image.item_at.Goals as goal

pub returns : goal.returns
returns c =
    let place = c.args.place in
    let e = ap (read_large all_classes place.class) c.in_ok-slot.ensures.bytes
    ∙ sym (slot_at-parts (image_of c.args.pages.now) place.class place.slot
    (has_class-some place.class c.requires.class.0 c.requires.class.1)) in
    subst (λ (what : Slot). IfOk c.item_in.result (λ item. option_to_list item
    ≡ item_in c.args.share.worker c.args.share.workers place what)) e c.item_in.ensures
