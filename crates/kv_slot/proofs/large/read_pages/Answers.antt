-- An item is read from its header, the front and the later pages.
use Rattle.std.proofs.Common.{◌≡◌, IfOk, OnErr, sym, subst}
use Rattle.kv_model.specs.Layout.{all_classes}
use Rattle.kv_model.specs.Slots.{Slot}
use Rattle.kv_slot.specs.Views.{what_stands_large, IsItem}
use Rattle.kv_slot.proofs.LargeLemmas.{large_item}
use Rattle.kv_slot.proofs.large.read_pages.Goals as goal

pub returns-in-1-clause-ok : goal.returns-in-1-clause-ok
returns-in-1-clause-ok c =
    let h = c.read_header-header in
    subst (λ (slot : Slot). IfOk c.item_of.result (λ large. what_stands_large large ≡ slot))
    (sym (large_item all_classes c.args.class h.result.stamp h.result.kind h.result.key_len
    h.result.last c.args.first.now _ _ c.args.later.now c.split_at.ensures.front
    c.split_at.ensures.back h.ensures.stamp h.ensures.kind c.in-1.is h.ensures.key_len
    h.ensures.last))
    c.item_of.ensures.ok

pub returns-in-1-clause-err : goal.returns-in-1-clause-err
returns-in-1-clause-err c =
    let h = c.read_header-header in
    subst (λ (slot : Slot). OnErr c.item_of.result (IsItem slot))
    (sym (large_item all_classes c.args.class h.result.stamp h.result.kind h.result.key_len
    h.result.last c.args.first.now _ _ c.args.later.now c.split_at.ensures.front
    c.split_at.ensures.back h.ensures.stamp h.ensures.kind c.in-1.is h.ensures.key_len
    h.ensures.last))
    c.item_of.ensures.err
