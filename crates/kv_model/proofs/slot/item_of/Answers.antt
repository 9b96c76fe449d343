-- The fields are those of the slot's header.
use Rattle.std.proofs.Common.{◌≡◌, ℕ, List, IfOk, eqb, sym, subst, ◌∙◌, ap, true, take, drop, ◌++◌}
use Rattle.std.specs.Int.{w16, w32, from_le_bytes}
use Rattle.std.specs.List.{flat_map, list_all}
use Rattle.std.specs.Option.{option_to_list}
use Rattle.kv_model.specs.Layout.{all_classes}
use Rattle.kv_model.specs.Plain.{item_in}
use Rattle.kv_model.specs.Slots.{Slot, read_item, stamp_field}
use Rattle.kv_model.proofs.PlainLemmas.{kind-none, torn-none, read-fields}
use Rattle.kv_model.proofs.slot.item_of.Goals as goal

pub returns-then-u16_at-ne1 : goal.returns-then-u16_at-ne1
returns-then-u16_at-ne1 c = sym (kind-none c.args.share.worker c.args.share.workers c.args.place
    c.args.first.now c.args.later.now (λ is. c.if-u16_at-ne1.true (c.u16_at.ensures ∙ is)))

pub returns-then-not-have_stamp : goal.returns-then-not-have_stamp
returns-then-not-have_stamp c = sym (torn-none c.args.share.worker c.args.share.workers
    c.args.place c.args.first.now c.args.later.now
    (ap (λ (n : ℕ). list_all (λ (page : List ℕ). eqb (stamp_field page) n) c.args.later.now)
    (sym c.stamp_of-stamp.ensures) ∙ sym c.have_stamp.ensures ∙ c.if-not-have_stamp.true))

pub returns : goal.returns
returns c =
    let first = c.args.first.now in
    let later = c.args.later.now in
    let class = c.args.place.class in
    let rest = flat_map (λ (page : List ℕ). drop 8 page) later in
    let content = drop 16 first ++ rest in
    let key = from_le_bytes w16 (take 2 (drop 10 first)) in
    let last = from_le_bytes w32 (take 4 (drop 12 first)) in
    let stamp = c.stamp_of-stamp.result in
    let whole : list_all (λ (page : List ℕ). eqb (stamp_field page) (stamp_field first)) later
    ≡ true =
    ap (λ (n : ℕ). list_all (λ (page : List ℕ). eqb (stamp_field page) n) later)
    (sym c.stamp_of-stamp.ensures) ∙ sym c.have_stamp.ensures ∙ c.if-not-have_stamp.false in
    let there : c.deref.result.now ≡ content = c.deref.ensures.value ∙ c.in_ok-content.ensures
    ∙ ap (λ (front : List ℕ). front ++ rest) c.rest_of.ensures in
    let e = read-fields class first later (sym c.u16_at.ensures ∙ c.if-u16_at-ne1.false) whole
    ∙ ap (λ (n : ℕ). read_item all_classes class n key last content true)
    (sym c.stamp_of-stamp.ensures)
    ∙ ap (λ (n : ℕ). read_item all_classes class stamp n last content true)
    (sym c.u16_at-2.ensures)
    ∙ ap (λ (n : ℕ). read_item all_classes class stamp c.u16_at-2.result n content true)
    (sym c.u32_at.ensures)
    ∙ ap (λ (bytes : List ℕ). read_item all_classes class stamp c.u16_at-2.result
    c.u32_at.result bytes true) (sym there) in
    subst (λ (what : Slot). IfOk c.item_from.result (λ item. option_to_list item
    ≡ item_in c.args.share.worker c.args.share.workers c.args.place what)) (sym e)
    c.item_from.ensures
