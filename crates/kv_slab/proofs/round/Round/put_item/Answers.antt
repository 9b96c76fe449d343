-- The page stays where it is, with another content.
use Rattle.std.proofs.Common.{◌<◌, ◌∙◌, ℕ, List, length, refl, sym, ap, subst}
use Rattle.kv_model.specs.Layout.{all_classes}
use Rattle.kv_model.specs.Reading.{page_of}
use Rattle.kv_model.specs.SlotBytes.{item_bytes}
use Rattle.kv_slot.specs.Overwrite.{overwritten}
use Rattle.kv_slot.proofs.PlaceLemmas.{have_their_size}
use Rattle.kv_slab.specs.Pages.{over, AreApart, ArePages, HasAt}
use Rattle.kv_slab.specs.declared.page.Page.{Page}
use Rattle.kv_slab.proofs.PageLemmas.{set_slot, pages_renewed}
use Rattle.kv_slab.proofs.PlacesLemmas.{located-set}
use Rattle.kv_slab.proofs.round.Round.put_item.Goals as goal

pub invariant_of-self : goal.invariant_of-self
invariant_of-self c =
    located-set c.self.inside.places c.self.inside.pages.items c.args.at
    c.index_mut-held.result.now _ (subst (λ (ps : List Page). c.args.at < length ps)
    (sym c.self.view_is) c.requires.at.below) c.index_mut-held.ensures.value refl refl
    c.self.invariant

pub returns-clause-set : goal.returns-clause-set
returns-clause-set c = λ image.
    let class = c.args.place.class in
    let slot = c.args.place.slot in
    let was = c.index_mut-held.result.now in
    let bytes = item_bytes class c.args.stamp c.args.key.now c.args.value.now in
    set_slot image c.args.self.now c.self.inside.pages.items c.args.at class slot
    (page_of class slot) bytes was _ c.requires.small
    (subst (λ (ps : List Page). AreApart ps) (sym c.self.view_is) c.requires.pages.apart)
    (subst (λ (ps : List Page). HasAt ps c.args.at class (page_of class slot)) (sym c.self.view_is)
    c.requires.at)
    refl c.index_mut-held.ensures.value refl refl c.item_into.ensures.size
    (have_their_size.item all_classes class c.args.stamp c.args.key.now c.args.value.now
    c.requires.small c.requires.item)
    (c.item_into.ensures.bytes ∙ ap (λ (n : ℕ). overwritten was.content n bytes)
    c.place_spot-offset.ensures.offset)
    (ap (λ (ps : List Page). over image ps) c.self.view_is)

pub returns-clause-pages : goal.returns-clause-pages
returns-clause-pages c =
    let page = page_of c.args.place.class c.args.place.slot in
    pages_renewed c.self.inside.pages.items c.args.at c.args.place.class page
    c.index_mut-held.result.now _
    (subst (λ (ps : List Page). HasAt ps c.args.at c.args.place.class page) (sym c.self.view_is)
    c.requires.at)
    c.index_mut-held.ensures.value refl refl
    (subst (λ (ps : List Page). ArePages ps) (sym c.self.view_is) c.requires.pages)
