-- The pages of the slot have its kind.
use Rattle.std.proofs.Common.{◌≡◌, ℕ, ◌+◌, ◌-◌, ◌≤◌, List, ◌∷◌, map, length, drop, length-drop, refl, sym, ap}
use Rattle.std.proofs.Common.{◌∙◌, arith}
use Rattle.std.specs.List.{range_with_len}
use Rattle.kv_disk.proofs.StepsLemmas.{reads-then}
use Rattle.kv_model.specs.Layout.{all_classes, pages_in_slot}
use Rattle.kv_model.specs.Reading.{page_of}
use Rattle.kv_model.specs.Slots.{stamp_field, read_large}
use Rattle.kv_slot.specs.Views.{read_front}
use Rattle.kv_recover.specs.Kinds.{kind_at}
use Rattle.kv_recover.specs.Large.{IsLater, slot_from}
use Rattle.kv_recover.proofs.FreeLargeLemmas.{large_split}
use Rattle.kv_recover.proofs.FrontLemmas.{large-front, whole_value}
use Rattle.kv_recover.proofs.LargeLemmas.{slot_at-large}
use Rattle.kv_recover.proofs.LaterLemmas.{later_is}
use Rattle.kv_recover.proofs.surveying.large_kind.Goals as goal

front_size : (page : List ℕ) → length page ≡ 4096 → 255 ≤ length (drop 16 page)
front_size page size = omega (arith, length-drop 16 page, size)

pub returns-in_err-later-clause-reads : goal.returns-in_err-later-clause-reads
returns-in_err-later-clause-reads g c =
    reads-then g.D.Disk _ _ _ c.read_page.ensures.reads c.read_later.ensures.reads

pub returns-clause-reads : goal.returns-clause-reads
returns-clause-reads g c =
    reads-then g.D.Disk _ _ _ c.read_page.ensures.reads c.read_later.ensures.reads

pub returns-clause-kind : goal.returns-clause-kind
returns-clause-kind g c = λ tells.
    let image = g.D.Disk.seen c.args.disk.now in
    let class = c.args.place.class in
    let slot = c.args.place.slot in
    let page = c.read_page.new.content in
    let pages = map (image class)
    (range_with_len (page_of class slot + 1) (pages_in_slot class - 1)) in
    let page_is : page ≡ image class (page_of class slot) =
    c.in_ok-read_page.ensures.content tells ∙ ap (image class) c.spot-first.ensures.page in
    let says : IsLater pages (stamp_field page) 0 c.in_ok-later.later.whole
    c.in_ok-later.later.blank c.in_ok-later.later.floor =
    later_is image (g.D.Disk.seen c.read_page.new.disk) class _ _ _ _ _ _ _ _
    c.in_ok-later.later.whole c.in_ok-later.later.blank c.in_ok-later.later.floor
    (c.read_page.ensures.reads.seen tells) c.spot-first.ensures.page
    c.pages_in_slot-count.ensures.value c.page_stamp.ensures refl
    (c.in_ok-later.ensures.pages tells) in
    let value = whole_value page pages in
    c.front_kind.ensures value ∙ ap (kind_at (g.I.Index.entries c.args.index.now) c.args.share.worker c.args.share.workers class slot)
    (ap (λ front. slot_from front c.in_ok-later.later.whole value) c.read_first-slot.ensures
    ∙ ap (λ whole. slot_from (read_front class page) whole value) says.whole_is
    ∙ sym (large-front class page pages (front_size page c.read_page.ensures.size))
    ∙ sym (slot_at-large image class slot c.requires.class.0 c.requires.class.1
    ∙ ap (read_large all_classes class) (large_split image class slot
    ∙ ap (λ x. x ∷ pages) (sym page_is))))
