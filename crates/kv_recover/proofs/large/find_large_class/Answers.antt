-- The length, the slots that may be in use, and the pages past them.
use Rattle.std.proofs.Common.{◌≡◌, inl, inr, ℕ, ◌*◌, ◌≤◌, ◌^◌, sym, ap, ◌∙◌, subst, arith}
use Rattle.std.proofs.Math.Nat.{mul-le-mul_right}
use Rattle.kv_model.specs.Layout.{pages_in_slot}
use Rattle.kv_recover.specs.Large.{HasFoundLarge, IsWholeSlot}
use Rattle.kv_recover.proofs.LargeLemmas.{finds-large-class}
use Rattle.kv_disk.proofs.StepsLemmas.{reads-then}
use Rattle.kv_recover.proofs.large.find_large_class.Goals as goal
use Rattle.kv_recover.proofs.WholeLemmas.{large-item}

pub returns-in_err-seen-clause-reads : goal.returns-in_err-seen-clause-reads
returns-in_err-seen-clause-reads g c =
    reads-then g.D.Disk _ _ _ c.length_of.ensures.reads c.find_large_slots.ensures.reads

pub returns-in_err-check_blanks-clause-reads : goal.returns-in_err-check_blanks-clause-reads
returns-in_err-check_blanks-clause-reads g c =
    reads-then g.D.Disk _ _ _ (reads-then g.D.Disk _ _ _ c.length_of.ensures.reads
    c.find_large_slots.ensures.reads) c.check_blanks.ensures.reads

pub returns-clause-reads : goal.returns-clause-reads
returns-clause-reads g c =
    reads-then g.D.Disk _ _ _ (reads-then g.D.Disk _ _ _ c.length_of.ensures.reads
    c.find_large_slots.ensures.reads) c.check_blanks.ensures.reads

-- the most pages are those of the most slots
at_most : (most per_slot in_slot slots : ℕ) → most ≡ 2 ^ 24 * in_slot → per_slot ≡ in_slot
    → slots ≡ 2 ^ 24 → slots * per_slot ≡ most
at_most most per_slot in_slot slots most_same per_is slots_is =
    ap (λ n. n * per_slot) slots_is ∙ ap (λ n. 2 ^ 24 * n) per_is ∙ sym most_same

no_more : (most per_slot in_slot slots : ℕ) → most ≡ 2 ^ 24 * in_slot → per_slot ≡ in_slot
    → slots ≤ 2 ^ 24 → slots * per_slot ≤ most
no_more most per_slot in_slot slots most_same per_is limit =
    let all = mul-le-mul_right per_slot limit in
    let same : 2 ^ 24 * per_slot ≡ most = ap (λ n. 2 ^ 24 * n) per_is ∙ sym most_same in
    omega arith

pub returns-clause-found : goal.returns-clause-found
returns-clause-found g c = λ tells.
    let first = c.length_of.ensures.reads.seen tells in
    let second = c.find_large_slots.ensures.reads.seen tells in
    finds-large-class (g.D.Disk.seen c.args.disk.now) c.args.class c.in_ok-pages.pages
    c.slots_in-slots.result c.pages_in_slot-per_slot.result c.most_large_pages.result
    c.args.share.worker c.args.share.workers _ _ c.args.floor c.in_ok-seen.seen.floor
    c.in_ok-seen.seen.end c.requires.class.0 c.requires.class.1
    c.pages_in_slot-per_slot.ensures.value c.most_large_pages.ensures.value
    (elim c.slots_in-slots.ensures.enough [
      | inl enough ↦ inl enough
      | inr all ↦ inr (at_most c.most_large_pages.result c.pages_in_slot-per_slot.result
          (pages_in_slot c.args.class) c.slots_in-slots.result c.most_large_pages.ensures.slots
          c.pages_in_slot-per_slot.ensures.value all)
    ])
    (no_more c.most_large_pages.result c.pages_in_slot-per_slot.result
    (pages_in_slot c.args.class) c.slots_in-slots.result c.most_large_pages.ensures.slots
    c.pages_in_slot-per_slot.ensures.value c.slots_in-slots.ensures.limit)
    (c.in_ok-pages.ensures.rest tells)
    (λ page from below. ap (λ image. image c.args.class page) (sym first)
    ∙ ap (λ image. image c.args.class page) (sym second)
    ∙ c.in_ok-check_blanks.ensures.ok tells page from below)
    (λ slot below. large-item (g.D.Disk.seen c.args.disk.now) c.args.class slot c.requires.class.0
    c.requires.class.1 (subst (λ image. IsWholeSlot image c.args.class slot) first
    (c.in_ok-seen.ensures.whole tells slot below)))
    (subst (λ image. HasFoundLarge image c.args.share.worker c.args.share.workers c.args.class 0
    (g.I.Index.entries c.args.items.now.index) c.args.floor 0
    → HasFoundLarge image c.args.share.worker c.args.share.workers c.args.class
    c.slots_in-slots.result (g.I.Index.entries c.find_large_slots.new.items.index)
    c.in_ok-seen.seen.floor c.in_ok-seen.seen.end) first (c.in_ok-seen.ensures.found tells))
