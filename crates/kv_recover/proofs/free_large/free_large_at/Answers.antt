-- The first page is read, and written where the slot is freed.
use Rattle.std.proofs.Common.{◌≡◌, ℕ, ◌≤◌, List, length, drop, length-drop, ap, ◌∙◌, subst, arith}
use Rattle.kv_base.specs.Image.{with_page}
use Rattle.kv_base.specs.Crash.{Adds}
use Rattle.kv_recover.proofs.FreeSteps.{on_ok}
use Rattle.kv_recover.proofs.FreeLargeSteps.{large-read, large-entry, large-same, large-moments, large-done}
use Rattle.kv_recover.proofs.free_large.free_large_at.Goals as goal

front_size : (page : List ℕ) → length page ≡ 4096 → 255 ≤ length (drop 16 page)
front_size page size = omega (arith, length-drop 16 page, size)

pub returns-in_err-read_page-clause-any_moment : goal.returns-in_err-read_page-clause-any_moment
returns-in_err-read_page-clause-any_moment g c = λ first ends below has.
    large-read g.D.Disk g.met.D.Disk.told _ first ends c.args.floor c.args.place.class
    c.args.place.slot c.requires.class.0 c.requires.class.1 c.requires.slot below _ _ _ has
    c.read_page.ensures.reads

pub returns-then-is_entry-clause-any_moment : goal.returns-then-is_entry-clause-any_moment
returns-then-is_entry-clause-any_moment g c = λ first ends below has.
    large-read g.D.Disk g.met.D.Disk.told _ first ends c.args.floor c.args.place.class
    c.args.place.slot c.requires.class.0 c.requires.class.1 c.requires.slot below _ _ _ has
    c.read_page.ensures.reads

pub returns-then-same-clause-any_moment : goal.returns-then-same-clause-any_moment
returns-then-same-clause-any_moment g c = λ first ends below has.
    large-read g.D.Disk g.met.D.Disk.told _ first ends c.args.floor c.args.place.class
    c.args.place.slot c.requires.class.0 c.requires.class.1 c.requires.slot below _ _ _ has
    c.read_page.ensures.reads

pub returns-then-is_entry-clause-done : goal.returns-then-is_entry-clause-done
returns-then-is_entry-clause-done g c = λ first ends below has.
    large-entry g.D.Disk g.met.D.Disk.told _ first ends c.args.floor c.args.place.class
    c.args.place.slot c.requires.class.0 c.requires.class.1 c.requires.slot below _ _ _ has
    c.read_page.ensures.reads c.read_page.new.content
    (λ tells. c.in_ok-read_page.ensures.content tells
    ∙ ap (g.D.Disk.seen c.args.disk.now c.args.place.class) c.spot-first.ensures.page)
    (front_size c.read_page.new.content c.read_page.ensures.size)
    (cc)

pub returns-then-same-clause-done : goal.returns-then-same-clause-done
returns-then-same-clause-done g c = λ first ends below has.
    large-same g.D.Disk g.met.D.Disk.told _ first ends c.args.floor c.args.place.class
    c.args.place.slot c.requires.class.0 c.requires.class.1 c.requires.slot below _ _ _ has
    c.read_page.ensures.reads c.read_page.new.content
    (λ tells. c.in_ok-read_page.ensures.content tells
    ∙ ap (g.D.Disk.seen c.args.disk.now c.args.place.class) c.spot-first.ensures.page)
    (front_size c.read_page.new.content c.read_page.ensures.size)
    (cc) c.freed_page-freed.result
    c.freed_page-freed.new.stack c.freed_page-freed.ensures.freed
    (c.same.ensures.0 c.if-same.true)

pub returns-clause-any_moment : goal.returns-clause-any_moment
returns-clause-any_moment g c = λ first ends below has.
    large-moments g.D.Disk g.met.D.Disk.told _ first ends c.args.floor c.args.place.class
    c.args.place.slot c.requires.class.0 c.requires.class.1 c.requires.slot below _ _ _ has
    c.read_page.ensures.reads c.read_page.new.content
    (λ tells. c.in_ok-read_page.ensures.content tells
    ∙ ap (g.D.Disk.seen c.args.disk.now c.args.place.class) c.spot-first.ensures.page)
    (front_size c.read_page.new.content c.read_page.ensures.size)
    (cc) c.freed_page-freed.result
    c.freed_page-freed.new.stack c.freed_page-freed.ensures.freed
    c.write.result c.write.new.self c.write.ensures.past
    (subst (λ n. Adds c.args.place.class n c.freed_page-freed.result c.write.result
    (g.D.Disk.leaves c.read_page.new.disk (g.D.Disk.calls c.read_page.new.disk))
    (g.D.Disk.leaves c.write.new.self (g.D.Disk.calls c.write.new.self)))
    c.spot-first.ensures.page c.write.ensures.crash)

pub returns-clause-done : goal.returns-clause-done
returns-clause-done g c = on_ok c.write.result _ _ _ c.write.ensures.written
    (λ written first ends below has. large-done g.D.Disk g.met.D.Disk.told _ first ends c.args.floor c.args.place.class
    c.args.place.slot c.requires.class.0 c.requires.class.1 c.requires.slot below _ _ _ has
    c.read_page.ensures.reads c.read_page.new.content
    (λ tells. c.in_ok-read_page.ensures.content tells
    ∙ ap (g.D.Disk.seen c.args.disk.now c.args.place.class) c.spot-first.ensures.page)
    (front_size c.read_page.new.content c.read_page.ensures.size)
    (cc) c.freed_page-freed.result
    c.freed_page-freed.new.stack c.freed_page-freed.ensures.freed
    c.write.result c.write.new.self c.write.ensures.past
    (subst (λ n. Adds c.args.place.class n c.freed_page-freed.result c.write.result
    (g.D.Disk.leaves c.read_page.new.disk (g.D.Disk.calls c.read_page.new.disk))
    (g.D.Disk.leaves c.write.new.self (g.D.Disk.calls c.write.new.self)))
    c.spot-first.ensures.page c.write.ensures.crash)
    (λ tells. written tells ∙ ap (λ n. with_page (g.D.Disk.seen c.read_page.new.disk)
    c.args.place.class n c.freed_page-freed.result) c.spot-first.ensures.page))
