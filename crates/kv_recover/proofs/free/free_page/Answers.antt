-- The page is read, freed and written, or stays where nothing would change.
use Rattle.std.proofs.Common.{◌≡◌, ℕ, ◌+◌, ◌-◌, ◌*◌, ◌<◌, ◌≤◌, min, refl, arith}
use Rattle.kv_model.specs.Layout.{slots_in_page}
use Rattle.std.proofs.lemmas.Nat.{pow_pos}
use Rattle.kv_recover.proofs.FreeLemmas.{in_most}
use Rattle.kv_recover.proofs.FreeSteps.{on_ok, read-moments, same-done, write-moments, write-done}
use Rattle.kv_recover.proofs.free.free_page.Goals as goal

-- the page's first slot is before the last one, and the last one in the page
bounds : (number per_page end : ℕ) → number * per_page < end → 1 ≤ per_page
    → (number * per_page ≤ min ((number + 1) * per_page) end)
    × (min ((number + 1) * per_page) end ≤ number * per_page + per_page)
bounds number per_page end below some =
    let next : (number + 1) * per_page ≡ number * per_page + per_page = omega arith in
    (omega arith, omega arith)

pub returns-in_err-read_page-clause-any_moment : goal.returns-in_err-read_page-clause-any_moment
returns-in_err-read_page-clause-any_moment g c = λ first ends end_is has.
    let within = bounds c.args.number (slots_in_page c.args.class) c.args.end c.requires.number
    (pow_pos (7 - c.args.class)) in
    read-moments g.D.Disk g.met.D.Disk.told _ first ends c.args.floor c.args.class c.args.number
    c.args.end _ _ c.requires.class.0 c.requires.class.1 end_is refl within.0 within.1
    (in_most c.args.class c.args.number c.requires.class.0 c.requires.class.1
    (omega (arith, c.requires.number, c.requires.end))) _ _ _ has
    c.read_page.ensures.reads

pub returns-then-same-clause-done : goal.returns-then-same-clause-done
returns-then-same-clause-done g c = λ first ends end_is has.
    let within = bounds c.args.number (slots_in_page c.args.class) c.args.end c.requires.number
    (pow_pos (7 - c.args.class)) in
    same-done g.D.Disk g.met.D.Disk.told _ first ends c.args.floor c.args.class c.args.number
    c.args.end _ _ c.requires.class.0 c.requires.class.1 end_is refl within.0 within.1
    (in_most c.args.class c.args.number c.requires.class.0 c.requires.class.1
    (omega (arith, c.requires.number, c.requires.end))) _ _ _ has
    c.read_page.ensures.reads c.read_page.new.content c.free_in_page.new.page
    c.in_ok-read_page.ensures.content c.free_in_page.new.stack c.free_in_page.ensures.freed
    (c.same.ensures.0 c.if-same.true)

pub returns-then-same-clause-any_moment : goal.returns-then-same-clause-any_moment
returns-then-same-clause-any_moment g c = λ first ends end_is has.
    let within = bounds c.args.number (slots_in_page c.args.class) c.args.end c.requires.number
    (pow_pos (7 - c.args.class)) in
    read-moments g.D.Disk g.met.D.Disk.told _ first ends c.args.floor c.args.class c.args.number
    c.args.end _ _ c.requires.class.0 c.requires.class.1 end_is refl within.0 within.1
    (in_most c.args.class c.args.number c.requires.class.0 c.requires.class.1
    (omega (arith, c.requires.number, c.requires.end))) _ _ _ has
    c.read_page.ensures.reads

pub returns-clause-done : goal.returns-clause-done
returns-clause-done g c = on_ok c.write.result _ _ _ c.write.ensures.written
    (λ written first ends end_is has.
    let within = bounds c.args.number (slots_in_page c.args.class) c.args.end c.requires.number
    (pow_pos (7 - c.args.class)) in
    write-done g.D.Disk g.met.D.Disk.told _ first ends c.args.floor c.args.class c.args.number
    c.args.end _ _ c.requires.class.0 c.requires.class.1 end_is refl within.0 within.1
    (in_most c.args.class c.args.number c.requires.class.0 c.requires.class.1
    (omega (arith, c.requires.number, c.requires.end))) _ _ _ has
    c.read_page.ensures.reads c.read_page.new.content c.free_in_page.new.page
    c.in_ok-read_page.ensures.content c.free_in_page.new.stack c.free_in_page.ensures.freed
    c.write.result _ c.write.ensures.past c.write.ensures.crash written)

pub returns-clause-any_moment : goal.returns-clause-any_moment
returns-clause-any_moment g c = λ first ends end_is has.
    let within = bounds c.args.number (slots_in_page c.args.class) c.args.end c.requires.number
    (pow_pos (7 - c.args.class)) in
    write-moments g.D.Disk g.met.D.Disk.told _ first ends c.args.floor c.args.class c.args.number
    c.args.end _ _ c.requires.class.0 c.requires.class.1 end_is refl within.0 within.1
    (in_most c.args.class c.args.number c.requires.class.0 c.requires.class.1
    (omega (arith, c.requires.number, c.requires.end))) _ _ _ has
    c.read_page.ensures.reads c.read_page.new.content c.free_in_page.new.page
    c.in_ok-read_page.ensures.content c.free_in_page.new.stack c.free_in_page.ensures.freed
    c.write.result _ c.write.ensures.past c.write.ensures.crash
