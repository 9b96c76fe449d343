use Rattle.std.proofs.Common.{◌≡◌, ◌∙◌, ap, sym, subst, arith, inl, List, [], length, get_or, ℕ}
use Rattle.std.proofs.Common.{◌<◌, ◌+◌, refl}
use Rattle.kv_base.specs.Image.{Image}
use Rattle.kv_base.specs.Crash.{LeavesOnly}
use Rattle.kv_base.proofs.CrashLemmas.{started, stays, writes_too}
use Rattle.kv_slab.specs.Images.{Mix}
use Rattle.kv_slab.specs.Pages.{over, AreWritten}
use Rattle.kv_slab.specs.declared.page.Page.{Page}
use Rattle.kv_slab.proofs.OrderLemmas.{written_none, written_next, written_all}
use Rattle.kv_slab.proofs.PageLemmas.{still, on_ok, same_default}
use Rattle.kv_slab.proofs.rounds.write_pages.Given.{Over}
use Rattle.kv_slab.proofs.rounds.write_pages.Goals as goal
use Rattle.kv_slab.proofs.rounds.write_pages.Goals.{After-write_one}

-- the page that is written
abbrev item : List Page → ℕ → Page
item pages i = get_or pages i (record { file = 0; page = 0; content = [] })

item-is : (pages : List Page) (i : ℕ) → i < length pages → item pages i
    ≡ get_or pages i (item pages i)
item-is pages i below = same_default pages i _ _ below

pub returns-then-is_empty-clause-any_moment : goal.returns-then-is_empty-clause-any_moment
returns-then-is_empty-clause-any_moment g c =
    started (g.D.Disk.calls c.args.disk.now.disk) (g.D.Disk.leaves c.args.disk.now.disk) _
    (λ image left f p. inl (c.requires.settled f p (image f p) (left f p)))

pub loop-turn-init : goal.loop-turn-init
loop-turn-init g c = record {
  crash = started (g.D.Disk.calls c.args.disk.now.disk) (g.D.Disk.leaves c.args.disk.now.disk) _
      (λ image left f p. inl (c.requires.settled f p (image f p) (left f p)));
  seen = λ _. written_none (g.D.Disk.seen c.args.disk.now.disk) c.args.pages.now c.args.order.now;
  faults = refl;
  count = omega arith;
}

-- the number of the page whose turn it is
abbrev number : (g : Over) (c : After-write_one g) → ℕ
number g c = (get_or c.args.order.now c.loop-turn.turn (0, 0, 0)).2

below : (g : Over) (c : After-write_one g) → number g c < length c.args.pages.now
below g c = c.requires.order.within c.loop-turn.turn (0, 0, 0) c.loop-turn-test.true

wrote : (g : Over) (c : After-write_one g) → LeavesOnly (g.D.Disk.calls c.args.disk.now.disk)
    (g.D.Disk.calls c.write_one.new.disk.disk) (g.D.Disk.leaves c.args.disk.now.disk)
    (g.D.Disk.leaves c.write_one.new.disk.disk) (Mix (g.D.Disk.seen c.args.disk.now.disk)
    (over (g.D.Disk.seen c.args.disk.now.disk) c.args.pages.now))
wrote g c =
    let d = c.loop-turn.disk.disk in
    let page = item c.args.pages.now (number g c) in
    let is = item-is c.args.pages.now (number g c) (below g c) in
    let one = c.write_one.ensures.writes page is in
    writes_too page.file page.page page.content c.write_one.result
    (g.D.Disk.calls c.args.disk.now.disk) (g.D.Disk.calls d)
    (g.D.Disk.calls c.write_one.new.disk.disk) (g.D.Disk.leaves c.args.disk.now.disk)
    (g.D.Disk.leaves d) (g.D.Disk.leaves c.write_one.new.disk.disk)
    (Mix (g.D.Disk.seen c.args.disk.now.disk) (over (g.D.Disk.seen c.args.disk.now.disk)
    c.args.pages.now)) (g.D.Disk.seen d)
    (λ f p x left. (g.met.D.Disk.told d (g.D.Disk.calls d) f p x left).1)
    c.loop-turn.invariant.crash one.call.past one.crash
    (still (g.D.Disk.seen c.args.disk.now.disk) c.args.pages.now (number g c) page
    c.requires.pages.apart (below g c) is)

pub loop-turn-preserved : goal.loop-turn-preserved
loop-turn-preserved g c =
    let w = (goal.at.loop-turn-preserved g c).After-write_one in
    let pages = c.args.pages.now in
    let page = item pages (number g w) in
    let is = item-is pages (number g w) (below g w) in
    let one = c.in_ok-write_one.ensures.writes page is in
    record {
      crash = wrote g w;
      seen = λ told.
          subst (λ (im : Image). AreWritten (g.D.Disk.seen c.args.disk.now.disk) pages
          c.args.order.now (c.loop-turn.turn + 1) im) (sym (one.written told))
          (written_next (g.D.Disk.seen c.args.disk.now.disk) (g.D.Disk.seen c.loop-turn.disk.disk)
          pages c.args.order.now c.loop-turn.turn (number g w) page c.requires.pages.apart
          (below g w) is
          (λ d. ap (λ (key : ℕ × ℕ × ℕ). key.2) (same_default c.args.order.now c.loop-turn.turn d
          (0, 0, 0) c.loop-turn-test.true))
          (c.loop-turn.invariant.seen told));
      faults = one.call.counted ∙ c.loop-turn.invariant.faults;
      count = omega (arith, one.call.past.counted, c.loop-turn.invariant.count);
    }

pub returns-in_err-write_one-clause-any_moment : goal.returns-in_err-write_one-clause-any_moment
returns-in_err-write_one-clause-any_moment g c = wrote g
    (goal.at.returns-in_err-write_one-clause-any_moment g c).After-write_one

pub returns-clause-any_moment : goal.returns-clause-any_moment
returns-clause-any_moment g c =
    let d = c.loop-turn.disk.disk in
    stays (g.D.Disk.calls c.args.disk.now.disk) (g.D.Disk.calls d)
    (g.D.Disk.calls c.sync.new.self.disk) (g.D.Disk.leaves c.args.disk.now.disk)
    (g.D.Disk.leaves d) (g.D.Disk.leaves c.sync.new.self.disk)
    (Mix (g.D.Disk.seen c.args.disk.now.disk) (over (g.D.Disk.seen c.args.disk.now.disk)
    c.args.pages.now))
    c.loop-turn.invariant.crash c.sync.ensures.disk.call.past c.sync.ensures.disk.crash

pub returns-clause-written : goal.returns-clause-written
returns-clause-written g c = λ told.
    on_ok c.sync.result
    (c.sync.ensures.disk.seen told
    ∙ written_all (g.D.Disk.seen c.args.disk.now.disk) (g.D.Disk.seen c.loop-turn.disk.disk)
    c.args.pages.now c.args.order.now c.loop-turn.turn c.requires.order c.loop-turn-test.false
    (c.loop-turn.invariant.seen told))
