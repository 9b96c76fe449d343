-- One entry more.
use Rattle.std.proofs.Common.{◌+◌, ◌<◌, cond, sym, subst}
use Rattle.std.specs.FinMap as finite
use Rattle.kv_recover.proofs.ListedLemmas.{listing-none, listing-step, listing-done}
use Rattle.kv_recover.proofs.entries.list_all.Goals as goal

pub loop-more-init : goal.loop-more-init
loop-more-init g c = record {
  listing = listing-none (g.I.Index.entries c.args.index.now) c.in_ok-list.list.items
      c.in_ok-list.ensures.empty;
  done = λ is. absurd (cc);
}

pub loop-more-smaller : goal.loop-more-smaller
loop-more-smaller g c = subst (λ b. finite.len (g.I.Index.entries c.take_least.new.index)
    + cond c.in_ok-more.more 1 0 < finite.len (g.I.Index.entries c.loop-more.index) + cond b 1 0)
    (sym c.loop-more-test.true) (listing-step c.in_ok-more.more (g.I.Index.entries c.args.index.now)
    (g.I.Index.entries c.loop-more.index) (g.I.Index.entries c.take_least.new.index)
    c.loop-more.list.items c.take_least.new.list.items c.loop-more.invariant.listing
    c.in_ok-more.ensures).2

pub loop-more-preserved : goal.loop-more-preserved
loop-more-preserved g c =
    let step = listing-step c.in_ok-more.more (g.I.Index.entries c.args.index.now)
    (g.I.Index.entries c.loop-more.index) (g.I.Index.entries c.take_least.new.index)
    c.loop-more.list.items c.take_least.new.list.items c.loop-more.invariant.listing
    c.in_ok-more.ensures in
    record { listing = step.0; done = step.1 }

pub returns : goal.returns
returns g c = listing-done (g.I.Index.entries c.args.index.now) (g.I.Index.entries c.loop-more.index)
    c.loop-more.list.items c.loop-more.invariant.listing
    (c.loop-more.invariant.done c.loop-more-test.false)
