-- What is kept is found, and what isn't is freed.
use Rattle.std.proofs.Common.{inl, inr, ◌+◌, ◌<◌, slice_get, ap, ◌∙◌, arith}
use Rattle.kv_recover.proofs.CauseLemmas.{on_err}
use Rattle.kv_recover.proofs.FilteredLemmas.{get-within}
use Rattle.kv_recover.proofs.OpenSteps.{slabs-read, are-read, spent-found, left-found, store-found}
use Rattle.kv_recover.proofs.OpenSteps.{slabs-freed, slabs-same, slabs-opened}
use Rattle.kv_recover.proofs.open.open_slabs.Goals as goal

pub returns-in_err-found-clause-any_moment : goal.returns-in_err-found-clause-any_moment
returns-in_err-found-clause-any_moment g c = slabs-read g.D.Disk c.args.share.worker
    c.args.share.workers c.args.disk.now c.find_all.new.disk c.requires.settled
    c.find_all.ensures.reads

pub returns-in_err-found-clause-written : goal.returns-in_err-found-clause-written
returns-in_err-found-clause-written g c =
    on_err c.from_residual.result _ (inl c.find_all.ensures.reads)

pub returns-then-floor-ge-LAST_STAMP-clause-any_moment :
    goal.returns-then-floor-ge-LAST_STAMP-clause-any_moment
returns-then-floor-ge-LAST_STAMP-clause-any_moment g c = slabs-read g.D.Disk c.args.share.worker
    c.args.share.workers c.args.disk.now c.find_all.new.disk c.requires.settled
    c.find_all.ensures.reads

pub returns-then-floor-ge-LAST_STAMP-clause-cause :
    goal.returns-then-floor-ge-LAST_STAMP-clause-cause
returns-then-floor-ge-LAST_STAMP-clause-cause g c = (
  omega arith,
  spent-found
      (are-read g.met.D.Disk.told c.requires.settled c.find_all.ensures.reads
      c.in_ok-found.ensures.found),
)

pub returns-then-floor-ge-LAST_STAMP-clause-written :
    goal.returns-then-floor-ge-LAST_STAMP-clause-written
returns-then-floor-ge-LAST_STAMP-clause-written g c = inl c.find_all.ensures.reads

pub returns-in_err-stacks-clause-any_moment : goal.returns-in_err-stacks-clause-any_moment
returns-in_err-stacks-clause-any_moment g c =
    slabs-freed (are-read g.met.D.Disk.told c.requires.settled c.find_all.ensures.reads
    c.in_ok-found.ensures.found) c.free_all.ensures.range c.free_all.new.disk
    c.free_all.ensures.any_moment

pub returns-in_err-stacks-clause-written : goal.returns-in_err-stacks-clause-written
returns-in_err-stacks-clause-written g c = on_err c.from_residual-in_err-stacks.result _ (inr
    (left-found (are-read g.met.D.Disk.told c.requires.settled c.find_all.ensures.reads
    c.in_ok-found.ensures.found)
    (let below = c.if-floor-ge-LAST_STAMP.false in omega arith)))

pub returns-then-not-are_full-clause-any_moment : goal.returns-then-not-are_full-clause-any_moment
returns-then-not-are_full-clause-any_moment g c =
    slabs-freed (are-read g.met.D.Disk.told c.requires.settled c.find_all.ensures.reads
    c.in_ok-found.ensures.found) c.free_all.ensures.range c.free_all.new.disk
    c.free_all.ensures.any_moment

pub returns-then-not-are_full-clause-written : goal.returns-then-not-are_full-clause-written
returns-then-not-are_full-clause-written g c = inr
    (left-found (are-read g.met.D.Disk.told c.requires.settled c.find_all.ensures.reads
    c.in_ok-found.ensures.found)
    (let below = c.if-floor-ge-LAST_STAMP.false in omega arith))

pub returns-clause-any_moment : goal.returns-clause-any_moment
returns-clause-any_moment g c =
    slabs-freed (are-read g.met.D.Disk.told c.requires.settled c.find_all.ensures.reads
    c.in_ok-found.ensures.found) c.free_all.ensures.range c.free_all.new.disk
    c.free_all.ensures.any_moment

pub returns-clause-same : goal.returns-clause-same
returns-clause-same g c =
    slabs-same (are-read g.met.D.Disk.told c.requires.settled c.find_all.ensures.reads
    c.in_ok-found.ensures.found) c.free_all.ensures.range c.free_all.new.disk
    c.in_ok-stacks.stacks.items c.in_ok-stacks.ensures.done

pub returns-clause-opened : goal.returns-clause-opened
returns-clause-opened g c = λ tells.
    slabs-opened (are-read g.met.D.Disk.told c.requires.settled c.find_all.ensures.reads
    c.in_ok-found.ensures.found) c.free_all.ensures.range c.free_all.new.disk
    c.in_ok-stacks.stacks.items c.in_ok-stacks.ensures.done tells (c.requires.headed tells)

pub returns-clause-found : goal.returns-clause-found
returns-clause-found g c =
    store-found (are-read g.met.D.Disk.told c.requires.settled c.find_all.ensures.reads
    c.in_ok-found.ensures.found)

pub returns-clause-rooms : goal.returns-clause-rooms
returns-clause-rooms g c = record {
  spare = let below = c.if-floor-ge-LAST_STAMP.false in omega arith;
  placed = c.in_ok-found.ensures.placed;
  small = c.in_ok-found.ensures.ends;
  zero = c.in_ok-found.ensures.zero;
  count = c.in_ok-stacks.ensures.count;
  filled = λ class stack is.
      let within = get-within c.in_ok-stacks.stacks.items stack class is in
      let low : class < 12 = let count = c.in_ok-stacks.ensures.count in omega arith in
      c.are_full.ensures c.if-not-are_full.false class stack (ap (λ xs. slice_get xs class) c.as_slice.ensures ∙ is)
      ∙ ap (λ n. n + stack.count) (c.in_ok-found.ensures.counted.count class low);
}
