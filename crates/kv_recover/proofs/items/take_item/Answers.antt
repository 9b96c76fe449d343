-- The counts follow the entries.
use Rattle.std.proofs.Common.{◌≡◌, ℕ, ◌+◌, ◌<◌, ◌≤◌, get_or, ap, ◌∙◌, subst, arith}
use Rattle.std.specs.FinMap as finite
use Rattle.kv_slab.specs.Memory.{items_in}
use Rattle.kv_recover.specs.Placed.{one_of}
use Rattle.kv_recover.proofs.CountLemmas.{counted-some, counted-next, items_in-len}
use Rattle.kv_recover.proofs.items.take_item.Goals as goal

pub drop_one-requires-clause-some : goal.drop_one-requires-clause-some
drop_one-requires-clause-some g c =
    counted-some (g.I.Index.entries c.args.items.now.index) c.args.items.now.counts c.args.key.now
    c.find-found.result c.requires.counted c.find-found.ensures.value

pub add_one-requires-clause-room : goal.add_one-requires-clause-room
add_one-requires-clause-room g c =
    let few : items_in (g.I.Index.entries c.args.items.now.index) c.args.entry.place.class
    ≤ c.len.result = subst (λ m. items_in m c.args.entry.place.class ≤ c.len.result)
    c.reserve.ensures.kept (omega (
      arith,
      items_in-len (g.I.Index.entries c.reserve.new.self)
          c.args.entry.place.class,
      c.len.ensures.value,
    )) in
    omega (
      arith,
      c.drop_one.ensures.value c.args.entry.place.class c.requires.class,
      c.requires.counted.count c.args.entry.place.class c.requires.class,
      few,
    )

pub returns-clause-counted : goal.returns-clause-counted
returns-clause-counted g c =
    counted-next (g.I.Index.entries c.args.items.now.index) c.args.items.now.counts c.args.key.now
    c.args.entry c.drop_one.new.counts c.add_one.new.counts (g.I.Index.entries c.set.new.self)
    c.requires.counted c.requires.class
    (subst (λ o. (class : ℕ) → class < 12 → get_or c.drop_one.new.counts class 0 + one_of o class
    ≡ get_or c.args.items.now.counts class 0) c.find-found.ensures.value c.drop_one.ensures.value)
    c.add_one.ensures.size c.add_one.ensures.here c.add_one.ensures.others
    (c.set.ensures.value
    ∙ ap (λ m. finite.insert m c.in_ok-key.key c.args.entry) c.reserve.ensures.kept
    ∙ ap (λ k. finite.insert (g.I.Index.entries c.args.items.now.index) k c.args.entry)
    c.in_ok-key.ensures.ok)
