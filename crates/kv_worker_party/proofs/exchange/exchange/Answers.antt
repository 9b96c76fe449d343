-- the batch of all groups is served
use Rattle.std.proofs.Common.{ℕ, List, length, arith}
use Rattle.std.proofs.Common.{sym, ap, subst, ◌∙◌}
use Rattle.kv_ring.specs.declared.task.Task.{Task}
use Rattle.kv_worker.specs.Batches.{AreAnswered, requests_in}
use Rattle.kv_groups.specs.Batched.{in_hand}
use Rattle.kv_groups.specs.Gathering.{all_tasks}
use Rattle.kv_worker_party.specs.Serving.{HasServed}
use Rattle.kv_ring.specs.Turn.{turn_of}
use Rattle.kv_worker_party.proofs.PartyLemmas.{idle-from, idle-to, gathered-open, gathered-low}
use Rattle.kv_worker_party.proofs.PartyLemmas.{gathered-free, served-back, turned, served-stays}
use Rattle.kv_worker_party.proofs.PartyLemmas.{batch-is, open-batch, answered-length}
use Rattle.kv_worker_party.proofs.exchange.exchange.Goals as goal

pub gather-moved-requires-clause-idle : goal.gather-moved-requires-clause-idle
gather-moved-requires-clause-idle g c = idle-from c.args.connections.now.items c.requires.idle

pub gather-moved-requires-clause-room : goal.gather-moved-requires-clause-room
gather-moved-requires-clause-room g c = omega (arith, c.requires.room, c.args.ends.now.most)

pub serve-requires-clause-tasks : goal.serve-requires-clause-tasks
serve-requires-clause-tasks g c =
    let v = c.gather-moved.ensures.gathered in
    let old = c.args.worker.now.store in
    let items = in_hand 0 (all_tasks v.0) in
    open-batch c.args.numbers.0 c.args.numbers.1 old.worker old.workers items
    c.gather-moved.new.batch.items c.requires.number c.requires.workers
    (batch-is c.args.batch.now.items items c.gather-moved.new.batch.items c.requires.empty v.2)
    (gathered-open c.args.numbers.0 c.args.numbers.1 c.args.ends.now c.gather-moved.new.ends
    c.args.connections.now.items c.gather-moved.new.connections.items v.0 c.gather-moved.result v.1
    (omega (arith, c.requires.size, c.args.connections.now.ok)))

pub serve-requires-clause-few : goal.serve-requires-clause-few
serve-requires-clause-few g c =
    omega (arith, c.gather-moved.ensures.few, c.requires.empty, c.args.ends.now.most)

pub serve-requires-clause-seen : goal.serve-requires-clause-seen
serve-requires-clause-seen g c =
    let v = c.gather-moved.ensures.gathered in
    omega (
      arith,
      c.greatest_seen-seen.ensures,
      gathered-low c.args.numbers.0 c.args.numbers.1 c.args.ends.now c.gather-moved.new.ends
          c.args.connections.now.items c.gather-moved.new.connections.items v.0
          c.gather-moved.result v.1 (omega (arith, c.requires.size, c.args.connections.now.ok)),
    )

pub deliver-requires-clause-free : goal.deliver-requires-clause-free
deliver-requires-clause-free g c =
    let v = c.gather-moved.ensures.gathered in
    gathered-free c.args.numbers.0 c.args.numbers.1 c.args.ends.now c.gather-moved.new.ends
    c.args.connections.now.items c.gather-moved.new.connections.items v.0 c.gather-moved.result v.1
    (omega (arith, c.requires.size, c.args.connections.now.ok))

pub deliver-requires-clause-back : goal.deliver-requires-clause-back
deliver-requires-clause-back g c =
    let v = c.gather-moved.ensures.gathered in
    let s = c.serve.ensures.served in
    let is = batch-is c.args.batch.now.items (in_hand 0 (all_tasks v.0))
    c.gather-moved.new.batch.items c.requires.empty v.2 in
    let are = subst (λ (xs : List (ℕ × Task)). AreAnswered xs c.serve.new.batch.items s.0) is s.1 in (
      _,
      served-back c.args.numbers.0 c.args.numbers.1 c.args.ends.now c.gather-moved.new.ends
          c.args.connections.now.items c.gather-moved.new.connections.items v.0
          c.gather-moved.result v.1 (omega (arith, c.requires.size, c.args.connections.now.ok))
          c.serve.new.batch.items s.0 are,
    )

pub returns-clause-turned : goal.returns-clause-turned
returns-clause-turned g c =
    let v = c.gather-moved.ensures.gathered in
    let s = c.serve.ensures.served in
    let is = batch-is c.args.batch.now.items (in_hand 0 (all_tasks v.0))
    c.gather-moved.new.batch.items c.requires.empty v.2 in
    let are = subst (λ (xs : List (ℕ × Task)). AreAnswered xs c.serve.new.batch.items s.0) is s.1 in
    turned c.args.numbers.0 c.args.numbers.1 c.args.ends.now c.gather-moved.new.ends
    c.args.connections.now.items c.gather-moved.new.connections.items v.0 c.gather-moved.result v.1
    (omega (arith, c.requires.size, c.args.connections.now.ok)) g.D.Disk g.I.Index
    c.args.worker.now c.serve.new.worker c.deliver.new.ends c.deliver.new.connections.items
    c.args.seat.now.view c.serve.new.seat.view c.greatest_seen-seen.result c.of.result
    c.serve.new.batch.items s.0 are s.2
    (subst (λ (xs : List (ℕ × Task)). HasServed g.D.Disk g.I.Index c.args.worker.now
    c.serve.new.worker c.args.seat.now.view c.serve.new.seat.view c.greatest_seen-seen.result
    (requests_in xs) s.0) is s.3) (sym c.requires.number) (sym c.requires.workers)
    c.greatest_seen-seen.ensures
    (omega (
      arith,
      ap length is,
      c.gather-moved.ensures.few,
      c.requires.empty,
      c.args.ends.now.most,
    ))
    (c.deliver.ensures.delivered _ (served-back c.args.numbers.0 c.args.numbers.1 c.args.ends.now
    c.gather-moved.new.ends c.args.connections.now.items c.gather-moved.new.connections.items v.0
    c.gather-moved.result v.1 (omega (arith, c.requires.size, c.args.connections.now.ok))
    c.serve.new.batch.items s.0 are))
    (c.of.ensures ∙ ap (λ b. turn_of b c.gather-moved.result) c.all_ended.ensures)

pub returns-clause-ahead : goal.returns-clause-ahead
returns-clause-ahead g c =
    let s = c.serve.ensures.served in
    served-stays g.D.Disk g.I.Index c.args.worker.now c.serve.new.worker c.args.seat.now.view
    c.serve.new.seat.view c.greatest_seen-seen.result
    (requests_in c.gather-moved.new.batch.items) s.0 s.3 c.requires.ahead

pub returns-clause-idle : goal.returns-clause-idle
returns-clause-idle g c =
    let v = c.gather-moved.ensures.gathered in
    let s = c.serve.ensures.served in
    let is = batch-is c.args.batch.now.items (in_hand 0 (all_tasks v.0))
    c.gather-moved.new.batch.items c.requires.empty v.2 in
    let are = subst (λ (xs : List (ℕ × Task)). AreAnswered xs c.serve.new.batch.items s.0) is s.1 in
    let delivers = c.deliver.ensures.delivered _ (served-back c.args.numbers.0 c.args.numbers.1
    c.args.ends.now c.gather-moved.new.ends c.args.connections.now.items
    c.gather-moved.new.connections.items v.0 c.gather-moved.result v.1
    (omega (arith, c.requires.size, c.args.connections.now.ok)) c.serve.new.batch.items s.0 are) in
    idle-to c.deliver.new.connections.items (λ k lt.
    (delivers.each k (omega (
      arith,
      lt,
      c.deliver.ensures.size,
      v.1.size,
      c.requires.size,
      v.1.rings.peers,
      c.args.connections.now.ok,
      c.gather-moved.new.connections.ok,
      c.deliver.new.connections.ok,
    ))).group)

pub returns-clause-size : goal.returns-clause-size
returns-clause-size g c =
    let v = c.gather-moved.ensures.gathered in
    let s = c.serve.ensures.served in
    let is = batch-is c.args.batch.now.items (in_hand 0 (all_tasks v.0))
    c.gather-moved.new.batch.items c.requires.empty v.2 in
    let are = subst (λ (xs : List (ℕ × Task)). AreAnswered xs c.serve.new.batch.items s.0) is s.1 in
    let delivers = c.deliver.ensures.delivered _ (served-back c.args.numbers.0 c.args.numbers.1
    c.args.ends.now c.gather-moved.new.ends c.args.connections.now.items
    c.gather-moved.new.connections.items v.0 c.gather-moved.result v.1
    (omega (arith, c.requires.size, c.args.connections.now.ok)) c.serve.new.batch.items s.0 are) in
    omega (
      arith,
      c.deliver.ensures.size,
      v.1.size,
      c.requires.size,
      delivers.rings.peers,
      v.1.rings.peers,
      c.args.connections.now.ok,
      c.gather-moved.new.connections.ok,
    )

pub returns-clause-room : goal.returns-clause-room
returns-clause-room g c =
    let s = c.serve.ensures.served in
    omega (
      arith,
      c.deliver.ensures.spare,
      c.serve.ensures.spare,
      answered-length c.gather-moved.new.batch.items c.serve.new.batch.items s.0 s.1,
      c.gather-moved.ensures.room,
      c.requires.empty,
    )
