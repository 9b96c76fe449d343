-- the parties are linked by one mesh of rings and one counter
use Rattle.std.proofs.Common.{◌+◌, ◌-◌, ◌<◌, ◌≤◌, ◌^◌, All, sym, ap, ap₂, ◌∙◌, subst, subst₂, arith}
use Rattle.kv_groups.specs.Gathering.{greatest}
use Rattle.kv_mesh.specs.Started.{AreNew, floors}
use Rattle.kv_mesh.proofs.FirstLemmas.{all-ready, all-spare, starts-within}
use Rattle.kv_mesh.proofs.NewLemmas.{HavePeers, all-new}
use Rattle.kv_mesh.proofs.start_parties.start_parties.Goals as goal

pub first_stamp-start-requires : goal.first_stamp-start-requires
first_stamp-start-requires g c = subst (All (λ opened. opened.floor < 2 ^ 62 - 1))
    (sym c.as_slice.ensures.value)
    (all-spare g.D.Disk g.I.Index c.args.stores.now.items c.requires.stores)

pub start_all-requires : goal.start_all-requires
start_all-requires g c =
    let made = c.in_ok-session_rings in
    let first = c.first_stamp-start in
    let begins = c.in_ok-seats.ensures in
    record {
      start = omega (arith, begins.start.0, first.ensures.value);
      ready = all-ready g.D.Disk g.I.Index c.args.stores.now.items c.requires.stores
          c.in_ok-seats.seats.start
          (subst₂ (λ n l. All (λ opened. opened.floor < n) l) (sym begins.start.0)
          c.as_slice.ensures.value first.ensures.above);
      fresh = (
        λ k d lt. (made.ensures.session_ends k d lt).1,
        λ k d lt. (made.ensures.worker_ends k d lt).1,
      );
      counts = (
        omega (arith, made.ensures.counts.0, c.requires.sessions),
        omega (arith, made.ensures.counts.1, c.requires.workers),
      );
      seats = omega (arith, begins.count);
    }

pub invariant_of-result : goal.invariant_of-result
invariant_of-result g c =
    let made = c.in_ok-session_rings in
    let seats = c.in_ok-seats.seats in
    let begins = c.in_ok-seats.ensures in
    let first = c.first_stamp-start in
    let all = c.in_ok-workers in
    let stores = c.args.stores.now.items in
    let ends = c.args.ends.now.items in
    let new = subst₂ (λ a b. AreNew stores ends a b all.workers.items all.sessions.items)
    (ap (λ seat. seat.counter) (sym c.start_all.ensures.same)) begins.start.0
    (all-new stores ends made.session_rings.items made.worker_rings.items seats.stamps seats.start
    seats.many all.workers.items all.sessions.items all.ensures.workers all.ensures.sessions
    (subst (λ n. HavePeers n made.worker_rings.items) (c.len.ensures ∙ c.args.ends.now.ok.0)
    made.ensures.worker_ends)
    (subst (λ n. HavePeers n made.session_rings.items) (c.len-2.ensures ∙ c.args.stores.now.ok.0)
    made.ensures.session_ends)
    c.requires.stores made.ensures.rings
    (subst (λ n. (1 ≤ n) × (n ≤ 16)) c.args.stores.now.ok.0 c.requires.workers)
    (subst (λ n. (1 ≤ n) × (n ≤ 8)) c.args.ends.now.ok.0 c.requires.sessions)
    (starts-within seats.start first.result (greatest (floors c.as_slice.result.now)) begins.start.0
    first.ensures.value first.ensures.limit)
    (begins.start.1 ∙ ap₂ (λ a b. a + b) (c.len-3.ensures ∙ c.args.stores.now.ok.0)
    (c.len-4.ensures ∙ c.args.ends.now.ok.0))) in
    record { linked = new.linked }

pub returns-clause-new : goal.returns-clause-new
returns-clause-new g c =
    let made = c.in_ok-session_rings in
    let seats = c.in_ok-seats.seats in
    let begins = c.in_ok-seats.ensures in
    let first = c.first_stamp-start in
    let all = c.in_ok-workers in
    let stores = c.args.stores.now.items in
    let ends = c.args.ends.now.items in
    let new = subst₂ (λ a b. AreNew stores ends a b all.workers.items all.sessions.items)
    (ap (λ seat. seat.counter) (sym c.start_all.ensures.same)) begins.start.0
    (all-new stores ends made.session_rings.items made.worker_rings.items seats.stamps seats.start
    seats.many all.workers.items all.sessions.items all.ensures.workers all.ensures.sessions
    (subst (λ n. HavePeers n made.worker_rings.items) (c.len.ensures ∙ c.args.ends.now.ok.0)
    made.ensures.worker_ends)
    (subst (λ n. HavePeers n made.session_rings.items) (c.len-2.ensures ∙ c.args.stores.now.ok.0)
    made.ensures.session_ends)
    c.requires.stores made.ensures.rings
    (subst (λ n. (1 ≤ n) × (n ≤ 16)) c.args.stores.now.ok.0 c.requires.workers)
    (subst (λ n. (1 ≤ n) × (n ≤ 8)) c.args.ends.now.ok.0 c.requires.sessions)
    (starts-within seats.start first.result (greatest (floors c.as_slice.result.now)) begins.start.0
    first.ensures.value first.ensures.limit)
    (begins.start.1 ∙ ap₂ (λ a b. a + b) (c.len-3.ensures ∙ c.args.stores.now.ok.0)
    (c.len-4.ensures ∙ c.args.ends.now.ok.0))) in
    new

pub returns-clause-start : goal.returns-clause-start
returns-clause-start g c = c.first_stamp-start.ensures.value
    ∙ ap (λ l. greatest (floors l) + 1) c.as_slice.ensures.value
