-- one session more, from the last to the first
use Rattle.std.proofs.Common.{◌≡◌, ◌+◌, ◌-◌, arith, refl, subst, ◌∙◌}
use Rattle.std.proofs.Common.{length-set}
use Rattle.kv_groups.proofs.DeliverLemmas.{DeliversFrom, delivers-none, delivers-more, delivers-all}
use Rattle.kv_groups.proofs.DeliverLemmas.{back-some, session-free, batch-less}
use Rattle.kv_groups.proofs.GatherLemmas.{same-rings}
use Rattle.kv_groups.proofs.delivering.deliver.Goals as goal

pub deliver_to-requires-clause-session : goal.deliver_to-requires-clause-session
deliver_to-requires-clause-session g c =
    omega (arith, c.loop-session.invariant.rings.peers, c.peers-session.ensures)

pub deliver_to-requires-clause-free : goal.deliver_to-requires-clause-free
deliver_to-requires-clause-free g c =
    let back = c.requires.back in
    let d = c.loop-session.invariant.from back.0 back.1 in
    session-free c.args.connections.now.items c.loop-session.connections.items (c.loop-session.session - 1)
    c.index_mut.result.now c.requires.free (d.earlier (c.loop-session.session - 1) (omega arith)).1
    (omega (
      arith,
      c.loop-session.invariant.size,
      c.peers-session.ensures,
      c.requires.size,
      c.args.connections.now.ok,
    )) c.index_mut.ensures.value

pub deliver_to-requires-clause-some : goal.deliver_to-requires-clause-some
deliver_to-requires-clause-some g c =
    let back = c.requires.back in
    let e : c.loop-session.session ≡ (c.loop-session.session - 1) + 1 = omega arith in
    back-some c.args.ends.now c.loop-session.ends c.args.connections.now.items
    c.loop-session.connections.items back.0 c.args.batch.now.items c.loop-session.batch.items
    (c.loop-session.session - 1) c.index_mut.result.now back.1
    (subst (DeliversFrom c.args.ends.now c.loop-session.ends c.args.connections.now.items
    c.loop-session.connections.items back.0 c.loop-session.batch.items) e
    (c.loop-session.invariant.from back.0 back.1)) (omega (arith, c.peers-session.ensures, c.requires.size, c.args.connections.now.ok))
    c.loop-session.invariant.size c.index_mut.ensures.value

pub loop-session-init : goal.loop-session-init
loop-session-init g c = record {
  size = omega arith;
  rings = record { peers = refl; lines = λ other. refl };
  room = omega arith;
  from = λ groups back. delivers-none c.args.ends.now c.args.connections.now.items groups
      c.args.batch.now.items _ back
      (omega (arith, c.peers-session.ensures, c.requires.size, c.args.connections.now.ok));
}

pub loop-session-preserved : goal.loop-session-preserved
loop-session-preserved g c =
    let p = c.loop-session.invariant in
    let e : c.loop-session.session ≡ (c.loop-session.session - 1) + 1 = omega arith in
    let back = c.requires.back in
    record {
      size = length-set c.loop-session.connections.items (c.loop-session.session - 1)
          c.deliver_to.new.connection ∙ p.size;
      rings = same-rings c.args.ends.now c.loop-session.ends c.deliver_to.new.ends p.rings
          c.deliver_to.ensures.rings;
      room = omega (
        arith,
        p.room,
        c.deliver_to.ensures.spare,
        batch-less c.args.ends.now c.loop-session.ends c.args.connections.now.items
            c.loop-session.connections.items back.0 c.args.batch.now.items c.loop-session.batch.items
            c.deliver_to.new.batch.items (c.loop-session.session - 1) c.index_mut.result.now back.1
            (subst (DeliversFrom c.args.ends.now c.loop-session.ends c.args.connections.now.items
            c.loop-session.connections.items back.0 c.loop-session.batch.items) e (p.from back.0 back.1))
            (omega (arith, c.peers-session.ensures, c.requires.size, c.args.connections.now.ok)) p.size c.index_mut.ensures.value
            (λ front tasks is many. (c.deliver_to.ensures.delivered front tasks is many).0),
      );
      from = λ groups is_back. delivers-more c.args.ends.now c.loop-session.ends
          c.deliver_to.new.ends c.args.connections.now.items c.loop-session.connections.items groups
          c.args.batch.now.items c.loop-session.batch.items c.deliver_to.new.batch.items
          (c.loop-session.session - 1) c.index_mut.result.now c.deliver_to.new.connection is_back
          (subst (DeliversFrom c.args.ends.now c.loop-session.ends c.args.connections.now.items
          c.loop-session.connections.items groups c.loop-session.batch.items) e (p.from groups is_back))
          (omega (arith, c.peers-session.ensures, c.requires.size, c.args.connections.now.ok)) p.size c.index_mut.ensures.value c.deliver_to.ensures.delivered
          c.deliver_to.ensures.others;
    }

pub returns-clause-delivered : goal.returns-clause-delivered
returns-clause-delivered g c = λ groups back.
    let at_end : c.loop-session.session ≡ 0 = omega arith in
    delivers-all c.args.ends.now c.loop-session.ends c.args.connections.now.items
    c.loop-session.connections.items groups c.loop-session.batch.items
    (subst (DeliversFrom c.args.ends.now c.loop-session.ends c.args.connections.now.items
    c.loop-session.connections.items groups c.loop-session.batch.items) at_end
    (c.loop-session.invariant.from groups back))
    (omega (arith, c.requires.size, c.args.connections.now.ok)) c.loop-session.invariant.rings

pub returns-clause-empty : goal.returns-clause-empty
returns-clause-empty g c =
    let back = c.requires.back in
    let at_end : c.loop-session.session ≡ 0 = omega arith in
    (subst (DeliversFrom c.args.ends.now c.loop-session.ends c.args.connections.now.items
    c.loop-session.connections.items back.0 c.loop-session.batch.items) at_end
    (c.loop-session.invariant.from back.0 back.1)).items_are
