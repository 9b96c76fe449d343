-- the old last write's slots are given back, and the new one's taken
use Rattle.std.proofs.Common.{Result, Ok, Err, OnOk, ◌+◌, ◌≤◌, ◌<◌, ◌≡◌, slice_index, arith}
use Rattle.kv_worker.proofs.PassLemmas.{taken-parts, slab-last, goes-on}
use Rattle.kv_worker.proofs.pass.Pass.accept.Goals as goal

pub give_back-requires-clause-slab : goal.give_back-requires-clause-slab
give_back-requires-clause-slab c =
    let a = c.requires in slab-last a.0 c.args.before _ a.1.1.1.before_is

pub give_back-requires-clause-some : goal.give_back-requires-clause-some
give_back-requires-clause-some c = λ class small.
    let a = c.requires in
    let parts = taken-parts a.0 a.1.0 c.args.self.now c.args.key.now c.args.before class
    a.1.1.1.follows a.1.1.1.before_is small in
    omega (arith, parts)

then_ok : {T E : Type 0} (r : Result T E) (P Q : Type 0) → OnOk r P → (P → Q) → OnOk r Q
then_ok (Ok value) P Q p f = f p
then_ok (Err error) P Q p f = tt

pub returns : goal.returns
returns c = then_ok c.set.result _ _ c.set.ensures
    (λ found. λ course writes write accepts.
    goes-on course writes c.args.self.now (record {
      overlay = c.set.new.self;
      taken = c.take.new.taken;
    }) c.args.key.now c.args.before c.args.last write accepts found
    (λ class small.
    let first = c.give_back.ensures class small in
    let second = c.take.ensures class small in
    omega (arith, first, second)))
