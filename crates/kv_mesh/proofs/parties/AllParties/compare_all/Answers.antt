-- a look leaves all linked
use Rattle.kv_mesh.proofs.RingLemmas.{linked-looked, ringed}
use Rattle.kv_mesh.proofs.parties.AllParties.compare_all.Goals as goal

pub compare_all-requires : goal.compare_all-requires
compare_all-requires g c =
    let old = c.args.self.now in
    ringed old.workers.items old.sessions.items old.stamps old.start old.kept old.linked

pub invariant_of-self : goal.invariant_of-self
invariant_of-self g c =
    let old = c.args.self.now in
    record {
      linked = linked-looked old.workers.items old.sessions.items old.stamps old.start old.kept
          old.linked c.compare_all.new.workers.items c.compare_all.new.sessions.items
          c.compare_all.ensures.same;
    }
