-- what is taken is at least what is left
use Rattle.std.proofs.Common.{◌≡◌, ◌+◌, ℕ, leb, arith, ap, sym, ◌∙◌, subst, IfSome}
use Rattle.kv_model.specs.Batch.{Start, taken_by_others}
use Rattle.kv_worker.specs.Answering.{is_full_slot}
use Rattle.kv_worker.specs.Course.{IsSlab}
use Rattle.kv_worker.specs.Worker.{start_of}
use Rattle.kv_worker.proofs.AnswerLemmas.{at-limit}
use Rattle.kv_worker.proofs.PassLemmas.{taken-parts}
use Rattle.kv_worker.proofs.room.is_full.Goals as goal

pub returns-in-Some : goal.returns-in-Some
returns-in-Some g c = λ course writes key stands.
    let found : Start = start_of g.D.Disk g.I.Index c.args.slabs.now in
    let class = c.in-Some.class in
    let slab : IsSlab class = subst (λ o. IfSome o IsSlab) c.in-Some.is c.requires.slab in
    let parts = taken-parts course writes c.args.pass.now key c.args.before class stands.follows
    stands.last_is (omega arith) in
    let others : c.taken_beside.result ≡ taken_by_others course.start writes key class =
    omega (arith, parts, c.taken_beside.ensures) in
    at-limit found.limit (found.items class) c.taken_beside.result c.room.result c.room.ensures
    ∙ ap (λ n. leb found.limit (found.items class + n))
    (others ∙ ap (λ s. taken_by_others s writes key class) stands.found)
    ∙ sym (ap (is_full_slot found writes key) c.in-Some.is)
