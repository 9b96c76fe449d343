-- the put is full, or it is accepted
use Rattle.std.proofs.Common.{◌≡◌, ap, sym, ◌∙◌, true, false, length, List, ℕ, Some, None, cond}
use Rattle.std.proofs.Common.{arith}
use Rattle.kv_base.specs.declared.request.Request.TheVariants.{Put}
use Rattle.kv_model.specs.Batch.{Start}
use Rattle.kv_model.specs.History.{Write}
use Rattle.kv_model.specs.Layout.{all_classes, class_of}
use Rattle.kv_worker.specs.Answering.{Stands, is_full_slot, slot_for}
use Rattle.kv_worker.specs.Course.{Accepts, Course}
use Rattle.kv_worker.specs.Worker.{start_of}
use Rattle.kv_worker.proofs.AnswerLemmas.{accepts-put, put_write, full-is, full-at, answers-full}
use Rattle.kv_worker.proofs.AnswerLemmas.{answers-stored, some-taken}
use Rattle.kv_worker.proofs.answer.put.Goals as goal

pub is_full-requires-clause-some : goal.is_full-requires-clause-some
is_full-requires-clause-some g c =
    let s = c.requires.stands in
    let now : Start = start_of g.D.Disk g.I.Index c.args.slabs.now in
    some-taken s.2.0 s.2.1.0 c.args.pass.now now c.args.key.now c.find-before.result
    c.slot_for-slot.result c.args.class s.2.1.1.follows c.find-before.ensures
    c.slot_for-slot.ensures c.requires.slab

pub returns-then-is_full-clause-reply : goal.returns-then-is_full-clause-reply
returns-then-is_full-clause-reply g c = λ value class_is course writes stands.
    let a = c.args in
    let now : Start = start_of g.D.Disk g.I.Index a.slabs.now in
    let is : class_of course.start.layout (length a.key.now) (length value) ≡ Some a.class =
    ap (λ (s : Start). class_of s.layout (length a.key.now) (length value)) stands.found ∙ class_is
    in
    answers-full g.D.Disk.tells course writes a.pass.now a.key.now value a.class a.stamp
    stands.follows
    (full-is course.start writes a.key.now value a.class true is
    (sym c.if-is_full.true ∙ full-at course writes a.pass.now now (Put a.key.now value) a.key.now
    c.find-before.result a.task a.stamp a.class c.slot_for-slot.result c.is_full.result
    c.is_full.ensures c.find-before.ensures c.slot_for-slot.ensures stands))

pub accept-requires : goal.accept-requires
accept-requires g c =
    let a = c.args in
    let s = c.requires.stands in
    let now : Start = start_of g.D.Disk g.I.Index a.slabs.now in
    let course : Course = s.2.0 in
    let stands = s.2.1.1 in
    let full : false ≡ is_full_slot course.start s.2.1.0 a.key.now (slot_for course.start a.key.now
    a.class) = sym c.if-is_full.false ∙ full-at course s.2.1.0 a.pass.now now (Put a.key.now s.0)
    a.key.now c.find-before.result a.task a.stamp a.class c.slot_for-slot.result c.is_full.result
    c.is_full.ensures c.find-before.ensures c.slot_for-slot.ensures stands in (
      course,
      (
        s.2.1.0,
        (
          put_write a.key.now s.0 a.stamp,
          accepts-put course s.2.1.0 a.pass.now now a.key.now s.0 c.find-before.result a.class
              (record { task = a.task; slot = c.slot_for-slot.result }) a.stamp stands
              c.find-before.ensures
              (ap (λ (t : Start). class_of t.layout (length a.key.now) (length s.0)) stands.found
              ∙ s.1) c.requires.slab
              (c.slot_for-slot.ensures ∙ ap (λ (t : Start). slot_for t a.key.now a.class)
              (sym stands.found))
              (sym full),
        ),
      ),
    )

pub returns-clause-reply : goal.returns-clause-reply
returns-clause-reply g c = λ value class_is course writes stands.
    let a = c.args in
    let now : Start = start_of g.D.Disk g.I.Index a.slabs.now in
    let is : class_of course.start.layout (length a.key.now) (length value) ≡ Some a.class =
    ap (λ (s : Start). class_of s.layout (length a.key.now) (length value)) stands.found ∙ class_is
    in
    let full : false ≡ is_full_slot course.start writes a.key.now (slot_for course.start a.key.now
    a.class) = sym c.if-is_full.false ∙ full-at course writes a.pass.now now (Put a.key.now value)
    a.key.now c.find-before.result a.task a.stamp a.class c.slot_for-slot.result c.is_full.result
    c.is_full.ensures c.find-before.ensures c.slot_for-slot.ensures stands in
    answers-stored g.D.Disk.tells course writes c.accept.new.self a.key.now value a.stamp
    (c.in_ok-accept.ensures course writes (put_write a.key.now value a.stamp)
    (accepts-put course writes a.pass.now now a.key.now value c.find-before.result a.class
    (record { task = a.task; slot = c.slot_for-slot.result }) a.stamp stands c.find-before.ensures
    is c.requires.slab
    (c.slot_for-slot.ensures ∙ ap (λ (t : Start). slot_for t a.key.now a.class) (sym stands.found))
    (sym full)))
    (full-is course.start writes a.key.now value a.class false is full)
