use Rattle.std.proofs.Common.{◌≡◌, ◌++◌, ◌∷◌, [], List, length, refl, sym, ap, ◌∙◌, subst, arith}
use Rattle.std.proofs.Common.{length-append}
use Rattle.std.proofs.lemmas.Bool.{false≢true}
use Rattle.std.proofs.lemmas.List.{append-nil}
use Rattle.kv_ring.specs.declared.task.Task.{Task}
use Rattle.kv_session.specs.Tasks.{HaveReplies}
use Rattle.kv_session_party.specs.Merging.{AreAnswered, IsMerged}
use Rattle.kv_session_party.specs.Parts.{replies_in, tasks_here}
use Rattle.kv_session_party.specs.Routes.{RoutesState}
use Rattle.kv_session_party.specs.Parts.{part_of}
use Rattle.kv_session_party.proofs.MergeLemmas.{Merges, Merges-new, Merges-ready, Merges-more}
use Rattle.kv_session_party.proofs.MergeLemmas.{Merges-all, Merges-many, Merges-bare}
use Rattle.kv_session_party.proofs.RouteLemmas.{none-left, ok-then}
use Rattle.kv_session_party.proofs.routes.Routes.merge.Goals as goal

pub loop-place-init : goal.loop-place-init
loop-place-init c =
    let none = ap length c.requires.empty in
    let size = ap (λ (s : RoutesState). length s.places) c.self.view_is in
    let few = c.requires.few in record {
      merges = Merges-new c.self.inside.places.items c.self.inside.parts.items
          c.args.tasks.now.items c.requires.empty
          (subst (λ (s : RoutesState). AreAnswered s.places s.parts) (sym c.self.view_is)
          c.requires.answered);
      few = omega (arith, none, size, few);
      spare = omega (arith, none);
      room = c.self.invariant.0;
    }

pub take_reply-reply-requires : goal.take_reply-reply-requires
take_reply-reply-requires c =
    Merges-ready c.self.inside.places.items c.loop-place.self-inside.places.items
    c.take_last.new.self.items c.self.inside.parts.items c.loop-place.self-inside.parts.items
    c.loop-place.tasks.items c.in-Some.place c.in-Some.ensures.last c.loop-place.invariant.merges

pub loop-place-preserved : goal.loop-place-preserved
loop-place-preserved c =
    let inv = c.loop-place.invariant in
    let size = ap length c.in-Some.ensures.last in
    let sum = length-append c.take_last.new.self.items (c.in-Some.place ∷ []) in
    let room = c.in-Some.ensures.spare in
    let items : c.append.new.self.items ≡ c.loop-place.tasks.items ++ c.answered.result ∷ [] =
    ok-then _ _ _ c.unwrap.ensures c.append.ensures.ok in
    let longer = ap length items in
    let more = length-append c.loop-place.tasks.items (c.answered.result ∷ []) in
    let spare = ok-then _ _ _ c.unwrap.ensures c.append.ensures.spare in
    let fits = c.requires.room in record {
      merges = subst (Merges c.self.inside.places.items c.take_last.new.self.items
          c.self.inside.parts.items c.take_reply-reply.new.parts.items)
          (sym (items ∙ ap (λ (t : Task). c.loop-place.tasks.items ++ t ∷ []) c.answered.ensures))
          (Merges-more c.self.inside.places.items c.loop-place.self-inside.places.items
          c.take_last.new.self.items c.self.inside.parts.items
          c.loop-place.self-inside.parts.items c.take_reply-reply.new.parts.items
          c.loop-place.tasks.items c.in-Some.place c.take_reply-reply.result
          c.in-Some.ensures.last c.take_reply-reply.ensures inv.merges);
      few =
          let was = inv.few in
          omega (arith, size, sum, longer, more, was);
      spare =
          let was = inv.few in
          let same = inv.spare in
          omega (arith, size, sum, longer, more, spare, was, same, fits);
      room =
          let was = inv.room in
          omega (arith, size, sum, room, was);
    }

pub returns-clause-merged : goal.returns-clause-merged
returns-clause-merged c =
    let all = Merges-all c.self.inside.places.items c.loop-place.self-inside.places.items
    c.self.inside.parts.items c.loop-place.self-inside.parts.items c.loop-place.tasks.items
    (none-left c.loop-place.self-inside.places.items
    (λ some. false≢true (c.in_default.ensures.some.1 some))) c.loop-place.invariant.merges in (
      all.0,
      subst (λ (ts : List Task). HaveReplies ts all.0) (sym c.turn_round.ensures.items) all.1,
      subst (λ (s : RoutesState). IsMerged s.places
          (λ worker. replies_in (tasks_here (part_of s.parts worker))) all.0) c.self.view_is all.2,
    )

pub returns-clause-many : goal.returns-clause-many
returns-clause-many c = ap length c.turn_round.ensures.items
    ∙ Merges-many c.self.inside.places.items c.loop-place.self-inside.places.items
    c.self.inside.parts.items c.loop-place.self-inside.parts.items c.loop-place.tasks.items
    (none-left c.loop-place.self-inside.places.items
    (λ some. false≢true (c.in_default.ensures.some.1 some))) c.loop-place.invariant.merges
    ∙ ap (λ (s : RoutesState). length s.places) c.self.view_is

pub returns-clause-bare : goal.returns-clause-bare
returns-clause-bare c = Merges-bare c.self.inside.places.items c.loop-place.self-inside.places.items
    c.self.inside.parts.items c.loop-place.self-inside.parts.items c.loop-place.tasks.items
    (none-left c.loop-place.self-inside.places.items
    (λ some. false≢true (c.in_default.ensures.some.1 some))) c.loop-place.invariant.merges _
    (sym (c.in_default.ensures.last ∙ append-nil c.take_last.new.self.items)) refl
