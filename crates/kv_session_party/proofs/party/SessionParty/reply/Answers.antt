use Rattle.std.proofs.Common.{◌≡◌, ◌<◌, ◌^◌, inr, ℕ, Bool, false, None, [], ◌∷◌}
use Rattle.std.proofs.Common.{◌++◌, List, length, refl, sym, ap, ◌∙◌, subst}
use Rattle.std.proofs.Common.{arith}
use Rattle.std.specs.Prelude.{is_some}
use Rattle.std.proofs.Math.Logic.{∥∥₁_map, ∥∥₁_elim}
use Rattle.std.proofs.Props.{props}
use Rattle.kv_model.proofs.PairwiseLemmas.{All-map}
use Rattle.kv_model.specs.Frames.{HasReplyFrame}
use Rattle.kv_ring.specs.Ends.{peers}
use Rattle.kv_base.specs.declared.request.Request.TheVariants.{After}
use Rattle.kv_ring.specs.declared.task.Task.{Task}
use Rattle.kv_session.specs.Passage.{Streams}
use Rattle.kv_session.specs.Session.{SessionState, after_taken}
use Rattle.kv_session.specs.Tasks.{HaveReplies}
use Rattle.kv_session_party.specs.Links.{told_to, heard_from}
use Rattle.kv_session_party.specs.Party.{greatest_in}
use Rattle.kv_session_party.specs.Promise.{Tells, Keeps, with_gaps}
use Rattle.kv_session_party.proofs.AnsweredLemmas.{here-each}
use Rattle.kv_session_party.proofs.PartyLemmas.{none-of, over-is, or-first, bare-all_here}
use Rattle.kv_session_party.proofs.PartyLemmas.{some_setting, some-served, stays-same, goes-next}
use Rattle.kv_session_party.proofs.PartyLemmas.{next-asks, one-replied}
use Rattle.kv_session_party.proofs.PropositionLemmas.{answered-prop, frames-prop}
use Rattle.kv_session_party.proofs.LookLemmas.{answer-framed}
use Rattle.kv_session_party.proofs.SeenLemmas.{greatest-replies}
use Rattle.kv_session_party.proofs.TakenLemmas.{IsFramed}
use Rattle.kv_session_party.proofs.TaleLemmas.{Tells-replied, keeps-answered, keeps-framed}
use Rattle.kv_session_party.proofs.TaleLemmas.{Tells-looked}
use Rattle.kv_session_party.proofs.RouteLemmas.{of_ok}
use Rattle.kv_session_party.proofs.party.SessionParty.reply.Goals as goal

pub merge-requires-clause-answered : goal.merge-requires-clause-answered
merge-requires-clause-answered g c =
    let old = c.args.self.now in
    let n : ℕ = peers old.links.ends in
    ∥∥₁_elim (old.promise (some_setting n) (some-served n))
    (answered-prop old.routes.places old.routes.parts)
    (λ t. keeps-answered (some_setting n) (told_to old.links) (heard_from old.links) t.groups
    old.seen old.routes t.asked (here-each old.routes.parts c.requires.here)
    (subst (λ (w : Bool). Keeps (some_setting n) (told_to old.links) (heard_from old.links)
    t.groups old.seen old.routes t.asked w
    (with_gaps old.seat.view t.gaps)) c.requires.waits t.keeps))

pub deliver-whole-requires-clause-answered : goal.deliver-whole-requires-clause-answered
deliver-whole-requires-clause-answered g c =
    let old = c.args.self.now in
    let n : ℕ = peers old.links.ends in
    let m = c.merge.ensures.merged in (
      m.0,
      m.1,
      ∥∥₁_elim (old.promise (some_setting n) (some-served n)) (frames-prop m.0)
          (λ t. All-map IsFramed HasReplyFrame m.0 (λ reply is. is.0)
          (keeps-framed (some_setting n) (told_to old.links) (heard_from old.links) t.groups
          old.seen old.routes t.asked (here-each old.routes.parts c.requires.here)
          (subst (λ (w : Bool). Keeps (some_setting n) (told_to old.links) (heard_from old.links)
          t.groups old.seen old.routes t.asked w
          (with_gaps old.seat.view t.gaps)) c.requires.waits t.keeps) m.0 m.2)),
    )

-- what was seen is below the limit
pub answer-reply-requires-clause-limit : goal.answer-reply-requires-clause-limit
answer-reply-requires-clause-limit g c =
    let streams : Streams g.row.So.Denot g.row.Si.Denot = record {
      stream = g.So.Source.stream;
      source_faults = g.So.Source.faults;
      held = g.Si.Sink.held;
      sink_faults = g.Si.Sink.faults;
    } in
    let old = c.args.self.now in
    let n : ℕ = peers old.links.ends in
    let m = c.merge.ensures.merged in
    ∥∥₁_elim (old.promise (some_setting n) (some-served n)) (hlevel props)
    (λ t. (Tells-replied streams (some_setting n) old.first.value.source old.first.value.sink
    old.session c.deliver-whole.new.self (told_to old.links) (heard_from old.links) old.seen
    c.greatest-self.result old.routes c.merge.new.self m.0 c.deliver-whole.result refl
    (here-each old.routes.parts c.requires.here) m.2
    (c.greatest-self.ensures ∙ ap (greatest_in old.seen) c.as_slice.ensures
    ∙ greatest-replies old.seen c.merge.new.tasks.items m.0 m.1) c.merge.ensures.size
    (none-of _ (sym old.ended ∙ c.requires.goes_on))
    (λ groups asked size read. c.deliver-whole.ensures.delivered old.first.value.source
    old.first.value.sink groups asked m.0 size m.1 read)
    (subst (λ (w : Bool). Tells streams (some_setting n) old.first.value.source
    old.first.value.sink old.session (told_to old.links) (heard_from old.links) old.seen
    old.routes w old.seat.view old.lifted) c.requires.waits t)).keeps.limit)

-- and its reply has a frame
pub deliver-all-requires-clause-answered : goal.deliver-all-requires-clause-answered
deliver-all-requires-clause-answered g c =
    let old = c.args.self.now in
    let deliver = c.deliver-whole.ensures in
    let merge = c.merge.ensures in
    let reply = c.answer-reply.result.0 in
    let fits = c.append.ensures.room (omega (arith, deliver.spare, merge.spare, old.room)) in
    let items = of_ok c.append.result _ fits c.append.ensures.ok in (
      reply ∷ [],
      one-replied c.deliver-whole.new.tasks.items c.append.new.self.items reply deliver.empty
          (items ∙ ap (λ (t : Task). c.deliver-whole.new.tasks.items ++ t ∷ []) c.told.ensures),
      (
        answer-framed c.greatest-self.result c.in-Some.stamp old.seat.view
            c.answer-reply.new.seat.view reply c.answer-reply.result.1
            c.answer-reply.ensures.answers,
        tt,
      ),
    )

pub returns-in-Some-clause-seat : goal.returns-in-Some-clause-seat
returns-in-Some-clause-seat g c =
    let streams : Streams g.row.So.Denot g.row.Si.Denot = record {
      stream = g.So.Source.stream;
      source_faults = g.So.Source.faults;
      held = g.Si.Sink.held;
      sink_faults = g.Si.Sink.faults;
    } in
    let old = c.args.self.now in
    let n : ℕ = peers old.links.ends in
    let m = c.merge.ensures.merged in
    let low : c.greatest-self.result < 2 ^ 62 =
    ∥∥₁_elim (old.promise (some_setting n) (some-served n)) (hlevel props)
    (λ t. (Tells-replied streams (some_setting n) old.first.value.source old.first.value.sink
    old.session c.deliver-whole.new.self (told_to old.links) (heard_from old.links) old.seen
    c.greatest-self.result old.routes c.merge.new.self m.0 c.deliver-whole.result refl
    (here-each old.routes.parts c.requires.here) m.2
    (c.greatest-self.ensures ∙ ap (greatest_in old.seen) c.as_slice.ensures
    ∙ greatest-replies old.seen c.merge.new.tasks.items m.0 m.1) c.merge.ensures.size
    (none-of _ (sym old.ended ∙ c.requires.goes_on))
    (λ groups asked size read. c.deliver-whole.ensures.delivered old.first.value.source
    old.first.value.sink groups asked m.0 size m.1 read)
    (subst (λ (w : Bool). Tells streams (some_setting n) old.first.value.source
    old.first.value.sink old.session (told_to old.links) (heard_from old.links) old.seen
    old.routes w old.seat.view old.lifted) c.requires.waits t)).keeps.limit) in
    let looks = c.answer-reply.ensures.answers in
    record {
      counter = c.answer-reply.ensures.counter;
      view = inr (c.greatest-self.result, omega (arith, low), (looks.number, looks.looks));
    }

-- the replies of the group were written
pub invariant_of-self : goal.invariant_of-self
invariant_of-self g c =
    let streams : Streams g.row.So.Denot g.row.Si.Denot = record {
      stream = g.So.Source.stream;
      source_faults = g.So.Source.faults;
      held = g.Si.Sink.held;
      sink_faults = g.Si.Sink.faults;
    } in
    let State = SessionState g.row.So.Denot g.row.Si.Denot in
    let old = c.args.self.now in
    let after = c.merge.new.self in
    let merge = c.merge.ensures in
    let m = merge.merged in
    let deliver = c.deliver-whole.ensures in
    let mid = c.deliver-whole.new.self in
    let new = c.next_after.new.session in
    let next = c.next_after.ensures in
    let same : new ≡ mid = stays-same c.ends-self.result mid new c.next_after.result next.over
    next.goes_on c.in-None.is in
    let none = merge.bare.places in
    let given = deliver.spare in
    let taken = merge.spare in
    let room = old.room in
    record {
      size = merge.size ∙ old.size;
      few = omega (arith, none);
      idle = ap length deliver.empty;
      room = omega (arith, given, taken, room);
      ended = c.ends-self.ensures ∙ over-is old.read_all c.deliver-whole.result
          old.session.closing mid.ending old.closed deliver.goes_on
          ∙ ap (λ (s : State). is_some s.ending) (sym same);
      closed = old.closed ∙ ap (λ o. is_some o) (sym deliver.kept.closing)
          ∙ ap (λ (s : State). is_some s.closing) (sym same);
      reads = λ e resting. or-first _ _ (sym c.ends-self.ensures ∙ e);
      told = λ e resting. ap (λ (s : State). s.after) (next.goes_on e).1;
      rests = λ e. refl;
      away = λ e worker here. old.away c.requires.goes_on worker
          (here-each old.routes.parts c.requires.here worker);
      bare = λ e. merge.bare;
      promise = λ setting served. ∥∥₁_map (old.promise setting served)
          (λ t. subst (λ (s : State). Tells streams setting old.first.value.source
          old.first.value.sink s (told_to old.links) (heard_from old.links) c.greatest-self.result
          after false old.seat.view old.lifted) (sym same)
          (Tells-replied streams setting old.first.value.source old.first.value.sink
          old.session mid (told_to old.links) (heard_from old.links) old.seen
          c.greatest-self.result old.routes after m.0 c.deliver-whole.result served.layout
          (here-each old.routes.parts c.requires.here) m.2
          (c.greatest-self.ensures ∙ ap (greatest_in old.seen) c.as_slice.ensures
          ∙ greatest-replies old.seen c.merge.new.tasks.items m.0 m.1) merge.size
          (none-of _ (sym old.ended ∙ c.requires.goes_on))
          (λ groups asked size read. deliver.delivered old.first.value.source
          old.first.value.sink groups asked m.0 size m.1 read)
          (subst (λ (w : Bool). Tells streams setting old.first.value.source
          old.first.value.sink old.session (told_to old.links) (heard_from old.links) old.seen
          old.routes w old.seat.view old.lifted) c.requires.waits t)));
    }

-- and then that to an After
pub invariant_of-self-in-Some : goal.invariant_of-self-in-Some
invariant_of-self-in-Some g c =
    let streams : Streams g.row.So.Denot g.row.Si.Denot = record {
      stream = g.So.Source.stream;
      source_faults = g.So.Source.faults;
      held = g.Si.Sink.held;
      sink_faults = g.Si.Sink.faults;
    } in
    let State = SessionState g.row.So.Denot g.row.Si.Denot in
    let old = c.args.self.now in
    let after = c.merge.new.self in
    let merge = c.merge.ensures in
    let m = merge.merged in
    let deliver = c.deliver-whole.ensures in
    let mid = c.deliver-whole.new.self in
    let next = c.next_after.ensures in
    let taken_out = c.next_after.new.session in
    let stamp = c.in-Some.stamp in
    let going : c.ends-self.result ≡ false = goes-next c.ends-self.result mid taken_out
    c.next_after.result stamp next.over c.in-Some.is in
    let out : taken_out ≡ after_taken mid = (next.goes_on going).1 in
    let unread : old.read_all ≡ false = or-first _ _ (sym c.ends-self.ensures ∙ going) in
    let mid_goes : mid.ending ≡ None = none-of _ (sym (over-is old.read_all
    c.deliver-whole.result old.session.closing mid.ending old.closed deliver.goes_on)
    ∙ sym c.ends-self.ensures ∙ going) in
    let answers = c.answer-reply.ensures.answers in
    let reply = c.answer-reply.result.0 in
    let last = c.deliver-all.ensures in
    let new = c.deliver-all.new.self in
    let fits = c.append.ensures.room (omega (arith, deliver.spare, merge.spare, old.room)) in
    let items = of_ok c.append.result _ fits c.append.ensures.ok in
    let left = of_ok c.append.result _ fits c.append.ensures.spare in
    let have : HaveReplies c.append.new.self.items (reply ∷ []) =
    one-replied c.deliver-whole.new.tasks.items c.append.new.self.items reply deliver.empty
    (items ∙ ap (λ (t : Task). c.deliver-whole.new.tasks.items ++ t ∷ []) c.told.ensures) in
    let one : length c.append.new.self.items ≡ 1 =
    ap length (items ∙ ap (λ (ts : List Task). ts ++ c.told.result ∷ []) deliver.empty) in
    let none = merge.bare.places in
    record {
      size = merge.size ∙ old.size;
      few = omega (arith, none);
      idle = ap length last.empty;
      room = omega (arith, one, last.spare, left, deliver.spare, merge.spare, old.room);
      ended = over-is false c.deliver-all.result taken_out.closing new.ending
          (sym unread ∙ old.closed ∙ ap (λ o. is_some o) (sym deliver.kept.closing)
          ∙ ap (λ (s : State). is_some s.closing) (sym out)) last.goes_on;
      closed = old.closed ∙ ap (λ o. is_some o) (sym deliver.kept.closing)
          ∙ ap (λ (s : State). is_some s.closing) (sym out)
          ∙ ap (λ o. is_some o) (sym last.kept.closing);
      reads = λ e resting. unread;
      told = λ e resting. last.kept.after ∙ ap (λ (s : State). s.after) out;
      rests = λ e. refl;
      away = λ e worker here. old.away c.requires.goes_on worker
          (here-each old.routes.parts c.requires.here worker);
      bare = λ e. merge.bare;
      promise = λ setting served. ∥∥₁_map (old.promise setting served)
          (λ t. Tells-looked streams setting old.first.value.source old.first.value.sink
          mid new (told_to old.links) (heard_from old.links) c.greatest-self.result stamp
          c.answer-reply.result.1 after c.answer-reply.new.seat.view reply taken_out.closing
          c.deliver-all.result answers mid_goes
          (λ groups read. last.delivered old.first.value.source old.first.value.sink groups
          (After stamp ∷ []) (reply ∷ []) refl have
          (next-asks streams old.first.value.source old.first.value.sink groups mid taken_out
          c.next_after.result stamp c.in-Some.is next.asks read))
          (Tells-replied streams setting old.first.value.source old.first.value.sink
          old.session mid (told_to old.links) (heard_from old.links) old.seen
          c.greatest-self.result old.routes after m.0 c.deliver-whole.result served.layout
          (here-each old.routes.parts c.requires.here) m.2
          (c.greatest-self.ensures ∙ ap (greatest_in old.seen) c.as_slice.ensures
          ∙ greatest-replies old.seen c.merge.new.tasks.items m.0 m.1) merge.size
          (none-of _ (sym old.ended ∙ c.requires.goes_on))
          (λ groups asked size read. deliver.delivered old.first.value.source
          old.first.value.sink groups asked m.0 size m.1 read)
          (subst (λ (w : Bool). Tells streams setting old.first.value.source
          old.first.value.sink old.session (told_to old.links) (heard_from old.links) old.seen
          old.routes w old.seat.view old.lifted) c.requires.waits t)));
    }

pub returns-in-None-clause-here : goal.returns-in-None-clause-here
returns-in-None-clause-here g c = bare-all_here c.merge.new.self c.merge.ensures.bare

pub returns-in-Some-clause-here : goal.returns-in-Some-clause-here
returns-in-Some-clause-here g c = bare-all_here c.merge.new.self c.merge.ensures.bare
