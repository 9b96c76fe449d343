-- A session's transcript and promise, as its turn goes on.
use Rattle.std.proofs.Common.{◌≡◌, ℕ, ◌<◌, ◌≤◌, ◌^◌, List, [], ◌∷◌, ◌++◌, length, Option, None}
use Rattle.std.proofs.Common.{Some}
use Rattle.std.proofs.Common.{Bool, true, false, ⊎_elim, refl, sym, ◌∙◌, subst, arith}
use Rattle.std.specs.Prelude.{IsSome, IfSome, option_to_list}
use Rattle.std.specs.List.{AllByRecursion, filter_map}
use Rattle.std.proofs.lemmas.List.{get_or_past}
use Rattle.kv_base.specs.declared.cause.Cause.{Cause}
use Rattle.kv_base.specs.declared.reply.Reply.{Reply}
use Rattle.kv_base.specs.declared.request.Request.{Request}
use Rattle.kv_model.proofs.PairwiseLemmas.{All-map}
use Rattle.kv_model.specs.BatchLaws.{pairs_of}
use Rattle.kv_model.specs.Layout.{all_classes}
use Rattle.kv_model.specs.Pairs.{Pair, key_of, stamp_of, told_pair}
use Rattle.kv_parties.specs.Setting.{Setting}
use Rattle.kv_ring.specs.declared.message.Answer.{Answer}
use Rattle.kv_ring.specs.declared.message.Ask.{Ask}
use Rattle.kv_ring.specs.declared.task.Task.{Task}
use Rattle.kv_session.specs.Passage.{Streams, HasRead, Delivers, with_pairs}
use Rattle.kv_session.specs.Session.{SessionState}
use Rattle.kv_session.specs.Tasks.{AreTaken}
use Rattle.kv_parties.specs.Messages.{IsReplied}
use Rattle.kv_parties.specs.Sessions.{greatest}
use Rattle.kv_session_party.specs.Exchanges.{message_for, part_behind_came}
use Rattle.kv_session_party.specs.Promise.{Tells, Keeps, HasCourse, with_gaps}
use Rattle.kv_session_party.specs.Looking.{AnswersAfter}
use Rattle.kv_session_party.proofs.LookLemmas.{keeps-looked, keeps-lifted, gaps-behind, gaps_behind}
use Rattle.kv_stamps.specs.declared.view.Range.{Range}
use Rattle.kv_stamps.specs.declared.view.View.{View}
use Rattle.kv_session_party.specs.Merging.{IsMerged, AreAnswered}
use Rattle.kv_session_party.specs.Routes.{RoutesState, IsRouted}
use Rattle.kv_session_party.specs.Parts.{tasks_out, part_out, part_of, tasks_here, is_away}
use Rattle.kv_session_party.specs.Routes.{part_for}
use Rattle.kv_session_party.specs.Parts.{is_taken, replies_in, no_part}
use Rattle.kv_session_party.specs.declared.part.Part.{Part}
use Rattle.kv_session_party.proofs.AnsweredLemmas.{answered-all, come-replied, replied-framed}
use Rattle.kv_session_party.proofs.ExchangeLemmas.{before_or_not}
use Rattle.kv_session_party.proofs.KeyedLemmas.{asked-keyed}
use Rattle.kv_session_party.proofs.MergeLemmas.{HaveOwn-length}
use Rattle.kv_session_party.proofs.MergedLemmas.{keeps-merged, AreTaken-length}
use Rattle.kv_session_party.proofs.RouteLemmas.{ArePlaces-length}
use Rattle.kv_session_party.proofs.PromiseLemmas.{TellsSame, keeps-same, keeps-asked}
use Rattle.kv_session_party.proofs.PromiseLemmas.{keeps-received}
use Rattle.kv_session_party.proofs.SeenLemmas.{greatest-low, stamps-low}
use Rattle.kv_session_party.proofs.TakenLemmas.{IsFramed, framed-all}

-- ---- a group of which no worker's tasks are away

module _ {F : Type 0} {view : View} (setting : Setting) (sent : ℕ → List (Ask F))
    (received : ℕ → List (Answer F)) (groups : List (List Pair)) (seen : ℕ)
    (routes : RoutesState) (asked : List Request)
    (here : (worker : ℕ) → is_away (part_of routes.parts worker) ≡ false)
    (k : Keeps setting sent received groups seen routes asked true view) where
  -- each task has its reply
  pub keeps-answered : AreAnswered routes.places routes.parts
  keeps-answered = answered-all setting.workers k.way.tasks routes.places routes.parts
      k.promise.asks.coming k.size k.way.places here k.way.came

  replied-each : (worker : ℕ) → AllByRecursion IsReplied (tasks_here (part_of routes.parts worker))
  replied-each worker = ⊎_elim
      (λ (lt : worker < setting.workers). come-replied
      (part_for setting.workers worker k.way.tasks) (k.promise.asks.coming worker)
      (part_of routes.parts worker) (here worker) (k.way.came worker lt))
      (λ (le : setting.workers ≤ worker).
      let size = k.size in
      subst (λ (p : Part). AllByRecursion IsReplied (tasks_here p))
      (sym (get_or_past routes.parts worker no_part (omega (arith, size, le)))) tt)
      (before_or_not worker setting.workers)

  -- the merged replies go into frames
  pub keeps-framed : (merged : List Reply)
      → IsMerged routes.places
      (λ worker. replies_in (tasks_here (part_of routes.parts worker))) merged
      → AllByRecursion IsFramed merged
  keeps-framed merged m = framed-all setting.workers asked k.way.tasks routes.places merged
      k.way.taken k.way.places m.own (λ worker. subst (AllByRecursion IsFramed)
      (sym (m.by_worker worker))
      (replied-framed (tasks_here (part_of routes.parts worker)) (replied-each worker)))

module _ {So Si : Type 0} (streams : Streams So Si) (source : So) (sink : Si) where
  -- a session that goes on has read
  course-read : (now : SessionState So Si) (groups : List (List Pair)) (asked : List Request)
      (waiting : Bool) → now.ending ≡ None
      → HasCourse streams source sink groups asked waiting now now.ending
      → HasRead streams source sink groups asked now
  course-read now groups asked waiting none course =
      subst (λ o. HasCourse streams source sink groups asked waiting now o) none course

  read-course : (now : SessionState So Si) (groups : List (List Pair)) (asked : List Request)
      (waiting : Bool) → HasRead streams source sink groups asked now
      → HasCourse streams source sink groups asked waiting now now.ending
  read-course now groups asked waiting read =
      subst (λ o. HasCourse streams source sink groups asked waiting now o) (sym read.goes_on) read

  -- behind the replies the session goes on or has ended
  course-of : (now : SessionState So Si) (groups : List (List Pair)) (closing : Option Cause)
      (whole : Bool) → Delivers streams source sink groups closing now whole
      → HasCourse streams source sink groups [] false now now.ending
  course-of now groups None true read = read-course now groups [] false read
  course-of now groups (Some cause) true ended =
      subst (λ o. HasCourse streams source sink groups [] false now o) (sym ended.ending_is)
      (ended.session, refl)
  course-of now groups closing false ended =
      subst (λ o. HasCourse streams source sink groups [] false now o) (sym ended.ending_is)
      (ended.session, refl)

module _ {So Si F : Type 0} {view : View} {lifted : Bool} (streams : Streams So Si)
    (setting : Setting) (source : So) (sink : Si) where
  -- the rings tell the same, but for what the promise doesn't speak of
  pub Tells-same : (now : SessionState So Si) (sent later : ℕ → List (Ask F))
      (received hears : ℕ → List (Answer F)) (seen : ℕ) (routes : RoutesState) (waiting : Bool)
      → TellsSame setting.workers sent later → ((worker : ℕ) → hears worker ≡ received worker)
      → Tells streams setting source sink now sent received seen routes waiting view lifted
      → Tells streams setting source sink now later hears seen routes waiting view lifted
  Tells-same now sent later received hears seen routes waiting told heard t = record {
    groups = t.groups;
    asked = t.asked;
    gaps = t.gaps;
    gaps_are = t.gaps_are;
    keeps = keeps-same setting sent later received hears t.groups seen routes t.asked waiting told
        heard t.keeps;
    course = t.course;
  }

  -- a group was read, routed and asked
  pub Tells-asked : (old now : SessionState So Si) (sent later : ℕ → List (Ask F))
      (received hears : ℕ → List (Answer F)) (seen : ℕ) (before routes after : RoutesState)
      (asked : List Request) (tasks : List Task) → setting.layout ≡ all_classes
      → old.ending ≡ None
      → ((groups : List (List Pair)) → HasRead streams source sink groups [] old
      → HasRead streams source sink groups asked now)
      → AreTaken asked tasks → length tasks ≤ 64 → IsRouted tasks routes
      → length routes.parts ≡ setting.workers
      → ((worker : ℕ) → later worker
      ≡ sent worker ++ message_for seen (tasks_out (part_of routes.parts worker)))
      → ((worker : ℕ) → hears worker ≡ received worker)
      → ((worker : ℕ) → part_of after.parts worker ≡ part_out (part_of routes.parts worker))
      → after.places ≡ routes.places → length after.parts ≡ length routes.parts
      → Tells streams setting source sink old sent received seen before false view lifted
      → Tells streams setting source sink now later hears seen after true view lifted
  Tells-asked old now sent later received hears seen before routes after asked tasks layout going
      gathered taken few r many told heard parts places size t =
      let none : t.asked ≡ [] = t.keeps.way in
      record {
        groups = t.groups;
        asked = asked;
        gaps = t.gaps;
        gaps_are = t.gaps_are;
        keeps = keeps-asked setting sent later received hears t.groups seen before routes after
            asked tasks layout taken few r many told heard parts places size
            (subst (λ (rs : List Request). Keeps setting sent received t.groups seen before rs
            false (with_gaps view t.gaps)) none t.keeps);
        course = read-course streams source sink now t.groups asked true (gathered t.groups
            (subst (λ (rs : List Request). HasRead streams source sink t.groups rs old) none
            (course-read streams source sink old t.groups t.asked false going t.course)));
      }

  -- answers came
  pub Tells-received : (now : SessionState So Si) (sent later : ℕ → List (Ask F))
      (received hears : ℕ → List (Answer F)) (seen : ℕ) (routes after : RoutesState)
      (came : ℕ → Option (Answer F))
      → ((worker : ℕ) → later worker ≡ sent worker)
      → ((worker : ℕ) → hears worker ≡ received worker ++ option_to_list (came worker))
      → ((worker : ℕ) → part_of after.parts worker
      ≡ part_behind_came (part_of routes.parts worker) (came worker))
      → ((worker : ℕ) (answer : Answer F) → came worker ≡ Some answer
      → is_taken (part_of routes.parts worker) answer ≡ true
      → AllByRecursion IsReplied (tasks_here (part_of after.parts worker)))
      → ((worker : ℕ) → is_away (part_of routes.parts worker) ≡ false → came worker ≡ None)
      → after.places ≡ routes.places → length after.parts ≡ length routes.parts
      → Tells streams setting source sink now sent received seen routes true view lifted
      → Tells streams setting source sink now later hears seen after true view lifted
  Tells-received now sent later received hears seen routes after came told heard parts replied
      unasked places size t = record {
        groups = t.groups;
        asked = t.asked;
        gaps = t.gaps;
        gaps_are = t.gaps_are;
        keeps = keeps-received setting sent later received hears t.groups seen routes after t.asked
            came told heard parts replied unasked places size t.keeps;
        course = t.course;
      }

  -- the group's replies were merged and written
  pub Tells-merged : (old now : SessionState So Si) (sent : ℕ → List (Ask F))
      (received : ℕ → List (Answer F)) (seen high : ℕ) (routes after : RoutesState)
      (merged : List Reply) (whole : Bool) → setting.layout ≡ all_classes
      → ((worker : ℕ) → is_away (part_of routes.parts worker) ≡ false)
      → IsMerged routes.places (λ worker. replies_in (tasks_here (part_of routes.parts worker)))
      merged
      → high ≡ greatest seen (filter_map stamp_of merged)
      → length after.parts ≡ length routes.parts
      → (t : Tells streams setting source sink old sent received seen routes true view lifted)
      → AllByRecursion (λ request. IsSome (key_of request)) t.asked
      → Delivers streams source sink (with_pairs t.groups (pairs_of t.asked merged)) old.closing now
      whole
      → Tells streams setting source sink now sent received high after false view lifted
  Tells-merged old now sent received seen high routes after merged whole layout here m up
      size t keyed delivered =
      let framed : AllByRecursion IsFramed merged = keeps-framed setting sent received t.groups seen
      routes t.asked here t.keeps merged m in
      let low : high < 2 ^ 62 = subst (λ n. n < 2 ^ 62) (sym up)
      (greatest-low (2 ^ 62) seen (filter_map stamp_of merged) t.keeps.limit
      (stamps-low merged (All-map IsFramed (λ reply. IfSome (stamp_of reply) (λ stamp. stamp < 2 ^ 62)) merged (λ reply is. is.1)
      framed))) in
      record {
        groups = with_pairs t.groups (pairs_of t.asked merged);
        asked = [];
        gaps = t.gaps;
        gaps_are = t.gaps_are;
        keeps = keeps-merged setting sent received t.groups seen high routes after t.asked merged
            layout keyed here m up low size t.keeps;
        course = course-of streams source sink now (with_pairs t.groups (pairs_of t.asked merged)) old.closing whole
            delivered;
      }

  -- a reply came for each request of the group, and they were merged and written
  pub Tells-replied : (old now : SessionState So Si)
      (sent : ℕ → List (Ask F)) (received : ℕ → List (Answer F)) (seen high : ℕ)
      (routes after : RoutesState) (merged : List Reply) (whole : Bool)
      → setting.layout ≡ all_classes
      → ((worker : ℕ) → is_away (part_of routes.parts worker) ≡ false)
      → IsMerged routes.places (λ worker. replies_in (tasks_here (part_of routes.parts worker)))
      merged → high ≡ greatest seen (filter_map stamp_of merged)
      → length after.parts ≡ length routes.parts → old.ending ≡ None
      → ((groups : List (List Pair)) (asked : List Request) → length merged ≡ length asked
      → HasRead streams source sink groups asked old
      → Delivers streams source sink (with_pairs groups (pairs_of asked merged)) old.closing now whole)
      → Tells streams setting source sink old sent received seen routes true view lifted
      → Tells streams setting source sink now sent received high after false view lifted
  Tells-replied old now sent received seen high routes after merged whole layout here m up size
      going delivered t =
      let read = course-read streams source sink old t.groups t.asked true going t.course in
      let many : length merged ≡ length t.asked = HaveOwn-length routes.places merged m.own
      ∙ ArePlaces-length setting.workers t.keeps.way.tasks routes.places t.keeps.way.places
      ∙ AreTaken-length t.asked t.keeps.way.tasks t.keeps.way.taken in
      Tells-merged old now sent received seen high routes after merged whole layout here m up size t
      (asked-keyed t.asked t.keeps.way.tasks t.keeps.way.taken)
      (delivered t.groups t.asked many read)

  -- an After was answered by the counter
  pub Tells-looked : (old now : SessionState So Si) (sent : ℕ → List (Ask F))
      (received : ℕ → List (Answer F)) (seen stamp after : ℕ) (routes : RoutesState)
      (later : View) (reply : Reply) (closing : Option Cause) (whole : Bool)
      → AnswersAfter seen stamp view later reply after → old.ending ≡ None
      → ((groups : List (List Pair)) → HasRead streams source sink groups [] old
      → Delivers streams source sink (groups ++ (told_pair stamp reply ∷ []) ∷ []) closing now
      whole)
      → Tells streams setting source sink old sent received seen routes false view lifted
      → Tells streams setting source sink now sent received after routes false later lifted
  Tells-looked old now sent received seen stamp after routes later reply closing whole answers
      going delivered t =
      let none : t.asked ≡ [] = t.keeps.way in
      let k : Keeps setting sent received t.groups seen routes [] false (with_gaps view t.gaps) =
      subst (λ (rs : List Request). Keeps setting sent received t.groups seen routes rs false
      (with_gaps view t.gaps)) none t.keeps in
      record {
        groups = t.groups ++ (told_pair stamp reply ∷ []) ∷ [];
        asked = [];
        gaps = gaps_behind t.gaps seen answers.looks.passed;
        gaps_are = λ unlifted. gaps-behind seen stamp view later reply after k.limit answers
            t.gaps (t.gaps_are unlifted);
        keeps = keeps-looked setting sent received t.groups seen stamp routes view later reply
            after t.gaps answers k;
        course = course-of streams source sink now
            (t.groups ++ (told_pair stamp reply ∷ []) ∷ []) closing whole
            (delivered t.groups (subst (λ (rs : List Request).
            HasRead streams source sink t.groups rs old) none
            (course-read streams source sink old t.groups t.asked false going t.course)));
      }

  -- the counter was stepped on from outside, and each gap that the promise speaks of stays
  pub Tells-lifted : (now : SessionState So Si) (sent : ℕ → List (Ask F))
      (received : ℕ → List (Answer F)) (seen : ℕ) (routes : RoutesState) (waiting : Bool)
      (later : View) (after : Bool) → later.start ≡ view.start → later.drawn ≡ view.drawn
      → later.spent ≡ view.spent
      → ((gaps : List Range) → (lifted ≡ false → gaps ≡ view.gaps) → after ≡ false
      → gaps ≡ later.gaps)
      → Tells streams setting source sink now sent received seen routes waiting view lifted
      → Tells streams setting source sink now sent received seen routes waiting later after
  Tells-lifted now sent received seen routes waiting later after start drawn spent same t =
      record {
        groups = t.groups;
        asked = t.asked;
        gaps = t.gaps;
        gaps_are = same t.gaps t.gaps_are;
        keeps = keeps-lifted setting sent received t.groups seen routes t.asked waiting
            (with_gaps view t.gaps) (with_gaps later t.gaps) start drawn spent refl t.keeps;
        course = t.course;
      }
