-- What causes the replies of one batch, and those of all batches with one more.
use Rattle.std.proofs.Common.{◌≡◌, ◌≢◌, ◌⊎◌, inl, inr, ℕ, ◌-◌, ◌≤◌, List, [], ◌∷◌, ◌++◌, map, length}
use Rattle.std.proofs.Common.{Some, None, Bool, true, false, cond, ◌||◌, refl, sym, ap, subst}
use Rattle.std.proofs.Common.{◌∙◌, arith, append-nil, IsTrue}
use Rattle.std.specs.List.{AllByRecursion}
use Rattle.std.proofs.lemmas.List.Concat.{flat_map-append}
use Rattle.kv_base.specs.Calls.{next_count}
use Rattle.kv_base.specs.declared.reply.Reply.{Reply}
use Rattle.kv_base.specs.declared.reply.Reply.TheVariants.{NoMemory, DiskFault, Closed, StampsSpent}
use Rattle.kv_base.specs.declared.request.Request.{Request}
use Rattle.kv_disk.specs.declared.disk.Disk as disks
use Rattle.kv_index.specs.declared.index.Index as indexes
use Rattle.kv_model.proofs.PairwiseLemmas.{All-append, All-map}
use Rattle.kv_model.specs.Batch.{Start, answers, failed_replies}
use Rattle.kv_model.specs.BatchLaws.{pairs_of}
use Rattle.kv_model.specs.History.{Write}
use Rattle.kv_model.specs.Items.{FollowsHistory}
use Rattle.kv_model.specs.Layout.{all_classes}
use Rattle.kv_model.specs.Pairs.{Pair, pairs_in, writes, acknowledged_by}
use Rattle.kv_parties.specs.Causes.{is_unsure, is_fault, any_unsure, any_fault, faults_behind}
use Rattle.kv_parties.specs.Causes.{IsClosedAt, AreClosedBehind, IsSpentAt, KeepsCauses, all_writes}
use Rattle.kv_parties.specs.Causes.{IsFullAt}
use Rattle.kv_parties.specs.Setting.{Setting}
use Rattle.kv_stamps.specs.Ranges.{range}
use Rattle.kv_stamps.specs.Seats.{first_spent}
use Rattle.kv_stamps.specs.Steps.{Spends}
use Rattle.kv_stamps.specs.declared.view.Range.{Range}
use Rattle.kv_stamps.specs.declared.view.View.{View}
use Rattle.kv_worker.specs.Steps.{IsDone, IsRefused, HasRefusal, HasFailed}
use Rattle.kv_worker.specs.Worker.{WorkerView, start_of}
use Rattle.kv_worker_party.specs.Laws.{PartyLaws}
use Rattle.kv_worker_party.specs.Serving.{HasDrawn, HasMet, IsStepped, HasServed}
use Rattle.kv_worker_party.proofs.CauseLemmas.{AreFull, done-causes, failed-full, const-causes, group-full}
use Rattle.kv_worker_party.proofs.FullLemmas.{full_of}
use Rattle.kv_worker_party.proofs.ReplyLemmas.{any-none, any_unsure-is, any_fault-is, pairs-all}
use Rattle.kv_worker_party.proofs.ReplyLemmas.{IsCalm, calm-no_fault, calm-sure, calm-served, calm-replies}
use Rattle.kv_worker_party.proofs.ReplyLemmas.{calm-answers, IsServed, served-open, served-stamped}
use Rattle.kv_worker_party.proofs.ReplyLemmas.{served-replies, unsure-fault, failed-unsure}
use Rattle.kv_worker_party.proofs.StampedLemmas.{written-told, acknowledged-told}

-- the causes of the replies of one batch, by the worker and its seat's view before and behind it
pub record BatchCauses {D I : Type 0} (d : disks.Ghosts D) (slots : ℕ) (old now : WorkerView D I)
    (view later : View) (before : List Write) (pairs group : List Pair) : Type 0 where
  pub closed : AllByRecursion (IsClosedAt old.store.closed) group
  pub closes : now.store.closed ≡ (old.store.closed || any_unsure group)
  pub counted : d.faults now.store.disk.disk ≡ cond (any_fault group)
      (next_count (d.faults old.store.disk.disk)) (d.faults old.store.disk.disk)
  pub spent : AllByRecursion (IsSpentAt later.spent) group
  pub stays : (view.spent ≡ []) ⊎ (later.spent ≡ view.spent)
  pub full : IsTrue d.tells → AreFull slots before pairs → AreFull slots before (pairs ++ group)

or-false : (b : Bool) → (b || false) ≡ b
or-false true = refl
or-false false = refl

or-assoc : (a b c : Bool) → ((a || b) || c) ≡ (a || (b || c))
or-assoc true b c = refl
or-assoc false b c = refl

-- the same reply to each request
const-all : (P : Reply → Type 0) (reply : Reply) → P reply → (requests : List Request)
    → AllByRecursion (λ pair. P pair.reply) (pairs_of requests (map (λ _. reply) requests))
const-all P reply has requests = pairs-all P requests (map (λ _. reply) requests) (by requests)
  where
    by : (rs : List Request) → AllByRecursion P (map (λ _. reply) rs)
    by [] = tt
    by (r ∷ rs) = (has, by rs)

-- where no reply is unsure or tells of a fault
none-unsure : (group : List Pair) → AllByRecursion (λ pair. is_unsure pair.reply ≡ false) group
    → any_unsure group ≡ false
none-unsure group all = any_unsure-is group ∙ any-none is_unsure group all

none-fault : (group : List Pair) → AllByRecursion (λ pair. is_fault pair.reply ≡ false) group
    → any_fault group ≡ false
none-fault group all = any_fault-is group ∙ any-none is_fault group all

-- where one tells of a fault
some-fault : (reply : Reply) (requests : List Request) → is_fault reply ≡ true
    → 1 ≤ length requests → any_fault (pairs_of requests (map (λ _. reply) requests)) ≡ true
some-fault reply [] is some = absurd (omega (arith, some))
some-fault reply (request ∷ requests) is some =
    ap (λ b. b || any_fault (pairs_of requests (map (λ _. reply) requests))) is

counted-none : (b : Bool) (old now : ℕ) → b ≡ false → now ≡ old → now ≡ cond b (next_count old) old
counted-none b old now none same = same ∙ ap (λ c. cond c (next_count old) old) (sym none)

counted-one : (b : Bool) (old now : ℕ) → b ≡ true → now ≡ next_count old
    → now ≡ cond b (next_count old) old
counted-one b old now one more = more ∙ ap (λ c. cond c (next_count old) old) (sym one)

none-some : {X : Type 0} (x : X) → None ≡ Some x → ⊥
none-some x e = cc

-- the reply is Closed at a closed store, and only there
abbrev ClosedAt : Bool → Reply → Type 0
ClosedAt false reply = reply ≢ Closed
ClosedAt true reply = reply ≡ Closed

spent-number : (m n : ℕ) → StampsSpent m ≡ StampsSpent n → m ≡ n
spent-number m n e = cc

-- what a seat that met no stamps left keeps of it
met-first : (seen count number : ℕ) (view later : View) → HasMet seen count number view later
    → (first_spent later.spent ≡ Some number)
    × ((view.spent ≡ []) ⊎ (later.spent ≡ view.spent))
met-first seen count number view later met = by met.spends
  where
    same : met.between.spent ≡ view.spent
    same = ap (λ (v : View). v.spent) met.raises.view

    by : ((first_spent met.between.spent ≡ Some number) × (later ≡ met.between))
        ⊎ ((met.between.spent ≡ []) × Spends count met.between number later)
        → (first_spent later.spent ≡ Some number)
        × ((view.spent ≡ []) ⊎ (later.spent ≡ view.spent))
    by (inl kept) = (
      ap (λ (v : View). first_spent v.spent) kept.1 ∙ kept.0,
      inr (ap (λ (v : View). v.spent) kept.1 ∙ same),
    )
    by (inr met_now) = (
      ap (λ (v : View). first_spent v.spent) met_now.1.view
          ∙ ap (λ (rs : List Range). first_spent (rs ++ range number count ∷ [])) met_now.0,
      inl (sym same ∙ met_now.0),
    )

drawn-spent : (seen count base : ℕ) (view later : View) → HasDrawn seen count base view later
    → later.spent ≡ view.spent
drawn-spent seen count base view later drawn =
    ap (λ (v : View). v.spent) drawn.draws.view ∙ ap (λ (v : View). v.spent) drawn.raises.view

module _ {D I : Type 0} (laws : PartyLaws) (d : disks.Ghosts D) (i : indexes.Ghosts I)
    (before : List Write) (pairs : List Pair) where
  -- one refusal of all requests, at a worker that stays
  const-batch : (slots : ℕ) (old now : WorkerView D I) (view later : View)
      (requests : List Request) (replies : List Reply) (reply : Reply)
      → replies ≡ map (λ _. reply) requests → is_unsure reply ≡ false → full_of reply ≡ None
      → ClosedAt old.store.closed reply
      → ((number : ℕ) → reply ≡ StampsSpent number → first_spent later.spent ≡ Some number)
      → (view.spent ≡ []) ⊎ (later.spent ≡ view.spent)
      → now.store.closed ≡ old.store.closed
      → d.faults now.store.disk.disk ≡ cond (any_fault (pairs_of requests (map (λ _. reply) requests)))
      (next_count (d.faults old.store.disk.disk)) (d.faults old.store.disk.disk)
      → BatchCauses d slots old now view later before pairs (pairs_of requests replies)
  const-batch slots old now view later requests replies reply is sure not_full closed spent stays
      open_ counted =
      subst (λ rs. BatchCauses d slots old now view later before pairs (pairs_of requests rs))
      (sym is) (record {
        closed = by_closed old.store.closed closed;
        closes = open_ ∙ sym (or-false old.store.closed)
            ∙ ap (λ b. old.store.closed || b) (sym (none-unsure group
            (const-all (λ r. is_unsure r ≡ false) reply sure requests)));
        counted = counted;
        spent = const-all (λ r. (number : ℕ) → r ≡ StampsSpent number
            → first_spent later.spent ≡ Some number) reply spent requests;
        stays = stays;
        full = λ told full. group-full slots before pairs requests (map (λ _. reply) requests) full
            (const-causes slots (all_writes before (pairs ++ group)) reply requests not_full);
      })
    where
      group : List Pair
      group = pairs_of requests (map (λ _. reply) requests)

      by_closed : (b : Bool) → ClosedAt b reply
          → AllByRecursion (IsClosedAt b) group
      by_closed true e = const-all (λ r. r ≡ Closed) reply e requests
      by_closed false ne = const-all (λ r. r ≢ Closed) reply ne requests

  idle-batch : (slots : ℕ) (worker : WorkerView D I) (view : View)
      → BatchCauses d slots worker worker view view before pairs []
  idle-batch slots worker view = record {
    closed = tt;
    closes = sym (or-false worker.store.closed);
    counted = refl;
    spent = tt;
    stays = inr refl;
    full = λ told full. subst (AreFull slots before) (sym (append-nil pairs)) full;
  }

  done-batch : (old now : WorkerView D I) (base : ℕ) (view later : View)
      (requests : List Request) (replies : List Reply) → old.store.closed ≡ false
      → FollowsHistory d.tells (before ++ writes pairs) (base - 1) (start_of d i old.store)
      → later.spent ≡ view.spent → IsDone d i old.store now.store requests base replies
      → BatchCauses d old.store.limits.slots old now view later before pairs
      (pairs_of requests replies)
  done-batch old now base view later requests replies open_ follows spent_is done =
      let start : Start = start_of d i old.store in
      let group : List Pair = pairs_of requests replies in
      let calm : AllByRecursion IsCalm replies = calm-replies d.tells replies requests start base
      done.replies_are in
      let sure : any_unsure group ≡ false = none-unsure group
      (pairs-all (λ r. is_unsure r ≡ false) requests replies
      (All-map IsCalm (λ r. is_unsure r ≡ false) replies calm-sure calm)) in
      record {
        closed = subst (λ b. AllByRecursion (IsClosedAt b) group) (sym open_)
            (pairs-all (λ r. r ≢ Closed) requests replies
            (All-map IsCalm (λ r. r ≢ Closed) replies (λ r c. served-open r (calm-served r c)) calm));
        closes = done.open_ ∙ ap (λ b. b || false) (sym open_)
            ∙ ap (λ b. old.store.closed || b) (sym sure);
        counted = counted-none (any_fault group) (d.faults old.store.disk.disk)
            (d.faults now.store.disk.disk) (none-fault group
            (pairs-all (λ r. is_fault r ≡ false) requests replies
            (All-map IsCalm (λ r. is_fault r ≡ false) replies calm-no_fault calm))) done.calm;
        spent = pairs-all (λ r. (number : ℕ) → r ≡ StampsSpent number
            → first_spent later.spent ≡ Some number) requests replies
            (All-map IsCalm (λ r. (number : ℕ) → r ≡ StampsSpent number
            → first_spent later.spent ≡ Some number) replies
            (λ r c number e. absurd (served-stamped r (calm-served r c) number e)) calm);
        stays = inr spent_is;
        full = λ told full. group-full old.store.limits.slots before pairs requests replies full
            (done-causes d i old.store before pairs group base requests replies told follows
            done.replies_are (written-told acknowledged_by d.tells (acknowledged-told d.tells)
            requests replies (answers start [] base requests) done.replies_are));
      }

  failed-batch : (old now : WorkerView D I) (base : ℕ) (view later : View)
      (requests : List Request) (replies : List Reply) → old.store.closed ≡ false
      → FollowsHistory d.tells (before ++ writes pairs) (base - 1) (start_of d i old.store)
      → later.spent ≡ view.spent → HasFailed d i old.store now.store requests base replies
      → BatchCauses d old.store.limits.slots old now view later before pairs
      (pairs_of requests replies)
  failed-batch old now base view later requests replies open_ follows spent_is failed =
      subst (λ rs. BatchCauses d old.store.limits.slots old now view later before pairs
      (pairs_of requests rs)) (sym failed.replies_are) (record {
        closed = subst (λ b. AllByRecursion (IsClosedAt b) group) (sym open_)
            (pairs-all (λ r. r ≢ Closed) requests given
            (All-map IsServed (λ r. r ≢ Closed) given served-open served));
        closes = failed.closed ∙ ap (λ b. false || b) (sym one)
            ∙ ap (λ b. b || any_unsure group) (sym open_);
        counted = counted-one (any_fault group) (d.faults old.store.disk.disk)
            (d.faults now.store.disk.disk) (any_fault-is group ∙ unsure-fault group
            (sym (any_unsure-is group) ∙ one)) failed.counted;
        spent = pairs-all (λ r. (number : ℕ) → r ≡ StampsSpent number
            → first_spent later.spent ≡ Some number) requests given
            (All-map IsServed (λ r. (number : ℕ) → r ≡ StampsSpent number
            → first_spent later.spent ≡ Some number) given
            (λ r s number e. absurd (served-stamped r s number e)) served);
        stays = inr spent_is;
        full = λ told full. group-full old.store.limits.slots before pairs requests given full
            (failed-full d i old.store before pairs group base requests told follows
            (laws.failed.unsure start base requests));
      })
    where
      start : Start
      start = start_of d i old.store

      given : List Reply
      given = failed_replies base requests (answers start [] base requests)

      group : List Pair
      group = pairs_of requests given

      served : AllByRecursion IsServed given
      served = served-replies requests base (answers start [] base requests)
          (calm-answers requests start [] base)

      one : any_unsure group ≡ true
      one = any_unsure-is group ∙ failed-unsure start base requests group failed.changes
          (laws.failed.unsure start base requests)

  -- a batch of any outcome
  pub served-batch : (slots : ℕ) (old now : WorkerView D I) (seen : ℕ) (view later : View)
      (requests : List Request) (replies : List Reply) → old.store.limits.slots ≡ slots
      → ((base : ℕ) → view.seen ≤ base → old.store.closed ≡ false
      → FollowsHistory d.tells (before ++ writes pairs) (base - 1) (start_of d i old.store))
      → HasServed d i old now view later seen requests replies
      → BatchCauses d slots old now view later before pairs (pairs_of requests replies)
  served-batch slots old now seen view later requests replies limit follows served = by served
    where
      Result : Type 0
      Result = BatchCauses d slots old now view later before pairs (pairs_of requests replies)

      limited : BatchCauses d old.store.limits.slots old now view later before pairs
          (pairs_of requests replies) → Result
      limited b = subst (λ n. BatchCauses d n old now view later before pairs
          (pairs_of requests replies)) limit b

      refused_by : (s : IsStepped d i old now view later seen requests replies)
          → IsRefused d i old.store now.store requests replies → (reply : Reply)
          → HasRefusal reply (d.faults old.store.disk.disk) (d.faults now.store.disk.disk)
          → replies ≡ map (λ _. reply) requests → Result
      refused_by s refused reply (inl why) is =
          const-batch slots old now view later requests replies NoMemory
          (is ∙ ap (λ (r : Reply). map (λ (q : Request). r) requests) why.0) refl refl
          (subst (λ b. ClosedAt b NoMemory) (sym s.open_)
          (λ e. cc)) (λ number e. absurd (cc))
          (inr (drawn-spent seen (length requests) s.base view later s.drawn))
          (ap (λ v. v.closed) refused.kept)
          (counted-none (any_fault (pairs_of requests (map (λ _. NoMemory) requests)))
          (d.faults old.store.disk.disk) (d.faults now.store.disk.disk)
          (none-fault (pairs_of requests (map (λ _. NoMemory) requests))
          (const-all (λ r. is_fault r ≡ false) NoMemory refl requests)) why.1)
      refused_by s refused reply (inr why) is =
          const-batch slots old now view later requests replies DiskFault
          (is ∙ ap (λ (r : Reply). map (λ (q : Request). r) requests) why.0) refl refl
          (subst (λ b. ClosedAt b DiskFault) (sym s.open_)
          (λ e. cc)) (λ number e. absurd (cc))
          (inr (drawn-spent seen (length requests) s.base view later s.drawn))
          (ap (λ v. v.closed) refused.kept)
          (counted-one (any_fault (pairs_of requests (map (λ _. DiskFault) requests)))
          (d.faults old.store.disk.disk) (d.faults now.store.disk.disk)
          (some-fault DiskFault requests refl s.some) why.1)

      outcome : (s : IsStepped d i old now view later seen requests replies)
          → IsDone d i old.store now.store requests s.base replies
          ⊎ (IsRefused d i old.store now.store requests replies
          ⊎ HasFailed d i old.store now.store requests s.base replies) → Result
      outcome s (inl done) = limited (done-batch old now s.base view later requests replies s.open_
          (follows s.base (from s) s.open_)
          (drawn-spent seen (length requests) s.base view later s.drawn) done)
        where
          from : (s : IsStepped d i old now view later seen requests replies) → view.seen ≤ s.base
          from s = omega (
            arith,
            s.drawn.raises.later,
            s.drawn.draws.later,
            ap (λ (v : View). v.seen) s.drawn.raises.view,
          )
      outcome s (inr (inl refused)) =
          refused_by s refused refused.reply refused.cause refused.replies_are
      outcome s (inr (inr failed)) = limited (failed-batch old now s.base view later requests
          replies s.open_ (follows s.base (from s) s.open_)
          (drawn-spent seen (length requests) s.base view later s.drawn) failed)
        where
          from : (s : IsStepped d i old now view later seen requests replies) → view.seen ≤ s.base
          from s = omega (
            arith,
            s.drawn.raises.later,
            s.drawn.draws.later,
            ap (λ (v : View). v.seen) s.drawn.raises.view,
          )

      by : HasServed d i old now view later seen requests replies → Result
      by (inl idle) =
          subst (λ (w : WorkerView D I). BatchCauses d slots old w view later before pairs
          (pairs_of requests replies)) (sym idle.worker)
          (subst (λ (v : View). BatchCauses d slots old old view v before pairs
          (pairs_of requests replies)) (sym idle.view_is)
          (subst (BatchCauses d slots old old view view before pairs)
          (sym (ap (λ rs. pairs_of rs replies) idle.none)) (idle-batch slots old view)))
      by (inr (inl closed)) = const-batch slots old now view later requests replies Closed
          closed.replies_are refl refl
          (subst (λ b. ClosedAt b Closed) (sym closed.closed)
          refl) (λ number e. absurd (cc)) (inr (ap (λ (v : View). v.spent) closed.view_is))
          (ap (λ (w : WorkerView D I). w.store.closed) closed.worker)
          (counted-none (any_fault (pairs_of requests (map (λ _. Closed) requests)))
          (d.faults old.store.disk.disk) (d.faults now.store.disk.disk)
          (none-fault (pairs_of requests (map (λ _. Closed) requests))
          (const-all (λ r. is_fault r ≡ false) Closed refl requests))
          (ap (λ (w : WorkerView D I). d.faults w.store.disk.disk) closed.worker))
      by (inr (inr (inl spent))) =
          let met = met-first seen (length requests) spent.number view later spent.met in
          const-batch slots old now view later requests replies (StampsSpent spent.number)
          spent.replies_are refl refl
          (subst (λ b. ClosedAt b (StampsSpent spent.number))
          (sym spent.open_) (λ e. cc))
          (λ number e. met.0 ∙ ap (λ n. Some n) (spent-number spent.number number e)) met.1
          (ap (λ (w : WorkerView D I). w.store.closed) spent.worker)
          (counted-none (any_fault (pairs_of requests (map (λ _. StampsSpent spent.number) requests)))
          (d.faults old.store.disk.disk) (d.faults now.store.disk.disk)
          (none-fault (pairs_of requests (map (λ _. StampsSpent spent.number) requests))
          (const-all (λ r. is_fault r ≡ false) (StampsSpent spent.number) refl requests))
          (ap (λ (w : WorkerView D I). d.faults w.store.disk.disk) spent.worker))
      by (inr (inr (inr stepped))) = outcome stepped stepped.steps.outcome

-- the closed flag behind all batches
any_unsure-append : (xs ys : List Pair) → any_unsure (xs ++ ys) ≡ (any_unsure xs || any_unsure ys)
any_unsure-append [] ys = refl
any_unsure-append (x ∷ xs) ys = ap (λ b. is_unsure x.reply || b) (any_unsure-append xs ys)
    ∙ sym (or-assoc (is_unsure x.reply) (any_unsure xs) (any_unsure ys))

closed-push : (closed : Bool) (batches : List (List Pair)) (group : List Pair)
    → AreClosedBehind closed batches
    → AllByRecursion (IsClosedAt (closed || any_unsure (pairs_in batches))) group
    → AreClosedBehind closed (batches ++ group ∷ [])
closed-push closed [] group behind all =
    (subst (λ b. AllByRecursion (IsClosedAt b) group) (or-false closed) all, tt)
closed-push closed (batch ∷ batches) group behind all = (
  behind.0,
  closed-push (closed || any_unsure batch) batches group behind.1
      (subst (λ b. AllByRecursion (IsClosedAt b) group)
      (ap (λ b. closed || b) (any_unsure-append batch (pairs_in batches))
      ∙ sym (or-assoc closed (any_unsure batch) (any_unsure (pairs_in batches)))) all),
)

faults-push : (batches : List (List Pair)) (group : List Pair) (count : ℕ)
    → faults_behind (batches ++ group ∷ []) count ≡ cond (any_fault group)
    (next_count (faults_behind batches count)) (faults_behind batches count)
faults-push [] group count = refl
faults-push (batch ∷ batches) group count =
    faults-push batches group (cond (any_fault batch) (next_count count) count)

pub pairs-push : (batches : List (List Pair)) (group : List Pair)
    → pairs_in (batches ++ group ∷ []) ≡ pairs_in batches ++ group
pairs-push batches group = flat_map-append (λ (ps : List Pair). ps) batches (group ∷ [])
    ∙ ap (λ ps. pairs_in batches ++ ps) (append-nil group)

few-push : (batches : List (List Pair)) (group : List Pair)
    → AllByRecursion (λ batch. length batch ≤ 512) batches → length group ≤ 512
    → AllByRecursion (λ batch. length batch ≤ 512) (batches ++ group ∷ [])
few-push batches group all few =
    All-append (λ (batch : List Pair). length batch ≤ 512) batches (group ∷ []) all (few, tt)

spent-later : (runs more : List Range) (pairs : List Pair) → (runs ≡ []) ⊎ (more ≡ runs)
    → AllByRecursion (IsSpentAt runs) pairs → AllByRecursion (IsSpentAt more) pairs
spent-later runs more pairs (inl none) all =
    All-map (IsSpentAt runs) (IsSpentAt more) pairs
    (λ pair spent number e. absurd (none-some number (sym (ap first_spent none) ∙ spent number e)))
    all
spent-later runs more pairs (inr same) all =
    subst (λ rs. AllByRecursion (IsSpentAt rs) pairs) (sym same) all

-- with one batch more all refusals have their causes still
pub causes-push : {D I : Type 0} (d : disks.Ghosts D) (setting : Setting) (old now : WorkerView D I)
    (view later : View) (before : List Write) (faults : ℕ) (batches : List (List Pair))
    (group : List Pair) → setting.told ≡ d.tells → setting.layout ≡ all_classes
    → KeepsCauses setting before view.spent faults (d.faults old.store.disk.disk) old.store.closed
    batches → length group ≤ 512
    → BatchCauses d setting.slots old now view later before (pairs_in batches) group
    → KeepsCauses setting before later.spent faults (d.faults now.store.disk.disk)
    now.store.closed (batches ++ group ∷ [])
causes-push d setting old now view later before faults batches group told layout causes few batch =
    record {
      few = few-push batches group causes.few few;
      closes = closed-push false batches group causes.closes
          (subst (λ b. AllByRecursion (IsClosedAt b) group) causes.closed_is batch.closed);
      closed_is = batch.closes ∙ ap (λ b. b || any_unsure group) causes.closed_is
          ∙ sym (ap any_unsure (pairs-push batches group)
          ∙ any_unsure-append (pairs_in batches) group);
      counted = batch.counted ∙ ap (λ n. cond (any_fault group) (next_count n) n) causes.counted
          ∙ sym (faults-push batches group faults);
      spent = subst (AllByRecursion (IsSpentAt later.spent)) (sym (pairs-push batches group))
          (All-append (IsSpentAt later.spent) (pairs_in batches) group
          (spent-later view.spent later.spent (pairs_in batches) batch.stays causes.spent)
          batch.spent);
      full = λ is_told. subst (λ ps. AllByRecursion (IsFullAt setting.layout setting.slots
          (all_writes before ps)) ps) (sym (pairs-push batches group))
          (subst (λ l. AllByRecursion (IsFullAt l setting.slots
          (all_writes before (pairs_in batches ++ group))) (pairs_in batches ++ group))
          (sym layout)
          (batch.full (subst IsTrue told is_told)
          (subst (λ l. AllByRecursion (IsFullAt l setting.slots (all_writes before
          (pairs_in batches))) (pairs_in batches)) layout (causes.full is_told))));
    }
