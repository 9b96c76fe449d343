-- A worker's turn, with a raise before it and a look behind it.
use Rattle.std.proofs.Common.{◌≡◌, ◌⊎◌, inl, inr, ℕ, ◌+◌, ◌^◌, ◌<◌, ◌≤◌, List, [], ◌∷◌, ◌++◌, length}
use Rattle.std.proofs.Common.{Option, Some, None, Vec, max, min, refl, sym, ap, ◌∙◌, subst, subst₂, arith}
use Rattle.kv_base.specs.Reserved.{Reserved}
use Rattle.kv_base.specs.declared.reply.Reply.{Reply}
use Rattle.kv_base.specs.declared.request.Request.{Request}
use Rattle.kv_disk.specs.declared.disk.Disk as disks
use Rattle.kv_groups.specs.Batched.{in_hand}
use Rattle.kv_groups.specs.Delivering.{tasks_of}
use Rattle.kv_groups.specs.Gathering.{all_tasks, intake_of, taken_by}
use Rattle.kv_groups.specs.declared.connection.Connection.{Connection}
use Rattle.kv_index.specs.declared.index.Index as indexes
use Rattle.kv_ring.specs.Ends.{SameRings, peers, received_from, sent_to}
use Rattle.kv_ring.specs.declared.ends.Ends.{Ends}
use Rattle.kv_ring.specs.declared.message.Answer.{Answer}
use Rattle.kv_ring.specs.declared.message.Ask.{Ask}
use Rattle.kv_ring.specs.declared.task.Task.{Task}
use Rattle.kv_ring.specs.declared.turn.Turn.{Turn}
use Rattle.kv_stamps.specs.Ranges.{range}
use Rattle.kv_stamps.specs.Steps.{Raises, Looks}
use Rattle.kv_stamps.specs.declared.view.View.{View}
use Rattle.kv_worker.specs.Batches.{requests_in}
use Rattle.kv_worker.specs.Worker.{WorkerView}
use Rattle.kv_worker_party.specs.Serving.{HasServed}
use Rattle.kv_worker_party.specs.Turns.{StaysAhead, Turns, answer_to}
use Rattle.kv_worker_party.specs.declared.party.WorkerParty.{WorkerParty}
use Rattle.kv_worker_party.proofs.SeatLemmas.{Stayed, raised-stayed, met-stayed, looked-stayed}
use Rattle.kv_worker_party.proofs.SeatLemmas.{drawn-grew}
use Rattle.kv_worker_party.specs.Party.{AlwaysGoesOn}
use Rattle.kv_model.specs.History.{Write}
use Rattle.kv_mesh.proofs.BecomeLemmas.{GoesOnTo, becomes-then, goes-becomes}
use Rattle.kv_mesh.specs.Moments.{Becomes}
use Rattle.kv_mesh.specs.Moves.{DrawsBetween, MovesWorker, TakesNext}
use Rattle.std.specs.declared.alloc.Global.{Global}
use Rattle.std.specs.Prelude.{option_to_list}

module _ {D I : Type 0} (d : disks.Ghosts D) (i : indexes.Ghosts I) (old now : WorkerView D I)
    (seen : ℕ) (requests : List Request) (replies : List Reply) where
  -- a turn of a seat that was raised to the number draws nothing below it
  served-draws : (kept : ℕ) (view later : View) → kept ≤ view.raised → kept ≤ view.seen
      → HasServed d i old now view later seen requests replies
      → (later.start ≡ view.start) × (kept ≤ later.seen)
      × ((later.drawn ≡ view.drawn) ⊎ ((base : ℕ) × (count : ℕ) × (kept ≤ base)
      × (base + count ≤ later.seen) × (base + count ≤ 2 ^ 62)
      × (later.drawn ≡ view.drawn ++ range base count ∷ [])))
  served-draws kept view later raised low (inl idle) = (
    ap (λ (v : View). v.start) idle.view_is,
    (let e = ap (λ (v : View). v.seen) idle.view_is in omega (arith, e, low)),
    inl (ap (λ (v : View). v.drawn) idle.view_is),
  )
  served-draws kept view later raised low (inr (inl closed)) = (
    ap (λ (v : View). v.start) closed.view_is,
    (let e = ap (λ (v : View). v.seen) closed.view_is in omega (arith, e, low)),
    inl (ap (λ (v : View). v.drawn) closed.view_is),
  )
  served-draws kept view later raised low (inr (inr (inl spent))) =
      let s = met-stayed seen (length requests) spent.number view later spent.met in
      (s.start, omega (arith, s.up, low), inl s.drawn)
  served-draws kept view later raised low (inr (inr (inr stepped))) =
      let g = drawn-grew seen (length requests) stepped.base view later stepped.drawn in
      let between : View = stepped.drawn.between in
      let up : between.raised ≡ max view.raised (seen + 1) =
      ap (λ (v : View). v.raised) stepped.drawn.raises.view in
      let above = stepped.drawn.draws.above in (
        g.start,
        omega (arith, g.from, g.up, low),
        inr (
          stepped.base,
          length requests,
          omega (arith, above, up, raised),
          omega (arith, g.up),
          g.limit,
          g.drawn,
        ),
      )

-- raised to the number, then a turn, and then a look
pub draws-between : {D I : Type 0} (d : disks.Ghosts D) (i : indexes.Ghosts I)
    (old now : WorkerView D I) (seen : ℕ) (requests : List Request) (replies : List Reply)
    (kept result found next : ℕ) (first raised turned last : View) → kept ≤ 2 ^ 62
    → Raises kept first found raised → HasServed d i old now raised turned seen requests replies
    → Looks turned next last → result ≡ min next (2 ^ 62) → DrawsBetween kept result first last
draws-between d i old now seen requests replies kept result found next first raised turned last
    limit raises served looks is =
    let before = raised-stayed kept found first raised raises in
    let behind = looked-stayed next turned last looks in
    let up : raised.raised ≡ max first.raised kept =
    ap (λ (v : View). v.raised) raises.view in
    let low : raised.seen ≡ max found kept = ap (λ (v : View). v.seen) raises.view in
    let s = served-draws d i old now seen requests replies kept raised turned
    (omega (arith, up)) (omega (arith, low)) served in
    let later = looks.later in
    record {
      start = behind.start ∙ s.0 ∙ before.start;
      up = omega (arith, is, later, s.1, limit);
      limit = omega (arith, is);
      drawn = drew later s.2 before.drawn behind.drawn;
    }
  where
    drew : turned.seen ≤ next → (turned.drawn ≡ raised.drawn) ⊎ ((base : ℕ) × (count : ℕ)
        × (kept ≤ base) × (base + count ≤ turned.seen) × (base + count ≤ 2 ^ 62)
        × (turned.drawn ≡ raised.drawn ++ range base count ∷ []))
        → raised.drawn ≡ first.drawn → last.drawn ≡ turned.drawn
        → (last.drawn ≡ first.drawn) ⊎ ((base : ℕ) × (count : ℕ) × (kept ≤ base)
        × (base + count ≤ result) × (last.drawn ≡ first.drawn ++ range base count ∷ []))
    drew later (inl none) before behind = inl (behind ∙ none ∙ before)
    drew later (inr some) before behind = inr (
      some.0,
      some.1,
      some.2,
      (let most = some.3 in let few = some.4 in omega (arith, is, later, most, few)),
      behind ∙ some.5 ∙ ap (λ ranges. ranges ++ range some.0 some.1 ∷ []) before,
    )

answer-count : (F : Type 0) (taken : Option (ℕ × Reserved Task)) (tasks : List Task)
    → length (answer_to {F = F} taken tasks) ≡ length (option_to_list taken)
answer-count F None tasks = refl
answer-count F (Some group) tasks = refl

module _ {F : Type 0} where
  -- a turn takes the next message of each session
  pub turn-takes : {D I : Type 0} (d : disks.Ghosts D) (i : indexes.Ghosts I)
      (old now : WorkerView D I) (ends new : Ends (Answer F) (Ask F) 8)
      (connections after : List (Connection F)) (view later : View) (turn : Turn)
      → Turns d i old now ends new connections after view later turn → (s : ℕ) → s < peers ends
      → TakesNext s old.store.worker old.store.workers ends new connections after
  turn-takes d i old now ends new connections after view later turn t s lt =
      let e = t.each s lt in
      let intake = intake_of t.intakes s in
      let taken : Option (ℕ × Reserved Task) =
      taken_by old.store.worker old.store.workers intake in
      record {
        came = intake.came;
        waits = intake.waits;
        answer = answer_to taken (tasks_of t.answered s);
        received = e.received;
        waited = e.waited;
        taken = answer-count F taken (tasks_of t.answered s);
        sent = e.sent;
      }

  -- the same of equal ends
  pub takes-same : {D I : Type 0} (s : ℕ) (old other : WorkerView D I)
      (ends near new far : Ends (Answer F) (Ask F) 8)
      (connections mine after later : List (Connection F)) → old ≡ other → ends ≡ near
      → new ≡ far → connections ≡ mine → after ≡ later
      → TakesNext s old.store.worker old.store.workers ends new connections after
      → TakesNext s other.store.worker other.store.workers near far mine later
  takes-same {D = D} {I = I} s old other ends near new far connections mine after later a b c e f
      takes =
      subst (λ z. TakesNext s other.store.worker other.store.workers near far mine z) f
      (subst (λ z. TakesNext s other.store.worker other.store.workers near far z after) e
      (subst (λ z. TakesNext s other.store.worker other.store.workers near z connections after) c
      (subst (λ z. TakesNext s other.store.worker other.store.workers z new connections after) b
      (subst (λ (z : WorkerView D I).
      TakesNext s z.store.worker z.store.workers ends new connections after) a takes))))

-- a turn in words that are equal
turns-same : {D I F : Type 0} (d : disks.Ghosts D) (i : indexes.Ghosts I)
    (old other now last : WorkerView D I) (ends near new : Ends (Answer F) (Ask F) 8)
    (connections mine after later : List (Connection F)) (view seen : View) (turn : Turn)
    → old ≡ other → now ≡ last → ends ≡ near → connections ≡ mine → after ≡ later
    → Turns d i old now ends new connections after view seen turn
    → Turns d i other last near new mine later view seen turn
turns-same d i old other now last ends near new connections mine after later view seen turn a b c e f
    turns =
    subst (λ z. Turns d i other last near new mine z view seen turn) f
    (subst (λ z. Turns d i other last near new z after view seen turn) e
    (subst (λ z. Turns d i other last z new connections after view seen turn) c
    (subst (λ z. Turns d i other z ends new connections after view seen turn) b
    (subst (λ z. Turns d i z now ends new connections after view seen turn) a turns))))

module _ {D I F : Type 0} {d : disks.Ghosts D} {i : indexes.Ghosts I} where
  -- whatever the party promised goes on, where only its seat looked or was raised
  abbrev pub StillGoesOn : WorkerParty D I F d i → WorkerParty D I F d i → Type 0
  StillGoesOn old new = (before : List Write) → AlwaysGoesOn d i old.seat.view.start
      (peers old.ends) old.first.value old.worker new.worker old.ends new.ends
      old.connections.items new.connections.items old.seat.view new.seat.view old.lifted new.lifted
      before

  still-becomes : (old new : WorkerParty D I F d i) → StillGoesOn old new
      → Stayed old.seat.view new.seat.view → peers new.ends ≡ peers old.ends
      → new.first.value ≡ old.first.value → Becomes old new
  still-becomes old new goes stayed same first =
      goes-becomes old new (λ before begins. goes before) same stayed.start stayed.up first

  -- the counter is raised, the worker makes its turn, and looks at the counter
  pub worker-moved : (old raised turned last : WorkerParty D I F d i) (turn : Turn)
      (kept result : ℕ) → kept ≤ 2 ^ 62 → raised.seat.counter ≡ old.seat.counter
      → (next : ℕ) × Raises kept old.seat.view next raised.seat.view
      → (raised.worker ≡ old.worker) × (raised.ends ≡ old.ends)
      × (raised.connections ≡ old.connections) × (raised.first.value ≡ old.first.value)
      → StillGoesOn old raised → GoesOnTo raised turned
      → Turns d i raised.worker turned.worker raised.ends turned.ends raised.connections.items
      turned.connections.items raised.seat.view turned.seat.view turn
      → StaysAhead raised.worker turned.worker raised.seat.view turned.seat.view
      → turned.seat.counter ≡ raised.seat.counter
      → (turned.first.value ≡ raised.first.value) × (turned.lifted ≡ raised.lifted)
      → last.seat.counter ≡ turned.seat.counter
      → (next : ℕ) × (result ≡ min next (2 ^ 62)) × Looks turned.seat.view next last.seat.view
      → (last.worker ≡ turned.worker) × (last.ends ≡ turned.ends)
      × (last.connections ≡ turned.connections) × (last.first.value ≡ turned.first.value)
      × (last.lifted ≡ turned.lifted) → StillGoesOn turned last
      → MovesWorker kept result old last
  worker-moved old raised turned last turn kept result limit up_counter up up_kept up_goes t_goes t
      ahead t_counter t_first l_counter look l_kept l_goes =
      let ends : SameRings old.ends last.ends =
      subst₂ (λ ends new. SameRings ends new) up_kept.1 (sym l_kept.1) t.rings in
      let items : Vec (Connection F) Global → List (Connection F) = λ cs. cs.items in
      let many : Ends (Answer F) (Ask F) 8 → ℕ = λ e. peers e in
      record {
        takes = λ s lt.
            takes-same s raised.worker old.worker raised.ends old.ends turned.ends last.ends
            raised.connections.items old.connections.items turned.connections.items
            last.connections.items up_kept.0 up_kept.1 (sym l_kept.1) (ap items up_kept.2)
            (sym (ap items l_kept.2)) (turn-takes d i raised.worker turned.worker raised.ends
            turned.ends raised.connections.items turned.connections.items raised.seat.view
            turned.seat.view turn t s (subst (λ (e : Ends (Answer F) (Ask F) 8). s < peers e)
            (sym up_kept.1) lt));
        rings = ends;
        draws = draws-between d i raised.worker turned.worker t.seen
            (requests_in (in_hand 0 (all_tasks t.intakes))) t.replies kept result up.0 look.0
            old.seat.view raised.seat.view turned.seat.view last.seat.view limit up.1 t.served look.2
            look.1;
        counter = l_counter ∙ t_counter ∙ up_counter;
        number = ap (λ (w : WorkerView D I). w.store.worker) l_kept.0 ∙ ahead.worker
            ∙ ap (λ (w : WorkerView D I). w.store.worker) up_kept.0;
        workers = ap (λ (w : WorkerView D I). w.store.workers) l_kept.0 ∙ ahead.workers
            ∙ ap (λ (w : WorkerView D I). w.store.workers) up_kept.0;
        first = l_kept.3 ∙ t_first.0 ∙ up_kept.3;
        becomes = becomes-then old raised last (still-becomes old raised up_goes
            (raised-stayed kept up.0 old.seat.view raised.seat.view up.1) (ap many up_kept.1)
            up_kept.3) (becomes-then raised turned last (goes-becomes raised turned t_goes
            t.rings.peers ahead.start ahead.up t_first.0) (still-becomes turned last l_goes
            (looked-stayed look.0 turned.seat.view last.seat.view look.2) (ap many l_kept.1)
            l_kept.3));
        turned = record {
          raised = raised.seat.view;
          later = turned.seat.view;
          ends = turned.ends;
          result = turn;
          raises = (kept, up.0, up.1);
          turns = turns-same d i raised.worker old.worker turned.worker last.worker raised.ends
              old.ends turned.ends raised.connections.items old.connections.items
              turned.connections.items last.connections.items raised.seat.view turned.seat.view turn
              up_kept.0 (sym l_kept.0) up_kept.1 (ap items up_kept.2)
              (sym (ap items l_kept.2)) t;
          looks = (look.0, look.2);
          sent = λ s. ap (λ (e : Ends (Answer F) (Ask F) 8). sent_to e s) l_kept.1;
          received = λ s. ap (λ (e : Ends (Answer F) (Ask F) 8). received_from e s) l_kept.1;
        };
      }
