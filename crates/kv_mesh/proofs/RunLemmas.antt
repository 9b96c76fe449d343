-- What stands of parties that ran until they had ended.
use Rattle.std.proofs.Common.{◌≡◌, ℕ, suc, ◌+◌, ◌^◌, ◌≤◌, List, [], ◌∷◌, ◌++◌, length, map, Bool}
use Rattle.std.proofs.Common.{IsSome, refl, sym, ap, ◌∙◌, subst, arith}
use Rattle.std.proofs.Math.Logic.{∥∥₁_map}
use Rattle.std.proofs.lemmas.List.Elements.{All-map}
use Rattle.std.specs.Prelude.{All}
use Rattle.atomic_table.specs.Seated.{TableId}
use Rattle.kv_base.specs.declared.sink.Sink as sinks
use Rattle.kv_base.specs.declared.source.Source as sources
use Rattle.kv_disk.specs.declared.disk.Disk as disks
use Rattle.kv_index.specs.declared.index.Index as indexes
use Rattle.kv_model.specs.History.{Write}
use Rattle.kv_parties.specs.Begun.{IsBefore}
use Rattle.kv_parties.specs.Setting.{Setting}
use Rattle.kv_session.specs.Session.{SessionState}
use Rattle.kv_session.specs.declared.ending.SessionParts.{SessionParts}
use Rattle.kv_session_party.specs.declared.party.SessionParty.{SessionParty}
use Rattle.kv_worker.specs.Worker.{WorkerView}
use Rattle.kv_worker_party.specs.Party.{setting_of}
use Rattle.kv_worker_party.specs.declared.party.WorkerParty.{WorkerParty}
use Rattle.kv_mesh.specs.EndLaws.{EndLaws}
use Rattle.kv_mesh.specs.Finished.{parts_of}
use Rattle.kv_mesh.specs.Linked.{AreApart, AreLinked, first_sessions, first_workers}
use Rattle.kv_mesh.specs.Linked.{setting_for, slots_in, slots_of}
use Rattle.kv_mesh.specs.Mesh.{any_closed}
use Rattle.kv_mesh.specs.Places.{IsAt, AtEach}
use Rattle.kv_mesh.specs.Ran.{RanOut, Stay}
use Rattle.kv_mesh.specs.Shares.{HaveAllSeats}
use Rattle.kv_mesh.specs.Served.{Serves, ServesInAll}
use Rattle.kv_mesh.specs.Settled.{HaveBegun}
use Rattle.kv_mesh.specs.Standing.{KeepPromises, streams_of}
use Rattle.kv_mesh.proofs.CountLemmas.{apart-told, counts-told, session_seats, tells-of, worker_seats}
use Rattle.kv_mesh.proofs.EachLemmas.{at-all}
use Rattle.kv_mesh.proofs.JoiningLemmas.{Tells}
use Rattle.kv_mesh.proofs.PlaceLemmas.{pick}
use Rattle.kv_mesh.proofs.PromiseLemmas.{promises-kept}
use Rattle.kv_mesh.proofs.RingLemmas.{linked-each}
use Rattle.kv_mesh.proofs.ServedLemmas.{serves, serves-in-all}

-- what holds of some things holds of equal ones
six : {A B C D E G : Type 0} (P : A → B → C → D → E → G → Type 0) (a a' : A) (b b' : B) (c c' : C)
    (d d' : D) (e e' : E) (g g' : G) → a ≡ a' → b ≡ b' → c ≡ c' → d ≡ d' → e ≡ e' → g ≡ g'
    → P a b c d e g → P a' b' c' d' e' g'
six P a a' b b' c c' d d' e e' g g' p₁ p₂ p₃ p₄ p₅ p₆ h =
    subst (λ z. P a' b' c' d' e' z) p₆ (subst (λ z. P a' b' c' d' z g) p₅
    (subst (λ z. P a' b' c' z e g) p₄ (subst (λ z. P a' b' z d e g) p₃
    (subst (λ z. P a' z c d e g) p₂ (subst (λ z. P z b c d e g) p₁ h)))))

-- lists of which f gives the same at each place
maps-same : {X Y : Type 0} (f : X → Y) (xs ys : List X) → length ys ≡ length xs
    → AtEach (λ x y. f y ≡ f x) xs ys → map f ys ≡ map f xs
maps-same f [] [] many each = refl
maps-same f [] (y ∷ ys) many each = absurd (omega (arith, many))
maps-same f (x ∷ xs) [] many each = absurd (omega (arith, many))
maps-same {Y = Y} f (x ∷ xs) (y ∷ ys) many each =
    let here = each 0 x y (omega arith, refl) (omega arith, refl) in
    let rest = maps-same f xs ys (omega (arith, many)) (λ k u v a b. each (suc k) u v
    (omega (arith, a.0), a.1) (omega (arith, b.0), b.1)) in
    ap (λ (z : Y). z ∷ map f ys) here ∙ ap (λ (zs : List Y). f x ∷ zs) rest

module _ {So Si D I F : Type 0} {so : sources.Ghosts So} {si : sinks.Ghosts Si}
    {d : disks.Ghosts D} {i : indexes.Ghosts I} (workers : List (WorkerParty D I F d i))
    (sessions : List (SessionParty So Si F so si)) (counter : TableId) (start kept : ℕ)
    (linked : AreLinked workers sessions counter start kept) where
  module _ (now : List (WorkerParty D I F d i)) (new : List (SessionParty So Si F so si))
      (stay : Stay workers sessions now new) where
    firsts : first_workers now ≡ first_workers workers
    firsts = maps-same (λ (p : WorkerParty D I F d i). p.first.value) workers now
        stay.many_workers (λ w a b at there. (stay.each_worker w a b at there).first)

    slots : slots_of now ≡ slots_of workers
    slots = ap slots_in firsts

    -- they stay linked
    pub linked-on : (later : ℕ) → AreApart now start later → later ≤ 2 ^ 62
        → AreLinked now new counter start later
    linked-on = linked-each workers sessions counter start kept linked now new stay.many_workers
        stay.many_sessions firsts
        (λ w a b at there.
        let stays = stay.each_worker w a b at there in
        record {
          rings = stays.rings;
          counter = stays.counter;
          start = stays.start;
          number = stays.worker;
          workers = stays.workers;
          first = stays.first;
        })
        (λ s a b at there.
        let stays = stay.each_session s a b at there in
        record { rings = stays.rings; counter = stays.counter; start = stays.start })

    firsts-too : first_sessions new ≡ first_sessions sessions
    firsts-too = maps-same (λ (p : SessionParty So Si F so si). p.first.value) sessions new
        stay.many_sessions (λ s a b at there. (stay.each_session s a b at there).first)

    setting-same : setting_for now new start ≡ setting_for workers sessions start
    setting-same = ap (λ n. setting_of d.tells start n (length now) (slots_of now))
        stay.many_sessions
        ∙ ap (λ n. setting_of d.tells start (length sessions) n (slots_of now)) stay.many_workers
        ∙ ap (setting_of d.tells start (length sessions) (length workers)) slots

    all-on : HaveAllSeats workers sessions → HaveAllSeats now new
    all-on all = record {
      worker_shares = λ w party at.
          let p = pick workers w (omega (arith, at.0, stay.many_workers)) in
          let stays = stay.each_worker w p.0 party p.1 at in
          let share = all.worker_shares w p.0 p.1 in (
            stays.lifted ∙ share.0,
            record {
              weight = stays.weight ∙ share.1.weight;
              seats = stays.seats ∙ share.1.seats
                  ∙ sym many;
            },
          );
      session_shares = λ s party at.
          let p = pick sessions s (omega (arith, at.0, stay.many_sessions)) in
          let stays = stay.each_session s p.0 party p.1 at in
          let share = all.session_shares s p.0 p.1 in (
            stays.lifted ∙ share.0,
            record {
              weight = stays.weight ∙ share.1.weight;
              seats = stays.seats ∙ share.1.seats
                  ∙ sym many;
            },
          );
    }
      where
        many : length now + length new ≡ length workers + length sessions
        many = omega (arith, stay.many_workers, stay.many_sessions)

  module _ (laws : EndLaws F D d) (ended : List (WorkerView D I)) (parts : List (SessionParts So Si))
      (unsure : Bool) (ran : RanOut workers sessions ended parts unsure) where
    looked : (first : WorkerParty D I F d i) × IsAt ran.now 0 first
        × Tells first.seat.view.start first.seat.view.seats
        (worker_seats ran.now ++ session_seats ran.new)
    looked = tells-of ran.now ran.new
        (omega (arith, linked.some_workers, ran.stay.many_workers)) ran.handed.seats

    told : Tells start looked.0.seat.view.seats (worker_seats ran.now ++ session_seats ran.new)
    told =
        let p = pick workers 0 linked.some_workers in
        subst (λ n. Tells n looked.0.seat.view.seats
        (worker_seats ran.now ++ session_seats ran.new))
        ((ran.stay.each_worker 0 p.0 looked.0 p.1 looked.1).start
        ∙ (linked.worker_fits 0 p.0 p.1).start_is) looked.2

    linked-now : AreLinked ran.now ran.new counter start (2 ^ 62)
    linked-now = linked-on ran.now ran.new ran.stay (2 ^ 62)
        (apart-told ran.now ran.new start looked.0.seat.view.seats told linked.started.1)
        (omega arith)

    -- each session has ended
    pub all-ended : All (λ (p : SessionParts So Si). IsSome p.ending) parts
    all-ended = subst (All (λ (p : SessionParts So Si). IsSome p.ending)) (sym ran.handed.parts_are)
        (All-map (λ (p : SessionParts So Si). IsSome p.ending)
        (λ (p : SessionParty So Si F so si). parts_of p.session) ran.new
        (at-all (λ (p : SessionParty So Si F so si). IsSome p.session.ending) ran.new ran.over))

    module _ (before : ℕ → List Write)
        (begun : HaveBegun d i (first_workers workers) start before)
        (is_before : IsBefore (setting_for workers sessions start) before) where
      base : IsBefore (setting_for ran.now ran.new start) before
      base = subst (λ s. IsBefore s before) (sym (setting-same ran.now ran.new ran.stay)) is_before

      kept-now : ∥ KeepPromises ran.now ran.new start before ∥₁
      kept-now = promises-kept ran.now ran.new counter start (2 ^ 62) linked-now before
          (subst (λ f. HaveBegun d i f start before) (sym (firsts ran.now ran.new ran.stay)) begun)
          ran.handed.order

      -- what is said of the last parties, said of the first ones and of what was handed out
      said : (P : Setting → List (WorkerView D I) → List (SessionState So Si)
          → List (WorkerView D I) → List (SessionParts So Si) → Bool → Type 0)
          → P (setting_for ran.now ran.new start) (first_workers ran.now) (first_sessions ran.new)
          (map (λ party. party.worker) ran.now) (map (λ party. parts_of party.session) ran.new) (any_closed ran.now)
          → P (setting_for workers sessions start) (first_workers workers)
          (first_sessions sessions) ended parts unsure
      said P = six P _ _ _ _ _ _ _ _ _ _ _ _ (setting-same ran.now ran.new ran.stay)
          (firsts ran.now ran.new ran.stay) (firsts-too ran.now ran.new ran.stay)
          (sym ran.handed.ended_are) (sym ran.handed.parts_are) (sym ran.handed.unsure_is)

      -- the store served
      pub ran-serves : ∥ Serves d (streams_of so si) (setting_for workers sessions start) before
          (first_workers workers) (first_sessions sessions) ended parts unsure ∥₁
      ran-serves = ∥∥₁_map kept-now (λ (k : KeepPromises ran.now ran.new start before).
          said (λ setting firsts clients last rest told. Serves d (streams_of so si) setting before
          firsts clients last rest told) (serves laws ran.now ran.new start before base ran.over k))

      -- and with all seats of the counter it did so in all
      pub ran-in-all : HaveAllSeats workers sessions
          → ∥ ServesInAll d (streams_of so si) (setting_for workers sessions start) before
          (first_workers workers) (first_sessions sessions) ended parts unsure ∥₁
      ran-in-all all = ∥∥₁_map kept-now (λ (k : KeepPromises ran.now ran.new start before).
          let have = all-on ran.now ran.new ran.stay all in
          let counts = counts-told ran.now ran.new start looked.0.seat.view.seats told have k.own
          k.own_is k.views k.views_are linked.started.0
          (have.worker_shares 0 looked.0 looked.1).1.seats in
          said (λ setting firsts clients last rest told. ServesInAll d (streams_of so si) setting
          before firsts clients last rest told)
          (serves-in-all laws ran.now ran.new start before base ran.over k counts.0 counts.1))
