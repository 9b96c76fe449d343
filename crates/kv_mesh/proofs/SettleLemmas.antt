-- A worker passes no message over.
use Rattle.std.proofs.Common.{◌≡◌, ℕ, ◌<◌, List, [], ◌∷◌, ◌++◌, length}
use Rattle.std.proofs.Common.{Option, Some, None, Vec, Bool, false, IsSome, refl, sym, ap}
use Rattle.std.proofs.Common.{◌∙◌, subst, subst₂, arith, true≢false}
use Rattle.std.specs.declared.alloc.Global.{Global}
use Rattle.std.specs.Prelude.{option_to_list}
use Rattle.std.proofs.Math.Logic.{∥∥₁_elim}
use Rattle.std.proofs.Math.Nat.{ℕ_set}
use Rattle.std.proofs.lemmas.List.{length-append}
use mathlib.Core.List.{IsPrefix}
use Rattle.atomic_table.specs.Seated.{TableId}
use Rattle.kv_base.specs.declared.sink.Sink as sinks
use Rattle.kv_base.specs.declared.source.Source as sources
use Rattle.kv_disk.specs.declared.disk.Disk as disks
use Rattle.kv_groups.specs.Taking.{connection_of, group_taken}
use Rattle.kv_groups.specs.declared.connection.Connection.{Connection}
use Rattle.kv_index.specs.declared.index.Index as indexes
use Rattle.kv_model.specs.History.{Write}
use Rattle.kv_parties.specs.Joined.{NonePassed}
use Rattle.kv_parties.specs.Messages.{all_asking, asking}
use Rattle.kv_parties.proofs.Lists.{flat_map-append}
use Rattle.kv_ring.specs.Ends.{peers, sent_to, received_from}
use Rattle.kv_ring.specs.declared.ends.Ends.{Ends}
use Rattle.kv_ring.specs.declared.message.Answer.{Answer}
use Rattle.kv_ring.specs.declared.message.Ask.{Ask}
use Rattle.kv_ring.specs.declared.message.Ask.TheVariants as ask
use Rattle.kv_session_party.specs.Links.{waiting_for}
use Rattle.kv_session_party.specs.declared.party.SessionParty.{SessionParty}
use Rattle.kv_worker_party.specs.Party.{answers_to}
use Rattle.kv_worker_party.specs.declared.party.WorkerParty.{WorkerParty}
use Rattle.kv_mesh.specs.Laws.{MeshLaws}
use Rattle.kv_mesh.specs.Linked.{AreLinked, first_workers, setting_for}
use Rattle.kv_mesh.specs.Moves.{LooksWorker, MovesWorker, TakesNext}
use Rattle.kv_mesh.specs.Places.{IsAt}
use Rattle.kv_mesh.specs.Settled.{AreSettled, HasAnswered, HaveBegun, InOrder}
use Rattle.kv_mesh.specs.Standing.{KeepPromises, parties_of}
use Rattle.kv_mesh.proofs.PlaceLemmas.{pick}
use Rattle.kv_mesh.proofs.PromiseLemmas.{answers-sent-is, asks-received-is, asks-sent-is}
use Rattle.kv_mesh.proofs.PromiseLemmas.{answers-received-is, prefix-longer, promises-kept}

no-list : {X : Type 0} (o : Option X) → option_to_list o ≡ [] → o ≡ None
no-list None e = refl
no-list (Some x) e = absurd (omega (arith, ap length e))

one-listed : {X : Type 0} (o : Option X) → IsSome o → length (option_to_list o) ≡ 1
one-listed None e = absurd (true≢false (sym e))
one-listed (Some x) e = refl

module _ {F : Type 0} where
  -- where a message that has an answer is taken if it comes, just so many are taken
  taken-count : (worker workers : ℕ) (waits : Bool) (came : Option (Ask F))
      → ((message : Ask F) → came ≡ Some message → all_asking (message ∷ []) ≡ message ∷ []
      → (waits ≡ false) × IsSome (group_taken {F = F} worker workers false (Some message)))
      → length (option_to_list (group_taken {F = F} worker workers waits came))
      ≡ length (all_asking (option_to_list came))
  taken-count worker workers waits None due = refl
  taken-count worker workers waits (Some (ask.Group seen tasks)) due =
      let h = due (ask.Group seen tasks) refl refl in
      one-listed (group_taken {F = F} worker workers waits (Some (ask.Group seen tasks)))
      (subst (λ b. IsSome (group_taken {F = F} worker workers b (Some (ask.Group seen tasks))))
      (sym h.0)
      h.1)
  taken-count worker workers waits (Some (ask.Prepare fold low high)) due =
      absurd (true≢false (sym (due (ask.Prepare fold low high) refl refl).1))
  taken-count worker workers waits (Some (ask.Start stamp)) due =
      absurd (true≢false (sym (due (ask.Start stamp) refl refl).1))
  taken-count worker workers waits (Some ask.Drop) due =
      absurd (true≢false (sym (due ask.Drop refl refl).1))
  taken-count worker workers waits (Some ask.Bye) due = refl

  -- so each message is answered still
  next-answered : (session worker workers : ℕ) (ends new : Ends (Answer F) (Ask F) 8)
      (connections after : List (Connection F))
      (takes : TakesNext session worker workers ends new connections after)
      → length (answers_to ends connections session)
      ≡ length (all_asking (received_from ends session))
      → ((message : Ask F) → takes.came ≡ Some message
      → all_asking (message ∷ []) ≡ message ∷ [] → (takes.waits ≡ false)
      × IsSome (group_taken worker workers false (Some message)))
      → length (answers_to new after session) ≡ length (all_asking (received_from new session))
  next-answered session worker workers ends new connections after takes was due =
      let sent = ap length takes.sent
      ∙ length-append (answers_to ends connections session) takes.answer in
      let received = ap (λ ms. length (all_asking ms)) takes.received
      ∙ ap length (flat_map-append asking (received_from ends session)
      (option_to_list takes.came))
      ∙ length-append (all_asking (received_from ends session))
      (all_asking (option_to_list takes.came)) in
      let count = taken-count worker workers takes.waits takes.came due in
      let taken = takes.taken in
      omega (arith, sent, received, count, taken, was)

module _ {D I F : Type 0} {d : disks.Ghosts D} {i : indexes.Ghosts I} where
  -- a look leaves what is answered
  pub looked-answered : (old new : WorkerParty D I F d i) → LooksWorker old new → HasAnswered old
      → HasAnswered new
  looked-answered old new looks answered s lt =
      let sent : answers_to new.ends new.connections.items s
      ≡ answers_to old.ends old.connections.items s =
      ap (λ given. given ++ option_to_list (connection_of new.connections.items s).waiting)
      (looks.sent s)
      ∙ ap (λ (cs : Vec (Connection F) Global). sent_to old.ends s ++ option_to_list (connection_of cs.items s).waiting)
      looks.connections in
      ap length sent ∙ answered s (omega (arith, lt, looks.rings.peers))
      ∙ ap (λ ms. length (all_asking ms)) (sym (looks.received s))

module _ {So Si D I F : Type 0} {so : sources.Ghosts So} {si : sinks.Ghosts Si}
    {d : disks.Ghosts D} {i : indexes.Ghosts I} (workers : List (WorkerParty D I F d i))
    (sessions : List (SessionParty So Si F so si)) (counter : TableId) (start kept : ℕ)
    (linked : AreLinked workers sessions counter start kept)
    (settled : AreSettled workers sessions start) where
  -- no message was passed over
  pub none-passed : (before : ℕ → List Write)
      → HaveBegun d i (first_workers workers) start before
      → (k : KeepPromises workers sessions start before)
      → NonePassed (setting_for workers sessions start)
      (parties_of workers sessions before k.own k.groups k.requests k.views)
  none-passed before begun k s w lt less =
      let p = pick workers w less in
      let here = settled.answered before begun w p.0 p.1 s
      (omega (arith, lt, (linked.worker_fits w p.0 p.1).sessions_are)) in
      ap (λ to. length (to s)) (answers-sent-is workers w p.0 p.1) ∙ here
      ∙ sym (ap (λ from. length (all_asking (from s))) (asks-received-is workers w p.0 p.1))

  -- the next message that has an answer comes to a worker that has none in hand, and is taken
  module _ (laws : MeshLaws F D d) (before : ℕ → List Write)
      (begun : HaveBegun d i (first_workers workers) start before) where
    due : (k : KeepPromises workers sessions start before) (s w : ℕ) (near : SessionParty So Si F so
        si) (far : WorkerParty D I F d i) → IsAt sessions s near → IsAt workers w far
        → (message : Ask F) → all_asking (message ∷ []) ≡ message ∷ []
        → IsPrefix (received_from far.ends s ++ message ∷ []) (sent_to near.links.ends w)
        → ((connection_of far.connections.items s).waiting ≡ None)
        × IsSome (group_taken w (length workers) false (Some message))
    due k s w near far here there message asks next =
        let order : InOrder near s far w = settled.order s w near far here there in
        let owes = laws.owes (setting_for workers sessions start)
        (parties_of workers sessions before k.own k.groups k.requests k.views) s w message
        (sent_to far.ends s) (option_to_list (connection_of far.connections.items s).waiting)
        k.keep (none-passed before begun k) here.0 there.0
        (subst₂ (λ xs ys. IsPrefix xs ys)
        (sym (ap (λ from. from s ++ message ∷ []) (asks-received-is workers w far there)))
        (sym (ap (λ to. to w) (asks-sent-is sessions s near here)))
        (prefix-longer _ _ (option_to_list (waiting_for near.links w)) next)) asks
        (ap (λ to. to s) (answers-sent-is workers w far there))
        (subst (λ xs. IsPrefix xs (sent_to far.ends s))
        (sym (ap (λ from. from w) (answers-received-is sessions s near here))) order.answers) in
        (no-list _ owes.0, laws.due w (length workers) message owes.1)

    -- a turn of the worker leaves no message without an answer
    pub turn-answered : (w later : ℕ) (old new : WorkerParty D I F d i) → IsAt workers w old
        → MovesWorker kept later old new
        → ((s : ℕ) (near : SessionParty So Si F so si) → IsAt sessions s near
        → IsPrefix (received_from new.ends s) (sent_to near.links.ends w)) → HasAnswered new
    turn-answered w later old new at moves order s lt =
        let fits = linked.worker_fits w old at in
        let low : s < peers old.ends = omega (arith, lt, moves.rings.peers) in
        let n = pick sessions s (omega (arith, low, fits.sessions_are)) in
        let takes = moves.takes s low in
        ∥∥₁_elim (promises-kept workers sessions counter start kept linked before begun
        settled.order) (ℕ_set _ _) (λ (k : KeepPromises workers sessions start before).
        next-answered s old.worker.store.worker old.worker.store.workers old.ends new.ends
        old.connections.items new.connections.items takes
        (settled.answered before begun w old at s low) (λ message came asks.
        let next : IsPrefix (received_from old.ends s ++ message ∷ [])
        (sent_to n.0.links.ends w) =
        subst (λ xs. IsPrefix xs (sent_to n.0.links.ends w))
        (takes.received ∙ ap (λ o. received_from old.ends s ++ option_to_list o) came)
        (order s n.0 n.1) in
        let h = due k s w n.0 old n.1 at message asks next in (
          takes.waited h.0,
          subst₂ (λ a b. IsSome (group_taken a b false (Some message))) (sym fits.number_is)
              (sym fits.workers_are) h.1,
        )))
