-- What all parties together are: one plain map.
use Rattle.std.specs.Prelude.{◌≡◌, ◌≤◌, ◌<◌, ℕ, List, [], length, Bool, false}
use Rattle.kv_base.specs.Crash.{Same}
use Rattle.kv_base.specs.declared.request.Request.{Request}
use Rattle.kv_base.specs.declared.sink.Sink as sinks
use Rattle.kv_base.specs.declared.source.Source as sources
use Rattle.kv_disk.specs.declared.disk.Disk as disks
use Rattle.kv_index.specs.declared.index.Index as indexes
use Rattle.kv_model.specs.History.{Write}
use Rattle.kv_model.specs.Pairs.{Pair, pairs_in}
use Rattle.kv_parties.specs.Joined.{Parties, AllKeep, NonePassed, Stands}
use Rattle.kv_parties.specs.Messages.{answered_in}
use Rattle.kv_parties.specs.Promises.{WorkerData}
use Rattle.kv_parties.specs.Rows.{row}
use Rattle.kv_ring.specs.Ends.{received_from}
use Rattle.kv_ring.specs.declared.message.Answer.{Answer}
use Rattle.kv_ring.specs.declared.message.Ask.{Ask}
use Rattle.kv_session.specs.Passage.{Streams}
use Rattle.kv_session_party.specs.Links.{told_to, heard_from}
use Rattle.kv_session_party.specs.Promise.{HasCourse, with_gaps}
use Rattle.kv_session_party.specs.declared.party.SessionParty.{SessionParty}
use Rattle.kv_stamps.specs.declared.view.Range.{Range}
use Rattle.kv_stamps.specs.declared.view.View.{View}
use Rattle.kv_worker_party.specs.Party.{answers_to, data_of}
use Rattle.kv_worker_party.specs.declared.party.WorkerParty.{WorkerParty}
use Rattle.kv_mesh.specs.Linked.{setting_for}
use Rattle.kv_mesh.specs.Places.{IsAt, given_at}

-- what the sources and sinks of the sessions tell
abbrev pub streams_of : {So Si : Type 0} → sources.Ghosts So → sinks.Ghosts Si → Streams So Si
streams_of so si = record {
  stream = so.stream;
  source_faults = so.faults;
  held = si.held;
  sink_faults = si.faults;
}

module _ {D I F : Type 0} {d : disks.Ghosts D} {i : indexes.Ghosts I} where
  -- what the worker of this number received from each session
  abbrev pub asks_received : List (WorkerParty D I F d i) → ℕ → ℕ → List (Ask F)
  asks_received workers worker =
      given_at (λ party. received_from party.ends) (λ _. []) workers worker

  -- what it sent to each session, where an answer that waits to be sent counts as sent
  abbrev pub answers_sent : List (WorkerParty D I F d i) → ℕ → ℕ → List (Answer F)
  answers_sent workers worker =
      given_at (λ party. answers_to party.ends party.connections.items) (λ _. []) workers worker

  -- all pairs that the workers answered to so many sessions: by worker, then by session
  abbrev pub answered_pairs : List (WorkerParty D I F d i) → ℕ → List Pair
  answered_pairs workers sessions = row (length workers) (λ worker. row sessions (λ session.
      pairs_in (answered_in (answers_sent workers worker session))))

  -- these are the worker's data beside its ring ends, with some of the gaps that its seat left, or all
  -- where the counter wasn't lifted from outside; and what a crash could leave before it began stays
  pub record IsDataOf (party : WorkerParty D I F d i) (own : WorkerData D) : Type 0 where
    pub gaps : List Range
    pub gaps_are : party.lifted ≡ false → gaps ≡ party.seat.view.gaps
    pub is : own ≡ data_of d i party.first.value party.worker party.seat.view gaps
    pub past : (moment : ℕ) → moment ≤ d.calls party.first.value.store.disk.disk
        → Same (d.leaves party.first.value.store.disk.disk moment)
        (d.leaves party.worker.store.disk.disk moment)

module _ {So Si F : Type 0} {so : sources.Ghosts So} {si : sinks.Ghosts Si} where
  -- what the session of this number sent to each worker, where a message that waits to be sent counts
  -- as sent
  abbrev pub asks_sent : List (SessionParty So Si F so si) → ℕ → ℕ → List (Ask F)
  asks_sent sessions session = given_at (λ party. told_to party.links) (λ _. []) sessions session

  -- what it received from each worker
  abbrev pub answers_received : List (SessionParty So Si F so si) → ℕ → ℕ → List (Answer F)
  answers_received sessions session =
      given_at (λ party. heard_from party.links) (λ _. []) sessions session

  -- whether the session of this number waits for answers
  abbrev pub waits_at : List (SessionParty So Si F so si) → ℕ → Bool
  waits_at sessions session = given_at (λ party. party.waiting) false sessions session

  -- this is what the session's seat knows of the counter, with some of the gaps that it left, or all
  -- where the counter wasn't lifted from outside
  pub record IsViewOf (party : SessionParty So Si F so si) (view : View) : Type 0 where
    pub gaps : List Range
    pub gaps_are : party.lifted ≡ false → gaps ≡ party.seat.view.gaps
    pub is : view ≡ with_gaps party.seat.view gaps

module _ {So Si D I F : Type 0} {so : sources.Ghosts So} {si : sinks.Ghosts Si}
    {d : disks.Ghosts D} {i : indexes.Ghosts I} where
  -- what all parties have, with these earlier writes, data of workers, groups, requests and views of
  -- sessions
  abbrev pub parties_of : List (WorkerParty D I F d i) → List (SessionParty So Si F so si)
      → (ℕ → List Write) → (ℕ → WorkerData D) → (ℕ → List (List Pair)) → (ℕ → List Request)
      → (ℕ → View) → Parties F D
  parties_of workers sessions before own groups requests views = record {
    asks_sent = asks_sent sessions;
    asks_received = asks_received workers;
    answers_sent = answers_sent workers;
    answers_received = answers_received sessions;
    before = before;
    workers = own;
    groups = groups;
    requests = requests;
    waiting = waits_at sessions;
    views = views;
  }

  -- all parties keep their promises of their ends and data, each session over the groups of its
  -- transcript
  pub record KeepPromises (workers : List (WorkerParty D I F d i))
      (sessions : List (SessionParty So Si F so si)) (start : ℕ) (before : ℕ → List Write) :
      Type 0 where
    pub own : ℕ → WorkerData D
    pub own_is : (worker : ℕ) (party : WorkerParty D I F d i) → IsAt workers worker party
        → IsDataOf party (own worker)
    pub groups : ℕ → List (List Pair)
    pub requests : ℕ → List Request
    pub views : ℕ → View
    pub views_are : (session : ℕ) (party : SessionParty So Si F so si)
        → IsAt sessions session party → IsViewOf party (views session)
    pub courses : (session : ℕ) (party : SessionParty So Si F so si)
        → IsAt sessions session party → HasCourse (streams_of so si) party.first.value.source
        party.first.value.sink (groups session) (requests session) party.waiting party.session
        party.session.ending
    pub keep : AllKeep d (setting_for workers sessions start)
        (parties_of workers sessions before own groups requests views)

  -- all that the workers answered stands as one plain map that began with these writes; and where no
  -- session waits, so does all that the sessions answered
  pub record ServeAsOne (workers : List (WorkerParty D I F d i))
      (sessions : List (SessionParty So Si F so si)) (start : ℕ) (before : ℕ → List Write) :
      Type 0 where
    pub promises : KeepPromises workers sessions start before
    pub passed : NonePassed (setting_for workers sessions start) (parties_of workers sessions
        before promises.own promises.groups promises.requests promises.views)
    pub stands : Stands d (setting_for workers sessions start) (parties_of workers sessions before
        promises.own promises.groups promises.requests promises.views)
        (answered_pairs workers (length sessions))
    pub replied : ((session : ℕ) → session < length sessions → waits_at sessions session ≡ false)
        → Stands d (setting_for workers sessions start) (parties_of workers sessions before
        promises.own promises.groups promises.requests promises.views)
        (row (length sessions) (λ session. pairs_in (promises.groups session)))
