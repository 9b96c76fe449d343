-- All parties as callers see them.
use Rattle.std.specs.Prelude.{◌≡◌, ◌≤◌, ℕ, List, length, Bool}
use Rattle.std.specs.List.{list_all, list_any}
use Rattle.kv_base.specs.Reserved.{Reserved}
use Rattle.kv_base.specs.declared.sink.Sink as sinks
use Rattle.kv_base.specs.declared.source.Source as sources
use Rattle.kv_disk.specs.declared.disk.Disk as disks
use Rattle.kv_groups.specs.Delivering.{all_ended}
use Rattle.kv_index.specs.declared.index.Index as indexes
use Rattle.kv_session_party.specs.Party.{is_over}
use Rattle.kv_session_party.specs.declared.party.SessionParty.{SessionParty}
use Rattle.kv_worker_party.specs.declared.party.WorkerParty.{WorkerParty}

-- a list without items that has room for so many
pub record HasRoom {X : Type 0} (list : Reserved X) (count : ℕ) : Type 0 where
  pub empty : length list.items ≡ 0
  pub room : count ≤ list.spare

module _ {D I F : Type 0} {d : disks.Ghosts D} {i : indexes.Ghosts I} where
  -- whether each worker has heard every session's farewell, and no answer waits
  abbrev pub workers_ended : List (WorkerParty D I F d i) → Bool
  workers_ended workers = list_all (λ party. all_ended party.connections.items) workers

  -- whether a worker is closed
  abbrev pub any_closed : List (WorkerParty D I F d i) → Bool
  any_closed workers = list_any (λ party. party.worker.store.closed) workers

module _ {So Si F : Type 0} {so : sources.Ghosts So} {si : sinks.Ghosts Si} where
  -- whether each session has ended, and no message waits
  abbrev pub sessions_ended : List (SessionParty So Si F so si) → Bool
  sessions_ended sessions = list_all (λ party. is_over party.session.ending party.links) sessions
