-- What is read of a disk in memory is one of the contents that a crash may leave.
use Rattle.std.specs.Prelude.{ℕ, ◌==◌, ◌&&◌, true, false, List, [], ◌∷◌, ◌++◌, take, fold, Contains}
use Rattle.std.specs.Prelude.{if◌then◌else◌}
use Rattle.std.proofs.lemmas.List.Elements.{Contains-push, Contains-append_left}
use Rattle.kv_base.specs.Crash.{MayLeave}
use Rattle.kv_disk.specs.declared.call.Call.{Call}
use Rattle.kv_disk.specs.declared.call.Call.TheVariants.{Write, Sync, Idle}
use Rattle.kv_disk.specs.Replay.{Left, after_call, durable, start_of}
use Rattle.kv_disk.specs.Memory.{RecordedDisk, left_at, choices_of}

-- what is read may be left
abbrev pub LeavesSeen : Left → Type 0
LeavesSeen left = Contains left.contents left.seen

-- one call keeps that
pub leaves_seen-call : (f p : ℕ) (left : Left) (call : Call) → LeavesSeen left
    → LeavesSeen (after_call f p left call)
leaves_seen-call f p left (Write w) has =
    let written : Left = record {
      seen = if w.done then w.content
          else left.seen;
      contents = left.contents ++ w.content ∷ [];
    } in
    let put : LeavesSeen written =
    elim w.done as (λ b. Contains (left.contents ++ w.content ∷ []) (if b then w.content
    else left.seen)) [
      | true ↦ Contains-push left.contents w.content
      | false ↦ Contains-append_left left.contents (w.content ∷ []) left.seen has
    ] in
    elim ((w.file == f) && (w.page == p)) as (λ b. LeavesSeen (if b then written else left))
    [ true ↦ put | false ↦ has ]
leaves_seen-call f p left Sync has = Contains-push [] left.seen
leaves_seen-call f p left Idle has = has

-- and so do all calls
pub leaves_seen-log : (f p : ℕ) (left : Left) (log : List Call) → LeavesSeen left
    → LeavesSeen (fold (after_call f p) left log)
leaves_seen-log f p left [] has = has
leaves_seen-log f p left (call ∷ log) has = leaves_seen-log f p (after_call f p left call) log
    (leaves_seen-call f p left call has)

-- at each moment a crash may leave what is read
pub seen_is_left : (disk : RecordedDisk) (t : ℕ)
    → MayLeave (choices_of disk t) (λ f p. (left_at disk t f p).seen)
seen_is_left disk t f p = leaves_seen-log f p (durable (start_of disk.pages f p)) (take t disk.log)
    (Contains-push [] (start_of disk.pages f p))
