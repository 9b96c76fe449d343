use Rattle.std.proofs.Common.{◌≡◌, drop}
use Rattle.kv_session_party.specs.Links.{any_waits}
use Rattle.kv_session_party.proofs.links.Links.waits.Given as goal

abbrev pub invariant-loop-unsent : goal.invariant-loop-unsent
invariant-loop-unsent g l = any_waits (drop l.unsent-index l.unsent-items) ≡ any_waits l.unsent-items
