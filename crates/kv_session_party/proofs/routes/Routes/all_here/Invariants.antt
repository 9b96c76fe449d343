use Rattle.std.proofs.Common.{◌≡◌, drop}
use Rattle.kv_session_party.specs.Parts.{all_here}
use Rattle.kv_session_party.proofs.routes.Routes.all_here.Given as goal

abbrev pub invariant-loop-part : goal.invariant-loop-part
invariant-loop-part l = all_here (drop l.part-index l.part-items) ≡ all_here l.part-items
