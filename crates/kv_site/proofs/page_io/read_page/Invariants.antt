use Rattle.std.proofs.Common.{◌≡◌, ◌-◌, ◌≤◌, length}
use Rattle.kv_site.proofs.page_io.read_page.Given as goal

abbrev pub invariant-loop-at : goal.invariant-loop-at
invariant-loop-at g l = (l.at ≤ 4096) × (length l.page ≡ 4096)

abbrev pub decreases-loop-at : goal.decreases-loop-at
decreases-loop-at g l = 4096 - l.at
