use Rattle.std.proofs.Common.{◌≡◌, ℕ, ◌<◌, ◌≤◌, length}
use Rattle.std.specs.Option.{option_map}
use Rattle.kv_scan.specs.Scans.{ended_scan}
use Rattle.kv_scan.specs.Sessions.{scan_of}
use Rattle.kv_scan.proofs.telling.end_each.Given as goal

abbrev pub invariant-loop-i : goal.invariant-loop-i
invariant-loop-i g l = record {
  sessions : length l.entries.items ≡ length l.initial.entries.items;
  before : (k : ℕ) → k < l.i → scan_of l.entries.items k
      ≡ option_map (ended_scan l.why) (scan_of l.initial.entries.items k);
  after : (k : ℕ) → l.i ≤ k → scan_of l.entries.items k ≡ scan_of l.initial.entries.items k;
}
