use Rattle.std.proofs.Common.{◌≡◌, ℕ, ◌<◌, ◌≤◌, length}
use Rattle.kv_scan.specs.Sessions.{scan_of, Hears}
use Rattle.kv_scan.proofs.telling.tell_all.Given as goal

abbrev pub invariant-loop-i : goal.invariant-loop-i
invariant-loop-i g l = record {
  sessions : length l.entries.items ≡ length l.initial.entries.items;
  before : (k : ℕ) → k < l.i → Hears l.key l.since l.until l.value
      (scan_of l.initial.entries.items k) (scan_of l.entries.items k);
  after : (k : ℕ) → l.i ≤ k → scan_of l.entries.items k ≡ scan_of l.initial.entries.items k;
}
