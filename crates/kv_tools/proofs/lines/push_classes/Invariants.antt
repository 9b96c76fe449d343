-- The lines so far, and those that are left, are all.
use Rattle.std.proofs.Common.{◌≡◌, ◌+◌, ◌++◌, drop}
use Rattle.std.specs.String.{string_bytes}
use Rattle.kv_tools.specs.Lines.{class_lines}
use Rattle.kv_tools.proofs.lines.push_classes.Given as goal

abbrev pub invariant-loop-count : goal.invariant-loop-count
invariant-loop-count l = record {
  class_is : l.class ≡ l.count-index + 1;
  all : string_bytes l.text ++ class_lines l.disk l.class (drop l.count-index l.counts)
      ≡ string_bytes l.initial.text ++ class_lines l.disk 1 l.counts;
}
