-- What a site tells of a command, from before it to behind it.
use Rattle.std.specs.Prelude.{ℕ, Bool}
use Rattle.kv_base.specs.declared.sink.Sink as sinks
use Rattle.kv_base.specs.declared.source.Source as sources
use Rattle.kv_session.specs.Passage.{Streams}
use Rattle.kv_site.specs.Held.{Held}

-- what a site tells, but for its disks: its streams, and what it holds and how often it failed
-- before and after
pub record Outside (In Out Pages : Type 0) : Type 0 where
  pub streams : Streams In Out
  pub tells : Bool
  pub before : Held In Out Pages
  pub after : Held In Out Pages
  pub faults : ℕ
  pub faults' : ℕ

-- all that a site tells
abbrev pub outside_of : {In Out Pages : Type 0} → sources.Ghosts In → sinks.Ghosts Out → Bool
    → Held In Out Pages → Held In Out Pages → ℕ → ℕ → Outside In Out Pages
outside_of source sink tells before after faults faults' = record {
  streams = record {
    stream = source.stream;
    source_faults = source.faults;
    held = sink.held;
    sink_faults = sink.faults;
  };
  tells = tells;
  before = before;
  after = after;
  faults = faults;
  faults' = faults';
}
