-- What is kept of a page is what the disk reads there.
use Rattle.kv_disk.specs.Steps.{Looks}
use Rattle.kv_disk.proofs.StepsLemmas.{at_most-one}
use Rattle.kv_cache.proofs.KeptLemmas.{content_of-agrees, agree-to_front}
use Rattle.kv_cache.proofs.cached.Cached.page.Goals as goal

pub invariant_of-self : goal.invariant_of-self
invariant_of-self g c = λ told. rw c.if-copy.ensures.pages (agree-to_front c.args.file c.args.page _
    _ c.copy.new.out (c.self.invariant told) c.if-copy.ensures.content)

pub returns-then-copy-clause-content : goal.returns-then-copy-clause-content
returns-then-copy-clause-content g c =
    λ told. rw (← c.self.view_is) (content_of-agrees c.args.file c.args.page _ _ c.copy.new.out
    (c.self.invariant told) c.if-copy.ensures.content)

-- a page that isn't kept takes one call
pub returns-in_err-read-clause-reads : goal.returns-in_err-read-clause-reads
returns-in_err-read-clause-reads g c =
    let looks : Looks g.D.Disk c.self.inside.disk c.read.new.self c.read.result = record {
      seen = c.read.ensures.seen;
      crash = c.read.ensures.crash;
      call = record {
        past = c.read.ensures.past;
        cause = c.read.ensures.cause;
        counted = c.read.ensures.counted;
      };
    } in rw (← c.self.view_is) (at_most-one g.D.Disk c.self.inside.disk _ c.read.result looks)

pub returns-in-Err-clause-reads : goal.returns-in-Err-clause-reads
returns-in-Err-clause-reads g c =
    let looks : Looks g.D.Disk c.self.inside.disk c.read.new.self c.read.result = record {
      seen = c.read.ensures.seen;
      crash = c.read.ensures.crash;
      call = record {
        past = c.read.ensures.past;
        cause = c.read.ensures.cause;
        counted = c.read.ensures.counted;
      };
    } in rw (← c.self.view_is) (at_most-one g.D.Disk c.self.inside.disk _ c.read.result looks)

pub returns-in_default-clause-reads : goal.returns-in_default-clause-reads
returns-in_default-clause-reads g c =
    let looks : Looks g.D.Disk c.self.inside.disk c.read.new.self c.read.result = record {
      seen = c.read.ensures.seen;
      crash = c.read.ensures.crash;
      call = record {
        past = c.read.ensures.past;
        cause = c.read.ensures.cause;
        counted = c.read.ensures.counted;
      };
    } in rw (← c.self.view_is) (at_most-one g.D.Disk c.self.inside.disk _ c.read.result looks)
