use Rattle.std.proofs.Common.{length, drop, ◌-◌, ◌≤◌, ◌∙◌, arith}
use Rattle.std.proofs.lemmas.List.{length-take, length-drop}
use Rattle.kv_base.proofs.PieceLemmas.{Appends-part}
use Rattle.kv_base.proofs.adapters.WriterSink.write_all.Goals as goal

pub loop-sent-preserved : goal.loop-sent-preserved
loop-sent-preserved g c =
    let bytes = c.args.bytes.now in
    let sent = c.loop-sent.sent in
    let room = length bytes - sent in
    let fits : c.in-Ok.n ≤ room = omega (
      arith,
      c.in-Ok.ensures.bound.1,
      length-take room (drop sent bytes),
      length-drop sent bytes,
    ) in
    record {
      sent = omega (arith, fits, c.loop-sent.invariant.sent);
      known = Appends-part _ _ _ sent c.in-Ok.n room bytes fits c.loop-sent.invariant.known
          c.in-Ok.ensures.known;
      faults = c.in-Ok.ensures.counted ∙ c.loop-sent.invariant.faults;
    }
