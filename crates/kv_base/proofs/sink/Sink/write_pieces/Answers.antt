use Rattle.std.proofs.Common.{◌≡◌, ◌≤◌, ◌<◌, ◌-◌, ◌+◌, suc, length, drop, slice_index_or, ◌∙◌, arith}
use Rattle.std.proofs.Common.{refl, subst}
use Rattle.std.proofs.lemmas.List.{length-take, length-drop}
use Rattle.kv_base.specs.Pieces.{IsUpTo}
use Rattle.kv_base.proofs.StreamLemmas.{Takes-nil}
use Rattle.kv_base.proofs.PieceLemmas.{Takes-part, ends_in, up_to-start, is_below}
use Rattle.kv_base.proofs.PieceLemmas.{up_to-more, up_to-next}
use Rattle.kv_base.proofs.sink.Sink.write_pieces.Goals as goal

pub loop-whole-init : goal.loop-whole-init
loop-whole-init g c = record {
  up_to = up_to-start 0 c.args.ends.now (length c.args.bytes.now) c.requires;
  whole = omega arith;
  sent = omega arith;
  took = Takes-nil (g.Self.Sink.held c.args.self.now);
  faults = refl;
}

pub write-requires : goal.write-requires
write-requires g c =
    let bytes = c.args.bytes.now in
    let sent = c.loop-whole.sent in
    let end = slice_index_or c.args.ends.now c.loop-whole.whole 0 in
    omega (
      arith,
      length-take (end - sent) (drop sent bytes),
      length-drop sent bytes,
      ends_in 0 c.args.ends.now (length bytes) c.loop-whole.whole 0 c.requires c.loop-whole-test.true,
      is_below 0 c.args.ends.now c.loop-whole.whole sent 0 c.loop-whole-test.true
          c.loop-whole.invariant.up_to,
    )

pub loop-whole-preserved-then-sent-ends : goal.loop-whole-preserved-then-sent-ends
loop-whole-preserved-then-sent-ends g c =
    let bytes = c.args.bytes.now in
    let ends = c.args.ends.now in
    let whole = c.loop-whole.whole in
    let sent = c.loop-whole.sent in
    let end = slice_index_or ends whole 0 in
    let fits : c.in-Ok.n ≤ end - sent = omega (
      arith,
      c.in-Ok.ensures.bound.1,
      length-take (end - sent) (drop sent bytes),
    ) in
    record {
      up_to = let at : suc whole ≡ whole + 1 = omega arith in
          subst (λ n. IsUpTo 0 ends n (sent + c.in-Ok.n)) at (up_to-next 0 ends (length bytes) whole
          (sent + c.in-Ok.n) 0 c.requires c.loop-whole-test.true c.if-sent-ends.true);
      whole = omega (arith, c.loop-whole-test.true);
      sent = omega (
        arith,
        c.if-sent-ends.true,
        ends_in 0 ends (length bytes) whole 0 c.requires
            c.loop-whole-test.true,
      );
      took = Takes-part _ _ _ sent c.in-Ok.n (end - sent) bytes fits c.loop-whole.invariant.took
          c.in-Ok.ensures.bytes;
      faults = c.in-Ok.ensures.counted ∙ c.loop-whole.invariant.faults;
    }

pub loop-whole-preserved : goal.loop-whole-preserved
loop-whole-preserved g c =
    let bytes = c.args.bytes.now in
    let ends = c.args.ends.now in
    let whole = c.loop-whole.whole in
    let sent = c.loop-whole.sent in
    let end = slice_index_or ends whole 0 in
    let fits : c.in-Ok.n ≤ end - sent = omega (
      arith,
      c.in-Ok.ensures.bound.1,
      length-take (end - sent) (drop sent bytes),
    ) in
    let below : sent < end = is_below 0 ends whole sent 0 c.loop-whole-test.true
    c.loop-whole.invariant.up_to in
    let more : sent + c.in-Ok.n < end = omega (arith, fits, below, c.if-sent-ends.false) in
    record {
      up_to = up_to-more 0 ends whole sent (sent + c.in-Ok.n) 0 c.loop-whole-test.true
          c.loop-whole.invariant.up_to (omega arith) more;
      whole = c.loop-whole.invariant.whole;
      sent = omega (
        arith,
        more,
        ends_in 0 ends (length bytes) whole 0 c.requires
            c.loop-whole-test.true,
      );
      took = Takes-part _ _ _ sent c.in-Ok.n (end - sent) bytes fits c.loop-whole.invariant.took
          c.in-Ok.ensures.bytes;
      faults = c.in-Ok.ensures.counted ∙ c.loop-whole.invariant.faults;
    }
