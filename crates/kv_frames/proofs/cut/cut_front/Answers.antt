-- The length is the number in the first four bytes, and so many bytes follow.
use Rattle.std.proofs.Common.{◌≡◌, drop, ap, ◌∙◌, arith}
use Rattle.std.specs.Int.{w32, from_le_bytes}
use Rattle.kv_model.specs.Frames.{stated_length}
use Rattle.kv_frames.proofs.FramingLemmas.{content_here}
use Rattle.kv_frames.proofs.cut.cut_front.Goals as goal

pub returns : goal.returns
returns c =
    let n = c.u32_in-length.result in
    let rest_is : c.in-Some.rest.now ≡ drop 4 c.args.bytes.now = c.in-Some.ensures.cases.1 in
    let front = ap (λ four. from_le_bytes w32 four) c.in-Some.ensures.cases.0 in
    let is : n ≡ stated_length c.args.bytes.now = c.u32_in-length.ensures ∙ front in
    rw rest_is (content_here c.args.bytes.now n (λ i. omega (arith, c.type_inv.bytes i)) is
    (omega arith) (omega arith) (omega (arith, c.in-Some.ensures.cases.2)))
