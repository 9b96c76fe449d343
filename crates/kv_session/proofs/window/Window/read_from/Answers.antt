use Rattle.std.proofs.Common.{◌≡◌, ◌∙◌, ap, arith, take, drop, length, List, ℕ}
use Rattle.std.proofs.lemmas.List.{with_items_is, length-take-le}
use Rattle.kv_session.proofs.ReaderLemmas.{window_is, length-written}
use Rattle.kv_session.proofs.window.Window.read_from.Goals as goal

-- what was read stands in the buffer behind the bytes that waited
pub returns-in-Ok-clause-arrives : goal.returns-in-Ok-clause-arrives
returns-in-Ok-clause-arrives g c =
    let start = c.compact.new.start in
    let end = c.compact.new.end in
    let buffer = c.deref_mut.result.now in
    let size : length buffer ≡ c.compact.new.buffer.len = c.deref_mut.ensures.len in
    let was : drop start (take end buffer) ≡ c.args.self.now =
    ap (λ (items : List ℕ). drop start (take end items)) c.deref_mut.ensures.value
    ∙ c.compact.ensures.same ∙ c.self.view_is in
    let front : length (take c.in-Ok.n c.read.new.buf) ≡ c.in-Ok.n =
    length-take-le c.in-Ok.n c.read.new.buf c.in-Ok.ensures.bound in
    record {
      bytes = take c.in-Ok.n c.read.new.buf;
      passed = c.in-Ok.ensures.bytes;
      behind = window_is start end c.in-Ok.n _ buffer c.read.new.buf _ _
          (with_items_is c.compact.new.buffer _
          (length-written end _ buffer c.read.new.buf c.read.auto.buf ∙ size)) was
          c.compact.ensures.order (omega (
            arith,
            size,
            c.compact.ensures.size,
            c.compact.ensures.within,
          )) c.in-Ok.ensures.bound;
      counted = omega (arith, front);
    }
