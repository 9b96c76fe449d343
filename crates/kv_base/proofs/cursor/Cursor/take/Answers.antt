-- The front of the buffer has the next bytes, so these passed from what was left to what is taken.
use Rattle.std.proofs.Common.{◌≡◌, ◌+◌, ◌≤◌, length, take, drop, arith}
use Rattle.std.proofs.lemmas.Grind.{common_steps}
use Rattle.kv_base.proofs.StreamLemmas.{passes_in_front}
use Rattle.kv_base.proofs.cursor.Cursor.take.Goals as goal

pub returns-clause-taken : goal.returns-clause-taken
returns-clause-taken c =
    let fits : c.self.inside.next + c.min-n.result ≤ length c.self.inside.bytes =
    grind (arith, common_steps) in
    let is : c.copy_from_slice.new.self
    ≡ take c.min-n.result (drop c.self.inside.next c.self.inside.bytes) =
    grind (arith, common_steps) in
    let moved = passes_in_front c.self.inside.bytes c.args.buf.now c.copy_from_slice.new.self
    c.self.inside.next c.min-n.result fits is in
    rw (← c.self.view_is) moved.0

pub returns-clause-left : goal.returns-clause-left
returns-clause-left c =
    let fits : c.self.inside.next + c.min-n.result ≤ length c.self.inside.bytes =
    grind (arith, common_steps) in
    let is : c.copy_from_slice.new.self
    ≡ take c.min-n.result (drop c.self.inside.next c.self.inside.bytes) =
    grind (arith, common_steps) in
    let moved = passes_in_front c.self.inside.bytes c.args.buf.now c.copy_from_slice.new.self
    c.self.inside.next c.min-n.result fits is in
    rw (← c.self.view_is) moved.1
