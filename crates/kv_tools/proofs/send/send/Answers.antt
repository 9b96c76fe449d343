-- The bytes are one piece.
use Rattle.kv_tools.proofs.SentLemmas.{one_whole, not_whole}
use Rattle.kv_tools.proofs.send.send.Goals as goal

pub returns-then-write_pieces-eq1-clause-ok : goal.returns-then-write_pieces-eq1-clause-ok
returns-then-write_pieces-eq1-clause-ok g c = one_whole _ _ c.args.bytes.now _
    c.if-write_pieces-eq1.true c.write_pieces.ensures.taken

pub returns-else-write_pieces-eq1-clause-err : goal.returns-else-write_pieces-eq1-clause-err
returns-else-write_pieces-eq1-clause-err g c = not_whole _ _ c.args.bytes.now _
    c.write_pieces.ensures.some c.if-write_pieces-eq1.false c.write_pieces.ensures.taken
