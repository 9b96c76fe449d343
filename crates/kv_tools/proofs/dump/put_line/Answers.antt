-- A value is read, and its line is put.
use Rattle.kv_tools.proofs.dump.put_line.Goals as goal

pub read_value-requires-clause-kept : goal.read_value-requires-clause-kept
read_value-requires-clause-kept g c = λ tells.
    let is = c.requires.kept tells in (c.args.item.now.worker, is.0, is.1.0, is.1.1)
