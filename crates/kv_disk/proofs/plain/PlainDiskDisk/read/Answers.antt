-- The place of a page is among the contents.
use Rattle.std.proofs.Common.{sym, arith}
use Rattle.kv_disk.proofs.plain.PlainDiskDisk.read.Goals as goal

pub index-requires : goal.index-requires
index-requires c =
    let below = c.self.invariant.in_range c.args.file c.args.page c.in-Some.place.now
    (sym c.in-Some.ensures.value) in
    omega (arith, below, c.self.inside.contents.ok.0)
