use Rattle.std.proofs.Common.{length}
use Rattle.std.specs.Int.{w16, to_le_bytes}
use Rattle.kv_fold.proofs.ResultLemmas.{more_items}
use Rattle.kv_fold.proofs.result_bytes.write_items.Goals as goal

pub loop-item-preserved : goal.loop-item-preserved
loop-item-preserved c =
    let appended = rw (
      c.as_slice.ensures,
      c.as_slice-in-loop-item.ensures,
    ) at c.in_ok-append_item.ensures in
    more_items (to_le_bytes w16
    (length c.args.items.now)) c.args.items.now c.loop-item.item-index c.item-item.result
    c.loop-item.bytes.items c.append_item.new.bytes.items c.loop-item-test.true c.item-item.is
    c.loop-item.invariant appended
