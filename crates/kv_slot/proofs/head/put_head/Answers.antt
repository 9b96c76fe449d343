-- The page has 4,096 bytes.
use Rattle.std.proofs.Common.{◌++◌, ap, ◌∙◌}
use Rattle.std.specs.Int.{w16, to_le_bytes}
use Rattle.kv_model.specs.Head.{head_page, magic}
use Rattle.kv_model.specs.Padding.{padded}
use Rattle.kv_slot.proofs.head.put_head.Goals as goal

pub returns-clause-bytes : goal.returns-clause-bytes
unfolding head_page
returns-clause-bytes c =
    c.fill_head.ensures
    ∙ ap (λ size. padded size (magic ++ to_le_bytes w16 1 ++ to_le_bytes w16 c.args.worker
    ++ to_le_bytes w16 c.args.workers)) c.told-page
