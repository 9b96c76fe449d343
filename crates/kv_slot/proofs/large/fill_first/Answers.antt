-- The first page has the key and the front of the value.
use Rattle.std.proofs.Common.{◌++◌, ap, ◌∙◌, arith}
use Rattle.kv_model.specs.Padding.{padded}
use Rattle.kv_model.specs.SlotBytes.{item_header}
use Rattle.kv_slot.proofs.LargeLemmas.{first_content}
use Rattle.kv_slot.proofs.large.fill_first.Goals as goal

pub returns : goal.returns
returns c =
    let key = c.args.key.now in
    let header = item_header c.args.stamp key c.args.value.now in
    c.fill_item.ensures ∙ ap (λ size. padded size (header ++ key ++ c.front_of-front.result.now))
    c.requires.page
    ∙ ap (λ front. padded 4096 (header ++ key ++ front)) c.front_of-front.ensures.value
    ∙ first_content 4096 4080 header key c.args.value.now (omega arith)
