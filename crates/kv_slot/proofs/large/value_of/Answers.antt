-- One more page is copied, as far as the value goes.
use Rattle.std.proofs.Common.{◌≡◌, length, take, drop, get_or, [], arith, length-drop}
use Rattle.std.proofs.lemmas.List.{take_all}
use Rattle.kv_slot.proofs.LargeLemmas.{copy_more}
use Rattle.kv_slot.proofs.large.value_of.Goals as goal

pub loop-page-preserved : goal.loop-page-preserved
loop-page-preserved c =
    let page = get_or c.args.later.now c.loop-page.page-index [] in
    let size : length page ≡ 4096 = c.told-later c.loop-page.page-index (omega arith) in
    let whole : take 4088 (drop 8 page) ≡ drop 8 page =
    take_all 4088 (drop 8 page) (omega (arith, length-drop 8 page)) in
    record {
      copied = copy_more c.args.value_len c.loop-page.page-index c.args.front.now _ _ _
          c.args.later.now (omega arith) whole c.loop-page.invariant.copied
          c.in_ok-append_up_to-2.ensures.ok;
      limit = c.in_ok-append_up_to-2.ensures.len;
    }
