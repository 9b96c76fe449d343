-- One more page is written.
use Rattle.std.proofs.Common.{◌∷◌, ◌++◌, [], sym, ap, ◌∙◌, arith, map}
use Rattle.std.specs.List.{range_with_len}
use Rattle.std.proofs.lemmas.List.FromFn.{map-range_with_len_more}
use Rattle.kv_model.specs.SlotBytes.{large_page}
use Rattle.kv_slot.proofs.large.put_large.Goals as goal

pub loop-number-preserved : goal.loop-number-preserved
loop-number-preserved c =
    let f = large_page c.args.stamp c.args.key.now c.args.value.now in
    let n = c.loop-number.number in
    record {
      written = (rw c.unwrap.ensures at c.append.ensures.ok)
          ∙ ap (λ items. items ++ c.page_with.result ∷ []) c.loop-number.invariant.written
          ∙ ap (λ page. map f (range_with_len 0 n) ++ page ∷ []) c.page_with.ensures
          ∙ sym (map-range_with_len_more f 0 n n (omega arith));
      room = omega (arith, rw c.unwrap.ensures at c.append.ensures.spare);
    }
