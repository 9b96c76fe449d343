-- One page more.
use Rattle.std.proofs.Common.{◌+◌, [], ◌∷◌, ◌++◌, Result, Ok, Err, OnOk, IsOk, length, length-append, map, sym, ap, ◌∙◌, arith}
use Rattle.std.specs.List.{range_with_len}
use Rattle.std.proofs.lemmas.List.FromFn.{map-range_with_len_more}
use Rattle.kv_disk.proofs.StepsLemmas.{reads-then}
use Rattle.kv_recover.proofs.value.read_pages.Goals as goal

-- of an Ok call
of_ok : {T E : Type 0} (result : Result T E) (P : Type 0) → IsOk result → OnOk result P → P
of_ok (Ok x) P is p = p
of_ok (Err e) P is p = absurd (cc)

pub returns-in_err-read_page-clause-reads : goal.returns-in_err-read_page-clause-reads
returns-in_err-read_page-clause-reads g c =
    reads-then g.D.Disk _ _ _ c.loop-number.invariant.reads c.read_page.ensures.reads

pub loop-number-preserved : goal.loop-number-preserved
loop-number-preserved g c =
    let room = c.loop-number.invariant.room in
    let ok = c.append.ensures.room (omega arith) in
    let spare = of_ok c.append.result _ ok c.append.ensures.spare in
    let items = of_ok c.append.result _ ok c.append.ensures.ok in
    let size = c.loop-number.invariant.size in
    record {
      reads = reads-then g.D.Disk _ _ _ c.loop-number.invariant.reads c.read_page.ensures.reads;
      calm = c.in_ok-read_page.ensures.counted ∙ c.loop-number.invariant.calm;
      room = omega arith;
      size = omega (
        arith,
        ap length items,
        size,
        length-append c.loop-number.pages.items (c.read_page.new.content ∷ []),
      );
      pages = λ tells. items
          ∙ ap (λ xs. xs ++ c.read_page.new.content ∷ []) (c.loop-number.invariant.pages tells)
          ∙ ap (λ x. map (λ page. g.D.Disk.seen c.args.disk.now c.args.class page)
          (range_with_len c.args.first c.loop-number.number) ++ x ∷ [])
          (c.in_ok-read_page.ensures.content tells
          ∙ ap (λ image. image c.args.class (c.args.first + c.loop-number.number))
          (c.loop-number.invariant.reads.seen tells))
          ∙ sym (map-range_with_len_more (g.D.Disk.seen c.args.disk.now c.args.class) c.args.first
          c.loop-number.number (c.args.first + c.loop-number.number) (omega arith));
    }
