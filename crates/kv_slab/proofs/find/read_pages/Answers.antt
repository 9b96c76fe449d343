-- One page more.
use Rattle.std.proofs.Common.{◌+◌, [], ◌∷◌, ◌++◌, length, length-append, map, sym, ap, ◌∙◌, arith}
use Rattle.std.specs.List.{range_with_len}
use Rattle.std.proofs.lemmas.List.FromFn.{map-range_with_len_more}
use Rattle.kv_disk.proofs.StepsLemmas.{at_most-then}
use Rattle.kv_slab.proofs.ListLemmas.{of_ok}
use Rattle.kv_slab.proofs.find.read_pages.Goals as goal

pub returns-in_err-read_page-clause-reads : goal.returns-in_err-read_page-clause-reads
returns-in_err-read_page-clause-reads g c =
    at_most-then g.D.Disk c.loop-number.number 1 c.args.count _ _ _
    (let a = c.loop-number-test.true in omega arith) c.loop-number.invariant.reads
    c.read_page.ensures.reads

pub loop-number-preserved : goal.loop-number-preserved
loop-number-preserved g c =
    let room = c.loop-number.invariant.room in
    let below = c.loop-number-test.true in
    let ok = c.append.ensures.room (omega arith) in
    let spare = of_ok c.append.result _ ok c.append.ensures.spare in
    let items = of_ok c.append.result _ ok c.append.ensures.ok in
    let size = c.loop-number.invariant.size in
    record {
      reads = at_most-then g.D.Disk c.loop-number.number 1 (c.loop-number.number + 1) _ _ _
          (omega arith) c.loop-number.invariant.reads c.read_page.ensures.reads;
      faults = c.in_ok-read_page.ensures.counted ∙ c.loop-number.invariant.faults;
      room = omega arith;
      size = omega (
        arith,
        ap length items,
        size,
        length-append c.loop-number.pages.items (c.read_page.new.content ∷ []),
      );
      pages = λ tells. items
          ∙ ap (λ xs. xs ++ c.read_page.new.content ∷ []) (c.loop-number.invariant.pages tells)
          ∙ ap (λ x. map (λ page. g.D.Disk.seen c.args.disk.now.disk c.args.file page)
          (range_with_len c.args.first c.loop-number.number) ++ x ∷ [])
          (c.in_ok-read_page.ensures.content tells
          ∙ ap (λ image. image c.args.file (c.args.first + c.loop-number.number))
          (c.loop-number.invariant.reads.reads.seen tells))
          ∙ sym (map-range_with_len_more (g.D.Disk.seen c.args.disk.now.disk c.args.file)
          c.args.first
          c.loop-number.number (c.args.first + c.loop-number.number) (omega arith));
    }
