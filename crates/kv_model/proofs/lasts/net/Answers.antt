-- one more write
use Rattle.std.proofs.Common.{◌≡◌, ◌+◌, ◌++◌, [], ◌∷◌, Bor, ap, ◌∙◌, sym, take, filter}
use Rattle.std.proofs.lemmas.List.{map_more}
use Rattle.std.proofs.lemmas.List.Elements.{filter-append}
use Rattle.kv_model.specs.declared.write.Recorded.{Recorded}
use Rattle.kv_model.specs.Batch.{changes_something}
use Rattle.kv_model.specs.Oracle.{seen_of, write_of, start_of}
use Rattle.kv_model.proofs.lasts.net.Goals as goal

pub loop-write-preserved : goal.loop-write-preserved
loop-write-preserved c =
    let more : seen_of (take (c.loop-write.write-index + 1) c.deref-write-items.result.now)
    ≡ seen_of (take c.loop-write.write-index c.deref-write-items.result.now)
    ++ write_of c.write-item.result.now ∷ [] =
    map_more (λ (recorded : Bor Recorded). write_of recorded.now) c.deref-write-items.result.now
    c.loop-write.write-index c.write-item.result c.loop-write-test.true
    ∙ ap (λ (recorded : Bor Recorded). seen_of (take c.loop-write.write-index
    c.deref-write-items.result.now) ++ write_of recorded.now ∷ []) (sym c.write-item.is) in
    c.in_ok-keep_change.ensures
    ∙ ap (λ changes. changes ++ filter (changes_something (start_of c.args.found))
    (write_of c.write-item.result.now ∷ [])) c.loop-write.invariant
    ∙ sym (filter-append (changes_something (start_of c.args.found))
    (seen_of (take c.loop-write.write-index c.deref-write-items.result.now))
    (write_of c.write-item.result.now ∷ []))
    ∙ ap (filter (changes_something (start_of c.args.found))) (sym more)
