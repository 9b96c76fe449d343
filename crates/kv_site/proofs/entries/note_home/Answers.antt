-- One place more is noted.
use Rattle.std.proofs.Common.{◌≡◌, ◌++◌, List, get_or, map, take, drop, ap, ◌∙◌, arith, add-one}
use Rattle.kv_site.specs.Entries.{homed}
use Rattle.kv_site.specs.declared.entry.Entry.{Entry}
use Rattle.kv_site.proofs.EntryLemmas.{map-step}
use Rattle.kv_site.proofs.entries.note_home.Goals as goal

pub loop-at-preserved : goal.loop-at-preserved
loop-at-preserved g c =
    let f = homed {T = g.row.T.Denot} c.args.folder.now c.args.number in
    let s = c.index_mut.result.now in
    let is : s ≡ get_or (map f (take c.loop-at.at c.args.entries.now.items) ++ drop c.loop-at.at
    c.args.entries.now.items) c.loop-at.at s = c.index_mut.ensures.value
    ∙ ap (λ (ys : List (Entry g.row.T.Denot)). get_or ys c.loop-at.at s)
    c.loop-at.invariant in
    rw (add-one, c.set_home.ensures, c.loop-at.invariant) (map-step f c.args.entries.now.items
    c.loop-at.at s (omega arith) is)
