-- One page more.
use Rattle.std.proofs.Common.{eqb, max, ap, ◌∙◌}
use Rattle.std.specs.Prelude.{◌&&◌}
use Rattle.kv_recover.proofs.LaterLemmas.{later-next}
use Rattle.kv_recover.proofs.large.with_later.Goals as goal

pub returns-clause-pages : goal.returns-clause-pages
returns-clause-pages c = λ pages floor later.
    later-next pages c.args.page.now c.args.stamp floor c.args.later.whole c.args.later.blank _
    c.still_blank.result c.args.later.floor c.max.result later
    (ap (λ n. c.args.later.whole && eqb n c.args.stamp) c.page_stamp-head.ensures)
    c.still_blank.ensures.to c.still_blank.ensures.from
    (c.max.ensures ∙ ap (max c.args.later.floor) c.page_stamp-head.ensures)
