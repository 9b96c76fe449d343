use Rattle.std.proofs.Common.{◌<◌, ℕ, sym, subst}
use Rattle.kv_model.specs.Recovery.{most_pages}
use Rattle.kv_slab.proofs.PageLemmas.{page_small}
use Rattle.kv_slab.proofs.read.place_spot.Goals as goal

pub returns-clause-most : goal.returns-clause-most
returns-clause-most c = subst (λ (n : ℕ). n < most_pages c.args.place.class)
    (sym c.spot.ensures.page)
    (page_small c.args.place.class c.args.place.slot c.requires.place.low c.requires.place.high
    c.requires.place.slot)
