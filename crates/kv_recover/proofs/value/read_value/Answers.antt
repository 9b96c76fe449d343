-- The item that is kept stands in its place.
use Rattle.std.proofs.Common.{sym, ap, ◌∙◌}
use Rattle.kv_model.specs.Slots.{Item as Stored}
use Rattle.kv_recover.proofs.value.read_value.Goals as goal

pub returns-clause-value : goal.returns-clause-value
returns-clause-value g c = λ tells.
    let kept = c.requires.kept tells in
    kept.3.found.stands
    ∙ ap (Stored c.args.entry.now.stamp c.args.entry.now.key)
    (sym (c.in_ok-value.ensures.value tells c.args.entry.now.stamp c.args.entry.now.key kept.2
    kept.3.found.stands))
