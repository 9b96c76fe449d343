-- The part lies behind the key.
use Rattle.std.proofs.Common.{sym, ap, ◌∙◌, ◌+◌, ◌-◌, ◌*◌, take, arith}
use Rattle.kv_slot.proofs.LargeLemmas.{drop-append-past}
use Rattle.kv_slot.proofs.large.part_of.Goals as goal

pub returns-clause-value : goal.returns-clause-value
returns-clause-value c =
    c.front_of.ensures.value ∙ ap (take 4088) (c.rest_of.ensures
    ∙ sym (drop-append-past (4080 + 4088 * (c.args.number - 1)) c.args.key.now c.args.value.now
    (omega arith)))
