-- The last items are compared.
use Rattle.std.proofs.Common.{sym, ◌∙◌, append-nil, arith}
use Rattle.kv_tools.proofs.MergedLemmas.{takes_first, takes_second, takes_none, none_left}
use Rattle.kv_tools.proofs.merge.take_greatest.Goals as goal

pub returns-then-is_last_greater : goal.returns-then-is_last_greater
returns-then-is_last_greater c = takes_first c.args.worker c.args.listed.now.items _
    c.args.list.now.items _ c.pop.ensures.items
    (λ some. c.pop.ensures.variant.1 (omega (arith, some)))
    (sym (rw (c.as_slice.ensures.value, c.as_slice-2.ensures) at c.is_last_greater.ensures) ∙ c.if-is_last_greater.true)

pub returns-in_err-kept : goal.returns-in_err-kept
returns-in_err-kept c =
    let none = none_left c.args.list.now.items c.in_err-kept.ensures.some.1 in
    rw c.from_residual.ensures
    (takes_none c.args.worker c.args.listed.now.items c.args.list.now.items _ none
    (sym (append-nil _) ∙ sym c.in_err-kept.ensures.last ∙ none)
    (sym (rw (c.as_slice.ensures.value, c.as_slice-2.ensures) at c.is_last_greater.ensures) ∙ c.if-is_last_greater.false))

pub returns-in_ok-kept : goal.returns-in_ok-kept
returns-in_ok-kept c = takes_second c.args.worker c.args.listed.now.items c.args.list.now.items _
    c.in_ok-kept.kept c.in_ok-kept.ensures.last
    (sym (rw (c.as_slice.ensures.value, c.as_slice-2.ensures) at c.is_last_greater.ensures) ∙ c.if-is_last_greater.false)
