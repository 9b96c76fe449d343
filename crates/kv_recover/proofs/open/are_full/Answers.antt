-- One class more.
use Rattle.std.proofs.Common.{◌≡◌, ◌+◌, inl, inr, get_or, slice_get, sym, ap, ◌∙◌, arith}
use Rattle.std.proofs.lemmas.Bool.{cases_lt}
use Rattle.kv_recover.proofs.FilteredLemmas.{get-within, get-read}
use Rattle.kv_recover.proofs.open.are_full.Goals as goal

pub loop-class-preserved : goal.loop-class-preserved
loop-class-preserved c = λ class stack below is. elim (cases_lt class c.loop-class.class) [
  | inl within ↦ c.loop-class.invariant class stack within is
  | inr last ↦
      let at : class ≡ c.loop-class.class = omega arith in
      let same : stack ≡ c.index-stacks-class.result = get-read c.args.stacks.now
      c.loop-class.class c.index-stacks-class.result stack
      (sym (ap (slice_get c.args.stacks.now) at) ∙ is) c.index-stacks-class.is in
      let full : get_or c.args.ends.now c.loop-class.class 0
      ≡ get_or c.args.counts.now c.loop-class.class 0 + stack.count =
      c.is_full.ensures c.if-not-is_full.false
      ∙ ap (λ t. get_or c.args.counts.now c.loop-class.class 0 + t.count) (sym same) in
      ap (λ k. get_or c.args.ends.now k 0) at ∙ full
      ∙ sym (ap (λ k. get_or c.args.counts.now k 0 + stack.count) at)
]

pub returns : goal.returns
returns c = λ _ class stack is.
    c.loop-class.invariant class stack
    (let within = get-within c.args.stacks.now stack class is in omega arith) is
