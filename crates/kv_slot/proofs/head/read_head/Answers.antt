-- A head has the fields that are read.
use Rattle.std.proofs.Common.{ℕ, ◌∙◌, sym}
use Rattle.std.proofs.lemmas.Bool.{false≢true}
use Rattle.kv_model.specs.Head.{IsHead}
use Rattle.kv_slot.proofs.HeadLemmas.{head_says, no_head, zeros_no_head}
use Rattle.kv_slot.proofs.head.read_head.Goals as goal

pub returns-then-is_zero-clause-head : goal.returns-then-is_zero-clause-head
returns-then-is_zero-clause-head c worker workers head =
    absurd (zeros_no_head c.args.page.now worker workers (c.is_zero.ensures.0 c.if-is_zero.true)
    head)

pub returns-then-is_head-clause-head : goal.returns-then-is_head-clause-head
returns-then-is_head-clause-head c worker workers head =
    head_says c.args.page.now _ _ worker workers c.field-worker.ensures c.field-workers.ensures head

-- not by the fields, so not by other numbers
none : (c : goal.Else-is_head) (worker workers : ℕ) → IsHead c.args.page.now worker workers → ⊥
none c worker workers head =
    no_head c.args.page.now _ _ worker workers c.field-worker.ensures c.field-workers.ensures
    (λ h. false≢true (sym c.if-is_head.false ∙ c.is_head.ensures.1 h)) head

pub returns-else-is_head-clause-value : goal.returns-else-is_head-clause-value
returns-else-is_head-clause-value c =
    (λ zeros. false≢true (sym c.if-is_zero.false ∙ c.is_zero.ensures.1 zeros), none c)

pub returns-else-is_head-clause-head : goal.returns-else-is_head-clause-head
returns-else-is_head-clause-head c worker workers head = absurd (none c worker workers head)
