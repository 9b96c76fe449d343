-- A content that is read is the reply's, and no other reply begins the bytes.
use Rattle.std.proofs.Common.{sym, ◌∙◌, arith}
use Rattle.kv_frames.proofs.ReplyLemmas.{reply_is_whole, reply_is_found, reply_is_malformed}
use Rattle.kv_frames.proofs.ReplyLemmas.{begins_with_found, OnErr-from}
use Rattle.kv_frames.proofs.replies.parse_reply.Goals as goal

pub returns-in_err-reply-in-Whole-clause-malformed :
    goal.returns-in_err-reply-in-Whole-clause-malformed
returns-in_err-reply-in-Whole-clause-malformed c = λ malformed.
    let found = begins_with_found c.in-Whole.ensures c.in_err-reply-in-Whole.ensures.err
    (λ i. omega (arith, c.type_inv.bytes i)) in
    absurd (malformed.none _ _ found.3)

pub returns-in_err-reply-in-Whole-clause-err : goal.returns-in_err-reply-in-Whole-clause-err
returns-in_err-reply-in-Whole-clause-err c =
    let found = begins_with_found c.in-Whole.ensures c.in_err-reply-in-Whole.ensures.err
    (λ i. omega (arith, c.type_inv.bytes i)) in
    OnErr-from c.from_residual.result found

pub returns-in-Some-clause-cases : goal.returns-in-Some-clause-cases
returns-in-Some-clause-cases c =
    reply_is_whole c.in-Whole.ensures (sym c.in-Some.is ∙ c.in_ok-reply-in-Whole.ensures.ok)
    (λ i. omega (arith, c.type_inv.bytes i))

pub returns-in-Some-clause-whole : goal.returns-in-Some-clause-whole
returns-in-Some-clause-whole c = λ reply rest p.
    reply_is_found c.in-Whole.ensures (sym c.in-Some.is ∙ c.in_ok-reply-in-Whole.ensures.ok) p

pub returns-in-Some-clause-malformed : goal.returns-in-Some-clause-malformed
returns-in-Some-clause-malformed c = λ malformed.
    absurd (malformed.none _ _ (returns-in-Some-clause-cases c).begins)

pub returns-in-None-clause-cases : goal.returns-in-None-clause-cases
returns-in-None-clause-cases c =
    reply_is_malformed c.in-Whole.ensures (sym c.in-None.is ∙ c.in_ok-reply-in-Whole.ensures.ok)

pub returns-in-None-clause-whole : goal.returns-in-None-clause-whole
returns-in-None-clause-whole c = λ reply rest p.
    absurd ((returns-in-None-clause-cases c).none reply rest p)
