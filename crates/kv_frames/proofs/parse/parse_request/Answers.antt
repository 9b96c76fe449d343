-- A content that is read is the request's, and no other request begins the bytes.
use Rattle.std.proofs.Common.{arith}
use Rattle.kv_frames.proofs.RequestLemmas.{request_is_whole, request_is_found, request_is_malformed}
use Rattle.kv_frames.proofs.parse.parse_request.Goals as goal

pub returns-in-Some-clause-cases : goal.returns-in-Some-clause-cases
returns-in-Some-clause-cases c =
    request_is_whole c.in-Whole.ensures c.in-Some.ensures (λ i. omega (arith, c.type_inv.bytes i))

pub returns-in-Some-clause-whole : goal.returns-in-Some-clause-whole
returns-in-Some-clause-whole c =
    λ request rest p. request_is_found c.in-Whole.ensures c.in-Some.ensures p

pub returns-in-Some-clause-malformed : goal.returns-in-Some-clause-malformed
returns-in-Some-clause-malformed c = λ malformed.
    absurd (malformed.none _ _ (returns-in-Some-clause-cases c).begins)

pub returns-in-None-clause-cases : goal.returns-in-None-clause-cases
returns-in-None-clause-cases c = request_is_malformed c.in-Whole.ensures c.in-None.ensures

pub returns-in-None-clause-whole : goal.returns-in-None-clause-whole
returns-in-None-clause-whole c = λ request rest p.
    absurd ((returns-in-None-clause-cases c).none request rest p)
