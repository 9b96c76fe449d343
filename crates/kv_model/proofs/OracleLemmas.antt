-- Lemmas on what the oracle goes over.
use Rattle.std.proofs.Common.{◌≡◌, ℕ, suc, ◌+◌, ◌<◌, List, [], ◌∷◌, ◌++◌, length, drop}
use Rattle.std.proofs.Common.{get_or}
use Rattle.std.proofs.Common.{drop-cons, sym, ap, ◌∙◌, arith, append_assoc}
use Rattle.kv_base.specs.declared.request.Request.{Request}
use Rattle.kv_base.specs.declared.reply.Reply.{Reply}
use Rattle.kv_model.specs.declared.write.Recorded.{Recorded}
use Rattle.kv_model.specs.History.{Write}
use Rattle.kv_model.specs.Batch.{Start, last_writes, reply_of, behind, answers, accepted_writes}
use Rattle.kv_model.specs.Oracle.{history_of, write_of}

-- the elements from one on are it and those behind it
pub drop-more : {X : Type 0} (xs : List X) (i : ℕ) (x : X) → i < length xs → x ≡ get_or xs i x
    → drop i xs ≡ x ∷ drop (i + 1) xs
drop-more xs i x inside is =
    drop-cons xs i x inside ∙ ap (λ first. first ∷ drop (suc i) xs) (sym is)
    ∙ ap (λ n. x ∷ drop n xs) (next i)
  where
    next : (n : ℕ) → suc n ≡ n + 1
    next n = omega arith

-- one more of the last writes, or none
pub lasts-more : (before now : List Write) (all : List Write) (written : List Recorded) (i : ℕ)
    (write : Recorded) → i < length written → write ≡ get_or written i write
    → now ++ last_writes (history_of (drop (i + 1) written))
    ≡ before ++ last_writes (write_of write ∷ history_of (drop (i + 1) written))
    → before ++ last_writes (history_of (drop i written)) ≡ all
    → now ++ last_writes (history_of (drop (i + 1) written)) ≡ all
lasts-more before now all written i write inside is step so_far =
    step ∙ sym (ap (λ rest. before ++ last_writes (history_of rest))
    (drop-more written i write inside is)) ∙ so_far

-- one more reply
pub answers-more : (start : Start) (before now : List Write) (base i : ℕ) (requests : List Request)
    (request : Request) (replies more : List Reply) (reply : Reply) (all : List Reply)
    → i < length requests → request ≡ get_or requests i request
    → reply ≡ reply_of start before (base + i) request
    → now ≡ behind start before (base + i) request → more ≡ replies ++ reply ∷ []
    → replies ++ answers start before (base + i) (drop i requests) ≡ all
    → more ++ answers start now (base + (i + 1)) (drop (i + 1) requests) ≡ all
answers-more start before now base i requests request replies more reply all inside is answered
    wrote longer so_far =
    let rest : List Request = drop (i + 1) requests in
    let next : base + (i + 1) ≡ base + i + 1 = omega arith in
    ap (λ rs. rs ++ answers start now (base + (i + 1)) rest) longer
    ∙ append_assoc replies (reply ∷ []) (answers start now (base + (i + 1)) rest)
    ∙ ap (λ r. replies ++ r ∷ answers start now (base + (i + 1)) rest) answered
    ∙ ap (λ ws. replies ++ reply_of start before (base + i) request ∷ answers start ws
    (base + (i + 1)) rest) wrote
    ∙ ap (λ n. replies ++ reply_of start before (base + i) request ∷ answers start
    (behind start before (base + i) request) n rest) next
    ∙ sym (ap (λ rs. replies ++ answers start before (base + i) rs)
    (drop-more requests i request inside is)) ∙ so_far

-- one more write, or none
pub accepted-more : (start : Start) (before now : List Write) (base i : ℕ) (requests : List Request)
    (request : Request) (all : List Write) → i < length requests
    → request ≡ get_or requests i request → now ≡ behind start before (base + i) request
    → accepted_writes start before (base + i) (drop i requests) ≡ all
    → accepted_writes start now (base + (i + 1)) (drop (i + 1) requests) ≡ all
accepted-more start before now base i requests request all inside is wrote so_far =
    let rest : List Request = drop (i + 1) requests in
    let next : base + (i + 1) ≡ base + i + 1 = omega arith in
    ap (λ ws. accepted_writes start ws (base + (i + 1)) rest) wrote
    ∙ ap (λ n. accepted_writes start (behind start before (base + i) request) n rest) next
    ∙ sym (ap (λ rs. accepted_writes start before (base + i) rs)
    (drop-more requests i request inside is)) ∙ so_far
