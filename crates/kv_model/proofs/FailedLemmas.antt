-- Lemmas on the replies to a batch of which a write failed.
use Rattle.std.proofs.Common.{◌≡◌, ℕ, ◌+◌, Bool, cond, List, [], ◌∷◌, ◌++◌, Option, None, Some}
use Rattle.std.proofs.Common.{refl, ap, sym, ◌∙◌, subst, append_assoc, append-nil, option_to_list}
use Rattle.std.proofs.Common.{length, is_some, MatchOption, IsSome, true≢false}
use Rattle.std.specs.List.{AllByRecursion, cons_option}
use Rattle.kv_base.specs.declared.request.Request.{Request}
use Rattle.kv_base.specs.declared.request.Request.TheVariants.{Put, Get, Delete, Flush, After}
use Rattle.kv_base.specs.declared.reply.Reply.{Reply}
use Rattle.kv_base.specs.declared.reply.Reply.TheVariants.{Stored, Full}
use Rattle.kv_model.specs.History.{Write}
use Rattle.kv_model.specs.Layout.{Layout, class_of}
use Rattle.kv_model.specs.Pairs.{written, key_of, acknowledged_by, unsure_by, stamp_of, writes}
use Rattle.kv_model.specs.Pairs.{unsure_writes}
use Rattle.kv_model.specs.Agreement.{IsAnswer, IsMapAnswer}
use Rattle.kv_model.specs.Batch.{Start, IsTask, value_after, is_full, full_class, accepted, behind}
use Rattle.kv_model.specs.Batch.{accepted_writes, answers, reply_of, put_reply, get_reply}
use Rattle.kv_model.specs.Batch.{delete_reply, failed_reply, failed_replies}
use Rattle.kv_model.specs.BatchLaws.{AreStamped, pairs_of}
use Rattle.kv_model.proofs.AnswersLemmas.{HasStamp, cons-is}
use Rattle.kv_model.proofs.AgreementLemmas.{full-is}

HasStamp-failed : (request : Request) (reply : Reply) (stamp : ℕ) → HasStamp stamp (stamp_of reply)
    → HasStamp stamp (stamp_of (failed_reply request stamp reply))
HasStamp-failed (Put key value) (Full class) stamp has = tt
HasStamp-failed (Put key value) reply stamp has = refl
HasStamp-failed (Get key) reply stamp has = tt
HasStamp-failed (Delete key) reply stamp has = refl
HasStamp-failed Flush reply stamp has = has
HasStamp-failed (After told) reply stamp has = has

-- each reply carries no other stamp than its request's
pub AreStamped-failed : (requests : List Request) (replies : List Reply) (stamp : ℕ)
    → AreStamped stamp replies → AreStamped stamp (failed_replies stamp requests replies)
AreStamped-failed [] replies stamp are = tt
AreStamped-failed (request ∷ requests) [] stamp are = tt
AreStamped-failed (request ∷ requests) (reply ∷ replies) stamp are = (
  HasStamp-failed request reply stamp are.0,
  AreStamped-failed requests replies (stamp + 1) are.1,
)

flush-writes : (reply : Reply) → acknowledged_by Flush reply ≡ None
flush-writes (Stored stamp) = refl
flush-writes reply = refl

after-writes : (told : ℕ) (reply : Reply) → acknowledged_by (After told) reply ≡ None
after-writes told (Stored stamp) = refl
after-writes told reply = refl

acknowledges-none : (request : Request) (reply : Reply) (stamp : ℕ)
    → acknowledged_by request (failed_reply request stamp reply) ≡ None
acknowledges-none (Put key value) (Full class) stamp = refl
acknowledges-none (Put key value) reply stamp = refl
acknowledges-none (Get key) reply stamp = refl
acknowledges-none (Delete key) reply stamp = refl
acknowledges-none Flush reply stamp = flush-writes reply
acknowledges-none (After told) reply stamp = after-writes told reply

-- the replies acknowledge nothing
pub writes-failed : (requests : List Request) (replies : List Reply) (stamp : ℕ)
    → writes (pairs_of requests (failed_replies stamp requests replies)) ≡ []
writes-failed [] replies stamp = refl
writes-failed (request ∷ requests) [] stamp = refl
writes-failed (request ∷ requests) (reply ∷ replies) stamp =
    ap (λ o. cons_option o (writes (pairs_of requests (failed_replies (stamp + 1) requests
    replies)))) (acknowledges-none request reply stamp)
    ∙ writes-failed requests replies (stamp + 1)

unsure-is-accepted : (request : Request) (start : Start) (before : List Write) (stamp : ℕ)
    → unsure_by request (failed_reply request stamp (reply_of start before stamp request))
    ≡ accepted start before stamp request
unsure-is-accepted (Put key value) start before stamp = by (full_class start before key value)
  where
    by : (full : Option ℕ) → unsure_by (Put key value) (failed_reply (Put key value) stamp
        (put_reply stamp full)) ≡ cond (is_some full) None (written (Put key value) stamp)
    by None = refl
    by (Some class) = refl
unsure-is-accepted (Get key) start before stamp = refl
unsure-is-accepted (Delete key) start before stamp = refl
unsure-is-accepted Flush start before stamp = refl
unsure-is-accepted (After told) start before stamp = refl

-- they leave all accepted writes unsure
pub unsure-failed : (requests : List Request) (start : Start) (before : List Write) (stamp : ℕ)
    → before ++ unsure_writes (pairs_of requests (failed_replies stamp requests
    (answers start before stamp requests))) ≡ accepted_writes start before stamp requests
unsure-failed [] start before stamp = append-nil before
unsure-failed (request ∷ requests) start before stamp =
    ap (λ o. before ++ cons_option o rest) (unsure-is-accepted request start before stamp)
    ∙ ap (λ more. before ++ more) (cons-is (accepted start before stamp request) rest)
    ∙ sym (append_assoc before (option_to_list (accepted start before stamp request)) rest)
    ∙ unsure-failed requests start (behind start before stamp request) (stamp + 1)
  where
    rest : List Write
    rest = unsure_writes (pairs_of requests (failed_replies (stamp + 1) requests
        (answers start (behind start before stamp request) (stamp + 1) requests)))

answer-is-sure : (request : Request) (start : Start) (before : List Write) (stamp : ℕ)
    → unsure_by request (reply_of start before stamp request) ≡ None
answer-is-sure (Put key value) start before stamp = by (full_class start before key value)
  where
    by : (full : Option ℕ) → unsure_by (Put key value) (put_reply stamp full) ≡ None
    by None = refl
    by (Some class) = refl
answer-is-sure (Get key) start before stamp = by (value_after start before key)
  where
    by : (value : Option (List ℕ)) → unsure_by (Get key) (get_reply stamp value) ≡ None
    by None = refl
    by (Some value) = refl
answer-is-sure (Delete key) start before stamp = by (value_after start before key)
  where
    by : (value : Option (List ℕ)) → unsure_by (Delete key) (delete_reply stamp value) ≡ None
    by None = refl
    by (Some value) = refl
answer-is-sure Flush start before stamp = refl
answer-is-sure (After told) start before stamp = refl

-- the answers themselves leave none unsure
pub unsure-answers : (requests : List Request) (start : Start) (before : List Write) (stamp : ℕ)
    → unsure_writes (pairs_of requests (answers start before stamp requests)) ≡ []
unsure-answers [] start before stamp = refl
unsure-answers (request ∷ requests) start before stamp =
    ap (λ o. cons_option o (unsure_writes (pairs_of requests (answers start
    (behind start before stamp request) (stamp + 1) requests))))
    (answer-is-sure request start before stamp)
    ∙ unsure-answers requests start (behind start before stamp request) (stamp + 1)

failed-head : (request : Request) (told : Bool) (layout : Layout) (start : Start)
    (before history : List Write) (stamp : ℕ) → start.layout ≡ layout → IsSome (key_of request)
    → IsMapAnswer told layout history request (failed_reply request stamp
    (reply_of start before stamp request))
failed-head (Put key value) told layout start before history stamp same keyed =
    by (full_class start before key value) refl
  where
    by : (full : Option ℕ) → full_class start before key value ≡ full
        → IsMapAnswer told layout history (Put key value) (failed_reply (Put key value) stamp
        (put_reply stamp full))
    by None e = tt
    by (Some class) e = subst (λ l. class_of l (length key) (length value) ≡ Some class) same
        (full-is (class_of start.layout (length key) (length value)) (is_full start before key)
        class e)
failed-head (Get key) told layout start before history stamp same keyed = tt
failed-head (Delete key) told layout start before history stamp same keyed = tt
failed-head Flush told layout start before history stamp same keyed =
    absurd (true≢false (sym keyed))
failed-head (After seen) told layout start before history stamp same keyed =
    absurd (true≢false (sym keyed))

-- each is one that the map may give, whatever its history is
pub failed-agree : (requests : List Request) (told : Bool) (layout : Layout) (start : Start)
    (before history : List Write) (stamp : ℕ) → start.layout ≡ layout
    → AllByRecursion (IsTask layout) requests
    → AllByRecursion (λ pair. IsAnswer told layout history pair.request pair.reply)
    (pairs_of requests (failed_replies stamp requests (answers start before stamp requests)))
failed-agree [] told layout start before history stamp same good = tt
failed-agree (request ∷ requests) told layout start before history stamp same good =
    let reply : Reply = failed_reply request stamp (reply_of start before stamp request) in (
      subst (λ o. MatchOption o (IsMapAnswer told layout history request reply)
          (λ refusal. reply ≡ refusal)) (sym good.0.good)
          (failed-head request told layout start before history stamp same good.0.keyed),
      failed-agree requests told layout start (behind start before stamp request) history
          (stamp + 1) same good.1,
    )
