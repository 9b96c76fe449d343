-- Lemmas on what kinds of replies a batch is given.
use Rattle.std.proofs.Common.{◌≡◌, ◌≢◌, ℕ, ◌+◌, List, [], ◌∷◌, map, Option, Some, None, Bool, true}
use Rattle.std.proofs.Common.{false, ◌||◌, refl, sym, ap, ◌∙◌, true≢false, ◌⊎◌, inl, inr}
use Rattle.std.specs.List.{AllByRecursion, cons_option}
use Rattle.std.proofs.lemmas.Bool.{or_parts, or_left, or_right, or_cases, cases_Bool}
use Rattle.kv_base.specs.declared.reply.Reply.{Reply}
use Rattle.kv_base.specs.declared.reply.Reply.TheVariants.{Found}
use Rattle.kv_base.specs.declared.reply.Reply.TheVariants.{Full}
use Rattle.kv_base.specs.declared.reply.Reply.TheVariants.{DiskFault, Unsure, Closed, StampsSpent}
use Rattle.kv_base.specs.declared.request.Request.{Request}
use Rattle.kv_base.specs.declared.request.Request.TheVariants.{Put, Get, Delete, Flush, After}
use Rattle.kv_model.specs.Agreement.{told_of}
use Rattle.kv_model.specs.Batch.{Start, answers, reply_of, put_reply, get_reply}
use Rattle.kv_model.specs.Batch.{delete_reply, behind, failed_reply, failed_replies, full_class}
use Rattle.kv_model.specs.Batch.{value_after, accepted_writes, net}
use Rattle.kv_model.specs.BatchLaws.{pairs_of}
use Rattle.kv_model.specs.History.{Write}
use Rattle.kv_model.specs.Pairs.{Pair, unsure_by, unsure_writes}
use Rattle.kv_parties.specs.Causes.{is_unsure, is_fault, any_unsure, any_fault}
use Rattle.kv_worker_party.proofs.ListLemmas.{heads, tails, none-here}
use Rattle.kv_worker_party.proofs.StampedLemmas.{same-told}

-- whether the reply comes from a store that is open and meets no fault
abbrev pub is_calm : Reply → Bool
is_calm DiskFault = false
is_calm (Unsure stamp) = false
is_calm Closed = false
is_calm (StampsSpent number) = false
is_calm reply = true

-- whether the reply comes from a store that is open, and has stamps
abbrev pub is_served : Reply → Bool
is_served Closed = false
is_served (StampsSpent number) = false
is_served reply = true

abbrev pub IsCalm : Reply → Type 0
IsCalm reply = is_calm reply ≡ true

abbrev pub IsServed : Reply → Type 0
IsServed reply = is_served reply ≡ true

calm-told : (told : Bool) (reply : Reply) → is_calm (told_of told reply) ≡ is_calm reply
calm-told told (Found stamp value) = refl
calm-told told reply = refl

pub calm-no_fault : (reply : Reply) → IsCalm reply → is_fault reply ≡ false
calm-no_fault DiskFault calm = absurd (true≢false (sym calm))
calm-no_fault (Unsure stamp) calm = absurd (true≢false (sym calm))
calm-no_fault reply calm = refl

pub calm-sure : (reply : Reply) → IsCalm reply → is_unsure reply ≡ false
calm-sure (Unsure stamp) calm = absurd (true≢false (sym calm))
calm-sure reply calm = refl

pub calm-served : (reply : Reply) → IsCalm reply → IsServed reply
calm-served Closed calm = absurd (true≢false (sym calm))
calm-served (StampsSpent number) calm = absurd (true≢false (sym calm))
calm-served reply calm = refl

pub served-open : (reply : Reply) → IsServed reply → reply ≢ Closed
served-open reply served e = true≢false (sym served ∙ ap is_served e)

pub served-stamped : (reply : Reply) → IsServed reply → (number : ℕ) → reply ≡ StampsSpent number
    → ⊥
served-stamped reply served number e = true≢false (sym served ∙ ap is_served e)

-- the plain map's answers are calm
pub calm-answers : (requests : List Request) (start : Start) (writes : List Write) (stamp : ℕ)
    → AllByRecursion IsCalm (answers start writes stamp requests)
calm-answers [] start writes stamp = tt
calm-answers (request ∷ requests) start writes stamp = (
  calm-answer request start writes stamp,
  calm-answers requests start (behind start writes stamp request) (stamp + 1),
) where
  calm-answer : (request : Request) (start : Start) (writes : List Write) (stamp : ℕ)
      → IsCalm (reply_of start writes stamp request)
  calm-answer (Put key value) start writes stamp = by (full_class start writes key value)
    where
      by : (full : Option ℕ) → IsCalm (put_reply stamp full)
      by None = refl
      by (Some class) = refl
  calm-answer (Get key) start writes stamp = by (value_after start writes key)
    where
      by : (value : Option (List ℕ)) → IsCalm (get_reply stamp value)
      by None = refl
      by (Some value) = refl
  calm-answer (Delete key) start writes stamp = by (value_after start writes key)
    where
      by : (value : Option (List ℕ)) → IsCalm (delete_reply stamp value)
      by None = refl
      by (Some value) = refl
  calm-answer Flush start writes stamp = refl
  calm-answer (After told) start writes stamp = refl

same-calm : (replies others : List Reply) → map is_calm replies ≡ map is_calm others
    → AllByRecursion IsCalm others → AllByRecursion IsCalm replies
same-calm [] others e all = tt
same-calm (reply ∷ replies) [] e all =
    absurd (none-here (is_calm reply) (map is_calm replies) e)
same-calm (reply ∷ replies) (other ∷ others) e all = (
  heads (is_calm reply) (is_calm other) (map is_calm replies) (map is_calm others) e ∙ all.0,
  same-calm replies others (tails (is_calm reply) (is_calm other) (map is_calm replies)
      (map is_calm others) e) all.1,
)

-- and so are replies of which the same is told
pub calm-replies : (told : Bool) (replies : List Reply) (requests : List Request) (start : Start)
    (stamp : ℕ) → map (told_of told) replies ≡ map (told_of told) (answers start [] stamp requests)
    → AllByRecursion IsCalm replies
calm-replies told replies requests start stamp e = same-calm replies (answers start [] stamp
    requests) (same-told is_calm told (calm-told told) replies (answers start [] stamp requests) e)
    (calm-answers requests start [] stamp)

served-failed : (request : Request) (stamp : ℕ) (reply : Reply) → IsServed reply
    → IsServed (failed_reply request stamp reply)
served-failed (Put key value) stamp (Full class) served = refl
served-failed (Put key value) stamp reply served = refl
served-failed (Get key) stamp reply served = refl
served-failed (Delete key) stamp reply served = refl
served-failed Flush stamp reply served = served
served-failed (After told) stamp reply served = served

-- where a write failed the store was open, and had stamps
pub served-replies : (requests : List Request) (stamp : ℕ) (replies : List Reply)
    → AllByRecursion IsCalm replies
    → AllByRecursion IsServed (failed_replies stamp requests replies)
served-replies [] stamp replies all = tt
served-replies (request ∷ requests) stamp [] all = tt
served-replies (request ∷ requests) stamp (reply ∷ replies) all = (
  served-failed request stamp reply (calm-served reply all.0),
  served-replies requests (stamp + 1) replies all.1,
)

-- whether a reply passes the test
abbrev pub any_reply : (Reply → Bool) → List Pair → Bool
any_reply test [] = false
any_reply test (pair ∷ pairs) = test pair.reply || any_reply test pairs

-- what the replies have, the pairs have
pub pairs-all : (P : Reply → Type 0) (requests : List Request) (replies : List Reply)
    → AllByRecursion P replies → AllByRecursion (λ pair. P pair.reply) (pairs_of requests replies)
pairs-all P [] replies all = tt
pairs-all P (request ∷ requests) [] all = tt
pairs-all P (request ∷ requests) (reply ∷ replies) all =
    (all.0, pairs-all P requests replies all.1)

-- a test that no reply passes
pub any-none : (test : Reply → Bool) (pairs : List Pair)
    → AllByRecursion (λ pair. test pair.reply ≡ false) pairs → any_reply test pairs ≡ false
any-none test [] all = refl
any-none test (pair ∷ pairs) all =
    ap (λ b. b || any_reply test pairs) all.0 ∙ any-none test pairs all.1

pub any_unsure-is : (pairs : List Pair) → any_unsure pairs ≡ any_reply is_unsure pairs
any_unsure-is [] = refl
any_unsure-is (pair ∷ pairs) = ap (λ b. is_unsure pair.reply || b) (any_unsure-is pairs)

pub any_fault-is : (pairs : List Pair) → any_fault pairs ≡ any_reply is_fault pairs
any_fault-is [] = refl
any_fault-is (pair ∷ pairs) = ap (λ b. is_fault pair.reply || b) (any_fault-is pairs)

sure-writes_none : (request : Request) (reply : Reply) → is_unsure reply ≡ false
    → unsure_by request reply ≡ None
sure-writes_none request (Unsure stamp) sure = absurd (true≢false sure)
sure-writes_none request reply sure = refl

-- where no reply is unsure, no write is
pub sure-none : (pairs : List Pair) → any_reply is_unsure pairs ≡ false → unsure_writes pairs ≡ []
sure-none [] sure = refl
sure-none (pair ∷ pairs) sure =
    let parts = or_parts (is_unsure pair.reply) (any_reply is_unsure pairs) sure in
    ap (λ o. cons_option o (unsure_writes pairs)) (sure-writes_none pair.request pair.reply parts.0)
    ∙ sure-none pairs parts.1

unsure-faulty : (reply : Reply) → is_unsure reply ≡ true → is_fault reply ≡ true
unsure-faulty (Unsure stamp) e = refl
unsure-faulty reply e = absurd (true≢false (sym e))

-- an unsure reply tells of a fault
pub unsure-fault : (pairs : List Pair) → any_reply is_unsure pairs ≡ true
    → any_reply is_fault pairs ≡ true
unsure-fault [] e = absurd (true≢false (sym e))
unsure-fault (pair ∷ pairs) e = by (or_cases (is_unsure pair.reply) (any_reply is_unsure pairs) e)
    (unsure-fault pairs)
  where
    by : (is_unsure pair.reply ≡ true) ⊎ (any_reply is_unsure pairs ≡ true)
        → (any_reply is_unsure pairs ≡ true → any_reply is_fault pairs ≡ true)
        → (is_fault pair.reply || any_reply is_fault pairs) ≡ true
    by (inl here) rest = or_left (is_fault pair.reply) (any_reply is_fault pairs) (unsure-faulty
        pair.reply here)
    by (inr later) rest = or_right (is_fault pair.reply) (any_reply is_fault pairs) (rest later)

-- where a write failed that there was to make, a reply is unsure
pub failed-unsure : (start : Start) (base : ℕ) (requests : List Request) (pairs : List Pair)
    → net start (accepted_writes start [] base requests) ≢ []
    → unsure_writes pairs ≡ accepted_writes start [] base requests
    → any_reply is_unsure pairs ≡ true
failed-unsure start base requests pairs some unsure = by (cases_Bool (any_reply is_unsure pairs))
  where
    by : (any_reply is_unsure pairs ≡ true) ⊎ (any_reply is_unsure pairs ≡ false)
        → any_reply is_unsure pairs ≡ true
    by (inl one) = one
    by (inr sure) = absurd (some (ap (net start) (sym unsure ∙ sure-none pairs sure)))
