-- The replies of a step whose write failed.
use Rattle.std.proofs.Common.{◌≡◌, Bool, map, ℕ, suc, ◌+◌, ◌<◌, ◌≤◌, List, [], ◌∷◌, ◌++◌, refl, ap, sym, ◌∙◌, subst}
use Rattle.std.proofs.Common.{arith, length, take, drop, get_or, set, drop-cons, add-one, take_all}
use Rattle.std.proofs.Common.{IsSome, true≢false}
use Rattle.std.specs.List.{AllByRecursion}
use Rattle.std.proofs.lemmas.List.{take_more, take_more_set, drop-set-lt, length-take-le}
use Rattle.kv_base.specs.declared.request.Request.{Request}
use Rattle.kv_base.specs.declared.request.Request.TheVariants.{Put, Get, Delete, Flush, After}
use Rattle.kv_base.specs.declared.reply.Reply.{Reply}
use Rattle.kv_base.specs.declared.reply.Reply.TheVariants.{Found}
use Rattle.kv_model.specs.Agreement.{told_of}
use Rattle.kv_model.specs.Batch.{failed_reply, failed_replies}
use Rattle.kv_model.specs.Pairs.{key_of}

failed-append : (requests more : List Request) (replies others : List Reply) (stamp : ℕ)
    → length requests ≡ length replies → failed_replies stamp (requests ++ more) (replies ++ others)
    ≡ failed_replies stamp requests replies ++ failed_replies (stamp + length requests) more others
failed-append [] more [] others stamp same =
    let e : stamp ≡ stamp + 0 = omega arith in ap (λ s. failed_replies s more others) e
failed-append [] more (reply ∷ replies) others stamp same = absurd (omega arith)
failed-append (request ∷ requests) more [] others stamp same = absurd (omega arith)
failed-append (request ∷ requests) more (reply ∷ replies) others stamp same =
    let e : stamp + 1 + length requests ≡ stamp + length (request ∷ requests) = omega arith in
    ap (λ rest. failed_reply request stamp reply ∷ rest)
    (failed-append requests more replies others (stamp + 1) (omega arith)
    ∙ ap (λ s. failed_replies (stamp + 1) requests replies ++ failed_replies s more others) e)

-- the replies so far are changed, and the others aren't
pub record IsFailing (base : ℕ) (requests : List Request) (old now : List Reply) (i : ℕ) : Type 0
  where
    pub long : length now ≡ length requests
    pub done : take i now ≡ failed_replies base (take i requests) (take i old)
    pub rest : drop i now ≡ drop i old

head : (a b : Reply) (xs ys : List Reply) → a ∷ xs ≡ b ∷ ys → a ≡ b
head a b xs ys e = cc

tail : (a b : Reply) (xs ys : List Reply) → a ∷ xs ≡ b ∷ ys → xs ≡ ys
tail a b xs ys e = cc

pub fail-more : (base : ℕ) (requests : List Request) (old now next : List Reply) (i : ℕ)
    (request : Request) (reply changed : Reply) → i < length requests
    → length old ≡ length requests → request ≡ get_or requests i request
    → reply ≡ get_or now i reply → changed ≡ failed_reply request (base + i) reply
    → IsFailing base requests old now i → next ≡ set now i changed → length next ≡ length now
    → IsFailing base requests old next (i + 1)
fail-more base requests old now next i request reply changed within same is was how failing sets long =
    let inside : i < length now = omega (arith, failing.long) in
    let inside_old : i < length old = omega (arith, same) in
    let parts : get_or now i reply ∷ drop (suc i) now ≡ get_or old i reply ∷ drop (suc i) old =
    sym (drop-cons now i reply inside) ∙ failing.rest ∙ drop-cons old i reply inside_old in
    let kept : reply ≡ get_or old i reply = was ∙ head (get_or now i reply) (get_or old i reply)
    (drop (suc i) now) (drop (suc i) old) parts in
    let left : drop (i + 1) now ≡ drop (i + 1) old =
    ap (λ n. drop n now) (add-one i) ∙ tail (get_or now i reply) (get_or old i reply)
    (drop (suc i) now) (drop (suc i) old) parts ∙ ap (λ n. drop n old) (sym (add-one i)) in
    let short : length (take i requests) ≡ i = length-take-le i requests (omega arith) in
    let short_old : length (take i old) ≡ i = length-take-le i old (omega arith) in
    record {
      long = long ∙ failing.long;
      done = ap (take (i + 1)) sets ∙ take_more_set now i changed inside
          ∙ ap (λ l. l ++ changed ∷ []) failing.done
          ∙ ap (λ c. failed_replies base (take i requests) (take i old) ++ c ∷ []) how
          ∙ ap (λ n. failed_replies base (take i requests) (take i old) ++ failed_reply request
          (base + n) reply ∷ []) (sym short)
          ∙ sym (failed-append (take i requests) (request ∷ []) (take i old) (reply ∷ []) base
          (short ∙ sym short_old))
          ∙ ap (λ l. failed_replies base l (take i old ++ reply ∷ [])) (sym (take_more requests i
          request within ∙ ap (λ r. take i requests ++ r ∷ []) (sym is)))
          ∙ ap (failed_replies base (take (i + 1) requests)) (sym (take_more old i reply inside_old
          ∙ ap (λ r. take i old ++ r ∷ []) (sym kept)));
      rest = ap (drop (i + 1)) sets ∙ drop-set-lt (i + 1) now i changed (omega arith) ∙ left;
    }

pub fail-end : (base : ℕ) (requests : List Request) (old now : List Reply) (i : ℕ)
    → length old ≡ length requests → length requests ≤ i → IsFailing base requests old now i
    → now ≡ failed_replies base requests old
fail-end base requests old now i same end failing =
    sym (take_all i now (omega (arith, failing.long))) ∙ failing.done
    ∙ ap (λ l. failed_replies base l (take i old)) (take_all i requests end)
    ∙ ap (failed_replies base requests) (take_all i old (omega (arith, same)))

told-fails : (told : Bool) (request : Request) (stamp : ℕ) (reply : Reply) → IsSome (key_of request)
    → failed_reply request stamp (told_of told reply) ≡ failed_reply request stamp reply
told-fails told (Put key value) stamp (Found other bytes) keyed = refl
told-fails told (Get key) stamp (Found other bytes) keyed = refl
told-fails told (Delete key) stamp (Found other bytes) keyed = refl
told-fails told Flush stamp reply keyed = absurd (true≢false (sym keyed))
told-fails told (After seen) stamp reply keyed = absurd (true≢false (sym keyed))
told-fails told request stamp reply keyed = refl

all-told-fail : (told : Bool) (requests : List Request) (replies : List Reply) (stamp : ℕ)
    → AllByRecursion (λ request. IsSome (key_of request)) requests
    → failed_replies stamp requests (map (told_of told) replies) ≡ failed_replies stamp requests
    replies
all-told-fail told [] replies stamp keyed = refl
all-told-fail told (request ∷ requests) [] stamp keyed = refl
all-told-fail told (request ∷ requests) (reply ∷ replies) stamp keyed =
    ap (λ r. r ∷ failed_replies (stamp + 1) requests (map (told_of told) replies))
    (told-fails told request stamp reply keyed.0)
    ∙ ap (λ rest. failed_reply request stamp reply ∷ rest)
    (all-told-fail told requests replies (stamp + 1) keyed.1)

-- where the same is told, the same fails
pub same-fail : (told : Bool) (requests : List Request) (replies answers : List Reply) (stamp : ℕ)
    → AllByRecursion (λ request. IsSome (key_of request)) requests
    → map (told_of told) replies ≡ map (told_of told) answers
    → failed_replies stamp requests replies ≡ failed_replies stamp requests answers
same-fail told requests replies answers stamp keyed same =
    sym (all-told-fail told requests replies stamp keyed)
    ∙ ap (failed_replies stamp requests) same
    ∙ all-told-fail told requests answers stamp keyed
