-- Replies of which the same is told agree with the same map.
use Rattle.std.proofs.Common.{◌≡◌, ◌≢◌, ℕ, ◌<◌, ◌^◌, Bool, true, false, cond, List, [], ◌∷◌, ◌++◌}
use Rattle.std.proofs.Common.{map}
use Rattle.std.proofs.Common.{Option, None, Some, refl, ap, sym, ◌∙◌, subst, MatchOption, IsTrue}
use Rattle.std.proofs.Common.{true≢false, filter_map}
use Rattle.std.specs.List.{AllByRecursion, cons_option}
use Rattle.std.proofs.lemmas.List.Elements.{filter_map-append}
use Rattle.kv_base.specs.declared.request.Request.{Request}
use Rattle.kv_base.specs.declared.request.Request.TheVariants.{Put, Get, Delete, Flush, After}
use Rattle.kv_base.specs.declared.reply.Reply.{Reply}
use Rattle.kv_base.specs.declared.reply.Reply.TheVariants.{Found}
use Rattle.kv_model.specs.Pairwise.{Pairwise}
use Rattle.kv_model.specs.History.{Write, value_at}
use Rattle.kv_model.specs.Layout.{Layout}
use Rattle.kv_model.specs.Pairs.{Pair, acknowledged, acknowledged_by, stamp_of, stamps, writes}
use Rattle.kv_model.specs.Agreement.{AgreesWithMap, IsAnswer, IsMapAnswer, IsRead, refusal_of}
use Rattle.kv_model.specs.Agreement.{told_of}
use Rattle.kv_model.specs.Batch.{IsTask}
use Rattle.kv_model.specs.BatchLaws.{pairs_of}
use Rattle.kv_model.proofs.PairwiseLemmas.{All-append, All-front, All-rest}

stamp-told : (told : Bool) (reply : Reply) → stamp_of (told_of told reply) ≡ stamp_of reply
stamp-told told (Found stamp value) = refl
stamp-told told reply = refl

acknowledged-told : (told : Bool) (request : Request) (reply : Reply)
    → acknowledged_by request (told_of told reply) ≡ acknowledged_by request reply
acknowledged-told told request (Found stamp value) = refl
acknowledged-told told request reply = refl

read-told : (told : Bool) (kept : Option (List ℕ)) (value other : List ℕ) → (IsTrue told
    → value ≡ other) → IsRead told kept value → IsRead told kept other
read-told told None value other same read = read
read-told told (Some kept) value other same read = λ e. sym (same e) ∙ read e

of-told : (told : Bool) (value : List ℕ) → IsTrue told → value ≡ cond told value []
of-told true value e = refl
of-told false value e = absurd (true≢false (sym e))

found : (request : Request) (stamp : ℕ) (value other : List ℕ) (told : Bool) (layout : Layout)
    (history : List Write) → (IsTrue told → value ≡ other)
    → IsMapAnswer told layout history request (Found stamp value)
    → IsMapAnswer told layout history request (Found stamp other)
found (Put key written) stamp value other told layout history same answer = answer
found (Get key) stamp value other told layout history same answer =
    read-told told (value_at history stamp key) value other same answer
found (Delete key) stamp value other told layout history same answer = answer
found Flush stamp value other told layout history same answer = absurd answer
found (After seen) stamp value other told layout history same answer = absurd answer

into : (request : Request) (reply : Reply) (told : Bool) (layout : Layout) (history : List Write)
    → IsMapAnswer told layout history request reply
    → IsMapAnswer told layout history request (told_of told reply)
into request (Found stamp value) told layout history answer =
    found request stamp value (cond told value []) told layout history (of-told told value) answer
into request reply told layout history answer = answer

back : (request : Request) (reply : Reply) (told : Bool) (layout : Layout) (history : List Write)
    → IsMapAnswer told layout history request (told_of told reply)
    → IsMapAnswer told layout history request reply
back request (Found stamp value) told layout history answer =
    found request stamp (cond told value []) value told layout history
    (λ e. sym (of-told told value e)) answer
back request reply told layout history answer = answer

same-answer : (request : Request) (reply other : Reply) (told : Bool) (layout : Layout)
    (history : List Write) → told_of told reply ≡ told_of told other
    → IsMapAnswer told layout history request other → IsMapAnswer told layout history request reply
same-answer request reply other told layout history same answer =
    back request reply told layout history
    (subst (IsMapAnswer told layout history request) (sym same)
    (into request other told layout history answer))

first : (a b : Reply) (xs ys : List Reply) → a ∷ xs ≡ b ∷ ys → a ≡ b
first a b xs ys e = cc

others : (a b : Reply) (xs ys : List Reply) → a ∷ xs ≡ b ∷ ys → xs ≡ ys
others a b xs ys e = cc

none : {X : Type 0} (b : Reply) (ys : List Reply) → [] ≡ b ∷ ys → X
none b ys e = cc

-- a function of what is told gives the same of both lists
same-map : {Y : Type 0} (f : Pair → Option Y) (told : Bool) → ((request : Request) (reply : Reply)
    → f (record { request = request; reply = told_of told reply }) ≡ f (record {
      request = request;
      reply = reply;
    })) → (requests : List Request) (replies answers : List Reply)
    → map (told_of told) replies ≡ map (told_of told) answers
    → filter_map f (pairs_of requests replies)
    ≡ filter_map f (pairs_of requests answers)
same-map f told each [] replies answers same = refl
same-map f told each (request ∷ requests) [] [] same = refl
same-map f told each (request ∷ requests) [] (answer ∷ answers) same =
    none (told_of told answer) (map (told_of told) answers) same
same-map f told each (request ∷ requests) (reply ∷ replies) [] same =
    none (told_of told reply) (map (told_of told) replies) (sym same)
same-map f told each (request ∷ requests) (reply ∷ replies) (answer ∷ answers) same =
    ap (λ o. cons_option o (filter_map f (pairs_of requests replies)))
    (sym (each request reply) ∙ ap (λ r. f (record { request = request; reply = r }))
    (first (told_of told reply) (told_of told answer) (map (told_of told) replies)
    (map (told_of told) answers) same) ∙ each request answer)
    ∙ ap (cons_option (f (record { request = request; reply = answer })))
    (same-map f told each requests replies answers (others (told_of told reply)
    (told_of told answer) (map (told_of told) replies) (map (told_of told) answers) same))

same-sized : (refusal : Option Reply) (request : Request) (reply other : Reply) (told : Bool)
    (layout : Layout) (history : List Write) → refusal ≡ None
    → told_of told reply ≡ told_of told other
    → MatchOption refusal (IsMapAnswer told layout history request other) (λ r. other ≡ r)
    → MatchOption refusal (IsMapAnswer told layout history request reply) (λ r. reply ≡ r)
same-sized None request reply other told layout history good same answer =
    same-answer request reply other told layout history same answer
same-sized (Some refusal) request reply other told layout history good same answer =
    absurd (some refusal good)
  where
    some : (r : Reply) → Some r ≡ None → ⊥
    some r e = cc

same-answers : (requests : List Request) (replies answers : List Reply) (told : Bool)
    (layout : Layout) (history : List Write) → map (told_of told) replies
    ≡ map (told_of told) answers
    → AllByRecursion (IsTask layout) requests
    → AllByRecursion (λ pair. IsAnswer told layout history pair.request pair.reply)
    (pairs_of requests answers)
    → AllByRecursion (λ pair. IsAnswer told layout history pair.request pair.reply)
    (pairs_of requests replies)
same-answers [] replies answers told layout history same good all = tt
same-answers (request ∷ requests) [] answers told layout history same good all = tt
same-answers (request ∷ requests) (reply ∷ replies) [] told layout history same good all =
    none (told_of told reply) (map (told_of told) replies) (sym same)
same-answers (request ∷ requests) (reply ∷ replies) (answer ∷ answers) told layout history same good
    all = (
      same-sized (refusal_of layout request) request reply answer told layout history good.0.good
          (first (told_of told reply) (told_of told answer) (map (told_of told) replies)
          (map (told_of told) answers) same) all.0,
      same-answers requests replies answers told layout history (others (told_of told reply)
          (told_of told answer) (map (told_of told) replies) (map (told_of told) answers) same)
          good.1
          all.1,
    )

-- pairs with the same stamps and writes, whose replies are the map's where the others' are, agree
-- with it as they do
pub agrees-as : (told : Bool) (layout : Layout) (before : List Write) (floor : ℕ)
    (pairs old new : List Pair) → stamps old ≡ stamps new → writes old ≡ writes new
    → ((history : List Write)
    → AllByRecursion (λ pair. IsAnswer told layout history pair.request pair.reply) old
    → AllByRecursion (λ pair. IsAnswer told layout history pair.request pair.reply) new)
    → AgreesWithMap told layout before floor (pairs ++ old)
    → AgreesWithMap told layout before floor (pairs ++ new)
agrees-as told layout before floor pairs old new stamped wrote answered agrees =
    let s : stamps (pairs ++ old) ≡ stamps (pairs ++ new) =
    filter_map-append (λ pair. stamp_of pair.reply) pairs old
    ∙ ap (λ l. stamps pairs ++ l) stamped
    ∙ sym (filter_map-append (λ pair. stamp_of pair.reply) pairs new) in
    let w : writes (pairs ++ old) ≡ writes (pairs ++ new) =
    filter_map-append acknowledged pairs old
    ∙ ap (λ l. writes pairs ++ l) wrote
    ∙ sym (filter_map-append acknowledged pairs new) in
    let P : List Write → Pair → Type 0 = λ all pair. IsAnswer told layout (before ++ all)
    pair.request pair.reply in
    record {
      distinct = subst (Pairwise (λ stamp other. stamp ≢ other)) s agrees.distinct;
      above = subst (AllByRecursion (λ stamp. (floor < stamp) × (stamp < 2 ^ 62))) s agrees.above;
      fresh = subst (AllByRecursion (λ stamp. AllByRecursion (λ write. write.stamp < stamp) before))
          s agrees.fresh;
      replies = subst (λ all. AllByRecursion (P all) (pairs ++ new)) w
          (All-append (P (writes (pairs ++ old))) pairs new
          (All-front (P (writes (pairs ++ old))) pairs old agrees.replies)
          (answered (before ++ writes (pairs ++ old))
          (All-rest (P (writes (pairs ++ old))) pairs old agrees.replies)));
    }

pub as-told : (told : Bool) (layout : Layout) (before : List Write) (floor : ℕ)
    (pairs : List Pair) (requests : List Request) (replies answers : List Reply)
    → map (told_of told) replies ≡ map (told_of told) answers
    → AllByRecursion (IsTask layout) requests
    → AgreesWithMap told layout before floor (pairs ++ pairs_of requests answers)
    → AgreesWithMap told layout before floor (pairs ++ pairs_of requests replies)
as-told told layout before floor pairs requests replies answers same good agrees =
    agrees-as told layout before floor pairs (pairs_of requests answers)
    (pairs_of requests replies)
    (sym (same-map (λ pair. stamp_of pair.reply) told
    (λ request reply. stamp-told told reply) requests replies answers same))
    (sym (same-map acknowledged told
    (λ request reply. acknowledged-told told request reply) requests replies answers same))
    (λ history all. same-answers requests replies answers told layout history same good all) agrees
