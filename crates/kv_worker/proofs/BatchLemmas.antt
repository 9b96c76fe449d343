-- How the requests of a batch are answered one behind the other.
use Rattle.std.proofs.Common.{◌≡◌, Bool, map, ℕ, ◌+◌, ◌<◌, ◌≤◌, List, [], ◌∷◌, ◌++◌, Option, refl}
use Rattle.std.proofs.Common.{ap, sym, ◌∙◌, subst, arith, length, take, get_or, Some, slice_get}
use Rattle.std.proofs.Common.{append-nil}
use Rattle.std.proofs.lemmas.List.{take_more, length-take-le, map-append}
use Rattle.std.proofs.lemmas.Option.{slice_get_read}
use Rattle.kv_base.specs.declared.request.Request.{Request}
use Rattle.kv_base.specs.declared.request.Request.TheVariants.{Get, Flush}
use Rattle.kv_base.specs.declared.reply.Reply.{Reply}
use Rattle.kv_base.specs.declared.reply.Reply.TheVariants.{BadKey}
use Rattle.kv_model.specs.Agreement.{told_of}
use Rattle.kv_model.specs.Batch.{Start, answers, accepted_writes, behind, reply_of, value_after}
use Rattle.kv_model.specs.Batch.{get_reply}
use Rattle.kv_model.specs.History.{Write}
use Rattle.kv_worker.specs.Answering.{AnswersIn, AreAnsweredSo, IsAnswered, KnowsLast, Stands}
use Rattle.kv_worker.specs.Course.{Course, Follows, course_of}
use Rattle.kv_worker.specs.Overlay.{last_of}
use Rattle.kv_worker.specs.declared.overlay.Last.{Last}
use Rattle.kv_worker.specs.declared.pass.Pass.{Pass}
use Rattle.kv_worker.proofs.AnswerLemmas.{same-last}

pub answers-append : (requests more : List Request) (start : Start) (writes : List Write)
    (stamp : ℕ) → answers start writes stamp (requests ++ more)
    ≡ answers start writes stamp requests
    ++ answers start (accepted_writes start writes stamp requests) (stamp + length requests) more
answers-append [] more start writes stamp =
    let e : stamp ≡ stamp + 0 = omega arith in ap (λ s. answers start writes s more) e
answers-append (request ∷ requests) more start writes stamp =
    let e : stamp + 1 + length requests ≡ stamp + length (request ∷ requests) = omega arith in
    ap (λ rest. reply_of start writes stamp request ∷ rest)
    (answers-append requests more start (behind start writes stamp request) (stamp + 1)
    ∙ ap (λ s. answers start (behind start writes stamp request) (stamp + 1) requests
    ++ answers start (accepted_writes start (behind start writes stamp request) (stamp + 1)
    requests) s more) e)

pub accepted-append : (requests more : List Request) (start : Start) (writes : List Write)
    (stamp : ℕ) → accepted_writes start writes stamp (requests ++ more)
    ≡ accepted_writes start (accepted_writes start writes stamp requests) (stamp + length requests)
    more
accepted-append [] more start writes stamp =
    let e : stamp ≡ stamp + 0 = omega arith in ap (λ s. accepted_writes start writes s more) e
accepted-append (request ∷ requests) more start writes stamp =
    let e : stamp + 1 + length requests ≡ stamp + length (request ∷ requests) = omega arith in
    accepted-append requests more start (behind start writes stamp request) (stamp + 1)
    ∙ ap (λ s. accepted_writes start (accepted_writes start (behind start writes stamp request)
    (stamp + 1) requests) s more) e

-- one more request is answered
pub answers-more : (told : Bool) (start : Start) (requests : List Request) (i base : ℕ)
    (request : Request) (reply : Reply) (replies : List Reply) (pass next : Pass)
    → i < length requests → request ≡ get_or requests i request
    → AreAnsweredSo told start requests (take i requests) base replies pass
    → IsAnswered told (course_of start requests base)
    (accepted_writes start [] base (take i requests)) request (base + i) reply next
    → AreAnsweredSo told start requests (take (i + 1) requests) base (replies ++ reply ∷ []) next
answers-more told start requests i base request reply replies pass next within is done answered =
    let more : take (i + 1) requests ≡ take i requests ++ request ∷ [] =
    take_more requests i request within ∙ ap (λ r. take i requests ++ r ∷ []) (sym is) in
    let long : length (take i requests) ≡ i = length-take-le i requests (omega arith) in
    let stamp : base + length (take i requests) ≡ base + i = ap (λ n. base + n) long in
    record {
      answers_are = map-append (told_of told) replies (reply ∷ [])
          ∙ ap (λ all. all ++ told_of told reply ∷ []) done.answers_are
          ∙ ap (λ r. map (told_of told) (answers start [] base (take i requests)) ++ r ∷ [])
          answered.answer
          ∙ sym (map-append (told_of told) (answers start [] base (take i requests))
          (reply_of start (accepted_writes start [] base (take i requests)) (base + i) request
          ∷ []))
          ∙ ap (map (told_of told)) (ap (λ s. answers start [] base (take i requests) ++ reply_of
          start (accepted_writes start [] base (take i requests)) s request ∷ []) (sym stamp)
          ∙ sym (answers-append (take i requests) (request ∷ []) start [] base)
          ∙ sym (ap (answers start [] base) more));
      follows = subst (λ all. Follows (course_of start requests base) (accepted_writes start [] base
          all) next) (sym more)
          (subst (λ writes. Follows (course_of start requests base) writes next)
          (sym (accepted-append (take i requests) (request ∷ []) start [] base))
          (subst (λ s. Follows (course_of start requests base) (behind start (accepted_writes start
          [] base (take i requests)) s request) next) (sym stamp) answered.follows));
    }

-- the pass stands before the next request
pub can-answer : (told : Bool) (start now : Start) (requests : List Request) (i task base stamp : ℕ)
    (request : Request) (replies : List Reply) (pass : Pass) → now ≡ start → task ≡ i
    → stamp ≡ base + task → i < length requests → request ≡ get_or requests i request
    → AreAnsweredSo told start requests (take i requests) base replies pass
    → Stands (course_of start requests base) (accepted_writes start [] base (take i requests)) pass
    now request task stamp
can-answer told start now requests i task base stamp request replies pass same at is_stamp within is
    done = record {
      follows = done.follows;
      found = sym same;
      asked = subst (λ n. slice_get requests n ≡ Some request) (sym at)
          (slice_get_read requests (length requests) i request refl within is);
      stamped = is_stamp;
    }
