-- The writes that replies acknowledge, and those that they leave unsure.
use Rattle.std.proofs.Common.{◌≡◌, ℕ, ◌+◌, ◌<◌, Bool, List, [], ◌∷◌, map, Option, None, refl, sym, ap, ◌∙◌, length}
use Rattle.std.specs.List.{AllByRecursion, cons_option}
use Rattle.kv_base.specs.declared.reply.Reply.{Reply}
use Rattle.kv_base.specs.declared.reply.Reply.TheVariants.{Found}
use Rattle.kv_base.specs.declared.request.Request.{Request}
use Rattle.kv_model.specs.Agreement.{told_of}
use Rattle.kv_model.specs.Batch.{Start, answers}
use Rattle.kv_model.specs.BatchLaws.{pairs_of}
use Rattle.kv_model.specs.Pairs.{acknowledged_by, unsure_by, unsure_writes, writes}
use Rattle.kv_model.proofs.AnswersLemmas.{RiseBetween-acknowledged_in}
use Rattle.kv_model.proofs.FailedLemmas.{unsure-answers}
use Rattle.kv_model.proofs.ReadingLemmas.{RiseBetween-below}
use Rattle.kv_slab.specs.declared.fault.StepFault.{StepFault}
use Rattle.kv_slab.specs.declared.fault.StepFault.TheVariants.{DiskFault, NoMemory}
use Rattle.kv_worker.specs.Refusals.{reply_of_fault}

told-acknowledged : (told : Bool) (request : Request) (reply : Reply)
    → acknowledged_by request (told_of told reply) ≡ acknowledged_by request reply
told-acknowledged told request (Found stamp value) = refl
told-acknowledged told request reply = refl

told-unsure : (told : Bool) (request : Request) (reply : Reply)
    → unsure_by request (told_of told reply) ≡ unsure_by request reply
told-unsure told request (Found stamp value) = refl
told-unsure told request reply = refl

told-writes : (told : Bool) (requests : List Request) (replies : List Reply)
    → writes (pairs_of requests (map (told_of told) replies)) ≡ writes (pairs_of requests replies)
told-writes told [] replies = refl
told-writes told (request ∷ requests) [] = refl
told-writes told (request ∷ requests) (reply ∷ replies) =
    ap (λ o. cons_option o (writes (pairs_of requests (map (told_of told) replies))))
    (told-acknowledged told request reply)
    ∙ ap (cons_option (acknowledged_by request reply)) (told-writes told requests replies)

told-unsures : (told : Bool) (requests : List Request) (replies : List Reply)
    → unsure_writes (pairs_of requests (map (told_of told) replies))
    ≡ unsure_writes (pairs_of requests replies)
told-unsures told [] replies = refl
told-unsures told (request ∷ requests) [] = refl
told-unsures told (request ∷ requests) (reply ∷ replies) =
    ap (λ o. cons_option o (unsure_writes (pairs_of requests (map (told_of told) replies))))
    (told-unsure told request reply)
    ∙ ap (cons_option (unsure_by request reply)) (told-unsures told requests replies)

-- where the same is told, the same is acknowledged
pub same-writes : (told : Bool) (requests : List Request) (replies others : List Reply)
    → map (told_of told) replies ≡ map (told_of told) others
    → writes (pairs_of requests replies) ≡ writes (pairs_of requests others)
same-writes told requests replies others same = sym (told-writes told requests replies)
    ∙ ap (λ r. writes (pairs_of requests r)) same ∙ told-writes told requests others

-- where the same is told as of the answers, nothing is unsure
pub none-unsure : (told : Bool) (requests : List Request) (replies : List Reply) (start : Start)
    (base : ℕ) → map (told_of told) replies ≡ map (told_of told) (answers start [] base requests)
    → unsure_writes (pairs_of requests replies) ≡ []
none-unsure told requests replies start base same = sym (told-unsures told requests replies)
    ∙ ap (λ r. unsure_writes (pairs_of requests r)) same
    ∙ told-unsures told requests (answers start [] base requests)
    ∙ unsure-answers requests start [] base

-- a refused batch acknowledges nothing
pub refused-writes : (fault : StepFault) (requests : List Request)
    → writes (pairs_of requests (map (λ _. reply_of_fault fault) requests)) ≡ []
refused-writes fault [] = refl
refused-writes DiskFault (request ∷ requests) = refused-writes DiskFault requests
refused-writes NoMemory (request ∷ requests) = refused-writes NoMemory requests

-- it leaves nothing unsure
pub refused-unsure : (fault : StepFault) (requests : List Request)
    → unsure_writes (pairs_of requests (map (λ _. reply_of_fault fault) requests)) ≡ []
refused-unsure fault [] = refl
refused-unsure DiskFault (request ∷ requests) = refused-unsure DiskFault requests
refused-unsure NoMemory (request ∷ requests) = refused-unsure NoMemory requests

-- acknowledged writes have stamps of the batch
pub acknowledged-below : (start : Start) (requests : List Request) (base : ℕ)
    → AllByRecursion (λ write. write.stamp < base + length requests)
    (writes (pairs_of requests (answers start [] base requests)))
acknowledged-below start requests base = RiseBetween-below base (base + length requests)
    (writes (pairs_of requests (answers start [] base requests)))
    (RiseBetween-acknowledged_in requests start [] base)
