-- Groups of requests on their way to a worker, and their answers.
use Rattle.std.specs.Prelude.{◌≡◌, ◌<◌, ℕ, List, [], ◌∷◌, map, ⊤}
use Rattle.std.specs.List.{AllByRecursion}
use Rattle.kv_base.specs.declared.reply.Reply.{Reply}
use Rattle.kv_base.specs.declared.request.Request.{Request}
use Rattle.kv_model.specs.Pairwise.{Pairwise}
use Rattle.kv_model.specs.Pairs.{Pair, stamps, requests_of}

-- a group as its worker gets it: the greatest stamp that its session had seen, and the requests
pub record Asked : Type 0 where
  pub seen : ℕ
  pub requests : List Request

-- the pairs answer the group: its requests in their order, each stamp above what its session had
-- seen and above those before it
pub record IsAnsweredBy (asked : Asked) (pairs : List Pair) : Type 0 where
  pub same : requests_of pairs ≡ asked.requests
  pub later : AllByRecursion (λ stamp. asked.seen < stamp) (stamps pairs)
  pub rising : Pairwise ◌<◌ (stamps pairs)

-- each answer answers the group at its place; there may be fewer answers
abbrev pub Answers : List Asked → List (List Pair) → Type 0
Answers asked [] = ⊤
Answers [] (pairs ∷ answered) = ⊥
Answers (group ∷ asked) (pairs ∷ answered) = IsAnsweredBy group pairs × Answers asked answered

-- the replies of each answer
abbrev pub replies_of : List (List Pair) → List (List Reply)
replies_of answered = map (λ pairs. map (λ pair. pair.reply) pairs) answered
