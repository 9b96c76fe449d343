-- Lemmas on frames one behind the other.
use Rattle.std.proofs.Common.{◌≡◌, ℕ, ◌+◌, ◌<◌, ◌≤◌, List, [], ◌∷◌, ◌++◌, length, take, drop, refl}
use Rattle.std.proofs.Common.{sym, ap, ◌∙◌, append_assoc, arith}
use Rattle.std.specs.List.{AllByRecursion, flat_map}
use Rattle.std.specs.Int.{w32, from_le_bytes}
use Rattle.std.proofs.lemmas.Grind.{flat_map-append}
use Rattle.std.proofs.lemmas.List.{append-nil, length-append, take-append-le, take-append-drop}
use Rattle.std.proofs.lemmas.List.{take_at}
use Rattle.kv_base.specs.declared.request.Request.{Request}
use Rattle.kv_base.specs.declared.reply.Reply.{Reply}
use Rattle.kv_model.specs.Frames.{framed, stated_length, request_content, HasRequestFrame}
use Rattle.kv_model.specs.Frames.{request_frame, HasReplyFrame, reply_frame, BeginsWithRequest}
use Rattle.kv_model.specs.Frames.{BeginsWithNoRequest, BeginsWithReply, IsMalformed, SplitsInto}
use Rattle.kv_model.specs.Transcript.{IsPart}
use Rattle.kv_frames.specs.Pieces.{ReadInPieces}
use Rattle.kv_frames.proofs.FramingLemmas.{stated_length-framed}
use Rattle.kv_frames.proofs.RequestLemmas.{request_once, request_some}
use Rattle.kv_frames.proofs.ReplyLemmas.{reply_once}

-- ---- requests

-- the frames of the requests, and then the rest
abbrev pub stream_of : List Request → List ℕ → List ℕ
stream_of requests rest = flat_map request_frame requests ++ rest

-- the first request's frame begins the stream
begins_first : (request : Request) (requests : List Request) (rest bytes : List ℕ)
    → HasRequestFrame request → bytes ≡ stream_of (request ∷ requests) rest
    → BeginsWithRequest bytes request (stream_of requests rest)
begins_first request requests rest bytes has e = record {
  has = has;
  parts = e ∙ append_assoc (request_frame request) (flat_map request_frame requests) rest;
}

-- streams that are one begin with one request
first_once : (request other : Request) (requests others : List Request) (rest behind : List ℕ)
    → HasRequestFrame request → HasRequestFrame other
    → stream_of (request ∷ requests) rest ≡ stream_of (other ∷ others) behind
    → (request ≡ other) × (stream_of requests rest ≡ stream_of others behind)
first_once request other requests others rest behind has also e =
    let bytes = stream_of (request ∷ requests) rest in
    request_once bytes request other (stream_of requests rest) (stream_of others behind)
    (begins_first request requests rest bytes has refl) (begins_first other others behind bytes also
    e)

-- equal first requests and equal others make equal lists
cons_same : {X : Type 0} (x y : X) (xs ys : List X) → x ≡ y → xs ≡ ys → x ∷ xs ≡ y ∷ ys
cons_same x y xs ys e es = cc

-- one stream splits in one way into requests and a rest that begins with none
pub split_once : (requests others : List Request) (rest behind : List ℕ)
    → AllByRecursion HasRequestFrame requests → AllByRecursion HasRequestFrame others
    → stream_of requests rest ≡ stream_of others behind
    → BeginsWithNoRequest rest → BeginsWithNoRequest behind → (requests ≡ others) × (rest ≡ behind)
split_once [] [] rest behind has also e none nor = (refl, e)
split_once [] (other ∷ others) rest behind has also e none nor =
    absurd (none other (stream_of others behind) (begins_first other others behind rest also.0 e))
split_once (request ∷ requests) [] rest behind has also e none nor =
    absurd (nor request (stream_of requests rest) (begins_first request requests rest behind has.0
    (sym e)))
split_once (request ∷ requests) (other ∷ others) rest behind has also e none nor =
    let first = first_once request other requests others rest behind has.0 also.0 e in
    let same = split_once requests others rest behind has.1 also.1 first.1 none nor in
    (cons_same request other requests others first.0 same.0, same.1)

-- requests that are no more than others whose frames begin the same bytes are the first of these
pub requests_behind : (requests others : List Request) (rest behind : List ℕ)
    → length requests ≤ length others
    → AllByRecursion HasRequestFrame requests → AllByRecursion HasRequestFrame others
    → stream_of requests rest ≡ stream_of others behind
    → (more : List Request) × (others ≡ requests ++ more)
requests_behind [] others rest behind n has also e = (others, refl)
requests_behind (request ∷ requests) [] rest behind n has also e = absurd (omega arith)
requests_behind (request ∷ requests) (other ∷ others) rest behind n has also e =
    let first = first_once request other requests others rest behind has.0 also.0 e in
    let more = requests_behind requests others rest behind (omega arith) has.1 also.1 first.1 in
    (more.0, cons_same other request others (requests ++ more.0) (sym first.0) more.1)

-- fewer requests leave a rest that a request begins
pub more_behind : (requests others : List Request) (rest behind : List ℕ)
    → length others < length requests
    → AllByRecursion HasRequestFrame requests → AllByRecursion HasRequestFrame others
    → stream_of requests rest ≡ stream_of others behind → BeginsWithNoRequest behind → ⊥
more_behind [] others rest behind n has also e none = absurd (omega arith)
more_behind (request ∷ requests) [] rest behind n has also e none =
    none request (stream_of requests rest) (begins_first request requests rest behind has.0 (sym e))
more_behind (request ∷ requests) (other ∷ others) rest behind n has also e none =
    let first = first_once request other requests others rest behind has.0 also.0 e in
    more_behind requests others rest behind (omega arith) has.1 also.1 first.1 none

-- malformed bytes stay so: a request that began more bytes was there before
pub malformed_append : (bytes more : List ℕ) → IsMalformed bytes → IsMalformed (bytes ++ more)
malformed_append bytes more bad =
    let there : 4 ≤ length bytes = bad.length_there in
    let stated : stated_length (bytes ++ more) ≡ stated_length bytes =
    ap (λ (b : List ℕ). from_le_bytes w32 b) (take-append-le 4 bytes more there) in
    let long = length-append bytes more in
    record {
      length_there = omega arith;
      all_there = λ some most. omega (arith, bad.all_there (omega arith) (omega arith));
      none = λ request rest p.
          let content = request_content request in
          let is : stated_length (bytes ++ more) ≡ length content =
          stated_length-framed content rest (bytes ++ more) (omega (arith, p.has.size)) p.parts in
          let within : 4 + length content ≤ length bytes =
          omega (
            arith,
            bad.all_there (omega (arith, request_some request))
                (omega (arith, p.has.size)),
          ) in
          let n = 4 + length content in
          let front : take n bytes ≡ framed content =
          sym (take-append-le n bytes more within)
          ∙ ap (λ (b : List ℕ). take n b) p.parts ∙ take_at (framed content) rest n (omega arith) in
          bad.none request (drop n bytes) (record {
            has = p.has;
            parts = sym (take-append-drop n bytes) ∙ ap (λ (b : List ℕ). b ++ drop n bytes) front;
          });
    }

-- ---- a stream in pieces

-- no request begins where there is no byte
pub nothing_begins_none : BeginsWithNoRequest []
nothing_begins_none request rest p =
    let none = p.parts in
    absurd cc

-- what holds of each of two lists holds of each of both
AllByRecursion-append : {X : Type 0} (P : X → Type 0) (xs ys : List X)
    → AllByRecursion P xs → AllByRecursion P ys → AllByRecursion P (xs ++ ys)
AllByRecursion-append P [] ys p q = q
AllByRecursion-append P (x ∷ xs) ys p q = (p.0, AllByRecursion-append P xs ys p.1 q)

-- two streams joined are the stream of both
stream_of-append : (now later : List Request) (rest : List ℕ)
    → stream_of now (stream_of later rest) ≡ stream_of (now ++ later) rest
stream_of-append now later rest =
    sym (append_assoc (flat_map request_frame now) (flat_map request_frame later) rest)
    ∙ ap (λ (b : List ℕ). b ++ rest) (sym (flat_map-append request_frame now later))

-- what was read in pieces splits what came in all
pub pieces_split : (pieces : List (List ℕ)) (left : List ℕ) (requests : List Request)
    (rest : List ℕ)
    → BeginsWithNoRequest left → ReadInPieces pieces left requests rest
    → SplitsInto (left ++ flat_map (λ piece. piece) pieces) requests rest
pieces_split [] left requests rest none p =
    rw (append-nil, p.0, p.1) (record { parts = refl; each = tt }, none)
pieces_split (piece ∷ pieces) left requests rest none p =
    let now = p.0 in
    let later = p.1 in
    let between = p.2 in
    let split = p.3.0 in
    let behind = pieces_split pieces between later rest p.3.1 p.4 in
    let others : List ℕ = flat_map (λ piece. piece) pieces in
    let joined : left ++ (piece ++ others) ≡ stream_of (now ++ later) rest =
    sym (append_assoc left piece others)
    ∙ ap (λ (b : List ℕ). b ++ others) split.parts
    ∙ append_assoc (flat_map request_frame now) between others
    ∙ ap (λ (b : List ℕ). stream_of now b) behind.0.parts
    ∙ stream_of-append now later rest in
    let each = AllByRecursion-append HasRequestFrame now later split.each behind.0.each in
    rw p.5 (record { parts = joined; each = each }, behind.1)

-- ---- replies

-- the frames of the replies, and then a part of the next
abbrev pub given_of : List Reply → List ℕ → List ℕ
given_of replies part = flat_map reply_frame replies ++ part

-- a part that went out of the next frame holds no whole frame
part_holds_none : (part : List ℕ) (left : List Reply) (reply : Reply) (rest : List ℕ)
    → AllByRecursion HasReplyFrame left → HasReplyFrame reply → IsPart part left
    → part ≡ reply_frame reply ++ rest → ⊥
part_holds_none part [] reply rest has also is e =
    let nothing = sym is ∙ e in
    absurd cc
part_holds_none part (next ∷ left) reply rest has also is e =
    let behind = is.0 in
    let whole = reply_frame next in
    let first : BeginsWithReply whole next [] =
    record { has = has.0; parts = sym (append-nil whole) } in
    let second : BeginsWithReply whole reply (rest ++ behind) = record {
      has = also;
      parts = is.2 ∙ ap (λ (b : List ℕ). b ++ behind) e
          ∙ append_assoc (reply_frame reply) rest behind;
    } in
    let once = reply_once whole next reply [] (rest ++ behind) first second in
    absurd (omega (arith, is.1, ap (λ (b : List ℕ). length b) once.1, length-append rest behind))

-- the first reply's frame begins what was given
gives_first : (reply : Reply) (out : List Reply) (part bytes : List ℕ)
    → HasReplyFrame reply → bytes ≡ given_of (reply ∷ out) part
    → BeginsWithReply bytes reply (given_of out part)
gives_first reply out part bytes has e = record {
  has = has;
  parts = e ∙ append_assoc (reply_frame reply) (flat_map reply_frame out) part;
}

-- the replies that went out whole are those of one list
pub outcome_once : (out others : List Reply) (part piece : List ℕ) (left : List Reply)
    → AllByRecursion HasReplyFrame (out ++ left) → AllByRecursion HasReplyFrame (others ++ left)
    → given_of out part ≡ given_of others piece → IsPart part left → IsPart piece left
    → out ≡ others
outcome_once [] [] part piece left has also e is was = refl
outcome_once [] (other ∷ others) part piece left has also e is was =
    let first = gives_first other others piece part also.0 e in
    absurd (part_holds_none part left other (given_of others piece) has also.0 is first.parts)
outcome_once (reply ∷ out) [] part piece left has also e is was =
    let first = gives_first reply out part piece has.0 (sym e) in
    absurd (part_holds_none piece left reply (given_of out part) also has.0 was first.parts)
outcome_once (reply ∷ out) (other ∷ others) part piece left has also e is was =
    let bytes = given_of (reply ∷ out) part in
    let once = reply_once bytes reply other (given_of out part) (given_of others piece)
    (gives_first reply out part bytes has.0 refl) (gives_first other others piece bytes also.0 e) in
    cons_same reply other out others once.0
    (outcome_once out others part piece left has.1 also.1 once.1 is was)
