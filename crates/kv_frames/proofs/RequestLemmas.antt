-- Lemmas on frames of requests.
use Rattle.std.proofs.Common.{◌≡◌, ℕ, suc, ◌+◌, ◌^◌, ◌<◌, ◌≤◌, true, cond, List, [], ◌∷◌, ◌++◌}
use Rattle.std.proofs.Common.{length, take, drop, Option, Some, None, inl, inr, refl, ap, subst}
use Rattle.std.proofs.Common.{◌∙◌}
use Rattle.std.proofs.Common.{arith, eqb, leb}
use Rattle.std.proofs.lemmas.Bool.{le-leb, leb-true, eqb-true}
use Rattle.std.proofs.lemmas.List.{take_at, drop_at, take-append-drop, length-append}
use Rattle.std.proofs.lemmas.List.{length-take-le}
use Rattle.std.proofs.lemmas.Nat.{le_bytes_8, from_le_bytes-to_le_bytes_8}
use Rattle.std.specs.Int.{w64, from_le_bytes}
use Rattle.kv_base.specs.declared.request.Request.{Request}
use Rattle.kv_base.specs.declared.request.Request.TheVariants.{Put, Get, Delete, Flush, After}
use Rattle.kv_model.specs.Frames.{request_content, HasRequestBody, request_frame, BeginsWithRequest}
use Rattle.kv_model.specs.Frames.{BeginsWithNoRequest, IsPartial, IsMalformed}
use Rattle.kv_frames.specs.Cut.{BeginsWithContent, IsOutOfRange}
use Rattle.kv_frames.specs.Reading.{put_body_in, flush_body_in, after_in, request_in}
use Rattle.kv_frames.specs.Parse.{IsWhole}
use Rattle.kv_frames.proofs.FramingLemmas.{IsBytes, stated_length-framed, content_within}
use Rattle.kv_frames.proofs.CodeLemmas.{IsCode, Begins, chosen, begins_read, read_found}
use Rattle.kv_frames.proofs.CodeLemmas.{begins_once, out_of_range_begins_none, partial_begins_none}
use Rattle.kv_frames.proofs.NumberLemmas.{from_le_bytes_8-fits, number_made}

-- what a request's content is read as
request_again : (request : Request) → HasRequestBody request
    → request_in (request_content request) ≡ Some request
request_again (Put key value) fits =
    let long : leb (length key) (length (key ++ value)) ≡ true =
    le-leb _ _ (omega (arith, length-append key value)) in
    rw (long, take_at key value (length key) refl, drop_at key value (length key) refl) refl
request_again (Get key) fits = refl
request_again (Delete key) fits = refl
request_again Flush fits = refl
request_again (After stamp) fits =
    ap (λ (s : ℕ). Some (After s)) (from_le_bytes-to_le_bytes_8 stamp fits)

-- the request has this kind and body
abbrev IsRequestOf : ℕ → List ℕ → Request → Type 0
IsRequestOf kind body request = HasRequestBody request × (request_content request ≡ kind ∷ body)

-- one kind is compared, and then the others
one_kind : (kind number : ℕ) (body : List ℕ) (request : Request) (read other : Option Request)
    → (read ≡ Some request → IsRequestOf number body request)
    → (other ≡ Some request → IsRequestOf kind body request)
    → cond (eqb kind number) read other ≡ Some request → IsRequestOf kind body request
one_kind kind number body request read other this others e =
    elim (chosen (eqb kind number) read other (Some request) e) [
      | inl p ↦ rw (eqb-true kind number p.0) (this p.1)
      | inr p ↦ others p.1
    ]

-- what is read as a Put's body is its body
put_back : (body : List ℕ) (request : Request) → IsBytes body → put_body_in body ≡ Some request
    → IsRequestOf 0x01 body request
put_back [] request fits e = absurd cc
put_back (key_length ∷ rest) request fits e =
    elim (chosen (leb key_length (length rest))
    (Some (Put (take key_length rest) (drop key_length rest))) None (Some request) e) [
      | inl p ↦
          let is : Put (take key_length rest) (drop key_length rest) ≡ request = cc in
          let size : length (take key_length rest) ≡ key_length =
          length-take-le key_length rest (leb-true _ _ p.0) in
          let key_fits : key_length < 256 = fits 0 in
          subst (λ (r : Request). IsRequestOf 0x01 (key_length ∷ rest) r) is
          (omega arith, rw (size, take-append-drop key_length rest) refl)
      | inr p ↦ absurd cc
    ]

-- a body that is all key is read back
key_back : (number : ℕ) (body : List ℕ) (value request : Request) → HasRequestBody value
    → request_content value ≡ number ∷ body → Some value ≡ Some request
    → IsRequestOf number body request
key_back number body value request has is e =
    let same : value ≡ request = cc in
    subst (λ (r : Request). IsRequestOf number body r) same (has, is)

-- what is read as a Flush has no body
flush_back : (body : List ℕ) (request : Request) → flush_body_in body ≡ Some request
    → IsRequestOf 0x05 body request
flush_back [] request e = key_back 0x05 [] Flush request tt refl e
flush_back (byte ∷ rest) request e = absurd cc

-- what is read as an After's stamp is its body
after_back : (body : List ℕ) (request : Request) → IsBytes body → after_in body ≡ Some request
    → IsRequestOf 0x06 body request
after_back body request fits e =
    let back = number_made body (λ stamp. After stamp) request e in
    key_back 0x06 body (After (from_le_bytes w64 body)) request (from_le_bytes_8-fits body fits)
    (ap (λ (b : List ℕ). 0x06 ∷ b) (le_bytes_8 body _ back.0 fits refl)) back.1

-- what is read as a request is its content
request_back : (bytes : List ℕ) (request : Request) → IsBytes bytes
    → request_in bytes ≡ Some request → HasRequestBody request × (request_content request ≡ bytes)
request_back [] request fits e = absurd cc
request_back (kind ∷ body) request fits e =
    one_kind kind 0x01 body request _ _ (put_back body request (λ i. fits (suc i)))
    (one_kind kind 0x02 body request _ _ (key_back 0x02 body (Get body) request tt refl)
    (one_kind kind 0x03 body request _ _ (key_back 0x03 body (Delete body) request tt refl)
    (one_kind kind 0x05 body request _ _ (flush_back body request)
    (one_kind kind 0x06 body request _ _ (after_back body request (λ i. fits (suc i)))
    (λ none. absurd cc))))) e

-- a request's content has its kind at least
pub request_some : (request : Request) → 1 ≤ length (request_content request)
request_some (Put key value) = omega arith
request_some (Get key) = omega arith
request_some (Delete key) = omega arith
request_some Flush = omega arith
request_some (After stamp) = omega arith

-- requests' contents are written and read
request_code : IsCode Request request_content HasRequestBody request_in
request_code = record { again = request_again; back = request_back; some = request_some }

-- ---- what parsing answers

request_begins : (bytes : List ℕ) (request : Request) (rest : List ℕ)
    → BeginsWithRequest bytes request rest
    → Begins Request request_content HasRequestBody bytes request rest
request_begins bytes request rest p =
    record { body = p.has.body; size = p.has.size; parts = p.parts }

-- a content that is read is a whole request
pub request_is_whole : {bytes content : List ℕ} {request : Request}
    → BeginsWithContent bytes content
    → Some request ≡ request_in content → IsBytes bytes → IsWhole bytes request (4 + length content)
request_is_whole {bytes = bytes} {content = content} {request = request} begins is fits =
    let read = begins_read request_code bytes content request fits begins is in
    record {
      begins = record {
        has = record { body = read.0.body; size = read.0.size };
        parts = read.0.parts;
      };
      length_is = rw read.1 (omega arith);
      least = omega (arith, begins.some);
      most = omega (arith, begins.most);
      within = content_within bytes content begins;
    }

-- no other request begins the bytes
pub request_is_found : {bytes content : List ℕ} {found request : Request} {rest : List ℕ}
    → BeginsWithContent bytes content → Some found ≡ request_in content
    → BeginsWithRequest bytes request rest
    → (found ≡ request) × (4 + length content ≡ length (request_frame request))
request_is_found {bytes = bytes} {content = content} {found = found} {request = request}
    {rest = rest} begins is p =
    let read = read_found request_code bytes content request rest begins
    (request_begins bytes request rest p) in
    let both : Some found ≡ Some request = is ∙ read.0 in
    (cc, omega (arith, read.1))

-- a content that is no request's makes the bytes malformed
pub request_is_malformed : {bytes content : List ℕ} → BeginsWithContent bytes content
    → None ≡ request_in content → IsMalformed bytes
request_is_malformed {bytes = bytes} {content = content} begins is =
    let within = content_within bytes content begins in
    let fits : length content < 2 ^ 32 = omega (arith, begins.most) in
    let stated = stated_length-framed content (drop (4 + length content) bytes) bytes fits
    begins.parts in
    record {
      length_there = omega arith;
      all_there = λ some most. omega (arith, within, stated);
      none = λ request rest p.
          let read = read_found request_code bytes content request rest begins
          (request_begins bytes request rest p) in
          let both : None ≡ Some request = is ∙ read.0 in
          absurd cc;
    }

-- a length out of range makes the bytes malformed
pub request_out_is_malformed : (bytes : List ℕ) → IsOutOfRange bytes → IsMalformed bytes
request_out_is_malformed bytes out =
    record {
      length_there = out.length_there;
      all_there = λ some most. absurd (omega (arith, out.out some));
      none = λ request rest p.
          out_of_range_begins_none request_code bytes request rest out (request_begins bytes request
          rest p);
    }

-- no request begins a part of a frame
pub request_partial : (bytes : List ℕ) → IsPartial bytes → BeginsWithNoRequest bytes
request_partial bytes partial request rest p =
    partial_begins_none bytes request rest partial (request_begins bytes request rest p)

-- requests whose frames begin the same bytes are one
pub request_once : (bytes : List ℕ) (request other : Request) (rest behind : List ℕ)
    → BeginsWithRequest bytes request rest → BeginsWithRequest bytes other behind
    → (request ≡ other) × (rest ≡ behind)
request_once bytes request other rest behind p q =
    begins_once request_code bytes request other rest behind
    (request_begins bytes request rest p) (request_begins bytes other behind q)
