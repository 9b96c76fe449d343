-- Text that goes to a sink.
use Rattle.std.proofs.Common.{◌≡◌, ℕ, ◌≤◌, List, [], ◌∷◌, ◌++◌, length, take, drop}
use Rattle.std.proofs.Common.{Option, refl, sym, ap, ◌∙◌, subst, arith, length-drop, length-append}
use Rattle.std.proofs.Common.{append_assoc, append-nil}
use Rattle.std.specs.List.{concat}
use Rattle.std.proofs.lemmas.List.Folds.{concat-append}
use Rattle.std.proofs.lemmas.List.{take-append-drop, take_all}
use Rattle.std.specs.Prelude.{slice_index, ◌/◌, ◌%◌}
use Rattle.hex.specs.Hex.{encode_lower, encode_with, lower_digits}
use Rattle.kv_base.specs.Pieces.{TakesPieces}
use Rattle.kv_base.specs.Stream.{Takes}
use Rattle.kv_base.proofs.StreamLemmas.{Takes-nil, Takes-trans}
use Rattle.kv_tools.specs.Sent.{TakesFront, TakesSome, Puts}

-- one piece was taken whole
pub one_whole : (before now : Option (List ℕ)) (bytes : List ℕ) (whole : ℕ) → whole ≡ 1
    → TakesPieces before now bytes (length bytes ∷ []) whole → Takes before now bytes
one_whole before now bytes whole one taken =
    let pieces = subst (TakesPieces before now bytes (length bytes ∷ [])) one taken in
    let all : take pieces.0 bytes ≡ bytes = take_all pieces.0 bytes (omega (arith, pieces.2)) in
    subst (Takes before now) all pieces.1

-- one piece wasn't
one_part : (before now : Option (List ℕ)) (bytes : List ℕ)
    → TakesPieces before now bytes (length bytes ∷ []) 0 → TakesFront before now bytes
one_part before now bytes pieces = record {
  sent = take pieces.0 bytes;
  rest = drop pieces.0 bytes;
  all = sym (take-append-drop pieces.0 bytes);
  some = omega (arith, length-drop pieces.0 bytes, pieces.2.1);
  took = pieces.1;
}

pub not_whole : (before now : Option (List ℕ)) (bytes : List ℕ) (whole : ℕ) → whole ≤ 1
    → (whole ≡ 1 → ⊥) → TakesPieces before now bytes (length bytes ∷ []) whole
    → TakesFront before now bytes
not_whole before now bytes whole most other taken =
    let none : whole ≡ 0 = omega arith in
    one_part before now bytes
    (subst (TakesPieces before now bytes (length bytes ∷ [])) none taken)

-- a front of some text behind other text
pub front_behind : (before between now : Option (List ℕ)) (text more all : List ℕ)
    → text ++ more ≡ all → Takes before between text → TakesFront between now more
    → TakesFront before now all
front_behind before between now text more all is took front = record {
  sent = text ++ front.sent;
  rest = front.rest;
  all = sym is ∙ ap (λ t. text ++ t) front.all ∙ sym (append_assoc text front.sent front.rest);
  some = front.some;
  took = Takes-trans before between now text front.sent took front.took;
}

-- a front of some text is one of more text
pub front_more : (before now : Option (List ℕ)) (text more : List ℕ)
    → TakesFront before now text → TakesFront before now (text ++ more)
front_more before now text more front = record {
  sent = front.sent;
  rest = front.rest ++ more;
  all = ap (λ t. t ++ more) front.all ∙ append_assoc front.sent front.rest more;
  some = omega (arith, length-append front.rest more, front.some);
  took = front.took;
}

-- what waited is sent, and more text is put
pub puts_flushed : (before between now : Option (List ℕ)) (waited waits text : List ℕ)
    → Takes before between waited → Puts between now [] waits text
    → Puts before now waited waits text
puts_flushed before between now waited waits text took puts = record {
  sent = waited ++ puts.sent;
  all = ap (λ t. waited ++ t) puts.all ∙ sym (append_assoc waited puts.sent waits);
  took = Takes-trans before between now waited puts.sent took puts.took;
}

-- the same, and the sink fails meanwhile
pub front_flushed : (before between now : Option (List ℕ)) (waited text : List ℕ)
    → Takes before between waited → TakesFront between now text
    → TakesFront before now (waited ++ text)
front_flushed before between now waited text took front =
    front_behind before between now waited text (waited ++ text) refl took front

-- no text is put
pub puts_none : (now : Option (List ℕ)) (waits : List ℕ) → Puts now now waits waits []
puts_none now waits = record { sent = []; all = append-nil waits; took = Takes-nil now }

-- some text is put behind other text
pub puts_then : {before between now : Option (List ℕ)} {waited wait waits : List ℕ}
    (text more : List ℕ) → Puts before between waited wait text → Puts between now wait waits more
    → Puts before now waited waits (text ++ more)
puts_then {before} {between} {now} {waited} {wait} {waits} text more first next = record {
  sent = first.sent ++ next.sent;
  all = sym (append_assoc waited text more) ∙ ap (λ t. t ++ more) first.all
      ∙ append_assoc first.sent wait more ∙ ap (λ t. first.sent ++ t) next.all
      ∙ sym (append_assoc first.sent next.sent waits);
  took = Takes-trans before between now first.sent next.sent first.took next.took;
}

-- the sink fails while some text is put behind other text, and the rest isn't
pub front_then : {before between now : Option (List ℕ)} {waited wait : List ℕ}
    (text more rest : List ℕ) → Puts before between waited wait text
    → TakesFront between now (wait ++ more) → TakesFront before now (waited ++ (text ++ (more ++ rest)))
front_then {before} {between} {now} {waited} {wait} text more rest first next =
    let all : (first.sent ++ (wait ++ more)) ++ rest ≡ waited ++ (text ++ (more ++ rest)) =
    ap (λ t. t ++ rest) (sym (append_assoc first.sent wait more)
    ∙ ap (λ t. t ++ more) (sym first.all) ∙ append_assoc waited text more)
    ∙ append_assoc waited (text ++ more) rest ∙ ap (λ t. waited ++ t) (append_assoc text more rest) in
    subst (TakesFront before now) all
    (front_more before now (first.sent ++ (wait ++ more)) rest
    (front_flushed before between now first.sent (wait ++ more) first.took next))

-- a first text is put
pub puts_first : {before now : Option (List ℕ)} {waited waits : List ℕ} (text : List ℕ)
    → Puts before now waited waits text → Puts before now waited waits (concat (text ∷ []))
puts_first {before} {now} {waited} {waits} text puts =
    subst (Puts before now waited waits) (sym (append-nil text)) puts

-- one text more is put
pub puts_next : {before between now : Option (List ℕ)} {waited wait waits : List ℕ}
    (texts : List (List ℕ)) (text : List ℕ) → Puts before between waited wait (concat texts)
    → Puts between now wait waits text → Puts before now waited waits (concat (texts ++ text ∷ []))
puts_next {before} {between} {now} {waited} {wait} {waits} texts text first next =
    subst (Puts before now waited waits) (sym (concat-append texts (text ∷ [])
    ∙ ap (λ t. concat texts ++ t) (append-nil text))) (puts_then (concat texts) text first next)

-- the sink fails while one text more is put, and the others aren't
pub front_next : {before between now : Option (List ℕ)} {waited wait : List ℕ}
    (texts : List (List ℕ)) (text : List ℕ) (others : List (List ℕ))
    → Puts before between waited wait (concat texts) → TakesFront between now (wait ++ text)
    → TakesFront before now (waited ++ concat (texts ++ text ∷ others))
front_next {before} {between} {now} {waited} {wait} texts text others first next =
    subst (λ t. TakesFront before now (waited ++ t)) (sym (concat-append texts (text ∷ others)))
    (front_then (concat texts) text (concat others) first next)

-- the digits of bytes behind other bytes
hex-append : (bytes more : List ℕ)
    → encode_lower (bytes ++ more) ≡ encode_lower bytes ++ encode_lower more
unfolding encode_with
hex-append [] more = refl
hex-append (byte ∷ bytes) more =
    ap (λ t. slice_index lower_digits (byte / 16) ∷ slice_index lower_digits (byte % 16) ∷ t)
    (hex-append bytes more)

hex-nil : encode_lower [] ≡ []
unfolding encode_with
hex-nil = refl

-- the bytes before those that are left were put in hexadecimal
pub record IsPutTo (before now : Option (List ℕ)) (waited waits bytes left : List ℕ) : Type 0 where
  pub done : List ℕ
  pub all : bytes ≡ done ++ left
  pub puts : Puts before now waited waits (encode_lower done)

pub put_to-none : (now : Option (List ℕ)) (waits bytes : List ℕ)
    → IsPutTo now now waits waits bytes bytes
put_to-none now waits bytes = record {
  done = [];
  all = refl;
  puts = subst (Puts now now waits waits) (sym hex-nil) (puts_none now waits);
}

pub put_to-next : {before between now : Option (List ℕ)} {waited wait waits bytes left : List ℕ}
    (n : ℕ) (front behind : List ℕ) → front ≡ take n left → behind ≡ drop n left
    → IsPutTo before between waited wait bytes left → Puts between now wait waits (encode_lower front)
    → IsPutTo before now waited waits bytes behind
put_to-next {before} {between} {now} {waited} {wait} {waits} {bytes} {left} n front behind front_is behind_is is next = record {
  done = is.done ++ front;
  all = is.all ∙ ap (λ t. is.done ++ t) (sym (ap (λ t. t ++ behind) front_is
      ∙ ap (λ t. take n left ++ t) behind_is ∙ take-append-drop n left))
      ∙ sym (append_assoc is.done front behind);
  puts = subst (Puts before now waited waits) (sym (hex-append is.done front))
      (puts_then (encode_lower is.done) (encode_lower front) is.puts next);
}

pub put_to-front : {before between now : Option (List ℕ)} {waited wait bytes left : List ℕ}
    (n : ℕ) (front : List ℕ) → front ≡ take n left
    → IsPutTo before between waited wait bytes left
    → TakesFront between now (wait ++ encode_lower front)
    → TakesFront before now (waited ++ encode_lower bytes)
put_to-front {before} {between} {now} {waited} {wait} {bytes} {left} n front front_is is next =
    let all : encode_lower is.done ++ (encode_lower front ++ encode_lower (drop n left))
    ≡ encode_lower bytes =
    ap (λ t. encode_lower is.done ++ t) (sym (hex-append front (drop n left))
    ∙ ap (λ f. encode_lower (f ++ drop n left)) front_is
    ∙ ap encode_lower (take-append-drop n left)) ∙ sym (hex-append is.done left)
    ∙ ap encode_lower (sym is.all) in
    subst (λ t. TakesFront before now (waited ++ t)) all
    (front_then (encode_lower is.done) (encode_lower front) (encode_lower (drop n left)) is.puts next)

-- a front that isn't all is a front
pub some_front : (before now : Option (List ℕ)) (text : List ℕ) → TakesFront before now text
    → TakesSome before now text
some_front before now text front = record {
  sent = front.sent;
  rest = front.rest;
  all = front.all;
  took = front.took;
}

-- nothing is sent
pub some_none : (before now : Option (List ℕ)) (text : List ℕ) → Takes before now []
    → TakesSome before now text
some_none before now text none = record { sent = []; rest = text; all = refl; took = none }

-- all is sent
pub some_all : {before now : Option (List ℕ)} {waits text : List ℕ} → Puts before now [] waits text
    → TakesSome before now text
some_all {before} {now} {waits} {text} puts = record {
  sent = puts.sent;
  rest = waits;
  all = puts.all;
  took = puts.took;
}

-- some of the next text is sent, and the others aren't put
pub some_next : {before between now : Option (List ℕ)} {waited wait : List ℕ}
    (texts : List (List ℕ)) (text : List ℕ) (others : List (List ℕ))
    → Puts before between waited wait (concat texts) → TakesSome between now (wait ++ text)
    → TakesSome before now (waited ++ concat (texts ++ text ∷ others))
some_next {before} {between} {now} {waited} {wait} texts text others first next = record {
  sent = first.sent ++ next.sent;
  rest = next.rest ++ concat others;
  all = ap (λ t. waited ++ t) (concat-append texts (text ∷ others))
      ∙ sym (append_assoc waited (concat texts) (text ++ concat others))
      ∙ ap (λ t. t ++ (text ++ concat others)) first.all
      ∙ append_assoc first.sent wait (text ++ concat others)
      ∙ ap (λ t. first.sent ++ t) (sym (append_assoc wait text (concat others))
      ∙ ap (λ t. t ++ concat others) next.all ∙ append_assoc next.sent next.rest (concat others))
      ∙ sym (append_assoc first.sent next.sent (next.rest ++ concat others));
  took = Takes-trans before between now first.sent next.sent first.took next.took;
}
