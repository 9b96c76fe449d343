-- Lemmas on replies on their way to a sink.
use Rattle.std.proofs.Common.{◌≡◌, ℕ, zero, suc, ◌+◌, ◌-◌, ◌<◌, ◌≤◌, Bool, true, eqb}
use Rattle.std.proofs.Common.{List, [], ◌∷◌, ◌++◌, length, take, drop, reverse, Option, None}
use Rattle.std.proofs.Common.{Some, IsSome, is_some, ◌↔◌, inl, inr, refl, sym, ap, subst, ◌∙◌}
use Rattle.std.proofs.Common.{arith, append_assoc, length-append}
use Rattle.std.specs.Option.{option_to_list}
use Rattle.std.specs.List.{AllByRecursion, flat_map}
use Rattle.std.proofs.lemmas.Bool.{cases_lt, eq-eqb, ne_eqb}
use Rattle.std.proofs.lemmas.Bool.{false≢true}
use Rattle.std.proofs.lemmas.Grind.{flat_map-append}
use Rattle.std.proofs.lemmas.List.{append-nil, take-append-drop, take-append-le, length-drop}
use Rattle.std.proofs.lemmas.List.{drop-append-le, drop_at, drop_all, drop-drop, reverse-append}
use Rattle.std.proofs.Math.Seq.{take-append-add}
use Rattle.kv_base.specs.declared.reply.Reply.{Reply}
use Rattle.kv_base.specs.Pieces.{AreEnds, IsUpTo}
use Rattle.kv_model.specs.Frames.{reply_frame}
use Rattle.kv_model.specs.Transcript.{GoesOut, IsPart}
use Rattle.kv_session.specs.Outgoing.{Framed, ends_from, HoldsFrames, AddsFrame, HoldsFirst}
use Rattle.kv_session.specs.Outgoing.{HaveGone, Sends}

-- the frames of the replies, one behind the other
abbrev pub frames_of : List Reply → List ℕ
frames_of replies = flat_map reply_frame replies

-- ---- frames in the buffer

-- a frame has bytes
frame_some : (reply : Reply) → 4 ≤ length (reply_frame reply)
frame_some reply = omega arith

-- one frame more ends behind the others
ends_from-more : (from : ℕ) (replies : List Reply) (reply : Reply)
    → ends_from from (replies ++ reply ∷ []) ≡ ends_from from replies
    ++ (from + length (frames_of replies) + length (reply_frame reply)) ∷ []
ends_from-more from [] reply =
    let at : from + length (reply_frame reply) ≡ from + 0 + length (reply_frame reply) =
    omega arith in
    ap (λ (end : ℕ). end ∷ []) at
ends_from-more from (first ∷ replies) reply =
    let size : ℕ = length (reply_frame first) in
    let all = length-append (reply_frame first) (frames_of replies) in
    let at : from + size + length (frames_of replies) + length (reply_frame reply)
    ≡ from + length (frames_of (first ∷ replies)) + length (reply_frame reply) =
    omega (arith, all) in
    ap (λ (ends : List ℕ). (from + size) ∷ ends) (ends_from-more (from + size) replies reply
    ∙ ap (λ (end : ℕ). ends_from (from + size) replies ++ end ∷ []) at)

-- one frame more
pub HoldsFrames-more : (old new : Framed) (replies : List Reply) (reply : Reply)
    → HoldsFrames old replies → AddsFrame true old new reply
    → HoldsFrames new (replies ++ reply ∷ [])
HoldsFrames-more old new replies reply holds adds =
    let size : ℕ = length (reply_frame reply) in
    let at : length (frames_of replies) + size ≡ 0 + length (frames_of replies) + size =
    omega arith in record {
      bytes = adds.0 ∙ ap (λ (bytes : List ℕ). bytes ++ reply_frame reply) holds.bytes
          ∙ ap (λ (frame : List ℕ). frames_of replies ++ frame)
          (sym (append-nil (reply_frame reply)))
          ∙ sym (flat_map-append reply_frame replies (reply ∷ []));
      ends = adds.1
          ∙ ap (λ (ends : List ℕ). ends ++ (length old.bytes + length (reply_frame reply)) ∷ [])
          holds.ends
          ∙ ap (λ (bytes : List ℕ). ends_from 0 replies ++ (length bytes + size) ∷ []) holds.bytes
          ∙ ap (λ (end : ℕ). ends_from 0 replies ++ end ∷ []) at
          ∙ sym (ends_from-more 0 replies reply);
    }

-- there is one end for each reply
pub length-ends_from : (from : ℕ) (replies : List Reply)
    → length (ends_from from replies) ≡ length replies
length-ends_from from [] = refl
length-ends_from from (reply ∷ replies) =
    ap suc (length-ends_from (from + length (reply_frame reply)) replies)

pub HoldsFrames-length : (framed : Framed) (replies : List Reply) → HoldsFrames framed replies
    → length framed.ends ≡ length replies
HoldsFrames-length framed replies holds =
    ap (λ (ends : List ℕ). length ends) holds.ends ∙ length-ends_from 0 replies

-- the frames are pieces
pub are_ends : (from : ℕ) (replies : List Reply) (size : ℕ)
    → size ≡ from + length (frames_of replies) → AreEnds from (ends_from from replies) size
are_ends from [] size is = omega (arith, is)
are_ends from (reply ∷ replies) size is =
    let some = frame_some reply in
    let all = length-append (reply_frame reply) (frames_of replies) in (
      omega (arith, some),
      omega (arith, is, all),
      are_ends (from + length (reply_frame reply)) replies size (omega (arith, is, all)),
    )

-- ---- what a sink took of the pieces

up_to-low : (from : ℕ) (replies : List Reply) (whole sent : ℕ)
    → IsUpTo from (ends_from from replies) whole sent → from ≤ sent
up_to-low from [] zero sent up_to = omega (arith, up_to)
up_to-low from [] (suc whole) sent up_to = absurd up_to
up_to-low from (reply ∷ replies) zero sent up_to = up_to.0
up_to-low from (reply ∷ replies) (suc whole) sent up_to =
    let low = up_to-low (from + length (reply_frame reply)) replies whole sent up_to in
    omega (arith, low)

take-nothing : (n : ℕ) → take {A = ℕ} n [] ≡ []
take-nothing zero = refl
take-nothing (suc n) = refl

-- the front of a frame and others is that frame, where it reaches so far, and a front of the others
front_behind : (frame rest front : List ℕ) (n more : ℕ) → n ≡ length frame + more
    → take more rest ≡ front → take n (frame ++ rest) ≡ frame ++ front
front_behind frame rest front n more is behind =
    ap (λ (k : ℕ). take k (frame ++ rest)) is ∙ take-append-add frame rest more
    ∙ ap (λ (bytes : List ℕ). frame ++ bytes) behind

-- a front of a frame that isn't all of it is a part of it
front_part : (frame rest : List ℕ) (n : ℕ) → n < length frame
    → frame ≡ take n (frame ++ rest) ++ drop n frame
front_part frame rest n less =
    sym (take-append-drop n frame)
    ∙ ap (λ (bytes : List ℕ). bytes ++ drop n frame)
    (sym (take-append-le n frame rest (omega (arith, less))))

-- so many pieces that were taken whole, and a part of the next one, are replies that went out
pub goes_out : (from : ℕ) (replies : List Reply) (whole sent n : ℕ)
    → IsUpTo from (ends_from from replies) whole sent → sent ≡ from + n
    → GoesOut replies (take n (frames_of replies)) (drop whole replies)
goes_out from [] zero sent n up_to is = ([], [], refl, take-nothing n, refl)
goes_out from [] (suc whole) sent n up_to is = absurd up_to
goes_out from (reply ∷ replies) zero sent n up_to is =
    let frame : List ℕ = reply_frame reply in
    let rest : List ℕ = frames_of replies in
    let less : n < length frame = omega (arith, up_to.1, is) in (
      [],
      take n (frame ++ rest),
      refl,
      refl,
      (drop n frame, omega (arith, length-drop n frame, less), front_part frame rest n less),
    )
goes_out from (reply ∷ replies) (suc whole) sent n up_to is =
    let frame : List ℕ = reply_frame reply in
    let size : ℕ = length frame in
    let rest : List ℕ = frames_of replies in
    let low = up_to-low (from + size) replies whole sent up_to in
    let next = goes_out (from + size) replies whole sent (n - size) up_to
    (omega (arith, low, is)) in (
      reply ∷ next.0,
      next.1,
      ap (λ (replies : List Reply). reply ∷ replies) next.2,
      front_behind frame rest (frames_of next.0 ++ next.1) n (n - size) (omega (arith, low, is))
          next.3 ∙ sym (append_assoc frame (frames_of next.0) next.1),
      next.4,
    )

-- ---- what is left

-- a part of the next reply is so whatever follows
IsPart-more : (part : List ℕ) (left others : List Reply) → 1 ≤ length left → IsPart part left
    → IsPart part (left ++ others)
IsPart-more part [] others some is = absurd (omega (arith, some))
IsPart-more part (reply ∷ left) others some is = is

-- the sink failed within the first replies
GoesOut-more : (replies others left : List Reply) (given : List ℕ) → 1 ≤ length left
    → GoesOut replies given left → GoesOut (replies ++ others) given (left ++ others)
GoesOut-more replies others left given some p = (
  p.0,
  p.1,
  ap (λ (all : List Reply). all ++ others) p.2 ∙ append_assoc p.0 left others,
  p.3,
  IsPart-more p.1 left others some p.4,
)

-- replies that went out with nothing left went out whole
pub gone_whole : (replies : List Reply) (given : List ℕ) → GoesOut replies given []
    → given ≡ frames_of replies
gone_whole replies given p =
    p.3 ∙ ap (λ (part : List ℕ). frames_of p.0 ++ part) p.4 ∙ append-nil (frames_of p.0)
    ∙ ap frames_of (sym (append-nil p.0) ∙ sym p.2)

-- what the sink took of the frames in the buffer
pub Sends-made : (framed : Framed) (replies left : List Reply) (given : List ℕ) (whole : ℕ)
    (holds : HoldsFirst framed replies) → 1 ≤ length replies → whole ≤ length framed.ends
    → GoesOut holds.first given (drop whole holds.first) → left ≡ drop whole replies
    → Sends (eqb whole (length framed.ends)) replies given left
Sends-made framed replies left given whole holds some most goes is =
    let count = HoldsFrames-length framed holds.first holds.holds in
    let all = ap (λ (rs : List Reply). length rs) holds.parts
    ∙ length-append holds.first holds.others in
    elim (cases_lt whole (length framed.ends)) [
      | inl lt ↦
          let rest = length-drop whole holds.first in
          let left_is : left ≡ drop whole holds.first ++ holds.others =
          is ∙ ap (λ (rs : List Reply). drop whole rs) holds.parts
          ∙ drop-append-le whole holds.first holds.others (omega (arith, most, count)) in
          let some_left : 1 ≤ length (drop whole holds.first) = omega (arith, rest, lt, count) in
          let gone = GoesOut-more holds.first holds.others (drop whole holds.first) given some_left
          goes in
          subst (λ (b : Bool). Sends b replies given left)
          (sym (ne_eqb whole (length framed.ends) (λ e. absurd (omega (arith, e, lt))))) (
            subst (λ (rs : List Reply). GoesOut rs given left) (sym holds.parts)
                (subst (λ (rs : List Reply). GoesOut (holds.first ++ holds.others) given rs)
                (sym left_is) gone),
            omega (
              arith,
              some_left,
              ap (λ (rs : List Reply). length rs) left_is,
              length-append (drop whole holds.first) holds.others,
            ),
          )
      | inr ge ↦
          let same : whole ≡ length holds.first = omega (arith, ge, most, count) in
          let left_is : left ≡ holds.others =
          is ∙ ap (λ (rs : List Reply). drop whole rs) holds.parts
          ∙ drop_at holds.first holds.others whole (sym same) in
          let none : drop whole holds.first ≡ [] =
          drop_all whole holds.first (omega (arith, same)) in
          subst (λ (b : Bool). Sends b replies given left)
          (sym (eq-eqb whole (length framed.ends) (omega (arith, ge, most)))) (
            record {
              out = holds.first;
              parts = holds.parts ∙ ap (λ (rs : List Reply). holds.first ++ rs) (sym left_is);
              gave = gone_whole holds.first given
                  (subst (λ (rs : List Reply). GoesOut holds.first given rs) none goes);
            },
            omega (
              arith,
              all,
              holds.some some,
              ap (λ (rs : List Reply). length rs) left_is,
            ),
          )
    ]

-- replies have gone, and then more
pub HaveGone-trans : (replies mid left : List Reply) (given next : List ℕ)
    → HaveGone replies given mid → HaveGone mid next left → HaveGone replies (given ++ next) left
HaveGone-trans replies mid left given next p q = record {
  out = p.out ++ q.out;
  parts = p.parts ∙ ap (λ (rs : List Reply). p.out ++ rs) q.parts
      ∙ sym (append_assoc p.out q.out left);
  gave = ap (λ (bytes : List ℕ). bytes ++ next) p.gave
      ∙ ap (λ (bytes : List ℕ). frames_of p.out ++ bytes) q.gave
      ∙ sym (flat_map-append reply_frame p.out q.out);
}

-- replies have gone, and the sink failed within the others
pub HaveGone-goes : (replies mid left : List Reply) (given next : List ℕ)
    → HaveGone replies given mid → GoesOut mid next left → GoesOut replies (given ++ next) left
HaveGone-goes replies mid left given next p q = (
  p.out ++ q.0,
  q.1,
  p.parts ∙ ap (λ (rs : List Reply). p.out ++ rs) q.2 ∙ sym (append_assoc p.out q.0 left),
  ap (λ (bytes : List ℕ). bytes ++ next) p.gave
      ∙ ap (λ (bytes : List ℕ). frames_of p.out ++ bytes) q.3
      ∙ sym (append_assoc (frames_of p.out) (frames_of q.0) q.1)
      ∙ ap (λ (bytes : List ℕ). bytes ++ q.1) (sym (flat_map-append reply_frame p.out q.0)),
  q.4,
)

-- what holds of each of all replies holds of each that is left
pub All-behind : {X : Type 0} (P : X → Type 0) (first others : List X)
    → AllByRecursion P (first ++ others) → AllByRecursion P others
All-behind P [] others all = all
All-behind P (x ∷ first) others all = All-behind P first others all.1

-- ---- the list from its end

-- the last element is the first of the reverse
pub reverse-last : {X : Type 0} (xs : List X) (x : X) → reverse (xs ++ x ∷ []) ≡ x ∷ reverse xs
reverse-last xs x = reverse-append xs (x ∷ [])

-- one more is taken off
pub take_off-more : {X : Type 0} (first : List X) (n : ℕ) (xs ys : List X) (last : Option X)
    → xs ≡ ys ++ option_to_list last → IsSome last ↔ (0 < length xs)
    → reverse xs ≡ drop n first → n < length first
    → length xs + n ≡ length first
    → (reverse ys ≡ drop (n + 1) first) × (is_some last ≡ true) × (length ys + 1 ≡ length xs)
take_off-more first n xs ys None is some at lt size =
    absurd (false≢true (some.1 (omega (arith, lt, size))))
take_off-more {X = X} first n xs ys (Some x) is some at lt size = (
  ap (λ (zs : List X). drop 1 zs) (sym (ap (λ (zs : List X). reverse zs) is ∙ reverse-last ys x)
      ∙ at) ∙ drop-drop 1 n first,
  refl,
  omega (arith, ap (λ (zs : List X). length zs) is, length-append ys (x ∷ [])),
)
