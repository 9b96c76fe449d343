-- Lemmas on the bytes that a session takes.
use Rattle.std.proofs.Common.{◌≡◌, ℕ, ◌+◌, ◌≤◌, take, drop, false, List, ◌++◌, length, Option}
use Rattle.std.proofs.Common.{refl, sym, ap, subst, ◌∙◌, arith, append_assoc, length-append}
use Rattle.std.proofs.lemmas.List.{take_at, drop_at, take-take, take-append-drop}
use Rattle.std.proofs.lemmas.List.{take-append-le, drop-take, drop-append-le, length-take-le}
use Rattle.std.proofs.lemmas.List.{length-take, length-drop}
use Rattle.kv_base.specs.Stream.{Stream}
use Rattle.kv_base.proofs.StreamLemmas.{Passes-trans}
use Rattle.kv_model.specs.Frames.{BeginsWithNoRequest, IsMalformed}
use Rattle.kv_session.specs.Reading.{ReaderState, Arrives, NeedsMore, StaysDecided}

-- bytes arrived, and then more
pub Arrives-trans : {a b c : Option Stream} {x y z : List ℕ} {k m n : ℕ} → Arrives a b x y k m
    → Arrives b c y z m n → Arrives a c x z k n
Arrives-trans {a = a} {b = b} {c = c} {x = x} p q = record {
  bytes = p.bytes ++ q.bytes;
  passed = Passes-trans a b c p.bytes q.bytes p.passed q.passed;
  behind = q.behind ∙ ap (λ (waiting : List ℕ). waiting ++ q.bytes) p.behind
      ∙ append_assoc x p.bytes q.bytes;
  counted = omega (arith, q.counted, p.counted, length-append p.bytes q.bytes);
}

-- a reader that needed more bytes stayed as it was only where nothing was decided
pub StaysDecided-more : {So : Type 0} {old mid new : ReaderState So} → StaysDecided old mid
    → NeedsMore mid.waiting mid.ended mid.taken → StaysDecided old new
StaysDecided-more {So = So} stays more = record {
  front = λ h.
      let none = subst (λ (r : ReaderState So). BeginsWithNoRequest r.waiting) (stays.front h)
      more.undecided.none in
      absurd (none h.request h.rest h.begins);
  bad = λ h.
      let good = subst (λ (r : ReaderState So). IsMalformed r.waiting → ⊥) (stays.bad h)
      more.undecided.good in
      absurd (good h);
  ended = λ h.
      let goes_on = subst (λ (r : ReaderState So). r.ended ≡ false) (stays.ended h)
      more.undecided.goes_on in
      absurd cc;
}

-- the bytes up to m + n of two lists, where the first has m
take_into : (xs ys : List ℕ) (m n : ℕ) → length xs ≡ m
    → take (m + n) (xs ++ ys) ≡ xs ++ take n ys
take_into xs ys m n e =
    sym (take-append-drop m (take (m + n) (xs ++ ys)))
    ∙ rw (
      take-take m (m + n) (xs ++ ys) (omega arith),
      drop-take m n (xs ++ ys),
      take_at xs ys m e,
      drop_at xs ys m e,
    ) refl

-- the bytes of a window after a read behind them
window_grows : (start end n : ℕ) (buffer front behind : List ℕ) → start ≤ end
    → end ≤ length buffer → n ≤ length front
    → drop start (take (end + n) (take end buffer ++ (front ++ behind))) ≡ drop start
    (take end buffer) ++ take n front
window_grows start end n buffer front behind order within fits =
    let size : length (take end buffer) ≡ end = length-take-le end buffer within in
    rw (
      take_into (take end buffer) (front ++ behind) end n size,
      take-append-le n front behind
          fits,
    )
    (drop-append-le start (take end buffer) (take n front) (omega arith))

-- the same, where the window's bytes and what its buffer holds now are known
pub window_is : (start end n : ℕ) (items buffer front behind now : List ℕ)
    → items ≡ take end buffer ++ (front ++ behind) → drop start (take end buffer) ≡ now
    → start ≤ end → end ≤ length buffer → n ≤ length front
    → drop start (take (end + n) items) ≡ now ++ take n front
window_is start end n items buffer front behind now e was order within fits =
    rw (e, ← was) (window_grows start end n buffer front behind order within fits)

-- a read into a part of a buffer leaves its length
pub length-written : (end k : ℕ) (buffer front : List ℕ)
    → length front ≡ length (take k (drop end buffer))
    → length (take end buffer ++ (front ++ drop k (drop end buffer))) ≡ length buffer
length-written end k buffer front e =
    omega (
      arith,
      e,
      length-append (take end buffer) (front ++ drop k (drop end buffer)),
      length-append front (drop k (drop end buffer)),
      length-take end buffer,
      length-take k
          (drop end buffer),
      length-drop end buffer,
      length-drop k (drop end buffer),
    )
