-- Lemmas on a length and as many bytes of content.
use Rattle.std.proofs.Common.{◌≡◌, ℕ, ◌+◌, ◌^◌, ◌<◌, ◌≤◌, List, ◌++◌, length, get_or, take, drop}
use Rattle.std.proofs.Common.{refl, sym, ap, subst, ◌∙◌, arith, inl, inr}
use Rattle.std.specs.Int.{w32, to_le_bytes, from_le_bytes}
use Rattle.std.proofs.lemmas.Bool.{cases_lt}
use Rattle.std.proofs.lemmas.List.{take_at, drop_at, take-append-drop, drop-drop, length-append}
use Rattle.std.proofs.lemmas.List.{length-take, length-drop, length-take-le, get_or-drop}
use Rattle.std.proofs.lemmas.List.{get_or-take, get_or_past}
use Rattle.std.proofs.lemmas.Nat.{le_bytes_4, from_le_bytes-to_le_bytes_4}
use Rattle.kv_model.specs.Frames.{framed, stated_length, longest_content}
use Rattle.kv_frames.specs.Cut.{BeginsWithContent}

-- each element is a byte
abbrev pub IsBytes : List ℕ → Type 0
IsBytes bytes = (i : ℕ) → get_or bytes i 0 < 256

pub IsBytes-drop : (n : ℕ) (bytes : List ℕ) → IsBytes bytes → IsBytes (drop n bytes)
IsBytes-drop n bytes fits i = rw get_or-drop (fits (n + i))

pub IsBytes-take : (n : ℕ) (bytes : List ℕ) → IsBytes bytes → IsBytes (take n bytes)
IsBytes-take n bytes fits i =
    elim (cases_lt i n) [
      | inl lt ↦ rw (get_or-take n bytes i 0 lt) (fits i)
      | inr le ↦ rw (get_or_past (take n bytes) i 0 (omega (arith, length-take n bytes)))
          (omega arith)
    ]

-- frames that begin equal bytes have one content, and one rest is left
pub framed_once : (a b x y : List ℕ) → length a < 2 ^ 32 → length b < 2 ^ 32
    → framed a ++ x ≡ framed b ++ y → (a ≡ b) × (x ≡ y)
framed_once a b x y a_fits b_fits e =
    let stated = ap (λ (bytes : List ℕ). from_le_bytes w32 (take 4 bytes)) e in
    let a_is = from_le_bytes-to_le_bytes_4 (length a) a_fits in
    let b_is = from_le_bytes-to_le_bytes_4 (length b) b_fits in
    let same : length a ≡ length b = sym a_is ∙ stated ∙ b_is in
    let behind : a ++ x ≡ b ++ y = ap (λ (bytes : List ℕ). drop 4 bytes) e in
    let fronts = ap (λ (bytes : List ℕ). take (length a) bytes) behind in
    let rests = ap (λ (bytes : List ℕ). drop (length a) bytes) behind in (
      sym (take_at a x (length a) refl) ∙ fronts ∙ take_at b y (length a) (sym same),
      sym (drop_at a x (length a) refl) ∙ rests ∙ drop_at b y (length a) (sym same),
    )

-- a frame states the length of its content
pub stated_length-framed : (content rest bytes : List ℕ) → length content < 2 ^ 32
    → bytes ≡ framed content ++ rest → stated_length bytes ≡ length content
stated_length-framed content rest bytes fits parts =
    ap (λ (b : List ℕ). stated_length b) parts ∙ from_le_bytes-to_le_bytes_4 (length content) fits

-- as many bytes as the length states are the content
pub content_here : (bytes : List ℕ) (n : ℕ) → IsBytes bytes → n ≡ stated_length bytes → 1 ≤ n
    → n ≤ longest_content → 4 + n ≤ length bytes → BeginsWithContent bytes (take n (drop 4 bytes))
content_here bytes n fits is some most long =
    let rest = drop 4 bytes in
    let size : length (take n rest) ≡ n =
    length-take-le n rest (omega (arith, length-drop 4 bytes)) in
    let four : length (take 4 bytes) ≡ 4 = length-take-le 4 bytes (omega arith) in
    let front : to_le_bytes w32 n ≡ take 4 bytes =
    le_bytes_4 (take 4 bytes) n four (IsBytes-take 4 bytes fits) is in
    let behind : rest ≡ take n rest ++ drop (4 + n) bytes =
    sym (take-append-drop n rest) ∙ ap (λ (b : List ℕ). take n rest ++ b) (drop-drop n 4 bytes) in
    let whole : bytes ≡ to_le_bytes w32 n ++ (take n rest ++ drop (4 + n) bytes) =
    sym (take-append-drop 4 bytes) ∙ ap (λ (b : List ℕ). b ++ rest) (sym front)
    ∙ ap (λ (b : List ℕ). to_le_bytes w32 n ++ b) behind in
    let Parts : ℕ → Type 0 = λ k. bytes ≡ to_le_bytes w32 k
    ++ (take n rest ++ drop (4 + k) bytes) in
    record { some = omega arith; most = omega arith; parts = subst Parts (sym size) whole }

-- the content's elements are bytes where those of the whole are
pub IsBytes-content : (bytes content : List ℕ) → IsBytes bytes → BeginsWithContent bytes content
    → IsBytes content
IsBytes-content bytes content fits begins =
    let n = length content in
    let there = ap (λ (b : List ℕ). take n (drop 4 b)) begins.parts in
    let is : take n (drop 4 bytes) ≡ content = there
    ∙ take_at content (drop (4 + n) bytes) n refl in
    subst (λ (b : List ℕ). IsBytes b) is (IsBytes-take n (drop 4 bytes) (IsBytes-drop 4 bytes fits))

-- the content is all there
pub content_within : (bytes content : List ℕ) → BeginsWithContent bytes content
    → 4 + length content ≤ length bytes
content_within bytes content begins =
    let rest = drop (4 + length content) bytes in
    let size : length (framed content ++ rest) ≡ 4 + (length content + length rest) =
    omega (arith, length-append content rest) in
    omega (arith, ap (λ (b : List ℕ). length b) begins.parts, size)
