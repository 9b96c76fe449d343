-- Lemmas on contents that are written and read: those of requests and those of replies.
use Rattle.std.proofs.Common.{◌≡◌, ℕ, ◌+◌, ◌^◌, ◌<◌, ◌≤◌, List, ◌++◌, length, drop, Option, Some}
use Rattle.std.proofs.Common.{Bool, true, false, cond, ◌⊎◌, inl, inr, refl, sym, ap, ◌∙◌, arith}
use Rattle.std.proofs.lemmas.List.{length-append}
use Rattle.kv_model.specs.Frames.{framed, longest_content, IsPartial}
use Rattle.kv_frames.specs.Cut.{BeginsWithContent, IsOutOfRange}
use Rattle.kv_frames.proofs.FramingLemmas.{IsBytes, IsBytes-content, framed_once}
use Rattle.kv_frames.proofs.FramingLemmas.{stated_length-framed}

-- contents of values: how they are written, which values have one, and how they are read
pub record IsCode (V : Type 0) (content : V → List ℕ) (Has : V → Type 0) (read : List ℕ
    → Option V) : Type 0 where
  pub again : (v : V) → Has v → read (content v) ≡ Some v
  pub back : (bytes : List ℕ) (v : V) → IsBytes bytes → read bytes ≡ Some v
      → Has v × (content v ≡ bytes)
  pub some : (v : V) → 1 ≤ length (content v)

-- the bytes begin with a frame of the value
pub record Begins (V : Type 0) (content : V → List ℕ) (Has : V → Type 0) (bytes : List ℕ) (v : V)
    (rest : List ℕ) : Type 0 where
  pub body : Has v
  pub size : length (content v) ≤ longest_content
  pub parts : bytes ≡ framed (content v) ++ rest

-- values whose frames begin equal bytes are equal, and one rest is left
pub begins_once : {V : Type 0} {content : V → List ℕ} {Has : V → Type 0} {read : List ℕ → Option V}
    (code : IsCode V content Has read) (bytes : List ℕ) (v w : V) (x y : List ℕ)
    → Begins V content Has bytes v x → Begins V content Has bytes w y → (v ≡ w) × (x ≡ y)
begins_once {content = content} {read = read} code bytes v w x y p q =
    let v_fits : length (content v) < 2 ^ 32 = omega (arith, p.size) in
    let w_fits : length (content w) < 2 ^ 32 = omega (arith, q.size) in
    let once = framed_once (content v) (content w) x y v_fits w_fits (sym p.parts ∙ q.parts) in
    let both : Some v ≡ Some w =
    sym (code.again v p.body) ∙ ap (λ (b : List ℕ). read b) once.0 ∙ code.again w q.body in
    (cc, once.1)

-- a content that is read is the content of the value, and its frame begins the bytes
pub begins_read : {V : Type 0} {content : V → List ℕ} {Has : V → Type 0} {read : List ℕ → Option V}
    (code : IsCode V content Has read) (bytes front : List ℕ) (v : V)
    → IsBytes bytes → BeginsWithContent bytes front → Some v ≡ read front
    → Begins V content Has bytes v (drop (4 + length front) bytes) × (content v ≡ front)
begins_read code bytes front v fits begins is =
    let back = code.back front v (IsBytes-content bytes front fits begins) (sym is) in
    (record { body = back.0; size = rw back.1 begins.most; parts = rw back.1 begins.parts }, back.1)

-- where a frame begins the bytes, the content that is there is read as its value
pub read_found : {V : Type 0} {content : V → List ℕ} {Has : V → Type 0} {read : List ℕ → Option V}
    (code : IsCode V content Has read) (bytes front : List ℕ) (v : V) (rest : List ℕ)
    → BeginsWithContent bytes front → Begins V content Has bytes v rest
    → (read front ≡ Some v) × (length front ≡ length (content v))
read_found {content = content} code bytes front v rest begins p =
    let behind = drop (4 + length front) bytes in
    let front_fits : length front < 2 ^ 32 = omega (arith, begins.most) in
    let v_fits : length (content v) < 2 ^ 32 = omega (arith, p.size) in
    let is = (framed_once front (content v) behind rest front_fits v_fits (sym begins.parts
    ∙ p.parts)).0 in
    (rw is (code.again v p.body), ap (λ (b : List ℕ). length b) is)

-- no frame begins bytes that state a length out of range
pub out_of_range_begins_none : {V : Type 0} {content : V → List ℕ} {Has : V → Type 0} {read : List ℕ
    → Option V}
    (code : IsCode V content Has read) (bytes : List ℕ) (v : V) (rest : List ℕ)
    → IsOutOfRange bytes → Begins V content Has bytes v rest → ⊥
out_of_range_begins_none {content = content} code bytes v rest out p =
    let stated = stated_length-framed (content v) rest bytes (omega (arith, p.size)) p.parts in
    absurd (omega (arith, out.out (rw stated (code.some v)), p.size, stated))

-- no frame begins a part of a frame
pub partial_begins_none : {V : Type 0} {content : V → List ℕ} {Has : V
    → Type 0} (bytes : List ℕ) (v : V) (rest : List ℕ)
    → IsPartial bytes → Begins V content Has bytes v rest → ⊥
partial_begins_none {content = content} bytes v rest partial p =
    let stated = stated_length-framed (content v) rest bytes (omega (arith, p.size)) p.parts in
    let long : 4 + length (content v) ≤ length bytes =
    omega (arith, ap (λ (b : List ℕ). length b) p.parts, length-append (content v) rest) in
    absurd (omega (arith, (partial (omega arith)).2, stated))

-- the choice that was made
pub chosen : {A : Type 0} (b : Bool) (x y z : A)
    → cond b x y ≡ z → ((b ≡ true) × (x ≡ z)) ⊎ ((b ≡ false) × (y ≡ z))
chosen true x y z e = inl (refl, e)
chosen false x y z e = inr (refl, e)
