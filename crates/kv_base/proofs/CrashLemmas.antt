-- How a run of calls of a disk goes on, in the images that a crash may leave at each moment.
use Rattle.std.proofs.Common.{◌≡◌, ℕ, ◌+◌, List, Result, ◌⊎◌, inl, inr, sym, ◌∙◌, subst, subst₂}
use Rattle.std.proofs.Common.{arith}
use Rattle.std.proofs.lemmas.Bool.{cases_lt}
use Rattle.kv_base.specs.Image.{Image, with_page}
use Rattle.kv_base.specs.Crash.{Choices, MayLeave, NoMore, Same, Adds, Advances, LeavesOnly}
use Rattle.kv_base.proofs.ImageLemmas.{one_place, same_image, with_page-at, with_page-here}
use Rattle.kv_base.proofs.ImageLemmas.{with_page-other}

-- the same contents may be left as before, twice over
pub same-trans : (a b c : Choices) → Same a b → Same b c → Same a c
same-trans a b c first next = record {
  no_more = λ f p x later. first.no_more f p x (next.no_more f p x later);
  no_less = λ f p x before. next.no_less f p x (first.no_less f p x before);
}

-- an image that may be left where no more may be left could be left before
pub left-before : (old new : Choices) (image : Image) → NoMore old new → MayLeave new image
    → MayLeave old image
left-before old new image no_more left = λ f p. no_more f p (image f p) (left f p)

-- before the first call
pub started : (now : ℕ) (past : ℕ → Choices) (P : Image → Type 0)
    → ((image : Image) → MayLeave (past now) image → P image) → LeavesOnly now now past past P
started now past P here = record {
  later = omega arith;
  each = λ t above below image left. here image (let at : t ≡ now = omega arith in
      let Q : ℕ → Type 0 = λ n. MayLeave (past n) image in subst Q at left);
  before = λ t le. record { no_more = λ f p c left. left; no_less = λ f p c left. left };
}

-- one call more, after which a crash leaves only what has P
pub goes_on : (from mid to : ℕ) (past between since : ℕ → Choices) (P : Image → Type 0)
    → LeavesOnly from mid past between P → Advances mid to between since
    → ((image : Image) → MayLeave (since to) image → P image) → LeavesOnly from to past since P
goes_on from mid to past between since P so_far call here = record {
  later = omega (arith, so_far.later, call.later);
  each = λ t above below image left. elim (cases_lt mid t) [
    | inl after ↦
        here image (let at : t ≡ to = omega (arith, call.counted) in
        let Q : ℕ → Type 0 = λ n. MayLeave (since n) image in subst Q at left)
    | inr within ↦ so_far.each t above within image (left-before (between t) (since t) image
        (call.same t within).no_more left)
  ];
  before = λ t le. same-trans (past t) (between t) (since t) (so_far.before t le)
      (call.same t (omega (arith, le, so_far.later)));
}

-- one call more, after which no more may be left: a read, a length, a sync, and each failed one of
-- these
pub stays : (from mid to : ℕ) (past between since : ℕ → Choices) (P : Image → Type 0)
    → LeavesOnly from mid past between P → Advances mid to between since
    → NoMore (between mid) (since to) → LeavesOnly from to past since P
stays from mid to past between since P so_far call no_more =
    goes_on from mid to past between since P so_far call (λ image left. so_far.each mid so_far.later
    (omega arith) image (left-before (between mid) (since to) image no_more left))

-- after a write an image that may be left could be left before, or is such a one with the content
-- on the page
pub write_follows : {T E : Type 0} (file page : ℕ) (content : List ℕ) (result : Result T E)
    (old new : Choices) (seen : Image)
    → ((f p : ℕ) (c : List ℕ) → old f p c → MayLeave old seen)
    → Adds file page content result old new
    → (image : Image) → MayLeave new image → MayLeave old image
    ⊎ ((before : Image) × MayLeave old before × (image ≡ with_page before file page content))
write_follows file page content result old new seen told adds image left =
    let elsewhere : (f p : ℕ) → (f ≡ file → p ≡ page → ⊥) → old f p (image f p) =
    λ f p other. elim (adds.no_more f p (image f p) (left f p)) [
      | inl was ↦ was
      | inr put ↦ absurd (other put.0 put.1)
    ] in
    let read : MayLeave old seen = told (file + 1) page (image (file + 1) page)
    (elsewhere (file + 1) page (λ same _. absurd (omega arith))) in
    let at_it : (f p : ℕ) (x : Image) → f ≡ file → p ≡ page → old file page (x file page)
    → old f p (x f p) = λ f p x same_file same_page has.
    (let Q : ℕ → ℕ → Type 0 = λ m n. old m n (x m n) in subst₂ Q (sym same_file) (sym same_page)
    has) in
    elim (adds.no_more file page (image file page) (left file page)) [
      | inl was ↦ inl (λ f p. elim (one_place f p file page) [
        | inl same ↦ at_it f p image same.0 same.1 was
        | inr other ↦ elsewhere f p other
      ])
      | inr put ↦
          let before : Image = with_page image file page (seen file page) in
          inr (
            before,
            (λ f p. elim (one_place f p file page) [
              | inl same ↦
                  at_it f p before same.0 same.1 (let Q : List ℕ → Type 0 = old file page in subst Q
                  (sym (with_page-here image file page (seen file page))) (read file page))
              | inr other ↦ let Q : List ℕ → Type 0 = old f p in
                  subst Q (sym (with_page-other image file page (seen file page) f p other))
                  (elsewhere f p other)
            ]),
            same_image image (with_page before file page content)
                (λ f p. elim (one_place f p file page) [
                  | inl same ↦
                      (let Q : ℕ → ℕ → Type 0 = λ m n. image m n ≡ content in subst₂ Q (sym same.0)
                      (sym same.1) put.2)
                      ∙ sym (with_page-at before file page content f p same.0 same.1)
                  | inr other ↦ sym (with_page-other image file page (seen file page) f p other)
                      ∙ sym (with_page-other before file page content f p other)
                ]),
          )
    ]

-- a write more: what a crash could leave has P once the content is on the page
pub writes : {T E : Type 0} (file page : ℕ) (content : List ℕ) (result : Result T E)
    (from mid to : ℕ) (past between since : ℕ → Choices) (P : Image → Type 0) (seen : Image)
    → ((f p : ℕ) (c : List ℕ) → between mid f p c → MayLeave (between mid) seen)
    → LeavesOnly from mid past between P → Advances mid to between since
    → Adds file page content result (between mid) (since to)
    → ((before : Image) → MayLeave (between mid) before → P (with_page before file page content))
    → LeavesOnly from to past since P
writes file page content result from mid to past between since P seen told so_far call adds
    with_it =
    goes_on from mid to past between since P so_far call
    (λ image left. elim (write_follows file page content result (between mid) (since to) seen
    told adds image left) [
      | inl before ↦ so_far.each mid so_far.later (omega arith) image before
      | inr put ↦ subst P (sym put.2) (with_it put.0 put.1)
    ])

-- a write more, of a page that P allows on each image that has P
pub writes_too : {T E : Type 0} (file page : ℕ) (content : List ℕ) (result : Result T E)
    (from mid to : ℕ) (past between since : ℕ → Choices) (P : Image → Type 0) (seen : Image)
    → ((f p : ℕ) (c : List ℕ) → between mid f p c → MayLeave (between mid) seen)
    → LeavesOnly from mid past between P → Advances mid to between since
    → Adds file page content result (between mid) (since to)
    → ((before : Image) → P before → P (with_page before file page content))
    → LeavesOnly from to past since P
writes_too file page content result from mid to past between since P seen told so_far call adds
    with_it =
    writes file page content result from mid to past between since P seen told so_far call adds
    (λ before left. with_it before (so_far.each mid so_far.later (omega arith) before left))

-- two runs, one behind the other
pub joins : (from mid to : ℕ) (past between since : ℕ → Choices) (P : Image → Type 0)
    → LeavesOnly from mid past between P → LeavesOnly mid to between since P
    → LeavesOnly from to past since P
joins from mid to past between since P first next = record {
  later = omega (arith, first.later, next.later);
  each = λ t above below image left. elim (cases_lt mid t) [
    | inl after ↦ next.each t (omega arith) below image left
    | inr within ↦ first.each t above within image (left-before (between t) (since t) image
        (next.before t within).no_more left)
  ];
  before = λ t le. same-trans (past t) (between t) (since t) (first.before t le)
      (next.before t (omega (arith, le, first.later)));
}

-- the same run, of which less is asked
pub weaker : (from to : ℕ) (past since : ℕ → Choices) (P Q : Image → Type 0)
    → LeavesOnly from to past since P → ((image : Image) → P image → Q image)
    → LeavesOnly from to past since Q
weaker from to past since P Q run so =
    record {
      later = run.later;
      each = λ t above below image left. so image
          (run.each t above below image left);
      before = run.before;
    }
