-- A crash leaves of each page one of the contents that it may leave.
use Rattle.std.proofs.Common.{◌≡◌, ℕ, ◌%◌, List, [], ◌∷◌, ◌++◌, Bool, true, false, cond, Option}
use Rattle.std.proofs.Common.{Some, None, length, map, take, inl, inr, refl, ap, sym, ◌∙◌, subst}
use Rattle.std.proofs.Common.{subst₂, arith}
use Rattle.std.specs.Prelude.{◌&&◌, ◌==◌, fold, count_by, is_some, Contains, slice_index}
use Rattle.std.proofs.lemmas.Bool.{cond-true, cond-false, cases_Bool, false≢true}
use Rattle.std.proofs.lemmas.List.Elements.{Contains-push, Contains-get_or}
use Rattle.kv_base.specs.Image.{zero_page}
use Rattle.kv_disk.specs.declared.call.Held.{Held}
use Rattle.kv_disk.specs.declared.call.Spot.{Spot}
use Rattle.kv_disk.specs.declared.call.Call.{Call}
use Rattle.kv_disk.specs.declared.call.Call.TheVariants.{Write, Sync, Idle}
use Rattle.kv_base.specs.Crash.{MayLeave}
use Rattle.kv_disk.specs.Plain.{content_at}
use Rattle.kv_disk.specs.Replay.{place_in, spot, spot_of, start_of, spots_after, spots_in}
use Rattle.kv_disk.specs.Replay.{waiting_in, comes_before, chosen_in, durable, Left, after_call}
use Rattle.kv_disk.specs.Replay.{left_in}
use Rattle.kv_disk.specs.Memory.{RecordedDisk, left_at, image_of, choices_of, crashed}
use Rattle.kv_disk.specs.Told.{seen_is_left}
use Rattle.kv_base.proofs.ImageLemmas.{test-other}
use Rattle.kv_disk.proofs.SpotLemmas.{place_in-push, start_of-place, start_of-held_with}

-- a page that isn't among some isn't at its place either
none_at : (b : Bool) (i : ℕ) (o : Option ℕ) → cond b (Some i) o ≡ None → (b ≡ false) × (o ≡ None)
none_at true i o none = absurd (cc)
none_at false i o none = (refl, none)

-- nothing, by the test
none_from_test : (o : Option ℕ) → is_some o ≡ false → o ≡ None
none_from_test None none = refl
none_from_test (Some i) none = absurd (false≢true (sym none))

-- a page that isn't held after a call wasn't before it, and the call didn't change it
not_held-call : (spots : List Spot) (call : Call) (f p : ℕ) → place_in (spots_after spots call) f p
    ≡ None → (place_in spots f p ≡ None)
    × (after_call f p (durable zero_page) call ≡ durable zero_page)
not_held-call spots (Write w) f p absent =
    elim (cases_Bool (is_some (place_in spots w.file w.page))) [
      | inl there ↦
          let none : place_in spots f p ≡ None =
          (let Q : List Spot → Type 0 = λ s. place_in s f p ≡ None in subst Q
          (cond-true _ _ _ there) absent) in
          let apart : f ≡ w.file → p ≡ w.page
          → ⊥ = λ same_file same_page. false≢true (ap is_some (sym none)
          ∙ (let Q : ℕ → ℕ → Type 0 = λ m n. is_some (place_in spots m n) ≡ true in subst₂ Q
          (sym same_file) (sym same_page) there)) in (
            none,
            cond-false _ _ _ (test-other w.file w.page f p (λ same_file same_page. apart
                (sym same_file) (sym same_page))),
          )
      | inr new ↦
          let longer : place_in (spots ++ spot w.file w.page ∷ []) f p ≡ None =
          (let Q : List Spot → Type 0 = λ s. place_in s f p ≡ None in subst Q
          (cond-false _ _ _ new) absent) in
          let parts = none_at ((w.file == f) && (w.page == p)) (length spots) (place_in spots f p)
          (sym (place_in-push spots w.file w.page (none_from_test (place_in spots w.file w.page)
          new) f p) ∙ longer) in
          (parts.1, cond-false _ _ _ parts.0)
    ]
not_held-call spots Sync f p absent = (absent, refl)
not_held-call spots Idle f p absent = (absent, refl)

-- the same of many calls
not_held-log : (spots : List Spot) (log : List Call) (f p : ℕ)
    → place_in (fold spots_after spots log) f p ≡ None → (place_in spots f p ≡ None)
    × (fold (after_call f p) (durable zero_page) log ≡ durable zero_page)
not_held-log spots [] f p absent = (absent, refl)
not_held-log spots (call ∷ log) f p absent =
    let rest = not_held-log (spots_after spots call) log f p absent in
    let here = not_held-call spots call f p rest.0 in
    (here.0, ap (λ left. fold (after_call f p) left log) here.1 ∙ rest.1)

-- a page that isn't held reads as zeros, which a crash leaves
pub not_held : (pages : List Held) (log : List Call) (f p : ℕ) → place_in (spots_in pages log) f p
    ≡ None → left_in pages log f p ≡ durable zero_page
not_held pages log f p absent =
    let parts = not_held-log (map spot_of pages) log f p absent in
    let start : start_of pages f p ≡ zero_page = sym (start_of-place pages f p)
    ∙ ap (content_at (map (λ h. h.content) pages)) parts.0 in
    ap (λ c. fold (after_call f p) (durable c) log) start ∙ parts.1

-- what the choices give is one of the contents
chosen_is_left : (disk : RecordedDisk) (t : ℕ) (choice : List ℕ) (f p : ℕ)
    → Contains (left_at disk t f p).contents (chosen_in disk.pages (take t disk.log) choice f p)
chosen_is_left disk t choice f p =
    let contents = (left_at disk t f p).contents in
    let rank = count_by (comes_before f p) (waiting_in disk.pages (take t disk.log)) in
    let some = seen_is_left disk t f p in
    Contains-get_or contents (slice_index choice rank % length contents) zero_page
    (let any = some.1 in omega (arith, any))

-- after a crash the disk reads as an image that the crash may leave
pub crash_may_leave : (disk : RecordedDisk) (t : ℕ) (choice : List ℕ)
    → MayLeave (choices_of disk t) (image_of (crashed disk t choice))
crash_may_leave disk t choice f p =
    elim (start_of-held_with (chosen_in disk.pages (take t disk.log) choice)
    (spots_in disk.pages (take t disk.log)) f p) [
      | inl is ↦ let Q : List ℕ → Type 0 = Contains (left_at disk t f p).contents in
          subst Q (sym is) (chosen_is_left disk t choice f p)
      | inr none ↦
          let Q : Left → List ℕ → Type 0 = λ left c. Contains left.contents c in
          subst₂ Q (sym (not_held disk.pages (take t disk.log) f p none.0)) (sym none.1)
          (Contains-push [] zero_page)
    ]
