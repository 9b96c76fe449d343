-- What the fields of a disk in memory stand for after a call.
use Rattle.std.proofs.Common.{◌≡◌, ℕ, ◌≤◌, ◌<◌, ◌+◌, ◌-◌, ◌^◌, min, List, [], ◌∷◌, ◌++◌, Bool, true}
use Rattle.std.proofs.Common.{false, Option, Some, None, length, map, set, take, IsNone, All, ◌⊎◌}
use Rattle.std.proofs.Common.{inl, inr, refl, ap, sym, ◌∙◌, subst, arith}
use Rattle.std.specs.Prelude.{◌&&◌, ◌==◌, nat_le, is_some, if◌then◌else◌}
use Rattle.std.proofs.lemmas.Bool.{cond-true, cond-false, cases_lt, cases_Bool, le-leb, lt-leb}
use Rattle.std.proofs.lemmas.List.{length_push, take_all, length-set, length-map, nil_from_length}
use Rattle.std.proofs.lemmas.List.Sums.{fold_push}
use Rattle.std.proofs.lemmas.List.Elements.{All-push, All-map, All-nil, All-take}
use Rattle.kv_base.specs.Image.{with_page}
use Rattle.kv_disk.specs.declared.call.Held.{Held}
use Rattle.kv_disk.specs.declared.call.Spot.{Spot}
use Rattle.kv_disk.specs.declared.call.Call.{Call}
use Rattle.kv_disk.specs.declared.call.Call.TheVariants.{Write, Sync, Idle}
use Rattle.kv_disk.specs.Plain.{content_at}
use Rattle.kv_disk.specs.Replay.{place_in, spot, spot_of, start_of, durable, Left, after_call}
use Rattle.kv_disk.specs.Replay.{left_in, spots_after, spots_in, IsNoWrite, CallFits, SpotFits}
use Rattle.kv_disk.specs.Replay.{put_at, held_with}
use Rattle.kv_disk.specs.MemoryFields.{IsReplayed, Fits}
use Rattle.kv_disk.specs.Memory.{RecordedDisk, spots_of, is_full}
use Rattle.kv_disk.proofs.RecordedDiskLemmas.{is_full-true}
use Rattle.kv_base.proofs.ImageLemmas.{one_place, same_image, test-at, test-other, with_page-at}
use Rattle.kv_base.proofs.ImageLemmas.{with_page-other}
use Rattle.kv_disk.proofs.PlainLemmas.{content-set}
use Rattle.kv_disk.proofs.SpotLemmas.{place_in-range, place_in-apart, place_in-push, fits-log}
use Rattle.kv_disk.proofs.SpotLemmas.{start_of-put, spots-put, start_of-place, spots-held_with}

-- the list of calls after one more, where there is room
abbrev pub Noted : List Call → List Call → ℕ → Call → Type 0
Noted old new room call = new ≡ (if nat_le room (length old) then old else old ++ call ∷ [])

-- the list stays, or has the call at its end
pub noted_cases : (old new : List Call) (room : ℕ) (call : Call) → Noted old new room call
    → ((room ≤ length old) × (new ≡ old)) ⊎ ((length old < room) × (new ≡ old ++ call ∷ []))
noted_cases old new room call noted = elim (cases_lt (length old) room) [
  | inl within ↦ inr (within, noted ∙ cond-false _ _ _ (lt-leb room (length old) within))
  | inr past ↦ inl (past, noted ∙ cond-true _ _ _ (le-leb room (length old) past))
]

-- its length follows the count
pub noted-counted : (old new : List Call) (room calls : ℕ) (call : Call) → Noted old new room call
    → room < 2 ^ 32 → length old ≡ min calls room
    → length new ≡ min (min (calls + 1) (2 ^ 64 - 1)) room
noted-counted old new room calls call noted small counted =
    elim (noted_cases old new room call noted) [
      | inl past ↦ rw past.1 (omega (arith, past.0, counted, small))
      | inr within ↦ rw within.1 (omega (arith, length_push old call, within.0, counted, small))
    ]

-- a call other than a write leaves what is read
no_write-seen : (f p : ℕ) (left : Left) (call : Call) → IsNoWrite call
    → (after_call f p left call).seen ≡ left.seen
no_write-seen f p left (Write w) none = absurd none
no_write-seen f p left Sync none = refl
no_write-seen f p left Idle none = refl

-- and the pages that are held
no_write-spots : (spots : List Spot) (call : Call) → IsNoWrite call → spots_after spots call ≡ spots
no_write-spots spots (Write w) none = absurd none
no_write-spots spots Sync none = refl
no_write-spots spots Idle none = refl

-- it is a call of a disk
pub no_write-fits : (call : Call) → IsNoWrite call → CallFits call
no_write-fits (Write w) none = absurd none
no_write-fits Sync none = tt
no_write-fits Idle none = tt

-- so it leaves the fields
pub noted-replayed : (start : List Held) (spots : List Spot) (contents : List (List ℕ))
    (old new : List Call) (room : ℕ) (call : Call) → Noted old new room call → IsNoWrite call
    → IsReplayed start spots contents old → IsReplayed start spots contents new
noted-replayed start spots contents old new room call noted none is =
    elim (noted_cases old new room call noted) [
      | inl past ↦ let Q : List Call → Type 0 = IsReplayed start spots contents in
          subst Q (sym past.1) is
      | inr within ↦
          let Q : List Call → Type 0 = IsReplayed start spots contents in
          subst Q (sym within.1) (record {
            held = is.held ∙ sym (no_write-spots (spots_in start old) call none)
                ∙ sym (fold_push spots_after _ old call);
            as_many = is.as_many;
            reads = λ f p. is.reads f p ∙ sym (no_write-seen f p (left_in start old f p) call none)
                ∙ sym (ap (λ left. left.seen) (fold_push (after_call f p) (durable (start_of start f p))
                old call));
          })
    ]

-- and what is kept is of a disk
pub noted-fits : (start : List Held) (old new : List Call) (room : ℕ) (call : Call)
    → Noted old new room call → CallFits call → Fits start old → Fits start new
noted-fits start old new room call noted fits is = elim (noted_cases old new room call noted) [
  | inl past ↦ let Q : List Call → Type 0 = Fits start in subst Q (sym past.1) is
  | inr within ↦ let Q : List Call → Type 0 = Fits start in
      subst Q (sym within.1) (record {
        pages = is.pages;
        calls = All-push CallFits old call is.calls
            fits;
      })
]

-- within its room the list has the call at its end
pub noted-within : (old new : List Call) (room : ℕ) (call : Call) → Noted old new room call
    → length old < room → new ≡ old ++ call ∷ []
noted-within old new room call noted within = noted
    ∙ cond-false _ _ _ (lt-leb room (length old) within)

-- a call past the room counts alone
pub past-counted : (log : List Call) (room calls : ℕ) → room < 2 ^ 32 → length log ≡ min calls room
    → room ≤ length log → length log ≡ min (min (calls + 1) (2 ^ 64 - 1)) room
past-counted log room calls small counted past = omega (arith, small, counted, past)

-- the fields after a kept write, where each page reads as the write leaves it
pub write-replayed : (start : List Held) (spots held : List Spot) (contents after : List (List ℕ))
    (log : List Call) (file page : ℕ) (content : List ℕ) (done : Bool)
    → IsReplayed start spots contents log
    → held ≡ (if is_some (place_in spots file page) then spots else spots ++ spot file page ∷ [])
    → length after ≡ length held
    → ((f p : ℕ) → content_at after (place_in held f p)
    ≡ (after_call f p (left_in start log f p)
    (Write (record { file = file; page = page; content = content; done = done }))).seen)
    → IsReplayed start held after
    (log ++ Write (record { file = file; page = page; content = content; done = done }) ∷ [])
write-replayed start spots held contents after log file page content done is now as_many reads =
    record {
      held = now ∙ ap (λ s. if is_some (place_in s file page) then s else s ++ spot file page ∷ [])
          is.held
          ∙ sym (fold_push spots_after _ log
          (Write (record { file = file; page = page; content = content; done = done })));
      as_many = as_many;
      reads = λ f p. reads f p
          ∙ sym (ap (λ left. left.seen) (fold_push (after_call f p) (durable (start_of start f p)) log
          (Write (record { file = file; page = page; content = content; done = done }))));
    }

-- a content more doesn't change what is read
same_seen : (b : Bool) (content : List ℕ) (left : Left)
    → (if b then record { seen = left.seen; contents = left.contents ++ content ∷ [] }
    else left).seen ≡ left.seen
same_seen true content left = refl
same_seen false content left = refl

-- a failed write leaves what is read
pub failed-seen : (f p file page : ℕ) (content : List ℕ) (left : Left)
    → (after_call f p left (Write (record {
      file = file;
      page = page;
      content = content;
      done = false;
    }))).seen ≡ left.seen
failed-seen f p file page content left = same_seen ((file == f) && (page == p)) content left

-- a done write puts its content at its place
pub done-seen : (f p file page i : ℕ) (content : List ℕ) (held : List Spot)
    (contents : List (List ℕ)) (left : Left) → place_in held file page ≡ Some i
    → length contents ≡ length held
    → content_at contents (place_in held f p) ≡ left.seen
    → content_at (set contents i content) (place_in held f p)
    ≡ (after_call f p left (Write (record {
      file = file;
      page = page;
      content = content;
      done = true;
    }))).seen
done-seen f p file page i content held contents left at as_many was =
    let all = content-set (place_in held) contents file page i content at (λ g q j there. rw as_many
    (place_in-range held g q j there)) (place_in-apart held) in
    ap (λ image. image f p) all ∙ elim (one_place f p file page) [
      | inl same ↦ with_page-at (λ g q. content_at contents (place_in held g q)) file page content f
          p same.0 same.1
          ∙ sym (ap (λ (l : Left). l.seen) (cond-true _ _ _ (test-at file page f p (sym same.0)
          (sym same.1))))
      | inr other ↦ with_page-other (λ g q. content_at contents (place_in held g q)) file page
          content f p other ∙ was
          ∙ sym (ap (λ (l : Left). l.seen)
          (cond-false _ _ _ (test-other file page f p (λ same_file same_page. other (sym same_file)
          (sym same_page)))))
    ]

-- the held pages are those that all calls so far leave
pub spots-now : (start : List Held) (spots : List Spot) (contents : List (List ℕ)) (log : List Call)
    (calls room : ℕ) → IsReplayed start spots contents log → length log ≡ min calls room
    → spots_in start (take calls log) ≡ spots
spots-now start spots contents log calls room is counted =
    ap (spots_in start) (take_all calls log (omega (arith, counted))) ∙ sym is.held

-- a disk that can hold a page isn't full
pub is_full-false : (disk : RecordedDisk) (spots : List Spot) (f p : ℕ) → spots_of disk ≡ spots
    → ((IsNone (place_in spots f p) × (disk.page_room ≤ length spots)) → ⊥)
    → is_full disk f p ≡ false
is_full-false disk spots f p are can = elim (cases_Bool (is_full disk f p)) [
  | inl full ↦
      let Q : List Spot → Type 0 = λ s. IsNone (place_in s f p) × (disk.page_room ≤ length s) in
      absurd (can (subst Q are (is_full-true disk f p full)))
  | inr room ↦ room
]

-- what is read now stands among the contents
pub reads-now : (start : List Held) (spots : List Spot) (contents : List (List ℕ)) (log : List Call)
    (calls room f p : ℕ) → IsReplayed start spots contents log → length log ≡ min calls room
    → (left_in start (take calls log) f p).seen ≡ content_at contents (place_in spots f p)
reads-now start spots contents log calls room f p is counted =
    ap (λ l. (left_in start l f p).seen) (take_all calls log (omega (arith, counted)))
    ∙ sym (is.reads f p)

-- the held pages are those of a disk
pub spots-fit : (start : List Held) (spots : List Spot) (contents : List (List ℕ)) (log : List Call)
    → IsReplayed start spots contents log → Fits start log → All SpotFits spots
spots-fit start spots contents log is fits =
    let Q : List Spot → Type 0 = All SpotFits in
    subst Q (sym is.held) (fits-log (map spot_of start) log (All-map SpotFits spot_of start
    fits.pages) fits.calls)

-- a place, or none
known : (o : Option ℕ) → (o ≡ None) ⊎ ((i : ℕ) × (o ≡ Some i))
known None = inl refl
known (Some i) = inr (i, refl)

-- where a page is put on a disk without calls: it was held, or comes behind the others
pub put_cases : (spots held : List Spot) (file page place : ℕ)
    → held ≡ (if is_some (place_in spots file page) then spots else spots ++ spot file page ∷ [])
    → place_in held file page ≡ Some place
    → ((place < length spots) × (place_in spots file page ≡ Some place) × (held ≡ spots))
    ⊎ ((place ≡ length spots) × (place_in spots file page ≡ None)
    × (held ≡ spots ++ spot file page ∷ []))
put_cases spots held file page place is at = elim (known (place_in spots file page)) [
  | inl none ↦
      let new : held ≡ spots ++ spot file page ∷ [] = is ∙ ap (λ o. if is_some o then spots
      else spots ++ spot file page ∷ []) none in
      let there : place_in held file page ≡ Some (length spots) = ap (λ s. place_in s file page) new
      ∙ place_in-push spots file page none file page
      ∙ cond-true _ _ _ (test-at file page file page refl refl) in
      let same : Some place ≡ Some (length spots) = sym at ∙ there in
      inr (cc, none, new)
  | inr some ↦
      let same_spots : held ≡ spots = is ∙ ap (λ o. if is_some o then spots
      else spots ++ spot file page ∷ []) some.1 in
      let was : place_in spots file page ≡ Some place =
      ap (λ s. place_in s file page) (sym same_spots) ∙ at in
      inl (place_in-range spots file page place was, was, same_spots)
]

-- the pages and their contents after one was put, before the first call
pub put-replayed : (start after : List Held) (spots held : List Spot) (contents now : List (List ℕ))
    (log : List Call) (file page place : ℕ) (content : List ℕ)
    → IsReplayed start spots contents log → log ≡ [] → held ≡ (if is_some (place_in spots file page)
    then spots else spots ++ spot file page ∷ []) → place_in held file page ≡ Some place
    → length now ≡ length held
    → ((f p : ℕ) → content_at now (place_in held f p) ≡ content_at contents (place_in spots f p))
    → after ≡ put_at start (held_with (spot file page) content) (place_in (map spot_of start) file
    page)
    → IsReplayed after held (set now place content) log
put-replayed start after spots held contents now log file page place content is empty held_is at
    as_many reads after_is =
    let were : spots ≡ map spot_of start = is.held ∙ ap (spots_in start) empty in
    let was : (f p : ℕ) → content_at now (place_in held f p) ≡ start_of start f p = λ f p. reads f p
    ∙ is.reads f p ∙ ap (λ l. (left_in start l f p).seen) empty in
    let all = content-set (place_in held) now file page place content at (λ g q j there. rw as_many
    (place_in-range held g q j there)) (place_in-apart held) in
    record {
      held = held_is ∙ ap (λ s. if is_some (place_in s file page) then s
          else s ++ spot file page ∷ []) were
          ∙ spots-put start file page content (place_in (map spot_of start) file page) refl
          ∙ ap (map spot_of) (sym after_is) ∙ ap (λ l. spots_in after l) (sym empty);
      as_many = length-set now place content ∙ as_many;
      reads = λ f p. ap (λ image. image f p) all
          ∙ ap (λ image. with_page image file page content f p) (same_image _ _ was)
          ∙ sym (start_of-put start file page content (place_in (map spot_of start) file page) f p
          refl)
          ∙ ap (λ pages. start_of pages f p) (sym after_is)
          ∙ ap (λ l. (left_in after l f p).seen) (sym empty);
    }

-- and what is read of it
pub put-image : (start after : List Held) (log : List Call) (calls file page f p : ℕ)
    (content : List ℕ) → log ≡ [] → after ≡ put_at start (held_with (spot file page) content)
    (place_in (map spot_of start) file page)
    → (left_in after (take calls log) f p).seen
    ≡ with_page (λ g q. (left_in start (take calls log) g q).seen) file page content f p
put-image start after log calls file page f p content empty after_is =
    let none : take calls log ≡ [] = take_all calls log (rw empty (omega arith)) ∙ empty in
    rw (none, after_is) (start_of-put start file page content (place_in (map spot_of start) file
    page) f p refl)

-- no call is kept before the first one
pub no_calls : (log : List Call) (calls room : ℕ) → length log ≡ min calls room → calls ≡ 0
    → log ≡ []
no_calls log calls room counted none = nil_from_length log (omega (arith, counted, none))

-- the fields of a disk after a crash
pub crash-replayed : (g : Spot → List ℕ) (pages : List Held) (spots : List Spot)
    (contents : List (List ℕ)) (log : List Call) → pages ≡ map (λ s. held_with s (g s)) spots
    → contents ≡ map (λ h. h.content) pages → log ≡ []
    → IsReplayed pages spots contents log
crash-replayed g pages spots contents log pages_are contents_are empty =
    let were : spots ≡ map spot_of pages = sym (spots-held_with g spots)
    ∙ ap (map spot_of) (sym pages_are) in
    record {
      held = were ∙ ap (λ l. spots_in pages l) (sym empty);
      as_many = ap length contents_are ∙ length-map pages (λ h. h.content)
          ∙ sym (length-map pages spot_of) ∙ ap length (sym were);
      reads = λ f p. rw (contents_are, were) (start_of-place pages f p)
          ∙ ap (λ l. (left_in pages l f p).seen) (sym empty);
    }

-- which are those of a disk
pub crash-fits : (g : Spot → List ℕ) (pages : List Held) (spots : List Spot) (log : List Call)
    → pages ≡ map (λ s. held_with s (g s)) spots → log ≡ [] → All SpotFits spots → Fits pages log
crash-fits g pages spots log pages_are empty fit = record {
  pages = (let Q : List Held → Type 0 = All (λ held. SpotFits (spot_of held)) in subst Q
      (sym pages_are) (All-map (λ held. SpotFits (spot_of held)) (λ s. held_with s (g s)) spots
      fit));
  calls = (let Q : List Call → Type 0 = All CallFits in subst Q (sym empty) (All-nil CallFits));
}

-- the pages held after some of the calls are those of a disk
pub spots-fit_some : (start : List Held) (log : List Call) (n : ℕ) → Fits start log
    → All SpotFits (spots_in start (take n log))
spots-fit_some start log n fits =
    fits-log (map spot_of start) (take n log) (All-map SpotFits spot_of start fits.pages)
    (All-take CallFits n log fits.calls)
