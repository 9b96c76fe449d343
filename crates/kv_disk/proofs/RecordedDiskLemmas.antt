-- What one more call of a disk in memory does to what it reads as and to what a crash may leave.
use Rattle.std.proofs.Common.{◌≡◌, ℕ, ◌≤◌, ◌<◌, List, [], ◌∷◌, ◌++◌, Bool, true, false, length, map}
use Rattle.std.proofs.Common.{take, Option, Some, None, Result, Ok, Err, OnOk, OnErr, is_ok, ◌⊎◌}
use Rattle.std.proofs.Common.{inl, inr, refl, ap, sym, ◌∙◌, subst, arith}
use Rattle.std.specs.Prelude.{Contains, is_none, IsNone, nat_le, if◌then◌else◌}
use Rattle.std.proofs.lemmas.Bool.{false≢true, cond-true, cond-false, cases_lt, cases_Bool, le-leb}
use Rattle.std.proofs.lemmas.Bool.{lt-leb, leb-true, and_parts}
use Rattle.std.proofs.lemmas.List.{take-append-le, take_all, length_push}
use Rattle.std.proofs.lemmas.List.Sums.{fold_push}
use Rattle.std.proofs.lemmas.List.Elements.{Contains-push, Contains-push_cases}
use Rattle.std.proofs.lemmas.List.Elements.{Contains-append_left}
use Rattle.kv_base.specs.Fault.{HasCause}
use Rattle.kv_base.specs.Image.{with_page}
use Rattle.kv_disk.specs.declared.call.Call.{Call}
use Rattle.kv_disk.specs.declared.call.Call.TheVariants.{Write, Sync, Idle}
use Rattle.kv_base.specs.Crash.{Choices, Only, NoMore, Same, Adds, WrittenOrNot, Advances}
use Rattle.kv_disk.specs.Replay.{place_in, Left, after_call, durable, start_of, spot_of}
use Rattle.kv_disk.specs.Replay.{spots_after}
use Rattle.kv_disk.specs.Memory.{RecordedDisk, left_at, image_of, choices_of, spots_of, IsPast, IsFull}
use Rattle.kv_disk.specs.Memory.{is_full, Keeps, RecordsSync, RecordsWrite, IsRecordedDisk}
use Rattle.kv_disk.specs.Told.{seen_is_left}
use Rattle.kv_base.proofs.ImageLemmas.{one_place, same_image, test-at, test-other, with_page-at}
use Rattle.kv_base.proofs.ImageLemmas.{with_page-other}

-- past its room the list of calls stays
log-past : {T E : Type 0} (call : Call) (old new : RecordedDisk) (result : Result T E)
    → Keeps call old new result → IsPast old → new.log ≡ old.log
log-past call old new result kept past = kept.log
    ∙ cond-true _ _ _ (le-leb old.call_room (length old.log) past)

-- else the call comes last
log-kept : {T E : Type 0} (call : Call) (old new : RecordedDisk) (result : Result T E)
    → Keeps call old new result → length old.log < old.call_room → new.log ≡ old.log ++ call ∷ []
log-kept call old new result kept room = kept.log
    ∙ cond-false _ _ _ (lt-leb old.call_room (length old.log) room)

-- the calls up to an earlier moment stay
take-past : {T E : Type 0} (call : Call) (old new : RecordedDisk) (result : Result T E) (t : ℕ)
    → Keeps call old new result → IsRecordedDisk old → t ≤ old.calls → take t new.log ≡ take t old.log
take-past call old new result t kept is le = elim (cases_lt (length old.log) old.call_room) [
  | inl room ↦ rw (log-kept call old new result kept room) (take-append-le t old.log (call ∷ [])
      (omega (arith, is.counted)))
  | inr past ↦ ap (take t) (log-past call old new result kept past)
]

-- now there are the same calls past the room
take-now_past : {T E : Type 0} (call : Call) (old new : RecordedDisk) (result : Result T E)
    → Keeps call old new result → IsRecordedDisk old → IsPast old
    → take new.calls new.log ≡ take old.calls old.log
take-now_past call old new result kept is past =
    let same = log-past call old new result kept past in
    let all_new : take new.calls new.log ≡ new.log =
    take_all new.calls new.log (rw same (omega (arith, kept.calls, is.counted, is.room))) in
    let all_old : take old.calls old.log ≡ old.log =
    take_all old.calls old.log (omega (arith, is.counted)) in
    all_new ∙ same ∙ sym all_old

-- and one more within it
take-now_kept : {T E : Type 0} (call : Call) (old new : RecordedDisk) (result : Result T E)
    → Keeps call old new result → IsRecordedDisk old → length old.log < old.call_room
    → take new.calls new.log ≡ take old.calls old.log ++ call ∷ []
take-now_kept call old new result kept is room =
    let longer = log-kept call old new result kept room in
    let more = length_push old.log call in
    let all_new : take new.calls new.log ≡ new.log =
    take_all new.calls new.log (rw longer (omega (
      arith,
      kept.calls,
      is.counted,
      is.room,
      more,
    ))) in
    let all_old : take old.calls old.log ≡ old.log =
    take_all old.calls old.log (omega (arith, is.counted)) in
    all_new ∙ longer ∙ ap (λ l. l ++ call ∷ []) (sym all_old)

-- a page at an earlier moment
pub left-past : {T E : Type 0} (call : Call) (old new : RecordedDisk) (result : Result T E) (t f p : ℕ)
    → Keeps call old new result → IsRecordedDisk old → t ≤ old.calls → left_at new t f p ≡ left_at old t f p
left-past call old new result t f p kept is le =
    rw (kept.pages, take-past call old new result t kept is le) refl

-- a page now, past the room for calls
pub left-now_past : {T E : Type 0} (call : Call) (old new : RecordedDisk) (result : Result T E) (f p : ℕ)
    → Keeps call old new result → IsRecordedDisk old → IsPast old
    → left_at new new.calls f p ≡ left_at old old.calls f p
left-now_past call old new result f p kept is past =
    rw (kept.pages, take-now_past call old new result kept is past) refl

-- and within it
pub left-now_kept : {T E : Type 0} (call : Call) (old new : RecordedDisk) (result : Result T E) (f p : ℕ)
    → Keeps call old new result → IsRecordedDisk old → length old.log < old.call_room
    → left_at new new.calls f p ≡ after_call f p (left_at old old.calls f p) call
left-now_kept call old new result f p kept is room =
    rw (kept.pages, take-now_kept call old new result kept is room) (fold_push (after_call f p)
    (durable (start_of old.pages f p)) (take old.calls old.log) call)

-- a call that changes nothing leaves each page
pub left-idle : {T E : Type 0} (old new : RecordedDisk) (result : Result T E) (f p : ℕ)
    → Keeps Idle old new result → IsRecordedDisk old → left_at new new.calls f p ≡ left_at old old.calls f p
left-idle old new result f p kept is = elim (cases_lt (length old.log) old.call_room) [
  | inl room ↦ left-now_kept Idle old new result f p kept is room
  | inr past ↦ left-now_past Idle old new result f p kept is past
]

-- contents of equal pages
same_choices : (old new : Choices) → ((f p : ℕ) (c : List ℕ) → (old f p c → new f p c)
    × (new f p c → old f p c)) → Same old new
same_choices old new both = record {
  no_more = λ f p c. (both f p c).1;
  no_less = λ f p c. (both f p c).0;
}

-- where each page is as before a crash may leave the same
same_left : (old new : RecordedDisk) (s t : ℕ) → ((f p : ℕ) → left_at new t f p ≡ left_at old s f p)
    → Same (choices_of old s) (choices_of new t)
same_left old new s t same = same_choices (choices_of old s) (choices_of new t) (λ f p c.
    let Q : Left → Type 0 = λ left. Contains left.contents c in
    (subst Q (sym (same f p)), subst Q (same f p)))

-- each call counts, and leaves what could be left at earlier moments
pub keeps-past : {T E : Type 0} (call : Call) (old new : RecordedDisk) (result : Result T E)
    → Keeps call old new result → IsRecordedDisk old
    → Advances old.calls new.calls (choices_of old) (choices_of new)
keeps-past call old new result kept is = record {
  later = omega (arith, kept.calls, is.calls);
  counted = kept.calls;
  same = λ t le. same_left old new t t (λ f p. left-past call old new result t f p kept is le);
}

-- each failed call shows in the count of faults
pub keeps-cause : {T E : Type 0} (call : Call) (old new : RecordedDisk) (result : Result T E)
    → Keeps call old new result → IsRecordedDisk old → HasCause old.faults new.faults result
keeps-cause call old new (Ok x) kept is = record { later = omega (arith, kept.faults); failed = tt }
keeps-cause call old new (Err e) kept is = record {
  later = omega (arith, kept.faults, is.faults);
  failed = omega (arith, kept.faults);
}

-- a call that changes nothing leaves what is read
pub idle-seen : {T E : Type 0} (old new : RecordedDisk) (result : Result T E) → Keeps Idle old new result
    → IsRecordedDisk old → image_of new ≡ image_of old
idle-seen old new result kept is =
    same_image (image_of new) (image_of old) (λ f p. ap (λ left. left.seen)
    (left-idle old new result f p kept is))

-- and what a crash may leave
pub idle-crash : {T E : Type 0} (old new : RecordedDisk) (result : Result T E) → Keeps Idle old new result
    → IsRecordedDisk old → Same (choices_of old old.calls) (choices_of new new.calls)
idle-crash old new result kept is =
    same_left old new old.calls new.calls (λ f p. left-idle old new result f p kept is)

-- a done call is within the room for calls
room_from_ok : (old : RecordedDisk) → (IsPast old → false ≡ true) → length old.log < old.call_room
room_from_ok old failed = elim (cases_lt (length old.log) old.call_room)
    [ inl room ↦ room | inr past ↦ absurd (false≢true (failed past)) ]

-- a sync that is Ok makes what is read the only content of each page
left-sync : {T E : Type 0} (old new : RecordedDisk) (x : T) (f p : ℕ) → RecordsSync {T = T} {E = E} old new (Ok x)
    → IsRecordedDisk old → left_at new new.calls f p ≡ durable (left_at old old.calls f p).seen
left-sync old new x f p syncs is = left-now_kept Sync old new (Ok x) f p syncs.kept is
    (room_from_ok old (λ past. syncs.failed.1 (inl past)))

-- a sync leaves what is read
pub syncs-seen : {T E : Type 0} (old new : RecordedDisk) (result : Result T E) → RecordsSync old new result
    → IsRecordedDisk old → image_of new ≡ image_of old
syncs-seen old new (Ok x) syncs is =
    same_image (image_of new) (image_of old) (λ f p. ap (λ left. left.seen)
    (left-sync old new x f p syncs is))
syncs-seen old new (Err e) syncs is = idle-seen old new (Err e) syncs.kept is

-- after Ok a crash leaves just that
pub syncs-durable : {T E : Type 0} (old new : RecordedDisk) (result : Result T E) → RecordsSync old new result
    → IsRecordedDisk old → OnOk result (Only (image_of new) (choices_of new new.calls))
syncs-durable old new (Ok x) syncs is = λ f p c left.
    let at = left-sync old new x f p syncs is in
    let Q : Left → Type 0 = λ l. Contains l.contents c in
    elim (Contains-push_cases [] (left_at old old.calls f p).seen c (subst Q at left)) [
      | inl none ↦ absurd (omega (arith, none.1))
      | inr is_seen ↦ sym is_seen ∙ sym (ap (λ l. l.seen) at)
    ]
syncs-durable old new (Err e) syncs is = tt

-- after a failure it may leave the same as before
pub syncs-undone : {T E : Type 0} (old new : RecordedDisk) (result : Result T E) → RecordsSync old new result
    → IsRecordedDisk old → OnErr result (Same (choices_of old old.calls) (choices_of new new.calls))
syncs-undone old new (Ok x) syncs is = tt
syncs-undone old new (Err e) syncs is = idle-crash old new (Err e) syncs.kept is

-- and never more
pub syncs-crash : {T E : Type 0} (old new : RecordedDisk) (result : Result T E) → RecordsSync old new result
    → IsRecordedDisk old → NoMore (choices_of old old.calls) (choices_of new new.calls)
syncs-crash old new (Ok x) syncs is = λ f p c left.
    let only = syncs-durable old new (Ok x) syncs is f p c left in
    let same : c ≡ image_of old f p = only
    ∙ ap (λ image. image f p) (syncs-seen old new (Ok x) syncs is) in
    let Q : List ℕ → Type 0 = choices_of old old.calls f p in
    subst Q (sym same) (seen_is_left old old.calls f p)
syncs-crash old new (Err e) syncs is = (idle-crash old new (Err e) syncs.kept is).no_more

-- a write at its page: one content more may be left, and it is read where the write was done
at_page : Left → List ℕ → Bool → Left
at_page left content done = record {
  seen = if done then content
      else left.seen;
  contents = left.contents ++ content ∷ [];
}

-- a write that is kept, at its page
left-write_at : {T E : Type 0} (file page : ℕ) (content : List ℕ) (done : Bool) (old new : RecordedDisk)
    (result : Result T E) (f p : ℕ)
    → Keeps (Write (record { file = file; page = page; content = content; done = done })) old new
    result → IsRecordedDisk old → length old.log < old.call_room
    → f ≡ file → p ≡ page → left_at new new.calls f p ≡ at_page (left_at old old.calls f p) content
    done
unfolding at_page
left-write_at file page content done old new result f p kept is room same_file same_page =
    left-now_kept (Write (record { file = file; page = page; content = content; done = done })) old
    new result f p kept is room
    ∙ cond-true _ _ _ (test-at file page f p (sym same_file) (sym same_page))

-- and at each other page
left-write_other : {T E : Type 0} (file page : ℕ) (content : List ℕ) (done : Bool) (old new : RecordedDisk)
    (result : Result T E) (f p : ℕ)
    → Keeps (Write (record { file = file; page = page; content = content; done = done })) old new
    result → IsRecordedDisk old → length old.log < old.call_room
    → (f ≡ file → p ≡ page → ⊥) → left_at new new.calls f p ≡ left_at old old.calls f p
left-write_other file page content done old new result f p kept is room other =
    left-now_kept (Write (record { file = file; page = page; content = content; done = done })) old
    new result f p kept is room
    ∙ cond-false _ _ _ (test-other file page f p (λ same_file same_page. other (sym same_file)
    (sym same_page)))

-- nothing, by the test
IsNone_from_test : (o : Option ℕ) → is_none o ≡ true → IsNone o
IsNone_from_test None none = refl
IsNone_from_test (Some n) none = absurd (false≢true none)

-- a full disk, by the test
pub is_full-true : (old : RecordedDisk) (file page : ℕ) → is_full old file page ≡ true
    → IsFull old file page
is_full-true old file page full =
    let both = and_parts (is_none (place_in (spots_of old) file page))
    (nat_le old.page_room (length (spots_of old))) full in (
      IsNone_from_test (place_in (spots_of old) file page) both.0,
      leb-true old.page_room (length (spots_of old)) both.1,
    )

-- what is kept of a write where no room is spent
kept_write : {T E : Type 0} (file page : ℕ) (content : List ℕ) (old new : RecordedDisk)
    (result : Result T E) → RecordsWrite file page content old new result → is_full old file page ≡ false
    → Keeps (Write (record { file = file; page = page; content = content; done = is_ok result }))
    old new result
kept_write file page content old new result writes room =
    let Q : Call → Type 0 = λ call. Keeps call old new result in
    subst Q (cond-false _ _ _ room) writes.kept

-- and where the room for pages is spent
kept_full : {T E : Type 0} (file page : ℕ) (content : List ℕ) (old new : RecordedDisk) (result : Result T E)
    → RecordsWrite file page content old new result → is_full old file page ≡ true
    → Keeps Idle old new result
kept_full file page content old new result writes full =
    let Q : Call → Type 0 = λ call. Keeps call old new result in
    subst Q (cond-true _ _ _ full) writes.kept

-- a page after a write: as before, or the written one
left-write : {T E : Type 0} (file page : ℕ) (content : List ℕ) (old new : RecordedDisk)
    (result : Result T E) (f p : ℕ) → RecordsWrite file page content old new result → IsRecordedDisk old
    → (left_at new new.calls f p ≡ left_at old old.calls f p) ⊎ ((f ≡ file) × (p ≡ page)
    × (left_at new new.calls f p ≡ at_page (left_at old old.calls f p) content (is_ok result)))
left-write file page content old new result f p writes is =
    elim (cases_Bool (is_full old file page)) [
      | inl full ↦
          inl (left-idle old new result f p (kept_full file page content old new result writes full) is)
      | inr room ↦
          let kept = kept_write file page content old new result writes room in
          elim (cases_lt (length old.log) old.call_room) [
            | inl within ↦ elim (one_place f p file page) [
              | inl same ↦ inr (
                same.0,
                same.1,
                left-write_at file page content (is_ok result) old new
                    result f p kept is within same.0 same.1,
              )
              | inr other ↦ inl (left-write_other file page content (is_ok result) old new result f p
                  kept is within other)
            ]
            | inr past ↦
                inl (left-now_past (Write (record {
                  file = file;
                  page = page;
                  content = content;
                  done = is_ok result;
                })) old new result f p kept is past)
          ]
    ]

-- the written page after Ok
left-written : {T E : Type 0} (file page : ℕ) (content : List ℕ) (old new : RecordedDisk) (x : T) (f p : ℕ)
    → RecordsWrite {T = T} {E = E} file page content old new (Ok x) → IsRecordedDisk old → f ≡ file → p ≡ page
    → left_at new new.calls f p ≡ at_page (left_at old old.calls f p) content true
left-written file page content old new x f p writes is same_file same_page =
    let within = room_from_ok old (λ past. writes.failed.1 (inl past)) in
    let room : is_full old file page ≡ false = elim (cases_Bool (is_full old file page)) [
      | inl full ↦
          absurd (false≢true (writes.failed.1 (inr (inl (is_full-true old file page full)))))
      | inr room ↦ room
    ] in
    left-write_at file page content true old new (Ok x) f p (kept_write file page content old new
    (Ok x) writes room) is within same_file same_page

-- after Ok the page reads as the content
pub writes-written : {T E : Type 0} (file page : ℕ) (content : List ℕ) (old new : RecordedDisk)
    (result : Result T E) → RecordsWrite file page content old new result → IsRecordedDisk old
    → OnOk result (image_of new ≡ with_page (image_of old) file page content)
unfolding at_page
writes-written file page content old new (Ok x) writes is =
    same_image _ _ (λ f p. elim (one_place f p file page) [
      | inl same ↦ ap (λ left. left.seen) (left-written file page content old new x f p writes is same.0
          same.1) ∙ sym (with_page-at (image_of old) file page content f p same.0 same.1)
      | inr other ↦ elim (left-write file page content old new (Ok x) f p writes is) [
        | inl as_before ↦ ap (λ left. left.seen) as_before
            ∙ sym (with_page-other (image_of old) file page content f p other)
        | inr put ↦ absurd (other put.0 put.1)
      ]
    ])
writes-written file page content old new (Err e) writes is = tt

-- and after a failure as before
pub writes-seen : {T E : Type 0} (file page : ℕ) (content : List ℕ) (old new : RecordedDisk)
    (result : Result T E) → RecordsWrite file page content old new result → IsRecordedDisk old
    → WrittenOrNot file page content (image_of old) (image_of new)
unfolding at_page
writes-seen file page content old new (Ok x) writes is =
    inr (writes-written file page content old new (Ok x) writes is)
writes-seen file page content old new (Err e) writes is =
    inl (same_image _ _ (λ f p. elim (left-write file page content old new (Err e) f p writes is) [
      | inl as_before ↦ ap (λ left. left.seen) as_before
      | inr put ↦ ap (λ left. left.seen) put.2
    ]))

-- after Ok it may leave the content there
writes-may : {T E : Type 0} (file page : ℕ) (content : List ℕ) (old new : RecordedDisk)
    (result : Result T E) → RecordsWrite file page content old new result → IsRecordedDisk old
    → OnOk result (choices_of new new.calls file page content)
unfolding at_page
writes-may file page content old new (Ok x) writes is =
    let Q : Left → Type 0 = λ l. Contains l.contents content in
    subst Q (sym (left-written file page content old new x file page writes is refl refl))
    (Contains-push (left_at old old.calls file page).contents content)
writes-may file page content old new (Err e) writes is = tt

-- and a crash may leave the content too
pub writes-crash : {T E : Type 0} (file page : ℕ) (content : List ℕ) (old new : RecordedDisk)
    (result : Result T E) → RecordsWrite file page content old new result → IsRecordedDisk old
    → Adds file page content result (choices_of old old.calls) (choices_of new new.calls)
unfolding at_page
writes-crash {T} {E} file page content old new result writes is = record {
  no_more = λ f p c left. elim (left-write file page content old new result f p writes is) [
    | inl as_before ↦ inl (let Q : Left → Type 0 = λ l. Contains l.contents c in subst Q as_before
        left)
    | inr put ↦ elim (Contains-push_cases (left_at old old.calls f p).contents content c
        (let Q : Left → Type 0 = λ l. Contains l.contents c in subst Q put.2 left)) [
          | inl was ↦ inl was
          | inr is_it ↦ inr (put.0, put.1, sym is_it)
        ]
  ];
  no_less = λ f p c left. elim (left-write file page content old new result f p writes is) [
    | inl as_before ↦ let Q : Left → Type 0 = λ l. Contains l.contents c in
        subst Q (sym as_before) left
    | inr put ↦ let Q : Left → Type 0 = λ l. Contains l.contents c in
        subst Q (sym put.2) (Contains-append_left (left_at old old.calls f p).contents
        (content ∷ []) c left)
  ];
  written = λ c _. writes-may file page content old new result writes is;
}

-- a call that changes nothing leaves the held pages
pub spots-idle : {T E : Type 0} (old new : RecordedDisk) (result : Result T E) → Keeps Idle old new result
    → IsRecordedDisk old → spots_of new ≡ spots_of old
spots-idle old new result kept is = elim (cases_lt (length old.log) old.call_room) [
  | inl room ↦ rw (kept.pages, take-now_kept Idle old new result kept is room)
      (fold_push spots_after (map spot_of old.pages) (take old.calls old.log) Idle)
  | inr past ↦ rw (kept.pages, take-now_past Idle old new result kept is past) refl
]
