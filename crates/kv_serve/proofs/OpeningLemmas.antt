-- What a crash leaves of a disk that is opened.
use Rattle.std.proofs.Common.{◌≡◌, inl, inr, ⊎_elim, ℕ, zero, suc, ◌+◌, ◌<◌, ◌≤◌, ◌^◌, List, []}
use Rattle.std.proofs.Common.{◌∷◌, ◌++◌, None, Some}
use Rattle.std.proofs.Common.{refl, sym, ap, ◌∙◌, subst, arith, append-nil, append_assoc}
use Rattle.std.specs.List.{AllByRecursion, cons_option}
use Rattle.std.specs.Option.{option_and_then}
use Rattle.std.specs.Prelude.{nat_le, ◌&&◌, if◌then◌else◌}
use Rattle.std.specs.Str.{bytes_eq}
use Rattle.std.proofs.lemmas.Bool.{cases_Bool, cases_eq}
use Rattle.std.proofs.lemmas.Slice.Eq.{bytes_eq-Decides}
use Rattle.kv_base.specs.Image.{Image}
use Rattle.kv_base.specs.Partition.{owner_of}
use Rattle.kv_base.specs.declared.reply.Reply.{Reply}
use Rattle.kv_base.specs.declared.reply.Reply.TheVariants.{Stored, Found, Missing, Removed, Absent}
use Rattle.kv_base.specs.declared.reply.Reply.TheVariants.{Unsure}
use Rattle.kv_base.specs.declared.request.Request.{Request}
use Rattle.kv_base.specs.declared.request.Request.TheVariants.{Put, Get, Delete, Flush, After}
use Rattle.kv_model.specs.History.{Write, latest, later_of, value_at}
use Rattle.kv_model.specs.Layout.{all_classes}
use Rattle.kv_model.specs.Pairs.{Pair, writes, unsure_writes, stamps, stamp_of, written}
use Rattle.kv_model.specs.Pairs.{acknowledged_by, unsure_by}
use Rattle.kv_model.specs.Reading.{slot_at}
use Rattle.kv_model.specs.Recovery.{OpensAs, AreKept, GivesValue, RecoversPrefix}
use Rattle.kv_model.proofs.KeptLemmas.{kept-given}
use Rattle.kv_model.proofs.PairwiseLemmas.{All-map, All-append}
use Rattle.kv_model.proofs.PrefixLemmas.{prefix-longer}
use Rattle.kv_parties.specs.Rows.{row}
use Rattle.kv_recover.specs.Opened.{KeepsStore}
use Rattle.kv_serve.proofs.FoundLemmas.{keeps-each}

-- none of the writes is of the key
abbrev NoneOf : List ℕ → List Write → Type 0
NoneOf key writes = AllByRecursion (λ write. write.key ≡ key → ⊥) writes

-- writes of other keys, before and behind
latest-none : (xs : List Write) (stamp : ℕ) (key : List ℕ) → NoneOf key xs
    → latest xs stamp key ≡ None
latest-none [] stamp key none = refl
latest-none (x ∷ xs) stamp key none = elim (cases_Bool (bytes_eq x.key key)) [
  | inl same ↦ absurd (none.0 ((bytes_eq-Decides x.key key).0 same))
  | inr other ↦ rw other (latest-none xs stamp key none.1)
]

latest-others : (xs ys : List Write) (stamp : ℕ) (key : List ℕ) → NoneOf key xs
    → latest (xs ++ ys) stamp key ≡ latest ys stamp key
latest-others [] ys stamp key none = refl
latest-others (x ∷ xs) ys stamp key none = elim (cases_Bool (bytes_eq x.key key)) [
  | inl same ↦ absurd (none.0 ((bytes_eq-Decides x.key key).0 same))
  | inr other ↦ rw other (latest-others xs ys stamp key none.1)
]

latest-behind : (xs ys : List Write) (stamp : ℕ) (key : List ℕ) → NoneOf key ys
    → latest (xs ++ ys) stamp key ≡ latest xs stamp key
latest-behind [] ys stamp key none = latest-none ys stamp key none
latest-behind (x ∷ xs) ys stamp key none =
    ap (λ rest. if bytes_eq x.key key && nat_le x.stamp stamp then Some (later_of x rest) else rest)
    (latest-behind xs ys stamp key none)

module _ (workers : ℕ) (before : ℕ → List Write) (owned : (worker : ℕ) → worker < workers
    → AllByRecursion (λ write. owner_of write.key workers ≡ worker) (before worker)) where
  none-of-worker : (v w : ℕ) (key : List ℕ) → v < workers → owner_of key workers ≡ w
      → (v ≡ w → ⊥) → NoneOf key (before v)
  none-of-worker v w key lt is other = All-map (λ write. owner_of write.key workers ≡ v)
      (λ write. write.key ≡ key → ⊥) (before v)
      (λ write own same. other (sym own ∙ ap (λ k. owner_of k workers) same ∙ is)) (owned v lt)

  none-of-row : (n w : ℕ) (key : List ℕ) → owner_of key workers ≡ w → n ≤ w → n ≤ workers
      → NoneOf key (row n before)
  none-of-row zero w key is low le = tt
  none-of-row (suc n) w key is low le = All-append (λ write. write.key ≡ key → ⊥) (row n before)
      (before n) (none-of-row n w key is (omega (arith, low)) (omega (arith, le)))
      (none-of-worker n w key (omega (arith, le)) is (λ same. omega (arith, same, low)))

  latest-row : (n w stamp : ℕ) (key : List ℕ) → owner_of key workers ≡ w → w < n → n ≤ workers
      → latest (row n before) stamp key ≡ latest (before w) stamp key
  latest-row zero w stamp key is lt le = absurd (omega (arith, lt))
  latest-row (suc n) w stamp key is lt le = ⊎_elim
      (λ (same : w ≡ n). latest-others (row n before) (before n) stamp key
      (none-of-row n w key is (omega (arith, same)) (omega (arith, le)))
      ∙ ap (λ v. latest (before v) stamp key) (sym same))
      (λ (other : w ≡ n → ⊥). latest-behind (row n before) (before n) stamp key
      (none-of-worker n w key (omega (arith, le)) is (λ same. other (sym same)))
      ∙ latest-row n w stamp key is (omega (arith, lt, other)) (omega (arith, le)))
      (cases_eq w n)

  -- a key has of all writes what it has of its worker's
  value-row : (w stamp : ℕ) (key : List ℕ) → w < workers → owner_of key workers ≡ w
      → value_at (row workers before) stamp key ≡ value_at (before w) stamp key
  value-row w stamp key lt is = ap (option_and_then (λ (write : Write). write.value))
      (latest-row workers w stamp key is lt (omega arith))

  module _ (floor : ℕ) (low : AllByRecursion (λ write. write.stamp ≤ floor) (row workers before))
      (w : ℕ) (lt : w < workers)
      (below : AllByRecursion (λ write. write.stamp ≤ floor) (before w)) where
    -- an image that keeps just the worker's items has all of the writes
    pub recovers-items : (image : Image) → OpensAs all_classes image w workers
        → AreKept all_classes image w workers (before w)
        → RecoversPrefix all_classes (row workers before) (row workers before) image w workers
    recovers-items image opens kept = record {
      opens = opens;
      prefix = λ key is. (
        floor,
        All-map (λ write. write.stamp ≤ floor) (λ write. write.key ≡ key → write.stamp ≤ floor)
            (row workers before) (λ write le same. le) low,
        subst (GivesValue (slot_at all_classes image) w workers key)
            (sym (value-row w floor key lt is))
            (kept-given all_classes image w workers (before w) floor key kept
            (keeps-each image w workers opens) below),
      );
    }

    -- so has one that keeps what the first keeps
    pub recovers-kept : (first image : Image) → OpensAs all_classes first w workers
        → AreKept all_classes first w workers (before w) → KeepsStore first w workers image
        → RecoversPrefix all_classes (row workers before) (row workers before) image w workers
    recovers-kept first image opens kept keeps = recovers-items image (keeps.opens opens) (record {
      distinct = kept.distinct;
      each = λ write has.
          let one = kept.each write has in (
            one.0,
            (keeps.kept write.key one.0).0 one.1,
            one.2,
            one.3,
          );
      all = λ key copy is. kept.all key copy ((keeps.kept key copy).1 is);
    })

-- the stamps of all of these are at least the bound
abbrev AreFrom : ℕ → List Write → Type 0
AreFrom bound history = AllByRecursion (λ write. bound ≤ write.stamp) history

with-written : (request : Request) (stamp bound : ℕ) (rest : List Write) → bound ≤ stamp
    → AreFrom bound rest → AreFrom bound (cons_option (written request stamp) rest)
with-written (Put key value) stamp bound rest le all = (le, all)
with-written (Get key) stamp bound rest le all = all
with-written (Delete key) stamp bound rest le all = (le, all)
with-written Flush stamp bound rest le all = all
with-written (After told) stamp bound rest le all = all

-- stamps above the floor and below the end of stamps
abbrev AreAbove : ℕ → List ℕ → Type 0
AreAbove floor numbers = AllByRecursion (λ stamp. (floor < stamp) × (stamp < 2 ^ 62)) numbers

with-pair : (reply : Reply) (request : Request) (floor : ℕ) (numbers : List ℕ)
    (known unsure : List Write) → AreAbove floor (cons_option (stamp_of reply) numbers)
    → (AreAbove floor numbers → AreFrom (floor + 1) known × AreFrom (floor + 1) unsure)
    → AreFrom (floor + 1) (cons_option (acknowledged_by request reply) known)
    × AreFrom (floor + 1) (cons_option (unsure_by request reply) unsure)
with-pair (Stored stamp) request floor numbers known unsure all more = (
  with-written request stamp (floor + 1) known (omega (arith, all.0)) (more all.1).0,
  (more all.1).1,
)
with-pair (Removed stamp) request floor numbers known unsure all more = (
  with-written request stamp (floor + 1) known (omega (arith, all.0)) (more all.1).0,
  (more all.1).1,
)
with-pair (Unsure stamp) request floor numbers known unsure all more = (
  (more all.1).0,
  with-written request stamp (floor + 1) unsure (omega (arith, all.0)) (more all.1).1,
)
with-pair (Found stamp value) request floor numbers known unsure all more = more all.1
with-pair (Missing stamp) request floor numbers known unsure all more = more all.1
with-pair (Absent stamp) request floor numbers known unsure all more = more all.1
with-pair reply request floor numbers known unsure all more = more all

-- the writes of pairs whose stamps are above the floor
writes-above : (floor : ℕ) (pairs : List Pair) → AreAbove floor (stamps pairs)
    → AreFrom (floor + 1) (writes pairs) × AreFrom (floor + 1) (unsure_writes pairs)
writes-above floor [] above = (tt, tt)
writes-above floor (pair ∷ pairs) above = with-pair pair.reply pair.request floor (stamps pairs)
    (writes pairs) (unsure_writes pairs) above (writes-above floor pairs)

-- an image that has all of the earlier writes has a prefix of them and of what is answered later
pub recovers-longer : (before : List Write) (floor : ℕ) (pairs : List Pair) (image : Image)
    (worker workers : ℕ) → AllByRecursion (λ write. write.stamp ≤ floor) before
    → AllByRecursion (λ stamp. (floor < stamp) × (stamp < 2 ^ 62)) (stamps pairs)
    → RecoversPrefix all_classes before before image worker workers
    → RecoversPrefix all_classes (before ++ writes pairs ++ unsure_writes pairs) (before ++ [])
    image worker workers
recovers-longer before floor pairs image worker workers low above recovers =
    let more = writes-above floor pairs above in
    let under = All-map (λ write. write.stamp ≤ floor) (λ write. write.stamp < floor + 1) before
    (λ write le. omega (arith, le)) low in
    subst (λ known. RecoversPrefix all_classes (before ++ writes pairs ++ unsure_writes pairs) known
    image worker workers) (sym (append-nil before))
    (subst (λ history. RecoversPrefix all_classes history before image worker workers)
    (sym (append_assoc before (writes pairs) (unsure_writes pairs)))
    (prefix-longer all_classes before (writes pairs ++ unsure_writes pairs) before (floor + 1) image
    worker workers recovers (omega arith) under under
    (All-append (λ write. floor + 1 ≤ write.stamp) (writes pairs) (unsure_writes pairs) more.0
    more.1)))
