-- Which writes of a batch go to disk.
use Rattle.std.proofs.Common.{◌≡◌, ◌≢◌, ℕ, zero, suc, ◌+◌, ◌<◌, ◌≤◌, Bool, true, false, cond, ◌&&◌, ◌==◌}
use Rattle.std.proofs.Common.{List, [], ◌∷◌, ◌++◌, Option, None, Some, refl, ap, sym, ◌∙◌, subst, arith}
use Rattle.std.proofs.Common.{length, take, drop, get_or, filter, is_some, option_and_then, append-nil}
use Rattle.std.proofs.Common.{option_to_list, append_assoc, eqb-true, eq-eqb, true≢false}
use Rattle.std.proofs.Common.{count_by, ne_eqb, take-append-drop, le_refl, take_all}
use Rattle.std.specs.List.{AllByRecursion}
use Rattle.std.specs.Option.{option_or}
use Rattle.std.specs.Str.{bytes_eq}
use Rattle.std.proofs.lemmas.List.{take_more, length-take-le}
use Rattle.std.proofs.lemmas.List.Elements.{filter-append}
use Rattle.std.proofs.lemmas.Slice.Eq.{bytes_eq-Decides}
use Rattle.kv_base.specs.declared.request.Request.{Request}
use Rattle.kv_base.specs.declared.request.Request.TheVariants.{Put, Get, Delete, Flush, After}
use Rattle.kv_model.specs.Pairwise.{Pairwise}
use Rattle.kv_model.specs.History.{Write}
use Rattle.kv_model.specs.Pairs.{written}
use Rattle.kv_model.specs.Batch.{Start, last_write, last_writes, changes_something, net, full_class}
use Rattle.kv_model.specs.Batch.{accepted, behind, accepted_writes}
use Rattle.kv_model.specs.BatchLaws.{RiseBetween}
use Rattle.kv_model.proofs.ReadingLemmas.{RiseBetween-append, RiseBetween-le, RiseBetween-lower}
use Rattle.kv_model.proofs.ReadingLemmas.{RiseBetween-below, RiseBetween-from}
use Rattle.kv_model.proofs.NetLemmas.{RiseBetween-accepted, RiseBetween-higher, or_no, is_none}
use Rattle.kv_model.proofs.NetLemmas.{RiseBetween-accepted_writes}
use Rattle.kv_worker.specs.Net.{has_stamp, change_for}
use Rattle.kv_worker.proofs.BatchLemmas.{accepted-append}

-- the write is the last of its key among these
abbrev pub is_last : List Write → Write → Bool
is_last writes write = has_stamp (last_write writes write.key) write.stamp

-- no write has this stamp
abbrev pub NoneHas : ℕ → List Write → Type 0
NoneHas stamp writes = AllByRecursion (λ write. write.stamp ≢ stamp) writes

has-or : (last other : Option Write) (stamp : ℕ) → has_stamp last stamp ≡ false
    → has_stamp other stamp ≡ false → has_stamp (option_or last other) stamp ≡ false
has-or None other stamp a b = b
has-or (Some write) other stamp a b = a

-- where no write has the stamp, no last write has it
pub none-has : (writes : List Write) (key : List ℕ) (stamp : ℕ) → NoneHas stamp writes
    → has_stamp (last_write writes key) stamp ≡ false
none-has [] key stamp none = refl
none-has (write ∷ writes) key stamp none =
    has-or (last_write writes key) (cond (bytes_eq write.key key) (Some write) None) stamp
    (none-has writes key stamp none.1) (by (bytes_eq write.key key))
  where
    by : (same : Bool) → has_stamp (cond same (Some write) None) stamp ≡ false
    by true = ne_eqb write.stamp stamp none.0
    by false = refl

pub NoneHas-above : (low high stamp : ℕ) (writes : List Write) → RiseBetween low high writes
    → stamp < low → NoneHas stamp writes
NoneHas-above low high stamp [] rise lt = tt
NoneHas-above low high stamp (write ∷ writes) rise lt = (
  (λ e. omega (arith, e, rise.0)),
  NoneHas-above (write.stamp + 1) high stamp writes rise.1
      (omega (arith, rise.0)),
)

pub NoneHas-below : (low high stamp : ℕ) (writes : List Write) → RiseBetween low high writes
    → high ≤ stamp → NoneHas stamp writes
NoneHas-below low high stamp [] rise le = tt
NoneHas-below low high stamp (write ∷ writes) rise le =
    let top = RiseBetween-le (write.stamp + 1) high writes rise.1 in
    ((λ e. omega (arith, e, top)), NoneHas-below (write.stamp + 1) high stamp writes rise.1 le)

NoneHas-append : (stamp : ℕ) (writes others : List Write) → NoneHas stamp writes
    → NoneHas stamp others → NoneHas stamp (writes ++ others)
NoneHas-append stamp [] others none more = more
NoneHas-append stamp (write ∷ writes) others none more =
    (none.0, NoneHas-append stamp writes others none.1 more)

filter-same : (p q : Write → Bool) (writes : List Write)
    → AllByRecursion (λ write. p write ≡ q write) writes → filter p writes ≡ filter q writes
filter-same p q [] same = refl
filter-same p q (write ∷ writes) same =
    ap (λ b. cond b (write ∷ filter p writes) (filter p writes)) same.0
    ∙ ap (λ rest. cond (q write) (write ∷ rest) rest) (filter-same p q writes same.1)

-- each of these writes has a last one of its key
abbrev HaveLast : List Write → List Write → Type 0
HaveLast all writes = AllByRecursion (λ write. is_some (last_write all write.key) ≡ true) writes

is_some-or : (last other : Option Write) → is_some last ≡ true → is_some (option_or last other)
    ≡ true
is_some-or None other e = absurd (true≢false (sym e))
is_some-or (Some write) other e = refl

or_some : (last other : Option Write) → is_some last ≡ true → option_or last other ≡ last
or_some None other e = absurd (true≢false (sym e))
or_some (Some write) other e = refl

bytes_same : (key : List ℕ) → bytes_eq key key ≡ true
bytes_same key = (bytes_eq-Decides key key).1 refl

HaveLast-more : (first : Write) (all writes : List Write) → HaveLast all writes
    → HaveLast (first ∷ all) writes
HaveLast-more first all [] have = tt
HaveLast-more first all (write ∷ writes) have = (
  is_some-or (last_write all write.key)
      (cond (bytes_eq first.key write.key) (Some first) None) have.0,
  HaveLast-more first all writes have.1,
)

have-last : (writes : List Write) → HaveLast writes writes
have-last [] = tt
have-last (write ∷ writes) = (
  here (last_write writes write.key),
  HaveLast-more write writes writes (have-last writes),
)
  where
    here : (last : Option Write) → is_some (option_or last (cond (bytes_eq write.key write.key)
        (Some write) None)) ≡ true
    here None = ap (λ b. is_some (cond b (Some write) None)) (bytes_same write.key)
    here (Some other) = refl

same-tests : (first : Write) (all writes : List Write) → HaveLast all writes
    → AllByRecursion (λ write. is_last (first ∷ all) write ≡ is_last all write) writes
same-tests first all [] have = tt
same-tests first all (write ∷ writes) have = (
  ap (λ o. has_stamp o write.stamp) (or_some (last_write all write.key)
      (cond (bytes_eq first.key write.key) (Some first) None) have.0),
  same-tests first all writes have.1,
)

-- the last writes are those that are the last of their key
pub last_writes-is : (writes : List Write) (low high : ℕ) → RiseBetween low high writes
    → last_writes writes ≡ filter (is_last writes) writes
last_writes-is [] low high rise = refl
last_writes-is (write ∷ writes) low high rise =
    by (last_write writes write.key) (none-has writes write.key write.stamp (NoneHas-above
    (write.stamp + 1) high write.stamp writes rise.1 (omega arith)))
    (last_writes-is writes (write.stamp + 1) high rise.1)
    ∙ ap (λ rest. cond (is_last (write ∷ writes) write) (write ∷ rest) rest)
    (sym (filter-same (is_last (write ∷ writes)) (is_last writes) writes
    (same-tests write writes writes (have-last writes))))
  where
    by : (last : Option Write) → has_stamp last write.stamp ≡ false → last_writes writes
        ≡ filter (is_last writes) writes → cond (is_some last) (last_writes writes) (write
        ∷ last_writes writes) ≡ cond (has_stamp (option_or last (cond (bytes_eq write.key write.key)
        (Some write) None)) write.stamp) (write ∷ filter (is_last writes) writes)
        (filter (is_last writes) writes)
    by None no_last rest =
        ap (λ all. write ∷ all) rest
        ∙ sym (ap (λ b. cond b (write ∷ filter (is_last writes) writes)
        (filter (is_last writes) writes)) (ap (λ b. has_stamp (cond b (Some write) None) write.stamp)
        (bytes_same write.key) ∙ eq-eqb write.stamp write.stamp refl))
    by (Some other) no_last rest =
        rest ∙ sym (ap (λ b. cond b (write ∷ filter (is_last writes) writes)
        (filter (is_last writes) writes)) no_last)

-- what a batch accepts from here on comes behind what it accepted
pub record Grows (before after : List Write) (low high : ℕ) : Type 0 where
  pub rest : List Write
  pub is : after ≡ before ++ rest
  pub rise : RiseBetween low high rest

pub accepted-grows : (requests : List Request) (start : Start) (writes : List Write) (stamp : ℕ)
    → Grows writes (accepted_writes start writes stamp requests) stamp (stamp + length requests)
accepted-grows [] start writes stamp = record {
  rest = [];
  is = sym (append-nil writes);
  rise = omega arith;
}
accepted-grows (request ∷ requests) start writes stamp =
    let here = option_to_list (accepted start writes stamp request) in
    let more = accepted-grows requests start (behind start writes stamp request) (stamp + 1) in
    record {
      rest = here ++ more.rest;
      is = more.is ∙ append_assoc writes here more.rest;
      rise = RiseBetween-append stamp (stamp + 1) (stamp + length (request ∷ requests)) here
          more.rest (RiseBetween-accepted request start writes stamp)
          (RiseBetween-higher (stamp + 1) (stamp + 1 + length requests) (stamp + length (request
          ∷ requests)) more.rest (omega arith) more.rise);
    }

-- what goes to disk of the write that a request is accepted with
abbrev pub kept_of : Start → List Write → List Write → List Write
kept_of start all writes = filter (changes_something start) (filter (is_last all) writes)

one-kept : (start : Start) (all : List Write) (write : Write) (b c : Bool)
    → is_last all write ≡ b → changes_something start write ≡ c
    → option_to_list (cond (b && c) (Some write) None)
    ≡ filter (changes_something start) (cond b (write ∷ []) [])
one-kept start all write false c e f = refl
one-kept start all write true true e f = sym (ap (λ d. cond d (write ∷ []) []) f)
one-kept start all write true false e f = sym (ap (λ d. cond d (write ∷ []) []) f)

one-change : (start : Start) (all : List Write) (write : Write)
    → option_to_list (cond (is_last all write && changes_something start write) (Some write) None)
    ≡ kept_of start all (write ∷ [])
one-change start all write = one-kept start all write (is_last all write) (changes_something start
    write) refl refl

-- the request's change is what goes to disk of its write
pub change-is : (request : Request) (start : Start) (all writes : List Write) (stamp : ℕ)
    → (accepted start writes stamp request ≡ None → NoneHas stamp all)
    → option_to_list (change_for start all request stamp)
    ≡ kept_of start all (option_to_list (accepted start writes stamp request))
change-is (Put key value) start all writes stamp none = by (full_class start writes key value) refl
  where
    write : Write
    write = record { stamp = stamp; key = key; value = Some value }

    by : (full : Option ℕ) → full_class start writes key value ≡ full
        → option_to_list (cond (is_last all write && changes_something start write) (Some write)
        None) ≡ kept_of start all (option_to_list (cond (is_some full) None (Some write)))
    by None e = one-change start all write
    by (Some class) e = ap (λ b. option_to_list (cond (b && changes_something start write)
        (Some write) None)) (none-has all key stamp (none (ap (λ f. cond (is_some f) None
        (Some write)) e)))
change-is (Get key) start all writes stamp none = refl
change-is Flush start all writes stamp none = refl
change-is (After told) start all writes stamp none = refl
change-is (Delete key) start all writes stamp none = one-change start all (record {
  stamp = stamp;
  key = key;
  value = None;
})

-- all that a batch accepts
abbrev pub all_accepted : Start → List Request → ℕ → List Write
all_accepted start requests base = accepted_writes start [] base requests

-- the first of one more request
accepted-step : (start : Start) (requests : List Request) (i base : ℕ) (request : Request)
    → i < length requests → request ≡ get_or requests i request
    → all_accepted start (take (i + 1) requests) base ≡ behind start (all_accepted start (take i
    requests) base) (base + i) request
accepted-step start requests i base request within is =
    ap (λ all. all_accepted start all base) (take_more requests i request within
    ∙ ap (λ r. take i requests ++ r ∷ []) (sym is))
    ∙ accepted-append (take i requests) (request ∷ []) start [] base
    ∙ ap (λ n. behind start (all_accepted start (take i requests) base) (base + n) request)
    (length-take-le i requests (omega arith))

-- what comes behind the first requests
accepted-behind : (start : Start) (requests : List Request) (i base : ℕ) → i ≤ length requests
    → (high : ℕ) × Grows (all_accepted start (take i requests) base)
    (all_accepted start requests base) (base + i) high
accepted-behind start requests i base within =
    let rest = drop i requests in
    let whole : all_accepted start requests base ≡ accepted_writes start (all_accepted start (take i
    requests) base) (base + i) rest =
    ap (λ all. all_accepted start all base) (sym (take-append-drop i requests))
    ∙ accepted-append (take i requests) rest start [] base
    ∙ ap (λ n. accepted_writes start (all_accepted start (take i requests) base) (base + n) rest)
    (length-take-le i requests within) in
    let grows = accepted-grows rest start (all_accepted start (take i requests) base) (base + i) in (
      base + i + length rest,
      record {
        rest = grows.rest;
        is = whole ∙ grows.is;
        rise = grows.rise;
      },
    )

-- a request that isn't accepted leaves its stamp unused
unused : (start : Start) (requests : List Request) (i base : ℕ) (request : Request)
    → i < length requests → request ≡ get_or requests i request
    → accepted start (all_accepted start (take i requests) base) (base + i) request ≡ None
    → NoneHas (base + i) (all_accepted start requests base)
unused start requests i base request within is none =
    let before = all_accepted start (take i requests) base in
    let more = accepted-behind start requests (i + 1) base (omega arith) in
    let same : all_accepted start (take (i + 1) requests) base ≡ before =
    accepted-step start requests i base request within is
    ∙ ap (λ o. before ++ option_to_list o) none ∙ append-nil before in
    let long : length (take i requests) ≡ i = length-take-le i requests (omega arith) in
    subst (NoneHas (base + i)) (sym (more.1.is ∙ ap (λ all. all ++ more.1.rest) same))
    (NoneHas-append (base + i) before more.1.rest
    (NoneHas-below base (base + length (take i requests)) (base + i) before
    (RiseBetween-accepted_writes (take i requests) start [] base base (le_refl base))
    (omega (arith, long)))
    (NoneHas-above (base + (i + 1)) more.0 (base + i) more.1.rest more.1.rise (omega arith)))

-- one more request's change
pub changes-more : (start : Start) (requests : List Request) (i base : ℕ) (request : Request)
    (changes : List Write) (change : Option Write) → i < length requests
    → request ≡ get_or requests i request
    → changes ≡ kept_of start (all_accepted start requests base) (all_accepted start (take i
    requests) base)
    → change ≡ change_for start (all_accepted start requests base) request (base + i)
    → changes ++ option_to_list change ≡ kept_of start (all_accepted start requests base)
    (all_accepted start (take (i + 1) requests) base)
changes-more start requests i base request changes change within is done one =
    let all = all_accepted start requests base in
    let before = all_accepted start (take i requests) base in
    let here = option_to_list (accepted start before (base + i) request) in
    ap (λ c. c ++ option_to_list change) done
    ∙ ap (λ o. kept_of start all before ++ option_to_list o) one
    ∙ ap (λ c. kept_of start all before ++ c) (change-is request start all before (base + i)
    (unused start requests i base request within is))
    ∙ sym (filter-append (changes_something start) (filter (is_last all) before)
    (filter (is_last all) here))
    ∙ ap (filter (changes_something start)) (sym (filter-append (is_last all) before here))
    ∙ ap (kept_of start all) (sym (accepted-step start requests i base request within is))

-- the changes of all requests are the net changes
pub changes-all : (start : Start) (requests : List Request) (i base : ℕ) → length requests ≤ i
    → kept_of start (all_accepted start requests base) (all_accepted start (take i requests) base)
    ≡ net start (all_accepted start requests base)
changes-all start requests i base end =
    let all = all_accepted start requests base in
    ap (λ r. kept_of start all (all_accepted start r base)) (take_all i requests end)
    ∙ ap (filter (changes_something start)) (sym (last_writes-is all base (base + length requests)
    (RiseBetween-accepted_writes requests start [] base base (le_refl base))))
