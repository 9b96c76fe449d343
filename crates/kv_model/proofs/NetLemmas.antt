-- Lemmas on what a batch accepts, and on the last write of each key.
use Rattle.std.proofs.Common.{◌≡◌, ◌≢◌, ℕ, ◌+◌, ◌≤◌, Bool, true, false, cond, List, [], ◌∷◌}
use Rattle.std.proofs.Common.{Option, None, Some, refl, ap, sym, ◌∙◌, arith}
use Rattle.std.proofs.Common.{◌||◌}
use Rattle.std.proofs.Common.{option_to_list, filter}
use Rattle.std.proofs.Common.{length}
use Rattle.std.proofs.Common.{is_some, true≢false}
use Rattle.std.specs.List.{AllByRecursion}
use Rattle.std.specs.Option.{option_or}
use Rattle.std.specs.Str.{bytes_eq}
use Rattle.std.proofs.lemmas.Slice.Eq.{bytes_eq-Decides}
use Rattle.kv_base.specs.declared.request.Request.{Request}
use Rattle.kv_base.specs.declared.request.Request.TheVariants.{Put, Get, Delete, Flush, After}
use Rattle.kv_model.specs.Pairwise.{Pairwise}
use Rattle.kv_model.specs.History.{Write}
use Rattle.kv_model.specs.Pairs.{written}
use Rattle.kv_model.specs.Batch.{Start, last_write, last_writes, value_or, full_class, accepted}
use Rattle.kv_model.specs.Batch.{behind}
use Rattle.kv_model.specs.Batch.{accepted_writes, changes_something, net}
use Rattle.kv_model.specs.BatchLaws.{RiseBetween}
use Rattle.kv_model.proofs.ReadingLemmas.{RiseBetween-lower, RiseBetween-append}

pub RiseBetween-higher : (low high more : ℕ) (writes : List Write) → high ≤ more
    → RiseBetween low high writes → RiseBetween low more writes
RiseBetween-higher low high more [] le rise = omega (arith, rise)
RiseBetween-higher low high more (write ∷ writes) le rise =
    (rise.0, RiseBetween-higher (write.stamp + 1) high more writes le rise.1)

RiseBetween-cond : (b : Bool) (low high : ℕ) (write : Write) (rest : List Write)
    → low ≤ write.stamp → RiseBetween (write.stamp + 1) high rest
    → RiseBetween low high (cond b rest (write ∷ rest))
RiseBetween-cond true low high write rest le rise =
    RiseBetween-lower (write.stamp + 1) low high rest (omega arith) rise
RiseBetween-cond false low high write rest le rise = (le, rise)

RiseBetween-kept : (b : Bool) (low high : ℕ) (write : Write) (rest : List Write)
    → low ≤ write.stamp → RiseBetween (write.stamp + 1) high rest
    → RiseBetween low high (cond b (write ∷ rest) rest)
RiseBetween-kept false low high write rest le rise =
    RiseBetween-lower (write.stamp + 1) low high rest (omega arith) rise
RiseBetween-kept true low high write rest le rise = (le, rise)

pub RiseBetween-last_writes : (writes : List Write) (low high : ℕ) → RiseBetween low high writes
    → RiseBetween low high (last_writes writes)
RiseBetween-last_writes [] low high rise = rise
RiseBetween-last_writes (write ∷ writes) low high rise =
    RiseBetween-cond (is_some (last_write writes write.key)) low high write (last_writes writes)
    rise.0 (RiseBetween-last_writes writes (write.stamp + 1) high rise.1)

pub RiseBetween-filter : (writes : List Write) (test : Write → Bool) (low high : ℕ)
    → RiseBetween low high writes → RiseBetween low high (filter test writes)
RiseBetween-filter [] test low high rise = rise
RiseBetween-filter (write ∷ writes) test low high rise =
    RiseBetween-kept (test write) low high write (filter test writes) rise.0
    (RiseBetween-filter writes test (write.stamp + 1) high rise.1)

-- the write that a request is accepted with has the request's stamp
pub RiseBetween-accepted : (request : Request) (start : Start) (writes : List Write) (stamp : ℕ)
    → RiseBetween stamp (stamp + 1) (option_to_list (accepted start writes stamp request))
RiseBetween-accepted (Put key value) start writes stamp = by (is_some (full_class start writes key
    value))
  where
    by : (b : Bool) → RiseBetween stamp (stamp + 1) (option_to_list (cond b None (written
        (Put key value) stamp)))
    by true = omega arith
    by false = (omega arith, omega arith)
RiseBetween-accepted (Get key) start writes stamp = omega arith
RiseBetween-accepted (Delete key) start writes stamp = (omega arith, omega arith)
RiseBetween-accepted Flush start writes stamp = omega arith
RiseBetween-accepted (After told) start writes stamp = omega arith

pub RiseBetween-behind : (start : Start) (writes : List Write) (low stamp : ℕ) (request : Request)
    → RiseBetween low stamp writes → RiseBetween low (stamp + 1) (behind start writes stamp request)
RiseBetween-behind start writes low stamp request rise =
    RiseBetween-append low stamp (stamp + 1) writes (option_to_list (accepted start writes stamp
    request)) rise (RiseBetween-accepted request start writes stamp)

-- the writes that a batch accepts have the batch's stamps
pub RiseBetween-accepted_writes : (requests : List Request) (start : Start) (writes : List Write)
    (low stamp : ℕ) → RiseBetween low stamp writes
    → RiseBetween low (stamp + length requests) (accepted_writes start writes stamp requests)
RiseBetween-accepted_writes [] start writes low stamp rise =
    RiseBetween-higher low stamp (stamp + 0) writes (omega arith) rise
RiseBetween-accepted_writes (request ∷ requests) start writes low stamp rise =
    RiseBetween-higher low (stamp + 1 + length requests) (stamp + length (request ∷ requests))
    (accepted_writes start (behind start writes stamp request) (stamp + 1) requests) (omega arith)
    (RiseBetween-accepted_writes requests start (behind start writes stamp request) low (stamp + 1)
    (RiseBetween-behind start writes low stamp request rise))

-- none of these is of the key
abbrev pub HasNone : List ℕ → List Write → Type 0
HasNone key writes = AllByRecursion (λ write. key ≢ write.key) writes

or_none : (last other : Option Write) → is_some (option_or last other) ≡ false
    → (is_some last ≡ false) × (is_some other ≡ false)
or_none None other none = (refl, none)
or_none (Some write) other none = absurd (true≢false none)

pub HasNone-from : (writes : List Write) (key : List ℕ) → is_some (last_write writes key) ≡ false
    → HasNone key writes
HasNone-from [] key none = tt
HasNone-from (write ∷ writes) key none = (
  first (bytes_eq write.key key) refl parts.1,
  HasNone-from writes key parts.0,
)
  where
    parts : (is_some (last_write writes key) ≡ false) × (is_some (cond (bytes_eq write.key key)
        (Some write) None) ≡ false)
    parts = or_none (last_write writes key) (cond (bytes_eq write.key key) (Some write) None) none

    first : (same : Bool) → bytes_eq write.key key ≡ same → is_some (cond same (Some write) None)
        ≡ false → key ≢ write.key
    first true e hit = absurd (true≢false hit)
    first false e hit = λ equal. true≢false (sym ((bytes_eq-Decides write.key key).1 (sym equal)) ∙
        e)

pub last_write-none : (writes : List Write) (key : List ℕ) → HasNone key writes
    → last_write writes key ≡ None
last_write-none [] key none = refl
last_write-none (write ∷ writes) key none =
    ap (λ last. option_or last (cond (bytes_eq write.key key) (Some write) None))
    (last_write-none writes key none.1) ∙ by (bytes_eq write.key key) refl
  where
    by : (same : Bool) → bytes_eq write.key key ≡ same → cond same (Some write) None ≡ None
    by true e = absurd (none.0 (sym ((bytes_eq-Decides write.key key).0 e)))
    by false e = refl

All-cond : (P : Write → Type 0) (b : Bool) (write : Write) (rest : List Write) → P write
    → AllByRecursion P rest → AllByRecursion P (cond b rest (write ∷ rest))
All-cond P true write rest here more = more
All-cond P false write rest here more = (here, more)

pub All-last_writes : (P : Write → Type 0) (writes : List Write) → AllByRecursion P writes
    → AllByRecursion P (last_writes writes)
All-last_writes P [] all = tt
All-last_writes P (write ∷ writes) all = All-cond P (is_some (last_write writes write.key)) write
    (last_writes writes) all.0 (All-last_writes P writes all.1)

All-kept : (P : Write → Type 0) (b : Bool) (write : Write) (rest : List Write) → P write
    → AllByRecursion P rest → AllByRecursion P (cond b (write ∷ rest) rest)
All-kept P false write rest here more = more
All-kept P true write rest here more = (here, more)

pub All-filter : (P : Write → Type 0) (test : Write → Bool) (writes : List Write)
    → AllByRecursion P writes → AllByRecursion P (filter test writes)
All-filter P test [] all = tt
All-filter P test (write ∷ writes) all = All-kept P (test write) write (filter test writes) all.0
    (All-filter P test writes all.1)

-- the keys differ
abbrev pub DifferentKeys : List Write → Type 0
DifferentKeys writes = Pairwise (λ write other. write.key ≢ other.key) writes

pub DifferentKeys-last_writes : (writes : List Write) → DifferentKeys (last_writes writes)
DifferentKeys-last_writes [] = tt
DifferentKeys-last_writes (write ∷ writes) = by (is_some (last_write writes write.key)) refl
    (DifferentKeys-last_writes writes)
  where
    by : (b : Bool) → is_some (last_write writes write.key) ≡ b → DifferentKeys (last_writes writes)
        → DifferentKeys (cond b (last_writes writes) (write ∷ last_writes writes))
    by true e rest = rest
    by false e rest = (
      All-last_writes (λ other. write.key ≢ other.key) writes
          (HasNone-from writes write.key e),
      rest,
    )

pub DifferentKeys-filter : (test : Write → Bool) (writes : List Write) → DifferentKeys writes
    → DifferentKeys (filter test writes)
DifferentKeys-filter test [] differ = tt
DifferentKeys-filter test (write ∷ writes) differ = by (test write)
    (DifferentKeys-filter test writes differ.1)
  where
    by : (b : Bool) → DifferentKeys (filter test writes) → DifferentKeys (cond b (write ∷ filter
        test writes) (filter test writes))
    by true rest = (All-filter (λ other. write.key ≢ other.key) test writes differ.0, rest)
    by false rest = rest

-- where the earlier writes have none of the key, they have none in the net changes
net-none : (start : Start) (writes : List Write) (key : List ℕ) → is_some (last_write writes key)
    ≡ false → last_write (net start writes) key ≡ None
net-none start writes key none = last_write-none (net start writes) key
    (All-filter (λ write. key ≢ write.key) (changes_something start) (last_writes writes)
    (All-last_writes (λ write. key ≢ write.key) writes (HasNone-from writes key none)))

pub or_no : (last : Option Write) → option_or last None ≡ last
or_no None = refl
or_no (Some write) = refl

pub is_none : (last : Option Write) → is_some last ≡ false → last ≡ None
is_none None e = refl
is_none (Some write) e = absurd (true≢false e)

pub or_kept : (last : Option Write) (same : Bool) (write : Write) → (same ≡ true
    → is_some last ≡ true) → option_or last (cond same (Some write) None) ≡ last
or_kept None true write some = absurd (true≢false (sym (some refl)))
or_kept None false write some = refl
or_kept (Some last) same write some = refl

net_step : (kept same : Bool) (write : Write) (less last : Option Write)
    (before : Option (List ℕ)) → (same ≡ true → (less ≡ None) × (last ≡ None))
    → value_or less before ≡ value_or last before → (kept ≡ false → same ≡ true
    → write.value ≡ before) → value_or (cond kept (option_or less (cond same (Some write) None))
    less) before ≡ value_or (option_or last (cond same (Some write) None)) before
net_step true true write less last before none rest drops =
    ap (λ o. value_or (option_or o (Some write)) before) ((none refl).0 ∙ sym (none refl).1)
net_step true false write less last before none rest drops =
    ap (λ o. value_or o before) (or_no less) ∙ rest ∙ sym (ap (λ o. value_or o before) (or_no last))
net_step false true write less last before none rest drops =
    ap (λ o. value_or o before) (none refl).0 ∙ sym (drops refl refl)
    ∙ sym (ap (λ o. value_or (option_or o (Some write)) before) (none refl).1)
net_step false false write less last before none rest drops =
    rest ∙ sym (ap (λ o. value_or o before) (or_no last))

last_write-cond : (kept : Bool) (write : Write) (rest : List Write) (key : List ℕ)
    → last_write (cond kept (write ∷ rest) rest) key ≡ cond kept (option_or (last_write rest key)
    (cond (bytes_eq write.key key) (Some write) None)) (last_write rest key)
last_write-cond true write rest key = refl
last_write-cond false write rest key = refl

none_both : (value before here : Option (List ℕ)) → (is_some value || is_some here) ≡ false
    → is_some before ≡ is_some here → value ≡ before
none_both None None here nothing same = refl
none_both None (Some bytes) None nothing same = absurd (true≢false same)
none_both None (Some bytes) (Some other) nothing same = absurd (true≢false nothing)
none_both (Some bytes) before here nothing same = absurd (true≢false nothing)

-- behind the net changes a key has what it has behind all of them
pub net-reads : (writes : List Write) (start : Start) (key : List ℕ) (before : Option (List ℕ))
    → is_some before ≡ is_some (start.value key)
    → value_or (last_write (net start writes) key) before ≡ value_or (last_write writes key) before
net-reads [] start key before has = refl
net-reads (write ∷ writes) start key before has = by (is_some (last_write writes write.key)) refl
    (net-reads writes start key before has)
  where
    same_key : bytes_eq write.key key ≡ true → write.key ≡ key
    same_key e = (bytes_eq-Decides write.key key).0 e

    by : (b : Bool) → is_some (last_write writes write.key) ≡ b
        → value_or (last_write (net start writes) key) before
        ≡ value_or (last_write writes key) before → value_or (last_write (filter (changes_something
        start) (cond b (last_writes writes)
        (write ∷ last_writes writes))) key) before ≡ value_or (option_or (last_write writes key)
        (cond (bytes_eq write.key key) (Some write) None)) before
    by true e rest = rest
        ∙ sym (ap (λ o. value_or o before) (or_kept (last_write writes key) (bytes_eq write.key key)
        write (λ same. ap (λ k. is_some (last_write writes k)) (sym (same_key same)) ∙ e)))
    by false e rest = ap (λ o. value_or o before) (last_write-cond (changes_something start write)
        write
        (net start writes) key)
        ∙ net_step (changes_something start write) (bytes_eq write.key key) write
        (last_write (net start writes) key) (last_write writes key) before
        (λ same. let none : is_some (last_write writes key) ≡ false =
        ap (λ k. is_some (last_write writes k)) (sym (same_key same)) ∙ e in
        (net-none start writes key none, is_none (last_write writes key) none))
        rest
        (λ drops same. none_both write.value before (start.value write.key) drops
        (has ∙ ap (λ k. is_some (start.value k)) (sym (same_key same))))
