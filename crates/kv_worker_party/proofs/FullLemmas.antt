-- A put is refused as Full only where its class has no slot left.
use Rattle.std.proofs.Common.{◌≡◌, ◌≢◌, ◌⊎◌, inl, inr, ℕ, ◌+◌, ◌*◌, ◌≤◌, List, [], ◌∷◌, ◌++◌}
use Rattle.std.proofs.Common.{map, filter, length, Option, Some, None, Bool, true, false, cond, not}
use Rattle.std.proofs.Common.{◌&&◌, ◌||◌, refl, sym, ap, subst, ◌∙◌, arith, IsSome, true≢false}
use Rattle.std.proofs.Common.{Contains, nat_le, option_and_then, option_to_list}
use Rattle.std.proofs.Common.{length-append, append_assoc, append-nil, ◌<◌, eq-eqb}
use Rattle.std.specs.List.{AllByRecursion}
use Rattle.std.specs.Str.{bytes_eq}
use Rattle.std.proofs.lemmas.Bool.{and_parts, eqb-true, leb-true, cases_lt}
use Rattle.std.proofs.lemmas.List.{length-map}
use Rattle.std.proofs.lemmas.List.Sums.{length-filter}
use Rattle.kv_base.specs.declared.reply.Reply.{Reply}
use Rattle.kv_base.specs.declared.reply.Reply.TheVariants.{Full}
use Rattle.kv_base.specs.declared.request.Request.{Request}
use Rattle.kv_base.specs.declared.request.Request.TheVariants.{Put, Get, Delete, Flush, After}
use Rattle.kv_model.proofs.NetLemmas.{All-last_writes, All-filter, DifferentKeys-last_writes}
use Rattle.kv_model.proofs.NetLemmas.{DifferentKeys-filter}
use Rattle.kv_model.proofs.PairwiseLemmas.{All-append, All-map, All-front, Pairwise-append}
use Rattle.kv_model.specs.Batch.{Start, answers, reply_of, put_reply, get_reply, delete_reply, behind}
use Rattle.kv_model.specs.Batch.{accepted, accepted_writes, full_class, is_full, needs_slot}
use Rattle.kv_model.specs.Batch.{takes_slot, taken_by_others, last_writes, class_written, value_after}
use Rattle.kv_model.specs.History.{Write}
use Rattle.kv_model.specs.Layout.{all_classes, class_of, is_small}
use Rattle.kv_model.specs.Pairs.{writes}
use Rattle.kv_model.specs.Pairwise.{Pairwise}
use Rattle.kv_model.specs.Slots.{is_class}
use Rattle.kv_parties.specs.Causes.{HasKeysOf, HasNoSlot}
use Rattle.kv_worker_party.proofs.ListLemmas.{same-some, none-some, filtered}
use Rattle.kv_worker_party.proofs.KeyLemmas.{HasWrite}

-- the write has a value, and is in the history
abbrev pub IsIn : List Write → Write → Type 0
IsIn history write = IsSome write.value → Contains history write

-- the class that the reply says has no slot left
abbrev pub full_of : Reply → Option ℕ
full_of (Full class) = Some class
full_of reply = None

-- the class that the reply says has no slot left has none
abbrev pub HasCause : ℕ → List Write → Reply → Type 0
HasCause limit history reply = (class : ℕ) → full_of reply ≡ Some class
    → HasNoSlot all_classes limit history class

is-class : (o : Option ℕ) (class : ℕ) → is_class o class ≡ true → o ≡ Some class
is-class None class e = absurd (true≢false (sym e))
is-class (Some found) class e = ap (λ n. Some n) (eqb-true found class e)

-- the keys of the other writes that take a slot
abbrev takes : Start → List ℕ → ℕ → Write → Bool
takes start key class write = not (bytes_eq write.key key) && takes_slot start class write

abbrev pub other_keys : Start → List Write → List ℕ → ℕ → List (List ℕ)
other_keys start writes key class = map (λ write. write.key) (filter (takes start key class)
    (last_writes writes))

keys-apart : (writes : List Write) → Pairwise (λ write other. write.key ≢ other.key) writes
    → Pairwise (λ key other. key ≢ other) (map (λ write. write.key) writes)
keys-apart [] apart = tt
keys-apart (write ∷ writes) apart = (each writes apart.0, keys-apart writes apart.1)
  where
    each : (others : List Write) → AllByRecursion (λ other. write.key ≢ other.key) others
        → AllByRecursion (λ key. write.key ≢ key) (map (λ (w : Write). w.key) others)
    each [] all = tt
    each (other ∷ others) all = (all.0, each others all.1)

keys-all : (P : List ℕ → Type 0) (writes : List Write)
    → AllByRecursion (λ write. P write.key) writes
    → AllByRecursion P (map (λ write. write.key) writes)
keys-all P [] all = tt
keys-all P (write ∷ writes) all = (all.0, keys-all P writes all.1)

other-many : (start : Start) (writes : List Write) (key : List ℕ) (class : ℕ)
    → taken_by_others start writes key class ≡ length (other_keys start writes key class)
other-many start writes key class =
    sym (length-map (filter (takes start key class) (last_writes writes)) (λ (w : Write). w.key)
    ∙ length-filter (takes start key class) (last_writes writes))

written-class : (start : Start) (class : ℕ) (write : Write)
    → class_written start.layout write ≡ Some class → IsSome write.value
written-class start class write e = by write.value e
  where
    by : (o : Option (List ℕ)) → option_and_then (λ value. class_of start.layout (length write.key)
        (length value)) o ≡ Some class → IsSome o
    by None f = absurd (none-some class f)
    by (Some value) f = refl

-- what such a key has
record Takes (start : Start) (history : List Write) (class : ℕ) (key : List ℕ) : Type 0 where
  pub write : HasWrite class history key
  pub needs : needs_slot start key class ≡ true

takes-has : (start : Start) (history : List Write) (key : List ℕ) (class : ℕ) (write : Write)
    → start.layout ≡ all_classes → takes start key class write ≡ true → IsIn history write
    → Takes start history class write.key
takes-has start history key class write layout test within =
    let parts = and_parts (not (bytes_eq write.key key)) (takes_slot start class write) test in
    let slot = and_parts (is_class (class_written start.layout write) class)
    (needs_slot start write.key class) parts.1 in
    let is : class_written start.layout write ≡ Some class =
    is-class (class_written start.layout write) class slot.0 in
    record {
      write = (
        write,
        within (written-class start class write is),
        refl,
        subst (λ l. class_written l write ≡ Some class) layout is,
      );
      needs = slot.1;
    }

others-have : (start : Start) (history : List Write) (key : List ℕ) (class : ℕ)
    (writes : List Write) → start.layout ≡ all_classes
    → AllByRecursion (λ write. takes start key class write ≡ true) writes
    → AllByRecursion (IsIn history) writes
    → AllByRecursion (Takes start history class) (map (λ write. write.key) writes)
others-have start history key class [] layout tests within = tt
others-have start history key class (write ∷ writes) layout tests within = (
  takes-has start history key class write layout tests.0 within.0,
  others-have start history key class writes layout tests.1 within.1,
)

all-others : (start : Start) (history writes : List Write) (key : List ℕ) (class : ℕ)
    → start.layout ≡ all_classes → AllByRecursion (IsIn history) writes
    → AllByRecursion (Takes start history class) (other_keys start writes key class)
all-others start history writes key class layout within =
    others-have start history key class (filter (takes start key class) (last_writes writes)) layout
    (filtered (takes start key class) (last_writes writes))
    (All-filter (IsIn history) (takes start key class) (last_writes writes)
    (All-last_writes (IsIn history) writes within))

-- in a class of small slots a key that needs a slot has no item there
needs-none : (start : Start) (key : List ℕ) (class : ℕ) → is_small class ≡ true
    → needs_slot start key class ≡ true → start.class key ≢ Some class
needs-none start key class small needs is =
    true≢false (sym needs ∙ ap (λ b. not b || not (is_class (start.class key) class)) small
    ∙ ap (λ o. not (is_class o class)) is ∙ ap not (same class))
  where
    same : (n : ℕ) → is_class (Some n) n ≡ true
    same n = eq-eqb n n refl

all-apart : (start : Start) (history : List Write) (class : ℕ) (items others : List (List ℕ))
    → is_small class ≡ true → AllByRecursion (λ key. start.class key ≡ Some class) items
    → AllByRecursion (Takes start history class) others
    → AllByRecursion (λ key. AllByRecursion (λ other. key ≢ other) others) items
all-apart start history class items others small have need =
    All-map (λ key. start.class key ≡ Some class) (λ key. AllByRecursion (λ other. key ≢ other)
    others) items (λ key is. All-map (Takes start history class) (λ other. key ≢ other) others
    (λ other takes e. needs-none start other class small takes.needs
    (subst (λ k. start.class k ≡ Some class) e is)) need) have

-- so many different keys, each written with an item of the class
keys-of : (class : ℕ) (history : List Write) (keys : List (List ℕ))
    → Pairwise (λ key other. key ≢ other) keys → AllByRecursion (HasWrite class history) keys
    → HasKeysOf all_classes class history (length keys)
keys-of class history keys apart each =
    record { keys = keys; apart = apart; many = refl; each = each }

-- with no slot left, by the keys that have one and those that take one
no-slot : (start : Start) (history : List Write) (class limit : ℕ) (items others : List (List ℕ))
    → Pairwise (λ key other. key ≢ other) items → Pairwise (λ key other. key ≢ other) others
    → AllByRecursion (λ key. start.class key ≡ Some class) items
    → AllByRecursion (HasWrite class history) items
    → AllByRecursion (Takes start history class) others
    → limit ≤ length items + length others → HasNoSlot all_classes limit history class
no-slot start history class limit items others apart apart_too have written need full =
    by (is_small class) refl (cases_lt (length items) (length others))
  where
    takes_written : AllByRecursion (HasWrite class history) others
    takes_written = All-map (Takes start history class) (HasWrite class history) others
        (λ key takes. takes.write) need

    sized : (count : ℕ) → HasKeysOf all_classes class history count → (b : Bool) → is_small class ≡ b
        → limit ≤ cond b count (2 * count) → HasNoSlot all_classes limit history class
    sized count keys b is le = record {
      count = count;
      keys = keys;
      full = subst (λ c. limit ≤ cond c count (2 * count)) (sym is) le;
    }

    by : (b : Bool) → is_small class ≡ b
        → (length items < length others) ⊎ (length others ≤ length items)
        → HasNoSlot all_classes limit history class
    by true is which = sized (length (items ++ others))
        (keys-of class history (items ++ others)
        (Pairwise-append (λ key other. key ≢ other) items others apart apart_too
        (all-apart start history class items others is have need))
        (All-append (HasWrite class history) items others written takes_written))
        true is (omega (arith, full, length-append items others))
    by false is (inl more) = sized (length others)
        (keys-of class history others apart_too takes_written) false is (omega (arith, full, more))
    by false is (inr most) = sized (length items)
        (keys-of class history items apart written) false is (omega (arith, full, most))

full-test : (o : Option ℕ) (test : ℕ → Bool) (full : ℕ)
    → option_and_then (λ class. cond (test class) (Some class) None) o ≡ Some full
    → test full ≡ true
full-test None test full e = absurd (none-some full e)
full-test (Some class) test full e = by (test class) refl e
  where
    by : (b : Bool) → test class ≡ b → cond b (Some class) None ≡ Some full → test full ≡ true
    by true is f = ap test (sym (same-some class full f)) ∙ is
    by false is f = absurd (none-some full f)

-- what a store has, as far as Full goes: its items are those of the history
pub record Stocked (start : Start) (history : List Write) : Type 0 where
  pub layout : start.layout ≡ all_classes
  pub items : (class : ℕ) → (keys : List (List ℕ)) × Pairwise (λ key other. key ≢ other) keys
      × (start.items class ≡ length keys)
      × AllByRecursion (λ key. start.class key ≡ Some class) keys
      × AllByRecursion (HasWrite class history) keys

-- a put of a full class
full-put : (start : Start) (history writes : List Write) (key value : List ℕ) (class : ℕ)
    → Stocked start history → AllByRecursion (IsIn history) writes
    → full_class start writes key value ≡ Some class → HasNoSlot all_classes start.limit history class
full-put start history writes key value class stocked within full =
    let test : is_full start writes key class ≡ true =
    full-test (class_of start.layout (length key) (length value)) (is_full start writes key) class
    full in
    let sum : start.limit ≤ start.items class + taken_by_others start writes key class =
    leb-true start.limit (start.items class + taken_by_others start writes key class)
    (and_parts (needs_slot start key class) (nat_le start.limit (start.items class
    + taken_by_others start writes key class)) test).1 in
    let items = stocked.items class in
    no-slot start history class start.limit items.0 (other_keys start writes key class) items.1
    (keys-apart (filter (takes start key class) (last_writes writes))
    (DifferentKeys-filter (takes start key class) (last_writes writes)
    (DifferentKeys-last_writes writes))) items.3 items.4
    (all-others start history writes key class stocked.layout within)
    (omega (arith, sum, items.2, other-many start writes key class))

full-reply : (request : Request) (start : Start) (history writes : List Write) (stamp : ℕ)
    → Stocked start history → AllByRecursion (IsIn history) writes
    → HasCause start.limit history (reply_of start writes stamp request)
full-reply (Put key value) start history writes stamp stocked within class e =
    full-put start history writes key value class stocked within
    (by (full_class start writes key value) e)
  where
    by : (o : Option ℕ) → full_of (put_reply stamp o) ≡ Some class → o ≡ Some class
    by None f = absurd (none-some class f)
    by (Some full) f = f
full-reply (Get key) start history writes stamp stocked within class e =
    absurd (by (value_after start writes key) e)
  where
    by : (o : Option (List ℕ)) → full_of (get_reply stamp o) ≡ Some class → ⊥
    by None f = none-some class f
    by (Some value) f = none-some class f
full-reply (Delete key) start history writes stamp stocked within class e =
    absurd (by (value_after start writes key) e)
  where
    by : (o : Option (List ℕ)) → full_of (delete_reply stamp o) ≡ Some class → ⊥
    by None f = none-some class f
    by (Some value) f = none-some class f
full-reply Flush start history writes stamp stocked within class e = absurd (none-some class e)
full-reply (After told) start history writes stamp stocked within class e =
    absurd (none-some class e)

-- the writes so far are the first of those that the batch accepts
accepted-front : (requests : List Request) (start : Start) (writes : List Write) (stamp : ℕ)
    → (rest : List Write) × (accepted_writes start writes stamp requests ≡ writes ++ rest)
accepted-front [] start writes stamp = ([], sym (append-nil writes))
accepted-front (request ∷ requests) start writes stamp =
    let later = accepted-front requests start (behind start writes stamp request) (stamp + 1) in (
      option_to_list (accepted start writes stamp request) ++ later.0,
      later.1 ∙ append_assoc writes (option_to_list (accepted start writes stamp request)) later.0,
    )

-- each answer of Full has its cause, where the history has the batch's writes
pub full-answers : (requests : List Request) (start : Start) (history writes : List Write)
    (stamp : ℕ) → Stocked start history
    → AllByRecursion (IsIn history) (accepted_writes start writes stamp requests)
    → AllByRecursion (HasCause start.limit history) (answers start writes stamp requests)
full-answers [] start history writes stamp stocked within = tt
full-answers (request ∷ requests) start history writes stamp stocked within =
    let front = accepted-front (request ∷ requests) start writes stamp in (
      full-reply request start history writes stamp stocked
          (All-front (IsIn history) writes front.0
          (subst (AllByRecursion (IsIn history)) front.1 within)),
      full-answers requests start history (behind start writes stamp request) (stamp + 1) stocked
          within,
    )
