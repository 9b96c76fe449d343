-- Lemmas on the answers to a batch and the writes that they acknowledge.
use Rattle.std.proofs.Common.{◌≡◌, ℕ, suc, ◌+◌, ◌⊎◌, inl, inr, Bool, true}
use Rattle.std.proofs.Common.{false, cond}
use Rattle.std.proofs.Common.{List, [], ◌∷◌, ◌++◌, Option, None, Some, refl, ap, sym, ◌∙◌, subst}
use Rattle.std.proofs.Common.{arith}
use Rattle.std.proofs.Common.{option_to_list, length}
use Rattle.std.proofs.Common.{is_some}
use Rattle.std.proofs.Common.{MatchOption, true≢false}
use Rattle.std.specs.List.{cons_option}
use Rattle.std.specs.Option.{option_or}
use Rattle.std.specs.Str.{bytes_eq}
use Rattle.std.proofs.lemmas.Slice.Eq.{bytes_eq-Decides}
use Rattle.kv_base.specs.declared.request.Request.{Request}
use Rattle.kv_base.specs.declared.request.Request.TheVariants.{Put, Get, Delete, Flush, After}
use Rattle.kv_model.specs.History.{Write}
use Rattle.kv_model.specs.Pairs.{written, acknowledged_by, stamp_of, writes}
use Rattle.kv_model.specs.Batch.{Start, last_write, value_or, value_after, full_class}
use Rattle.kv_model.specs.Batch.{accepted}
use Rattle.kv_model.specs.Batch.{behind, accepted_writes, answers, reply_of, put_reply, get_reply}
use Rattle.kv_model.specs.Batch.{delete_reply}
use Rattle.kv_model.specs.BatchLaws.{RiseBetween, AreStamped, pairs_of}
use Rattle.kv_model.proofs.ReadingLemmas.{RiseBetween-append}
use Rattle.kv_model.proofs.ReadingLemmas.{option_or-assoc}
use Rattle.kv_model.proofs.NetLemmas.{RiseBetween-accepted, RiseBetween-higher, or_no}

-- there are as many replies as requests
pub length-answers : (requests : List Request) (start : Start) (writes : List Write) (stamp : ℕ)
    → length (answers start writes stamp requests) ≡ length requests
length-answers [] start writes stamp = refl
length-answers (request ∷ requests) start writes stamp =
    ap suc (length-answers requests start
    (behind start writes stamp request) (stamp + 1))

-- the reply carries no other stamp than the request's
abbrev pub HasStamp : ℕ → Option ℕ → Type 0
HasStamp stamp carried = MatchOption carried (Unit {0}) (λ s. s ≡ stamp)

pub HasStamp-reply : (request : Request) (start : Start) (writes : List Write) (stamp : ℕ)
    → HasStamp stamp (stamp_of (reply_of start writes stamp request))
HasStamp-reply (Put key value) start writes stamp = by (full_class start writes key value)
  where
    by : (full : Option ℕ) → HasStamp stamp (stamp_of (put_reply stamp full))
    by None = refl
    by (Some class) = tt
HasStamp-reply (Get key) start writes stamp = by (value_after start writes key)
  where
    by : (value : Option (List ℕ)) → HasStamp stamp (stamp_of (get_reply stamp value))
    by None = refl
    by (Some value) = refl
HasStamp-reply (Delete key) start writes stamp = by (value_after start writes key)
  where
    by : (value : Option (List ℕ)) → HasStamp stamp (stamp_of (delete_reply stamp value))
    by None = refl
    by (Some value) = refl
HasStamp-reply Flush start writes stamp = tt
HasStamp-reply (After told) start writes stamp = tt

pub AreStamped-answers : (requests : List Request) (start : Start) (writes : List Write)
    (stamp : ℕ) → AreStamped stamp (answers start writes stamp requests)
AreStamped-answers [] start writes stamp = tt
AreStamped-answers (request ∷ requests) start writes stamp = (
  HasStamp-reply request start writes
      stamp,
  AreStamped-answers requests start (behind start writes stamp request) (stamp + 1),
)

-- the write that the reply acknowledges
abbrev pub acknowledged_here : Start → List Write → ℕ → Request → Option Write
acknowledged_here start writes stamp request = acknowledged_by request (reply_of start writes stamp
    request)

-- a delete of a key without a value: it is accepted, and nothing is acknowledged
pub record IsAbsent (start : Start) (writes : List Write) (acknowledged accepted : Option Write) :
    Type 0 where
  pub write : Write
  pub unanswered : acknowledged ≡ None
  pub taken : accepted ≡ Some write
  pub deleted : write.value ≡ None
  pub absent : value_after start writes write.key ≡ None

-- what is accepted is acknowledged, but for a delete of a key without a value
pub kinds : (request : Request) (start : Start) (writes : List Write) (stamp : ℕ)
    → (acknowledged_here start writes stamp request ≡ accepted start writes stamp request)
    ⊎ IsAbsent start writes (acknowledged_here start writes stamp request)
    (accepted start writes stamp request)
kinds (Put key value) start writes stamp = inl (by (full_class start writes key value))
  where
    by : (full : Option ℕ) → acknowledged_by (Put key value) (put_reply stamp full)
        ≡ cond (is_some full) None (written (Put key value) stamp)
    by None = refl
    by (Some class) = refl
kinds (Get key) start writes stamp = inl (by (value_after start writes key))
  where
    by : (value : Option (List ℕ)) → acknowledged_by (Get key) (get_reply stamp value) ≡ None
    by None = refl
    by (Some value) = refl
kinds (Delete key) start writes stamp = by (value_after start writes key) refl
  where
    by : (value : Option (List ℕ)) → value_after start writes key ≡ value
        → (acknowledged_by (Delete key) (delete_reply stamp value) ≡ written (Delete key) stamp)
        ⊎ IsAbsent start writes (acknowledged_by (Delete key) (delete_reply stamp value))
        (written (Delete key) stamp)
    by None e = inr record {
      write = record { stamp = stamp; key = key; value = None };
      unanswered = refl;
      taken = refl;
      deleted = refl;
      absent = e;
    }
    by (Some value) e = inl refl
kinds Flush start writes stamp = inl refl
kinds (After told) start writes stamp = inl refl

pub cons-is : (first : Option Write) (rest : List Write) → cons_option first rest
    ≡ option_to_list first ++ rest
cons-is None rest = refl
cons-is (Some write) rest = refl

-- the write that a reply acknowledges has the request's stamp
pub RiseBetween-acknowledged : (request : Request) (start : Start) (writes : List Write) (stamp : ℕ)
    → RiseBetween stamp (stamp + 1) (option_to_list (acknowledged_here start writes stamp request))
RiseBetween-acknowledged request start writes stamp =
    by (acknowledged_here start writes stamp request) (accepted start writes stamp request)
    (kinds request start writes stamp) (RiseBetween-accepted request start writes stamp)
  where
    by : (acknowledged accepted : Option Write) → (acknowledged ≡ accepted)
        ⊎ IsAbsent start writes acknowledged accepted
        → RiseBetween stamp (stamp + 1) (option_to_list accepted)
        → RiseBetween stamp (stamp + 1) (option_to_list acknowledged)
    by acknowledged accepted (inl e) rise =
        subst (λ o. RiseBetween stamp (stamp + 1) (option_to_list o)) (sym e) rise
    by acknowledged accepted (inr w) rise =
        subst (λ o. RiseBetween stamp (stamp + 1) (option_to_list o)) (sym w.unanswered)
        (omega arith)

-- what the answers to a batch acknowledge
abbrev pub acknowledged_in : Start → List Write → ℕ → List Request → List Write
acknowledged_in start before stamp requests = writes (pairs_of requests (answers start before stamp
    requests))

pub RiseBetween-acknowledged_in : (requests : List Request) (start : Start) (writes : List Write)
    (stamp : ℕ) → RiseBetween stamp (stamp + length requests) (acknowledged_in start writes stamp
    requests)
RiseBetween-acknowledged_in [] start writes stamp = omega arith
RiseBetween-acknowledged_in (request ∷ requests) start writes stamp =
    let rest : List Write = acknowledged_in start (behind start writes stamp request) (stamp + 1)
    requests in
    subst (RiseBetween stamp (stamp + length (request ∷ requests)))
    (sym (cons-is (acknowledged_here start writes stamp request) rest))
    (RiseBetween-append stamp (stamp + 1) (stamp + length (request ∷ requests))
    (option_to_list (acknowledged_here start writes stamp request)) rest
    (RiseBetween-acknowledged request start writes stamp)
    (RiseBetween-higher (stamp + 1) (stamp + 1 + length requests) (stamp + length (request
    ∷ requests)) rest (omega arith) (RiseBetween-acknowledged_in requests start (behind start writes
    stamp request) (stamp + 1))))

pub last_write-append : (writes others : List Write) (key : List ℕ) → last_write (writes ++ others)
    key ≡ option_or (last_write others key) (last_write writes key)
last_write-append [] others key = sym (or_no (last_write others key))
last_write-append (write ∷ writes) others key =
    ap (λ o. option_or o (cond (bytes_eq write.key key) (Some write) None))
    (last_write-append writes others key)
    ∙ option_or-assoc (last_write others key) (last_write writes key)
    (cond (bytes_eq write.key key) (Some write) None)

-- the last write of the key, with one more write behind
pub last_write-push : (writes : List Write) (write : Write) (key : List ℕ)
    → last_write (writes ++ write ∷ []) key
    ≡ cond (bytes_eq write.key key) (Some write) (last_write writes key)
last_write-push writes write key = last_write-append writes (write ∷ []) key
    ∙ by (bytes_eq write.key key)
  where
    by : (same : Bool) → option_or (cond same (Some write) None) (last_write writes key)
        ≡ cond same (Some write) (last_write writes key)
    by true = refl
    by false = refl

value_or-or : (last other : Option Write) (before : Option (List ℕ)) → value_or (option_or last
    other) before ≡ value_or last (value_or other before)
value_or-or None other before = refl
value_or-or (Some write) other before = refl

-- what a key has behind one more write
pub value_or-append : (writes others : List Write) (key : List ℕ) (before : Option (List ℕ))
    → value_or (last_write (writes ++ others) key) before ≡ value_or (last_write others key)
    (value_or (last_write writes key) before)
value_or-append writes others key before =
    ap (λ o. value_or o before) (last_write-append writes others key)
    ∙ value_or-or (last_write others key) (last_write writes key) before

none_from : (last : Option Write) (here before : Option (List ℕ)) → is_some before ≡ is_some here
    → value_or last here ≡ None → value_or last before ≡ None
none_from None None None has e = refl
none_from None None (Some bytes) has e = absurd (true≢false has)
none_from None (Some bytes) before has e = absurd (true≢false (ap is_some e))
none_from (Some write) here before has e = e

-- a key reads the same with and without a delete of a key that has no value
same_without : (same : Bool) (write : Write) (value : Option (List ℕ)) → write.value ≡ None
    → (same ≡ true → value ≡ None) → value_or (cond same (Some write) None) value ≡ value
same_without true write value e none = e ∙ sym (none refl)
same_without false write value e none = refl

-- behind what is acknowledged a key has what it has behind all that is accepted
pub acknowledged-reads : (requests : List Request) (start : Start) (writes : List Write) (stamp : ℕ)
    (key : List ℕ) (before : Option (List ℕ)) → is_some before ≡ is_some (start.value key)
    → value_or (last_write (acknowledged_in start writes stamp requests) key)
    (value_or (last_write writes key) before)
    ≡ value_or (last_write (accepted_writes start writes stamp requests) key) before
acknowledged-reads [] start writes stamp key before has = refl
acknowledged-reads (request ∷ requests) start writes stamp key before has =
    ap (λ all. value_or (last_write all key) (value_or (last_write writes key) before))
    (cons-is (acknowledged_here start writes stamp request) rest)
    ∙ value_or-append (option_to_list (acknowledged_here start writes stamp request)) rest key
    (value_or (last_write writes key) before)
    ∙ ap (value_or (last_write rest key)) (by (acknowledged_here start writes stamp request)
    (accepted start writes stamp request) (kinds request start writes stamp)
    ∙ sym (value_or-append writes (option_to_list (accepted start writes stamp request)) key
    before))
    ∙ acknowledged-reads requests start (behind start writes stamp request) (stamp + 1) key before
    has
  where
    rest : List Write
    rest = acknowledged_in start (behind start writes stamp request) (stamp + 1) requests

    by : (acknowledged accepted : Option Write) → (acknowledged ≡ accepted)
        ⊎ IsAbsent start writes acknowledged accepted
        → value_or (last_write (option_to_list acknowledged) key) (value_or (last_write writes key)
        before) ≡ value_or (last_write (option_to_list accepted) key) (value_or (last_write writes
        key) before)
    by acknowledged accepted (inl e) = ap (λ o. value_or (last_write (option_to_list o) key)
        (value_or (last_write writes key) before)) e
    by acknowledged accepted (inr w) =
        ap (λ o. value_or (last_write (option_to_list o) key) (value_or (last_write writes key)
        before)) w.unanswered
        ∙ sym (same_without (bytes_eq w.write.key key) w.write (value_or (last_write writes key)
        before) w.deleted (λ same. none_from (last_write writes key) (start.value key) before has
        (subst (λ k. value_after start writes k ≡ None) ((bytes_eq-Decides w.write.key key).0 same)
        w.absent)))
        ∙ sym (ap (λ o. value_or (last_write (option_to_list o) key) (value_or (last_write writes
        key) before)) w.taken)
