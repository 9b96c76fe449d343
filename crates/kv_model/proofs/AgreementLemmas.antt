-- The answers to a batch are those of one plain map.
use Rattle.std.proofs.Common.{◌≡◌, ℕ, ◌+◌, ◌-◌, ◌≤◌, ◌⊎◌, inl, inr, Bool, true}
use Rattle.std.proofs.Common.{false, cond, List, [], ◌∷◌, ◌++◌, Option, None, Some, refl, ap, sym}
use Rattle.std.proofs.Common.{◌∙◌}
use Rattle.std.proofs.Common.{subst, arith, append_assoc, option_and_then}
use Rattle.std.proofs.Common.{option_to_list}
use Rattle.std.proofs.Common.{length, is_some, MatchOption, IsTrue, IsSome, true≢false}
use Rattle.std.specs.List.{AllByRecursion}
use Rattle.std.specs.Str.{bytes_eq}
use Rattle.std.proofs.lemmas.Slice.Eq.{bytes_eq-Decides}
use Rattle.kv_base.specs.declared.request.Request.{Request}
use Rattle.kv_base.specs.declared.request.Request.TheVariants.{Put, Get, Delete, Flush, After}
use Rattle.kv_model.specs.History.{Write, value_at}
use Rattle.kv_model.specs.Layout.{Layout, class_of}
use Rattle.kv_model.specs.Pairs.{acknowledged, acknowledged_by}
use Rattle.kv_model.specs.Pairs.{writes, key_of}
use Rattle.kv_model.specs.Agreement.{IsAnswer, IsMapAnswer, IsRead}
use Rattle.kv_model.specs.Batch.{Start, last_write, value_or, value_after, is_full, full_class}
use Rattle.kv_model.specs.Batch.{accepted}
use Rattle.kv_model.specs.Batch.{behind, answers, reply_of, put_reply, get_reply}
use Rattle.kv_model.specs.Batch.{delete_reply, IsTask}
use Rattle.kv_model.specs.Items.{SameValue}
use Rattle.kv_model.specs.BatchLaws.{pairs_of}
use Rattle.kv_model.proofs.ReadingLemmas.{AllBelow, AllFrom, RiseBetween-from}
use Rattle.kv_model.proofs.ReadingLemmas.{value_at-rises, latest-append-above}
use Rattle.kv_model.proofs.ReadingLemmas.{latest-same, AllBelow-append, AllBelow-weaken}
use Rattle.kv_model.proofs.ReadingLemmas.{RiseBetween-below}
use Rattle.kv_model.proofs.AnswersLemmas.{IsAbsent, kinds, cons-is}
use Rattle.kv_model.proofs.AnswersLemmas.{acknowledged_here, acknowledged_in, value_or-append}
use Rattle.kv_model.proofs.AnswersLemmas.{RiseBetween-acknowledged, RiseBetween-acknowledged_in}

-- writes above the stamp that come behind aren't read
pub value-append-above : (history more : List Write) (stamp : ℕ) (key : List ℕ)
    → AllFrom (stamp + 1) more → value_at (history ++ more) stamp key ≡ value_at history stamp key
value-append-above history more stamp key above =
    ap (option_and_then (λ write. write.value)) (latest-append-above history more stamp key above)

pub value-same : (history : List Write) (bound stamp other : ℕ) (key : List ℕ)
    → AllBelow bound history → bound ≤ stamp + 1 → bound ≤ other + 1
    → value_at history stamp key ≡ value_at history other key
value-same history bound stamp other key below le lo =
    ap (option_and_then (λ write. write.value)) (latest-same history bound stamp other key below le
    lo)

pub AllFrom-weaken : (low high : ℕ) (writes : List Write) → low ≤ high → AllFrom high writes
    → AllFrom low writes
AllFrom-weaken low high [] le all = tt
AllFrom-weaken low high (write ∷ writes) le all =
    (omega (arith, all.0), AllFrom-weaken low high writes le all.1)

pub SameValue-refl : (told : Bool) (value : Option (List ℕ)) → SameValue told value value
SameValue-refl told None = tt
SameValue-refl told (Some value) = λ _. refl

-- what is the same as one value, which is the same as another, is the same as that
pub SameValue-trans : (told : Bool) (a b c : Option (List ℕ)) → SameValue told a b
    → SameValue told b c → SameValue told a c
SameValue-trans told None None c first second = second
SameValue-trans told None (Some b) c first second = absurd first
SameValue-trans told (Some a) None c first second = absurd first
SameValue-trans told (Some a) (Some b) None first second = second
SameValue-trans told (Some a) (Some b) (Some c) first second = λ yes. first yes ∙ second yes

none-of : (told : Bool) (kept : Option (List ℕ)) → SameValue told None kept → kept ≡ None
none-of told None same = refl
none-of told (Some kept) same = absurd same

read-of : (told : Bool) (value : List ℕ) (kept : Option (List ℕ)) → SameValue told (Some value) kept
    → IsRead told kept value
read-of told value None same = same
read-of told value (Some kept) same = same

some-of : (told : Bool) (value : List ℕ) (kept : Option (List ℕ)) → SameValue told (Some value) kept
    → IsTrue (is_some kept)
some-of told value None same = absurd same
some-of told value (Some kept) same = refl

pub same-some : (told : Bool) (value kept : Option (List ℕ)) → SameValue told value kept
    → is_some kept ≡ is_some value
same-some told None None same = refl
same-some told None (Some kept) same = absurd same
same-some told (Some value) None same = absurd same
same-some told (Some value) (Some kept) same = refl

-- what the batch reads and what the history has stay the same with one more write
SameValue-write : (told same : Bool) (write : Write) (here there : Option (List ℕ))
    → SameValue told here there → SameValue told (value_or (cond same (Some write) None) here)
    (value_or (cond same (Some write) None) there)
SameValue-write told true write here there equal = SameValue-refl told write.value
SameValue-write told false write here there equal = equal

SameValue-absent : (told same : Bool) (write : Write) (here there : Option (List ℕ))
    → write.value ≡ None → (same ≡ true → here ≡ None) → SameValue told here there
    → SameValue told (value_or (cond same (Some write) None) here) there
SameValue-absent told true write here there deleted none equal =
    subst (λ o. SameValue told o there) (sym deleted)
    (subst (λ o. SameValue told o there) (none refl) equal)
SameValue-absent told false write here there deleted none equal = equal

-- behind the request the batch still reads what the history has with the acknowledged write
SameValue-behind : (told : Bool) (start : Start) (before : List Write) (stamp : ℕ)
    (request : Request) (history : List Write) (key : List ℕ) → AllBelow stamp history
    → SameValue told (value_after start before key) (value_at history (stamp - 1) key)
    → SameValue told (value_after start (behind start before stamp request) key)
    (value_at (history ++ option_to_list (acknowledged_here start before stamp request)) (stamp + 1
    - 1) key)
SameValue-behind told start before stamp request history key below equal =
    subst (λ o. SameValue told (value_after start (behind start before stamp request) key) o)
    (sym (value_at-rises (option_to_list (acknowledged_here start before stamp request)) history
    stamp (stamp + 1) (stamp + 1 - 1) key below (RiseBetween-acknowledged request start before
    stamp)
    (omega arith)
    ∙ ap (value_or (last_write (option_to_list (acknowledged_here start before stamp request)) key))
    (value-same history stamp (stamp + 1 - 1) (stamp - 1) key below (omega arith) (omega arith))))
    (subst (λ o. SameValue told o (value_or (last_write (option_to_list (acknowledged_here start
    before stamp request)) key) (value_at history (stamp - 1) key)))
    (sym (value_or-append before (option_to_list (accepted start before stamp request)) key
    (start.value key)))
    (by (acknowledged_here start before stamp request) (accepted start before stamp request)
    (kinds request start before stamp)))
  where
    one : (write : Option Write) → SameValue told (value_or (last_write (option_to_list write) key)
        (value_after start before key)) (value_or (last_write (option_to_list write) key)
        (value_at history (stamp - 1) key))
    one None = equal
    one (Some write) = SameValue-write told (bytes_eq write.key key) write
        (value_after start before key) (value_at history (stamp - 1) key) equal

    by : (acknowledged accepted : Option Write) → (acknowledged ≡ accepted)
        ⊎ IsAbsent start before acknowledged accepted
        → SameValue told (value_or (last_write (option_to_list accepted) key)
        (value_after start before key)) (value_or (last_write (option_to_list acknowledged) key)
        (value_at history (stamp - 1) key))
    by acknowledged accepted (inl e) = subst (λ o. SameValue told (value_or (last_write
        (option_to_list o) key) (value_after start before key)) (value_or (last_write
        (option_to_list acknowledged) key) (value_at history (stamp - 1) key))) e (one acknowledged)
    by acknowledged accepted (inr w) =
        subst (λ o. SameValue told (value_or (last_write (option_to_list accepted) key)
        (value_after start before key)) (value_or (last_write (option_to_list o) key)
        (value_at history (stamp - 1) key))) (sym w.unanswered)
        (subst (λ o. SameValue told (value_or (last_write (option_to_list o) key)
        (value_after start before key)) (value_at history (stamp - 1) key)) (sym w.taken)
        (SameValue-absent told (bytes_eq w.write.key key) w.write (value_after start before key)
        (value_at history (stamp - 1) key) w.deleted
        (λ same. subst (λ k. value_after start before k ≡ None)
        ((bytes_eq-Decides w.write.key key).0 same) w.absent) equal))

-- the class that is full is the item's
pub full-is : (class : Option ℕ) (test : ℕ → Bool) (full : ℕ)
    → option_and_then (λ c. cond (test c) (Some c) None) class ≡ Some full → class ≡ Some full
full-is None test full e = e
full-is (Some class) test full e = by (test class) e
  where
    by : (b : Bool) → cond b (Some class) None ≡ Some full → Some class ≡ Some full
    by true h = h
    by false h = absurd (true≢false (sym (ap is_some h)))

get-acknowledges : (stamp : ℕ) (key : List ℕ) (value : Option (List ℕ))
    → acknowledged_by (Get key) (get_reply stamp value) ≡ None
get-acknowledges stamp key None = refl
get-acknowledges stamp key (Some value) = refl

-- a reply is the map's, where the map with all later writes is read
head : (request : Request) (told : Bool) (layout : Layout) (start : Start)
    (before history rest : List Write) (stamp : ℕ) → 1 ≤ stamp → AllBelow stamp history
    → ((key : List ℕ) → SameValue told (value_after start before key)
    (value_at history (stamp - 1) key)) → start.layout ≡ layout → AllFrom (stamp + 1) rest
    → IsSome (key_of request) → IsMapAnswer told layout (history ++ (option_to_list
    (acknowledged_here start before stamp request) ++ rest)) request
    (reply_of start before stamp request)
head (Put key value) told layout start before history rest stamp one below equal same above keyed =
    by (full_class start before key value) refl
  where
    by : (full : Option ℕ) → full_class start before key value ≡ full
        → IsMapAnswer told layout (history ++ (option_to_list (acknowledged_by (Put key value)
        (put_reply stamp full)) ++ rest)) (Put key value) (put_reply stamp full)
    by None e = tt
    by (Some class) e = subst (λ l. class_of l (length key) (length value) ≡ Some class) same
        (full-is (class_of start.layout (length key) (length value)) (is_full start before key)
        class e)
head (Get key) told layout start before history rest stamp one below equal same above keyed =
    by (value_after start before key) (equal key)
  where
    here : value_at (history ++ rest) stamp key ≡ value_at history (stamp - 1) key
    here = value-append-above history rest stamp key above
        ∙ value-same history stamp stamp (stamp - 1) key below (omega arith) (omega arith)

    by : (value : Option (List ℕ)) → SameValue told value (value_at history (stamp - 1) key)
        → IsMapAnswer told layout (history ++ (option_to_list (acknowledged_by (Get key)
        (get_reply stamp value)) ++ rest)) (Get key) (get_reply stamp value)
    by None e = here ∙ none-of told (value_at history (stamp - 1) key) e
    by (Some value) e = subst (λ o. IsRead told o value) (sym here)
        (read-of told value (value_at history (stamp - 1) key) e)
head (Delete key) told layout start before history rest stamp one below equal same above keyed =
    by (value_after start before key) (equal key)
  where
    here : value_at (history ++ rest) stamp key ≡ value_at history (stamp - 1) key
    here = value-append-above history rest stamp key above
        ∙ value-same history stamp stamp (stamp - 1) key below (omega arith) (omega arith)

    by : (value : Option (List ℕ)) → SameValue told value (value_at history (stamp - 1) key)
        → IsMapAnswer told layout (history ++ (option_to_list (acknowledged_by (Delete key)
        (delete_reply stamp value)) ++ rest)) (Delete key) (delete_reply stamp value)
    by None e = here ∙ none-of told (value_at history (stamp - 1) key) e
    by (Some value) e = subst (λ o. IsTrue (is_some o)) (sym (value-append-above history (record {
      stamp = stamp;
      key = key;
      value = None;
    } ∷ rest) (stamp - 1) key (
      omega arith,
      AllFrom-weaken (stamp - 1 + 1) (stamp + 1) rest
          (omega arith) above,
    ))) (some-of told value (value_at history (stamp - 1) key) e)
head Flush told layout start before history rest stamp one below equal same above keyed =
    absurd (true≢false (sym keyed))
head (After seen) told layout start before history rest stamp one below equal same above keyed =
    absurd (true≢false (sym keyed))

-- each answer to a batch is the map's
pub answers-agree : (requests : List Request) (told : Bool) (layout : Layout) (start : Start)
    (before history all : List Write) (stamp : ℕ) → 1 ≤ stamp → AllBelow stamp history
    → ((key : List ℕ) → SameValue told (value_after start before key)
    (value_at history (stamp - 1) key)) → start.layout ≡ layout
    → all ≡ history ++ acknowledged_in start before stamp requests
    → AllByRecursion (IsTask layout) requests
    → AllByRecursion (λ pair. IsAnswer told layout all pair.request pair.reply)
    (pairs_of requests (answers start before stamp requests))
answers-agree [] told layout start before history all stamp one below equal same is good = tt
answers-agree (request ∷ requests) told layout start before history all stamp one below equal same
    is
    good =
    let rest : List Write = acknowledged_in start (behind start before stamp request) (stamp + 1)
    requests in
    let here : List Write = option_to_list (acknowledged_here start before stamp request) in
    let parts : all ≡ history ++ (here ++ rest) = is ∙ ap (λ more. history ++ more)
    (cons-is (acknowledged_here start before stamp request) rest) in
    let above : AllFrom (stamp + 1) rest = RiseBetween-from (stamp + 1) (stamp + 1
    + length requests) rest (RiseBetween-acknowledged_in requests start (behind start before
    stamp request) (stamp + 1)) in (
      subst (λ o. MatchOption o (IsMapAnswer told layout all request (reply_of start before stamp
          request)) (λ refusal. reply_of start before stamp request ≡ refusal)) (sym good.0.good)
          (subst (λ h. IsMapAnswer told layout h request (reply_of start before stamp request))
          (sym parts)
          (head request told layout start before history rest stamp one below equal same above
          good.0.keyed)),
      answers-agree requests told layout start (behind start before stamp request) (history ++ here)
          all (stamp + 1) (omega arith)
          (AllBelow-append (stamp + 1) history here (AllBelow-weaken stamp (stamp + 1) history
          (omega
          arith) below) (RiseBetween-below stamp (stamp + 1) here (RiseBetween-acknowledged request
          start
          before stamp)))
          (λ key. SameValue-behind told start before stamp request history key below (equal key))
          same
          (parts ∙ sym (append_assoc history here rest)) good.1,
    )

-- the same write makes the same of values that are the same
pub SameValue-or : (told : Bool) (last : Option Write) (here there : Option (List ℕ))
    → SameValue told here there → SameValue told (value_or last here) (value_or last there)
SameValue-or told None here there same = same
SameValue-or told (Some write) here there same = SameValue-refl told write.value
