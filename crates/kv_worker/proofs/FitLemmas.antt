-- Requests of good sizes, and replies that have a frame.
use Rattle.std.proofs.Common.{◌≡◌, ℕ, zero, suc, ◌+◌, ◌≤◌, ◌<◌, ◌^◌, Bool, true, false, cond, List, []}
use Rattle.std.proofs.Common.{◌∷◌, ◌++◌, length, Option, None, Some, refl, sym, ap, ◌∙◌, subst, arith}
use Rattle.std.proofs.Common.{is_some, IsSome, nat_le, option_and_then, slice_get, true≢false, length-append}
use Rattle.std.specs.Int.{w64, to_le_bytes}
use Rattle.std.specs.List.{AllByRecursion, find}
use Rattle.std.proofs.lemmas.Bool.{cases_Bool, cond-true, cond-false}
use Rattle.kv_base.specs.declared.reply.Reply.{Reply}
use Rattle.kv_base.specs.declared.reply.Reply.TheVariants.{Found, BadKey, TooLarge}
use Rattle.kv_base.specs.declared.request.Request.{Request}
use Rattle.kv_base.specs.declared.request.Request.TheVariants.{Put, Get, Delete, Flush, After}
use Rattle.kv_model.specs.Frames.{HasReplyFrame}
use Rattle.kv_model.specs.Layout.{all_classes, class_of, is_key_length, room_of}
use Rattle.kv_slot.proofs.AgainLemmas.{room_limit}
use Rattle.kv_slot.proofs.SlotLemmas.{class_holds}
use Rattle.kv_worker.proofs.ListLemmas.{all-at}
use Rattle.kv_worker.specs.Answering.{HasGoodSizes, value_of_request, value_written}

-- what is found is one of the list
found-in : (test : ℕ → Bool) (P : ℕ → Type 0) (xs : List ℕ) (x : ℕ) → AllByRecursion P xs
    → find test xs ≡ Some x → P x
found-in test P [] x all is = absurd (cc)
found-in test P (y ∷ ys) x all is = by (test y) (λ e. found-in test P ys x all.1 e) is
  where
    by : (b : Bool) → (find test ys ≡ Some x → P x) → cond b (Some y) (find test ys) ≡ Some x → P x
    by true rest e = let same : y ≡ x = cc in subst P same all.0
    by false rest e = rest e

-- no class is above 11
class-limit : (k v class : ℕ) → class_of all_classes k v ≡ Some class → class ≤ 11
class-limit k v class is = by (is_key_length all_classes k) is
  where
    few : AllByRecursion (λ c. c ≤ 11) all_classes.classes
    few = (
      omega arith,
      (
        omega arith,
        (
          omega arith,
          (
            omega arith,
            (
              omega arith,
              (
                omega arith,
                (omega arith, (omega arith, (omega arith, (omega arith, (omega arith, tt))))),
              ),
            ),
          ),
        ),
      ),
    )

    by : (b : Bool) → cond b (find (λ c. nat_le (k + v) (room_of c)) all_classes.classes) None
        ≡ Some class → class ≤ 11
    by true e = found-in (λ c. nat_le (k + v) (room_of c)) (λ c. c ≤ 11) all_classes.classes class
        few e
    by false e = absurd (cc)

-- key and value that have a class are few bytes
pub class-fits : (k v : ℕ) → IsSome (class_of all_classes k v) → k + v ≤ 65400
class-fits k v some = by (class_of all_classes k v) refl some
  where
    by : (o : Option ℕ) → class_of all_classes k v ≡ o → is_some o ≡ true → k + v ≤ 65400
    by None e h = absurd (true≢false (sym h))
    by (Some class) e h =
        let holds = class_holds all_classes k v class e in
        let limit = room_limit class (class-limit k v class e) in
        omega (arith, holds.room, limit)

-- a put of good sizes has a class
pub good-class : (key value : List ℕ) → HasGoodSizes (Put key value)
    → IsSome (class_of all_classes (length key) (length value))
good-class key value good = by (is_key_length all_classes (length key))
    (is_some (class_of all_classes (length key) (length value))) refl good
  where
    by : (b some : Bool) → is_some (class_of all_classes (length key) (length value)) ≡ some
        → cond b (cond some None (Some TooLarge)) (Some BadKey) ≡ None
        → is_some (class_of all_classes (length key) (length value)) ≡ true
    by true true e h = e
    by true false e h = absurd (cc)
    by false some e h = absurd (cc)

-- the value that a request of a batch writes
pub written-fits : (requests : List Request) (task : ℕ) (value : List ℕ)
    → AllByRecursion HasGoodSizes requests → value_written requests task ≡ Some value
    → length value ≤ 65400
written-fits requests task value good is = by (slice_get requests task) refl is
  where
    by : (o : Option Request) → slice_get requests task ≡ o
        → option_and_then value_of_request o ≡ Some value → length value ≤ 65400
    by None e h = absurd (cc)
    by (Some (Put key bytes)) e h =
        let same : bytes ≡ value = cc in
        let fits = class-fits (length key) (length bytes) (good-class key bytes
        (all-at HasGoodSizes requests task (Put key bytes) good e)) in
        subst (λ v. length v ≤ 65400) same (omega (arith, fits))
    by (Some (Get key)) e h = absurd (cc)
    by (Some (Delete key)) e h = absurd (cc)
    by (Some Flush) e h = absurd (cc)
    by (Some (After stamp)) e h = absurd (cc)

-- a value that is found has a frame
pub framed-found : (stamp : ℕ) (value : List ℕ) → stamp < 2 ^ 64 → length value ≤ 65400
    → HasReplyFrame (Found stamp value)
framed-found stamp value small few = record {
  body = small;
  size = omega (arith, length-append (0x82 ∷ to_le_bytes w64 stamp) value);
}
