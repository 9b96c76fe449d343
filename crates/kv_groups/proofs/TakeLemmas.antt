-- Lemmas on the tasks that a worker takes.
use Rattle.std.proofs.Common.{◌≡◌, ℕ, ◌+◌, ◌^◌, ◌<◌, ◌≤◌, List, length, Option, None, Some}
use Rattle.std.proofs.Common.{Bool, true, false, cond, not, ◌&&◌, is_some, refl, sym, ap}
use Rattle.std.proofs.Common.{arith, true≢false}
use Rattle.std.specs.Prelude.{nat_le, nat_lt}
use Rattle.std.specs.List.{find}
use Rattle.std.proofs.lemmas.Bool.{and_parts}
use Rattle.std.proofs.lemmas.Bool.Decides.{nat_tests}
use Rattle.kv_base.specs.declared.reply.Reply.TheVariants.{BadKey, TooLarge}
use Rattle.kv_model.specs.Layout.{all_classes, class_of, is_key_length, room_of}
use Rattle.kv_ring.specs.declared.task.Task.{Task}
use Rattle.kv_groups.specs.Taking.{takes_each, takes_all, takes_group}

-- a put is of good sizes where it has a class
pub put-fits : (key_length value_length : ℕ)
    → is_some (class_of all_classes key_length value_length)
    ≡ not (is_some (cond (is_key_length all_classes key_length)
    (cond (is_some (class_of all_classes key_length value_length)) None (Some TooLarge))
    (Some BadKey)))
put-fits key_length value_length =
    by (is_key_length all_classes key_length) (class_of all_classes key_length value_length)
    (λ none. ap (λ b. cond b (find (λ class. nat_le (key_length + value_length) (room_of class))
    all_classes.classes) None) none)
  where
    by : (good : Bool) (class : Option ℕ) → (good ≡ false → class ≡ None)
        → is_some class ≡ not (is_some (cond good (cond (is_some class) None (Some TooLarge))
        (Some BadKey)))
    by true None none = refl
    by true (Some class) none = refl
    by false None none = refl
    by false (Some class) none = let f : Some class ≡ None = none refl in absurd (cc)

le-from : (m n : ℕ) → nat_le m n ≡ true → m ≤ n
le-from m n e = grind (arith, nat_tests)

lt-from : (m n : ℕ) → nat_lt m n ≡ true → m < n
lt-from m n e = grind (arith, nat_tests)

pub all-few : (worker workers : ℕ) (tasks : List Task) → takes_all worker workers tasks ≡ true
    → length tasks ≤ 64
all-few worker workers tasks e =
    le-from (length tasks) 64
    (and_parts (nat_le (length tasks) 64) (takes_each worker workers tasks) e).0

-- what a group that is taken has
pub record IsTaken (worker workers : ℕ) (waits : Bool) (seen : ℕ) (tasks : List Task) :
    Type 0 where
  pub free : waits ≡ false
  pub low : seen < 2 ^ 62
  pub all : takes_all worker workers tasks ≡ true

pub is-taken : (worker workers : ℕ) (waits : Bool) (seen : ℕ) (tasks : List Task)
    → takes_group worker workers waits seen tasks ≡ true
    → IsTaken worker workers waits seen tasks
is-taken worker workers waits seen tasks e =
    let both = and_parts (not waits && nat_lt seen (2 ^ 62)) (takes_all worker workers tasks) e in
    let first = and_parts (not waits) (nat_lt seen (2 ^ 62)) both.0 in
    record {
      free = not-true waits first.0;
      low = lt-from seen (2 ^ 62) first.1;
      all = both.1;
    }
  where
    not-true : (b : Bool) → not b ≡ true → b ≡ false
    not-true true e = absurd (true≢false (sym e))
    not-true false e = refl
