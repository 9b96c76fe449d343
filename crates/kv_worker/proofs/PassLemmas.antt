-- What a pass knows, and how it goes on.
use Rattle.std.proofs.Common.{◌≡◌, ℕ, ◌+◌, ◌-◌, ◌≤◌, ◌<◌, Bool, true, false, cond, not, ◌&&◌, ◌||◌, List, []}
use Rattle.std.proofs.Common.{◌∷◌, ◌++◌, Option, None, Some, refl, ap, sym, ◌∙◌, subst, arith, count_by}
use Rattle.std.proofs.Common.{is_some, option_and_then, eqb, ◌==◌, IfSome, eqb-true, eq-eqb, true≢false}
use Rattle.std.proofs.Common.{slice_index, ◌^◌}
use Rattle.std.specs.Option.{option_or}
use Rattle.std.specs.Str.{bytes_eq}
use Rattle.kv_model.specs.History.{Write}
use Rattle.kv_model.specs.Slots.{is_class}
use Rattle.kv_model.specs.Batch.{Start, needs_slot, class_written, takes_slot, last_write}
use Rattle.kv_model.specs.Batch.{last_writes, taken_by_others}
use Rattle.kv_model.proofs.AnswersLemmas.{last_write-append}
use Rattle.kv_worker.specs.declared.overlay.Last.{Last}
use Rattle.kv_worker.specs.declared.pass.Pass.{Pass}
use Rattle.kv_worker.specs.Overlay.{last_of}
use Rattle.kv_worker.specs.Course.{Course, IsSlab, slot_of, IsLastWrite, IsSameLast, Follows, slots_of}
use Rattle.kv_worker.specs.Course.{Accepts}
use Rattle.kv_worker.proofs.CountLemmas.{one_if, counted, of_others, count-others, count-push}

-- a write takes a slot of its slot's class alone
takes-slot : (start : Start) (key : List ℕ) (kept : Option ℕ) (class : ℕ) → (is_class kept class
    && needs_slot start key class) ≡ is_class (option_and_then (λ c. cond (needs_slot start key c)
    (Some c) None) kept) class
takes-slot start key None class = refl
takes-slot start key (Some kept) class = by (kept == class) refl
  where
    other : (b : Bool) → false ≡ is_class (cond b (Some kept) None) class → (false && b)
        ≡ is_class (cond b (Some kept) None) class
    other b e = e

    by : (same : Bool) → (kept == class) ≡ same → ((kept == class) && needs_slot start key class)
        ≡ is_class (cond (needs_slot start key kept) (Some kept) None) class
    by true e = ap (λ b. b && needs_slot start key class) e
        ∙ ap (needs_slot start key) (sym (eqb-true kept class e))
        ∙ self (needs_slot start key kept)
      where
        self : (b : Bool) → b ≡ is_class (cond b (Some kept) None) class
        self true = sym e
        self false = refl
    by false e = ap (λ b. b && needs_slot start key class) e ∙ self (needs_slot start key kept)
      where
        self : (b : Bool) → false ≡ is_class (cond b (Some kept) None) class
        self true = sym e
        self false = refl

-- what an entry takes is what its write takes
pub one-slots : (course : Course) (last : Last) (write : Write) (class : ℕ)
    → IsLastWrite course last write → one_if (takes_slot course.start class write)
    ≡ slots_of (Some last) class
one-slots course last write class is =
    ap one_if (takes-slot course.start write.key (class_written course.start.layout write) class)
    ∙ ap (λ slot. one_if (is_class slot class)) (sym is.slot)

pub counted-slots : (course : Course) (last : Option Last) (write : Option Write) (class : ℕ)
    → IsSameLast course last write → counted (takes_slot course.start class) write
    ≡ slots_of last class
counted-slots course None None class is = refl
counted-slots course None (Some write) class is = absurd is
counted-slots course (Some last) None class is = absurd is
counted-slots course (Some last) (Some write) class is = one-slots course last write class is

-- the slot of an entry is of a slab
pub slab-last : (course : Course) (last : Option Last) (write : Option Write)
    → IsSameLast course last write → IfSome last (λ l. IfSome l.slot IsSlab)
slab-last course None write is = tt
slab-last course (Some last) None is = absurd is
slab-last course (Some last) (Some write) is = is.slab

-- a class's count is that of the other keys and this one's
pub taken-parts : (course : Course) (writes : List Write) (pass : Pass) (key : List ℕ)
    (before : Option Last) (class : ℕ) → Follows course writes pass
    → IsSameLast course before (last_write writes key) → class < 12
    → slice_index pass.taken class
    ≡ taken_by_others course.start writes key class + slots_of before class
taken-parts course writes pass key before class follows is small =
    follows.taken class small ∙ count-others writes (takes_slot course.start class) key
    ∙ ap (λ n. taken_by_others course.start writes key class + n)
    (counted-slots course before (last_write writes key) class is)

-- behind the next write the pass follows
pub goes-on : (course : Course) (writes : List Write) (pass next : Pass) (key : List ℕ)
    (before : Option Last) (last : Last) (write : Write)
    → Accepts course writes pass key before last write
    → ((other : List ℕ) → last_of next.overlay other ≡ cond (bytes_eq key other) (Some last)
    (last_of pass.overlay other))
    → ((class : ℕ) → class < 12 → slice_index next.taken class + slots_of before class
    ≡ slice_index pass.taken class + slots_of (Some last) class)
    → Follows course (writes ++ write ∷ []) next
goes-on course writes pass next key before last write accepts found counts = record {
  lasts = λ other. subst (λ o. IsSameLast course o (last_write (writes ++ write ∷ []) other))
      (sym (found other))
      (subst (IsSameLast course (cond (bytes_eq key other) (Some last) (last_of pass.overlay other)))
      (sym (last_write-append writes (write ∷ []) other))
      (subst (λ k. IsSameLast course (cond (bytes_eq k other) (Some last) (last_of pass.overlay
      other)) (option_or (cond (bytes_eq write.key other) (Some write) None) (last_write
      writes other))) accepts.is_key (by other (bytes_eq write.key other))));
  taken = λ class small. is class small ∙ sym (count-push writes (takes_slot course.start
      class) write ∙ ap (λ k. count_by (of_others k (takes_slot course.start class)) (last_writes
      writes) + one_if (takes_slot course.start class write)) accepts.is_key
      ∙ ap (λ n. taken_by_others course.start writes key class + n)
      (one-slots course last write class accepts.here));
  room = λ class small. subst (λ n. n ≤ course.start.limit - course.start.items class)
      (sym (is class small)) (accepts.room class small);
  few = accepts.follows.few;
  kept = accepts.follows.kept;
}
  where
    by : (other : List ℕ) (same : Bool) → IsSameLast course (cond same (Some last) (last_of
        pass.overlay other)) (option_or (cond same (Some write) None) (last_write writes
        other))
    by other true = accepts.here
    by other false = accepts.follows.lasts other

    is : (class : ℕ) → class < 12 → slice_index next.taken class ≡ taken_by_others course.start
        writes key class + slots_of (Some last) class
    is class small =
        let parts = taken-parts course writes pass key before class accepts.follows
        accepts.before_is small in
        let now = counts class small in
        omega (arith, parts, now)
