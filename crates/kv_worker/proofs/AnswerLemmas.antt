-- How one request is answered.
use Rattle.std.proofs.Common.{◌≡◌, ℕ, ◌+◌, ◌-◌, ◌≤◌, ◌<◌, Bool, true, false, cond, not, ◌&&◌, List, []}
use Rattle.std.proofs.Common.{◌∷◌, ◌++◌, Option, None, Some, refl, ap, sym, ◌∙◌, subst, arith, is_some}
use Rattle.std.proofs.Common.{leb, option_and_then, option_to_list, eqb, ◌==◌, IfSome, eqb-true}
use Rattle.std.proofs.Common.{true≢false, slice_index, append-nil, length, leb-false, nat_le}
use Rattle.std.proofs.lemmas.Bool.Decides.{nat_tests}
use Rattle.kv_base.specs.declared.request.Request.{Request}
use Rattle.kv_base.specs.declared.request.Request.TheVariants.{Put, Get, Delete}
use Rattle.kv_base.specs.declared.reply.Reply.TheVariants.{Stored, Removed, Absent, Full, Found}
use Rattle.kv_model.specs.Agreement.{told_of}
use Rattle.kv_model.specs.Batch.{Start, needs_slot, class_written, is_full, full_class, last_write}
use Rattle.kv_model.specs.Batch.{taken_by_others, put_reply, get_reply, delete_reply, value_after}
use Rattle.kv_model.specs.Batch.{value_or}
use Rattle.kv_model.specs.History.{Write}
use Rattle.kv_model.specs.Items.{SameValue}
use Rattle.kv_model.specs.Layout.{class_of}
use Rattle.kv_model.specs.Pairs.{written}
use Rattle.kv_model.specs.Slots.{is_class}
use Rattle.kv_worker.specs.Answering.{IsAnswered, KnowsLast, Stands, StandsAt, is_full_slot, slot_for}
use Rattle.kv_worker.specs.Course.{Accepts, AreClassed, Course, Follows, IsLastWrite, IsSameLast}
use Rattle.kv_worker.specs.Course.{IsSlab, slot_of, slots_of, write_at}
use Rattle.kv_worker.specs.Overlay.{last_of}
use Rattle.kv_worker.specs.declared.overlay.Last.{Last}
use Rattle.kv_worker.specs.declared.pass.Pass.{Pass}
use Rattle.kv_worker.proofs.PassLemmas.{taken-parts}

-- the put's write
abbrev pub put_write : List ℕ → List ℕ → ℕ → Write
put_write key value stamp = record { stamp = stamp; key = key; value = Some value }

-- the delete's write
abbrev pub delete_write : List ℕ → ℕ → Write
delete_write key stamp = record { stamp = stamp; key = key; value = None }

-- what the overlay has for the key is its last write
pub same-last : (course : Course) (writes : List Write) (pass : Pass) (key : List ℕ)
    (before : Option Last) → Follows course writes pass → before ≡ last_of pass.overlay key
    → IsSameLast course before (last_write writes key)
same-last course writes pass key before follows at =
    subst (λ o. IsSameLast course o (last_write writes key)) (sym at) (follows.lasts key)

-- the slots that are left are fewer than those that others take exactly where the limit is reached
pub at-limit : (limit items others room : ℕ) → room ≡ limit - items
    → leb room others ≡ leb limit (items + others)
at-limit limit items others room is = grind (arith, nat_tests)

-- a put is full where its slot is
pub full-is : (s : Start) (writes : List Write) (key value : List ℕ) (class : ℕ) (full : Bool)
    → class_of s.layout (length key) (length value) ≡ Some class
    → full ≡ is_full_slot s writes key (slot_for s key class)
    → full_class s writes key value ≡ cond full (Some class) None
full-is s writes key value class full is e =
    ap (option_and_then (λ c. cond (is_full s writes key c) (Some c) None)) is
    ∙ ap (λ b. cond b (Some class) None) (by (needs_slot s key class) ∙ sym e)
  where
    by : (needs : Bool) → (needs && nat_le s.limit (s.items class + taken_by_others s writes key
        class)) ≡ is_full_slot s writes key (cond needs (Some class) None)
    by true = refl
    by false = refl

-- a put that is full
pub answers-full : (told : Bool) (course : Course) (writes : List Write) (pass : Pass)
    (key value : List ℕ) (class stamp : ℕ) → Follows course writes pass
    → full_class course.start writes key value ≡ Some class
    → IsAnswered told course writes (Put key value) stamp (Full class) pass
answers-full told course writes pass key value class stamp follows full = record {
  answer = ap (told_of told) (sym (ap (put_reply stamp) full));
  follows = subst (λ f. Follows course (writes ++ option_to_list (cond (is_some f) None
      (written (Put key value) stamp))) pass) (sym full)
      (subst (λ all. Follows course all pass) (sym (append-nil writes)) follows);
}

-- a put that is stored
pub answers-stored : (told : Bool) (course : Course) (writes : List Write) (next : Pass)
    (key value : List ℕ) (stamp : ℕ)
    → Follows course (writes ++ put_write key value stamp ∷ []) next
    → full_class course.start writes key value ≡ None
    → IsAnswered told course writes (Put key value) stamp (Stored stamp) next
answers-stored told course writes next key value stamp follows full = record {
  answer = ap (told_of told) (sym (ap (put_reply stamp) full));
  follows = subst (λ f. Follows course (writes ++ option_to_list (cond (is_some f) None
      (written (Put key value) stamp))) next) (sym full) follows;
}

-- where no slot is needed or one is left, there is room
room-for : (s : Start) (writes : List Write) (key : List ℕ) (slot : Option ℕ) (class : ℕ)
    → is_full_slot s writes key slot ≡ false
    → taken_by_others s writes key class ≤ s.limit - s.items class
    → taken_by_others s writes key class + cond (is_class slot class) 1 0
    ≤ s.limit - s.items class
room-for s writes key None class full fits = omega (arith, fits)
room-for s writes key (Some own) class full fits = by (own == class) refl
  where
    by : (same : Bool) → (own == class) ≡ same → taken_by_others s writes key class
        + cond same 1 0 ≤ s.limit - s.items class
    by false e = omega (arith, fits)
    by true e =
        let left : s.items own + taken_by_others s writes key own < s.limit =
        leb-false s.limit (s.items own + taken_by_others s writes key own) full in
        let here : s.items class + taken_by_others s writes key class < s.limit =
        subst (λ c. s.items c + taken_by_others s writes key c < s.limit) (eqb-true own class e)
        left in
        omega (arith, here)

others-fit : (course : Course) (writes : List Write) (pass : Pass) (key : List ℕ) (class : ℕ)
    → Follows course writes pass → class < 12 → taken_by_others course.start writes key class
    ≤ course.start.limit - course.start.items class
others-fit course writes pass key class follows small =
    let parts = taken-parts course writes pass key (last_of pass.overlay key) class follows
    (follows.lasts key) small in
    let fits = follows.room class small in
    omega (arith, parts, fits)

slab-slot : (needs : Bool) (class : ℕ) → IsSlab class → IfSome (cond needs (Some class) None) IsSlab
slab-slot true class slab = slab
slab-slot false class slab = tt

-- a last write's slots are among those that are taken
pub some-taken : (course : Course) (writes : List Write) (pass : Pass) (now : Start) (key : List ℕ)
    (before : Option Last) (slot : Option ℕ) (class : ℕ) → Follows course writes pass
    → before ≡ last_of pass.overlay key → slot ≡ slot_for now key class → IsSlab class
    → IfSome slot (λ c. slots_of before c ≤ slice_index pass.taken c)
some-taken course writes pass now key before slot class follows at is slab =
    subst (λ o. IfSome o (λ c. slots_of before c ≤ slice_index pass.taken c)) (sym is)
    (by (needs_slot now key class))
  where
    by : (needs : Bool) → IfSome (cond needs (Some class) None)
        (λ c. slots_of before c ≤ slice_index pass.taken c)
    by true =
        let parts = taken-parts course writes pass key before class follows
        (same-last course writes pass key before follows at) (omega (arith, slab.1)) in
        omega (arith, parts)
    by false = tt

-- a put that isn't full can be accepted
pub accepts-put : (course : Course) (writes : List Write) (pass : Pass) (now : Start)
    (key value : List ℕ) (before : Option Last) (class : ℕ) (last : Last) (stamp : ℕ)
    → Stands course writes pass now (Put key value) last.task stamp
    → before ≡ last_of pass.overlay key
    → class_of course.start.layout (length key) (length value) ≡ Some class → IsSlab class
    → last.slot ≡ slot_for course.start key class
    → is_full_slot course.start writes key (slot_for course.start key class) ≡ false
    → Accepts course writes pass key before last (put_write key value stamp)
accepts-put course writes pass now key value before class last stamp stands at is slab slot full =
    record {
      follows = stands.follows;
      before_is = same-last course writes pass key before stands.follows at;
      here = record {
        is = ap (option_and_then (λ request. written request (course.base + last.task)))
            stands.asked ∙ ap (λ t. Some (put_write key value t)) (sym stands.stamped);
        slot = slot ∙ sym (ap (option_and_then (λ c. cond (needs_slot course.start key c) (Some c)
            None)) is);
        slab = subst (λ o. IfSome o IsSlab) (sym slot)
            (slab-slot (needs_slot course.start key class) class slab);
      };
      is_key = refl;
      room = λ other low. subst (λ o. taken_by_others course.start writes key other
          + cond (is_class o other) 1 0 ≤ course.start.limit - course.start.items other) (sym slot)
          (room-for course.start writes key (slot_for course.start key class) other full
          (others-fit course writes pass key other stands.follows low));
    }

-- a delete can be accepted
pub accepts-delete : (course : Course) (writes : List Write) (pass : Pass) (now : Start)
    (key : List ℕ) (before : Option Last) (task stamp : ℕ)
    → Stands course writes pass now (Delete key) task stamp → before ≡ last_of pass.overlay key
    → Accepts course writes pass key before (record { task = task; slot = None })
    (delete_write key stamp)
accepts-delete course writes pass now key before task stamp stands at = record {
  follows = stands.follows;
  before_is = same-last course writes pass key before stands.follows at;
  here = record {
    is = ap (option_and_then (λ request. written request (course.base + task))) stands.asked
        ∙ ap (λ t. Some (delete_write key t)) (sym stands.stamped);
    slot = refl;
    slab = tt;
  };
  is_key = refl;
  room = λ other low.
      let fits = others-fit course writes pass key other stands.follows low in
      omega (arith, fits);
}

pub removed : (value : Option (List ℕ)) (stamp : ℕ) → true ≡ is_some value
    → Removed stamp ≡ delete_reply stamp value
removed None stamp e = absurd (true≢false e)
removed (Some value) stamp e = refl

pub absent : (value : Option (List ℕ)) (stamp : ℕ) → false ≡ is_some value
    → Absent stamp ≡ delete_reply stamp value
absent None stamp e = refl
absent (Some value) stamp e = absurd (true≢false (sym e))

-- what was found out of the slot, said of what the batch found
pub full-at : (course : Course) (writes : List Write) (pass : Pass) (now : Start)
    (request : Request) (key : List ℕ) (before : Option Last) (task stamp class : ℕ)
    (slot : Option ℕ) (full : Bool) → ((course : Course) (writes : List Write) (key : List ℕ)
    → StandsAt course writes pass now key before → full ≡ is_full_slot now writes key slot)
    → before ≡ last_of pass.overlay key → slot ≡ slot_for now key class
    → Stands course writes pass now request task stamp
    → full ≡ is_full_slot course.start writes key (slot_for course.start key class)
full-at course writes pass now request key before task stamp class slot full known at is stands =
    known course writes key (record {
      follows = stands.follows;
      found = stands.found;
      last_is = same-last course writes pass key before stands.follows at;
    }) ∙ ap (is_full_slot now writes key) is
    ∙ ap (λ s. is_full_slot s writes key (slot_for s key class)) (sym stands.found)

-- a key that the batch didn't write has what it had
pub unwritten : (course : Course) (now : Start) (key : List ℕ) (write : Option Write)
    → IsSameLast course None write → course.start ≡ now → AreClassed course.start
    → is_some (now.class key) ≡ is_some (value_or write (now.value key))
unwritten course now key None last found kept =
    subst (λ s. is_some (s.class key) ≡ is_some (s.value key)) found (kept key)
unwritten course now key (Some write) last found kept = absurd last
