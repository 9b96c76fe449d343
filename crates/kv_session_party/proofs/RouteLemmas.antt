-- Lemmas on routing a group's tasks.
use Rattle.std.proofs.Common.{◌≡◌, ◌≢◌, ◌⊎◌, inl, inr, ⊎_elim, ℕ, zero, suc, ◌<◌, ◌≤◌, List}
use Rattle.std.proofs.Common.{[]}
use Rattle.std.proofs.Common.{◌∷◌, ◌++◌, length, reverse, Option, None, Some, true, false}
use Rattle.std.proofs.Common.{cond}
use Rattle.std.proofs.Common.{set, nat_eq, refl, sym, ap, ◌∙◌, subst, subst₂, arith}
use Rattle.std.proofs.Common.{append_assoc, length-append}
use Rattle.std.specs.Prelude.{not, is_some, ◌&&◌, IsSome, IsSomeAnd, Result, Ok, Err, IsOk, OnOk}
use Rattle.std.specs.Prelude.{MatchOption}
use Rattle.std.specs.List.{AllByRecursion}
use Rattle.std.proofs.lemmas.Bool.{false≢true}
use Rattle.std.proofs.lemmas.Bool.Decides.{nat_tests}
use Rattle.std.proofs.lemmas.List.{append-nil, reverse-append, reverse-reverse, length-set}
use Rattle.std.proofs.lemmas.List.{get_or-set_same, get_or-set_other}
use Rattle.std.proofs.lemmas.List.Elements.{filter-append}
use Rattle.kv_base.specs.Partition.{owner_of}
use Rattle.kv_base.specs.declared.reply.Reply.{Reply}
use Rattle.kv_base.specs.declared.request.Request.{Request}
use Rattle.kv_model.specs.Pairs.{key_of}
use Rattle.kv_parties.specs.Setting.{IsOwned, owns}
use Rattle.kv_ring.specs.declared.task.Task.{Task}
use Rattle.kv_session_party.specs.Parts.{is_bare}
use Rattle.kv_session_party.specs.Routes.{IsBare}
use Rattle.kv_session_party.specs.Routes.{IsPut, RoutesState, IsRouted, ArePlaces, IsPlace}
use Rattle.kv_session_party.specs.Routes.{IsPlaced, IsKept}
use Rattle.kv_session_party.specs.Parts.{HasTasks, AddsTask, part_of}
use Rattle.kv_session_party.specs.Routes.{AreKept, IsRoutable, part_for}
use Rattle.kv_session_party.specs.Parts.{no_part}
use Rattle.kv_session_party.specs.Routes.{goes_to, unrouted}
use Rattle.kv_session_party.specs.declared.part.Part.{Part}
use Rattle.kv_session_party.specs.declared.part.Part.TheVariants.{Here, Away}
use Rattle.kv_session_party.specs.declared.routes.Place.{Place}
use Rattle.kv_session_party.specs.declared.routes.Place.TheVariants.{Own, Worker}

-- ---- results

-- what holds on `Ok` holds where the result is that
pub of_ok : {T E : Type 0} (result : Result T E) (P : Type 0) → IsOk result → OnOk result P → P
of_ok (Ok x) P is p = p
of_ok (Err e) P is p = absurd (cc)

-- what is said of a result where it is Ok
pub ok-then : {A E : Type 0} (P : Type 0) (result : Result A E) (value : A) → result ≡ Ok value
    → OnOk result P → P
ok-then P result value is on = subst (λ r. OnOk r P) is on

-- a list with no element
pub none-left : {X : Type 0} (xs : List X) → (0 < length xs → ⊥) → xs ≡ []
none-left [] none = refl
none-left (x ∷ xs) none = absurd (none (omega arith))

-- ---- who owns a key

pub eq_self : (n : ℕ) → nat_eq n n ≡ true
eq_self n = grind (arith, nat_tests)

pub eq_not : (m n : ℕ) → m ≢ n → nat_eq m n ≡ false
eq_not m n ne = grind (arith, nat_tests)

pub same_or_not : (m n : ℕ) → (m ≡ n) ⊎ (m ≢ n)
same_or_not m n = grind arith

owns-self : (n worker : ℕ) (key : Option (List ℕ)) → IsSome key
    → IsSomeAnd key (λ k. owner_of k n ≡ worker) → owns n worker key ≡ true
owns-self n worker None some is = absurd (false≢true some)
owns-self n worker (Some k) some is = subst (λ m. nat_eq m worker ≡ true) (sym is) (eq_self worker)

owns-other : (n worker other : ℕ) (key : Option (List ℕ))
    → IsSomeAnd key (λ k. owner_of k n ≡ worker) → other ≢ worker → owns n other key ≡ false
owns-other n worker other None is ne = absurd is
owns-other n worker other (Some k) is ne = eq_not (owner_of k n) other (λ e. ne (sym e ∙ is))

-- ---- places

pub ArePlaces-more : (n : ℕ) (tasks : List Task) (places : List Place) (task : Task) (place : Place)
    → ArePlaces n tasks places → IsPlace n task place
    → ArePlaces n (tasks ++ task ∷ []) (places ++ place ∷ [])
ArePlaces-more n [] [] task place are is = (is, tt)
ArePlaces-more n [] (p ∷ places) task place are is = absurd are
ArePlaces-more n (t ∷ tasks) [] task place are is = absurd are
ArePlaces-more n (t ∷ tasks) (p ∷ places) task place are is =
    (are.0, ArePlaces-more n tasks places task place are.1 is)

pub ArePlaces-length : (n : ℕ) (tasks : List Task) (places : List Place) → ArePlaces n tasks places
    → length places ≡ length tasks
ArePlaces-length n [] [] are = refl
ArePlaces-length n [] (p ∷ places) are = absurd are
ArePlaces-length n (t ∷ tasks) [] are = absurd are
ArePlaces-length n (t ∷ tasks) (p ∷ places) are = ap suc (ArePlaces-length n tasks places are.1)

-- ---- parts

part-more : (n worker : ℕ) (tasks : List Task) (task : Task) → part_for n worker (tasks ++ task ∷ [])
    ≡ part_for n worker tasks ++ cond (goes_to n worker task) (task ∷ []) []
part-more n worker tasks task = filter-append (goes_to n worker) tasks (task ∷ [])

part-stays : (n worker : ℕ) (tasks : List Task) (task : Task) → goes_to n worker task ≡ false
    → part_for n worker (tasks ++ task ∷ []) ≡ part_for n worker tasks
part-stays n worker tasks task fails = part-more n worker tasks task
    ∙ ap (λ b. part_for n worker tasks ++ cond b (task ∷ []) []) fails
    ∙ append-nil (part_for n worker tasks)

part-grows : (n worker : ℕ) (tasks : List Task) (task : Task) → goes_to n worker task ≡ true
    → part_for n worker (tasks ++ task ∷ []) ≡ part_for n worker tasks ++ task ∷ []
part-grows n worker tasks task holds = part-more n worker tasks task
    ∙ ap (λ b. part_for n worker tasks ++ cond b (task ∷ []) []) holds

adds-has : (part later : Part) (task : Task) (items : List Task) → AddsTask true part later task
    → HasTasks part items → HasTasks later (items ++ task ∷ [])
adds-has (Here tasks) later task items adds has =
    subst (λ (xs : List Task). HasTasks later (xs ++ task ∷ [])) has adds
adds-has (Away count) later task items adds has = absurd adds

-- ---- one task more

-- each task has its place among so many workers, and stands in its worker's part
abbrev RoutedAs : ℕ → List Task → List Place → List Part → Type 0
RoutedAs n tasks places parts = ArePlaces n tasks places
    × ((worker : ℕ) → worker < n → HasTasks (part_of parts worker) (part_for n worker tasks))

routed-as : (tasks : List Task) (g : RoutesState) → RoutedAs (length g.parts) tasks g.places g.parts
    → IsRouted tasks g
routed-as tasks g are = record { places = are.0; parts = are.1 }

-- a task that has its reply
pub routed-own : (tasks : List Task) (g later : RoutesState) (task : Task) (reply : Reply)
    → later.places ≡ g.places ++ Own reply ∷ [] → later.parts ≡ g.parts → task.reply ≡ Some reply
    → IsRouted tasks g → IsRouted (tasks ++ task ∷ []) later
routed-own tasks g later task reply places parts own r =
    let n : ℕ = length g.parts in
    let fails : (worker : ℕ) → goes_to n worker task ≡ false = λ worker.
    ap (λ (o : Option Reply). not (is_some o) && owns n worker (key_of task.request)) own in
    routed-as (tasks ++ task ∷ []) later
    (subst₂ (λ (ps : List Place) (ws : List Part). RoutedAs (length ws) (tasks ++ task ∷ []) ps ws)
    (sym places) (sym parts) (
      ArePlaces-more n tasks g.places task (Own reply) r.places own,
      λ worker lt. subst (λ (xs : List Task). HasTasks (part_of g.parts worker) xs)
          (sym (part-stays n worker tasks task (fails worker))) (r.parts worker lt),
    ))

-- a task for the request, in the part of the worker that owns its key
pub routed-worker : (tasks : List Task) (g later : RoutesState) (request : Request) (number : ℕ)
    (part : Part) → IsSome (key_of request) → number < length g.parts
    → IsOwned (length g.parts) number request → later.places ≡ g.places ++ Worker number ∷ []
    → later.parts ≡ set g.parts number part
    → AddsTask true (part_of g.parts number) part (record { request = request; reply = None })
    → IsRouted tasks g
    → IsRouted (tasks ++ record { request = request; reply = None } ∷ []) later
routed-worker tasks g later request number part some lt owned places parts adds r =
    let n : ℕ = length g.parts in
    let task : Task = record { request = request; reply = None } in
    let more : List Task = tasks ++ task ∷ [] in
    let now : List Part = set g.parts number part in
    let holds : goes_to n number task ≡ true = owns-self n number (key_of request) some owned in
    let fails : (other : ℕ) → other ≢ number → goes_to n other task ≡ false = λ other ne.
    owns-other n number other (key_of request) owned ne in
    let here : HasTasks (part_of now number) (part_for n number more) =
    subst₂ (λ (p : Part) (xs : List Task). HasTasks p xs)
    (sym (get_or-set_same g.parts number part no_part lt))
    (sym (part-grows n number tasks task holds))
    (adds-has (part_of g.parts number) part task (part_for n number tasks) adds
    (r.parts number lt)) in
    let there : (other : ℕ) → other ≢ number → other < n
    → HasTasks (part_of now other) (part_for n other more) = λ other ne less.
    subst₂ (λ (p : Part) (xs : List Task). HasTasks p xs)
    (sym (get_or-set_other g.parts number other part no_part ne))
    (sym (part-stays n other tasks task (fails other ne))) (r.parts other less) in
    let all : RoutedAs n more (g.places ++ Worker number ∷ []) now = (
      ArePlaces-more n tasks g.places task (Worker number) r.places (refl, lt, holds),
      λ worker less. ⊎_elim
          (λ (e : worker ≡ number). subst (λ w. HasTasks (part_of now w) (part_for n w more)) (sym e)
          here)
          (λ (ne : worker ≢ number). there worker ne less)
          (same_or_not worker number),
    ) in
    routed-as more later
    (subst₂ (λ (ps : List Place) (ws : List Part). RoutedAs (length ws) more ps ws) (sym places)
    (sym parts) (subst (λ m. RoutedAs m more (g.places ++ Worker number ∷ []) now)
    (sym (length-set g.parts number part)) all))

-- what routing one more task gives
abbrev pub RoutesOne : Task → RoutesState → RoutesState → Type 0
RoutesOne task g later = (kept : Task) × IsKept task kept
    × ((tasks : List Task) → IsRouted tasks g → IsRouted (tasks ++ kept ∷ []) later)

pub routes-own : (task : Task) (g later : RoutesState) (reply : Reply) → task.reply ≡ Some reply
    → later.places ≡ g.places ++ Own reply ∷ [] → later.parts ≡ g.parts → RoutesOne task g later
routes-own task g later reply own places parts =
    (task, inl refl, λ tasks r. routed-own tasks g later task reply places parts own r)

pub routes-placed : (task : Task) (g later : RoutesState) (place : Place) → task.reply ≡ None
    → IsSome (key_of task.request) → IsPlaced g.parts later.parts task.request place
    → later.places ≡ g.places ++ place ∷ [] → RoutesOne task g later
routes-placed task g later place none some placed places =
    subst (λ (o : Option Reply). RoutesOne (record { request = task.request; reply = o }) g later)
    (sym none) (by place placed places)
  where
    by : (place : Place) → IsPlaced g.parts later.parts task.request place
        → later.places ≡ g.places ++ place ∷ []
        → RoutesOne (record { request = task.request; reply = None }) g later
    by (Own own) placed places = (
      unrouted,
      inr (refl, refl),
      λ tasks r. routed-own tasks g later unrouted own places placed.0 (ap Some (sym placed.1)) r,
    )
    by (Worker number) placed places = (
      record { request = task.request; reply = None },
      inl refl,
      λ tasks r. routed-worker tasks g later task.request number placed.2.0 some placed.0 placed.1
          places placed.2.1 placed.2.2 r,
    )

pub routes-put : (task : Task) (g later : RoutesState) (place : Place) → IsRoutable task
    → IsPut g.parts later.parts task place → later.places ≡ g.places ++ place ∷ []
    → RoutesOne task g later
routes-put task g later place routable put places = by task.reply refl put
  where
    by : (o : Option Reply) → task.reply ≡ o
        → MatchOption o (IsPlaced g.parts later.parts task.request place)
        (λ own. (later.parts ≡ g.parts) × (place ≡ Own own)) → RoutesOne task g later
    by None none is = routes-placed task g later place none (routable none) is places
    by (Some reply) own is = routes-own task g later reply own
        (places ∙ ap (λ (p : Place). g.places ++ p ∷ []) is.1) is.0

-- the parts stay as many
pub placed-size : (request : Request) (parts later : List Part) (place : Place)
    → IsPlaced parts later request place → length later ≡ length parts
placed-size request parts later (Own own) placed = ap length placed.0
placed-size request parts later (Worker number) placed =
    ap length placed.2.1 ∙ length-set parts number placed.2.0

-- ---- all tasks

pub AreKept-more : (tasks kept : List Task) (task next : Task) → AreKept tasks kept
    → IsKept task next → AreKept (tasks ++ task ∷ []) (kept ++ next ∷ [])
AreKept-more [] [] task next are is = (is, tt)
AreKept-more [] (k ∷ kept) task next are is = absurd are
AreKept-more (t ∷ tasks) [] task next are is = absurd are
AreKept-more (t ∷ tasks) (k ∷ kept) task next are is =
    (are.0, AreKept-more tasks kept task next are.1 is)

pub AreKept-length : (tasks kept : List Task) → AreKept tasks kept → length kept ≡ length tasks
AreKept-length [] [] are = refl
AreKept-length [] (k ∷ kept) are = absurd are
AreKept-length (t ∷ tasks) [] are = absurd are
AreKept-length (t ∷ tasks) (k ∷ kept) are = ap suc (AreKept-length tasks kept are.1)

pub all-at : {X : Type 0} (P : X → Type 0) (xs : List X) (y : X) (ys : List X)
    → AllByRecursion P (xs ++ y ∷ ys) → P y
all-at P [] y ys all = all.0
all-at P (x ∷ xs) y ys all = all-at P xs y ys all.1

-- ---- no task

pub none-long : {X : Type 0} (xs : List X) → length xs ≡ 0 → xs ≡ []
none-long [] e = refl
none-long (x ∷ xs) e = absurd (omega (arith, e))

zero-eq : (n : ℕ) → nat_eq n 0 ≡ true → n ≡ 0
zero-eq n e = grind (arith, nat_tests)

bare-has : (part : Part) → is_bare part ≡ true → HasTasks part []
bare-has (Here tasks) bare = none-long tasks.items (zero-eq (length tasks.items) bare)
bare-has (Away count) bare = absurd (false≢true bare)

pub bare-routed : (routes : RoutesState) → IsBare routes → IsRouted [] routes
bare-routed routes bare = record {
  places = subst (ArePlaces (length routes.parts) []) (sym (none-long routes.places bare.places)) tt;
  parts = λ worker lt. bare-has (part_of routes.parts worker) (bare.parts worker);
}

-- behind one part more that has no task
pub bare-more : (parts : List Part) (part : Part)
    → ((worker : ℕ) → is_bare (part_of parts worker) ≡ true) → is_bare part ≡ true
    → (worker : ℕ) → is_bare (part_of (parts ++ part ∷ []) worker) ≡ true
bare-more [] part bare is zero = is
bare-more [] part bare is (suc worker) = refl
bare-more (p ∷ parts) part bare is zero = bare zero
bare-more (p ∷ parts) part bare is (suc worker) =
    bare-more parts part (λ other. bare (suc other)) is worker

-- the first tasks are routed, and the others are left, the last one first
pub record Splits (first left : List Task) (routes : RoutesState) (count : ℕ) : Type 0 where
  pub done : List Task
  pub kept : List Task
  pub parts : first ≡ done ++ reverse left
  pub are : AreKept done kept
  pub routed : IsRouted kept routes
  pub size : length routes.parts ≡ count

pub Splits-new : (first left : List Task) (routes : RoutesState) → left ≡ reverse first
    → IsBare routes → Splits first left routes (length routes.parts)
Splits-new first left routes is bare = record {
  done = [];
  kept = [];
  parts = sym (ap reverse is ∙ reverse-reverse first);
  are = tt;
  routed = bare-routed routes bare;
  size = refl;
}

left-more : (left rest : List Task) (task : Task) → left ≡ rest ++ task ∷ []
    → reverse left ≡ task ∷ reverse rest
left-more left rest task is = ap reverse is ∙ reverse-append rest (task ∷ [])

first-parts : (first done left rest : List Task) (task : Task) → first ≡ done ++ reverse left
    → left ≡ rest ++ task ∷ [] → first ≡ done ++ task ∷ reverse rest
first-parts first done left rest task parts is =
    parts ∙ ap (λ (xs : List Task). done ++ xs) (left-more left rest task is)

pub Splits-more : (first left rest : List Task) (task : Task) (routes later : RoutesState) (count : ℕ)
    → left ≡ rest ++ task ∷ [] → RoutesOne task routes later
    → length later.parts ≡ length routes.parts → Splits first left routes count
    → Splits first rest later count
Splits-more first left rest task routes later count is one size s = record {
  done = s.done ++ task ∷ [];
  kept = s.kept ++ one.0 ∷ [];
  parts = first-parts first s.done left rest task s.parts is
      ∙ sym (append_assoc s.done (task ∷ []) (reverse rest));
  are = AreKept-more s.done s.kept task one.0 s.are one.1;
  routed = one.2 s.kept s.routed;
  size = size ∙ s.size;
}

pub Splits-room : (first left rest : List Task) (task : Task) (routes : RoutesState) (count : ℕ)
    → left ≡ rest ++ task ∷ [] → length first ≤ 64 → Splits first left routes count
    → length routes.places < 64
Splits-room first left rest task routes count is few s =
    let all = ap length (first-parts first s.done left rest task s.parts is) in
    let sum = length-append s.done (task ∷ reverse rest) in
    let places = ArePlaces-length (length routes.parts) s.kept routes.places s.routed.places in
    let kept = AreKept-length s.done s.kept s.are in
    omega (arith, all, sum, places, kept, few)

pub Splits-routable : (first left rest : List Task) (task : Task) (routes : RoutesState) (count : ℕ)
    → left ≡ rest ++ task ∷ [] → AllByRecursion IsRoutable first → Splits first left routes count
    → IsRoutable task
Splits-routable first left rest task routes count is all s =
    all-at IsRoutable s.done task (reverse rest)
    (subst (AllByRecursion IsRoutable) (first-parts first s.done left rest task s.parts is) all)

-- where none is left, all are routed
pub Splits-all : (first left : List Task) (routes : RoutesState) (count : ℕ) → left ≡ []
    → Splits first left routes count
    → (kept : List Task) × AreKept first kept × IsRouted kept routes
Splits-all first left routes count none s = (
  s.kept,
  subst (λ (xs : List Task). AreKept xs s.kept) (sym (s.parts
      ∙ ap (λ (xs : List Task). s.done ++ reverse xs) none ∙ append-nil s.done)) s.are,
  s.routed,
)
