-- New parties of opened stores begin with what these kept.
use Rattle.std.proofs.Common.{◌≡◌, ◌≢◌, ℕ, zero, suc, ◌+◌, ◌-◌, ◌<◌, ◌≤◌, Bool, true, false, List, []}
use Rattle.std.proofs.Common.{◌∷◌, ◌++◌, length, map, Option, None, Some, IsTrue, is_some, ⊎_elim}
use Rattle.std.proofs.Common.{inl, inr, refl, sym, ap, ◌∙◌, subst, subst₂, arith}
use Rattle.std.proofs.lemmas.Bool.{false≢true}
use Rattle.std.specs.List.{AllByRecursion}
use Rattle.std.specs.Option.{option_map}
use Rattle.std.specs.FinMap as finite
use Rattle.kv_base.specs.Partition.{owner_of}
use Rattle.kv_base.specs.declared.limits.Limits.{Limits}
use Rattle.kv_base.proofs.ImageLemmas.{only_image}
use Rattle.kv_disk.specs.declared.disk.Disk as disks
use Rattle.kv_groups.specs.Gathering.{greatest}
use Rattle.kv_index.specs.declared.entry.Entry.{Entry}
use Rattle.kv_index.specs.declared.index.Index as indexes
use Rattle.kv_model.specs.Head.{IsWorker}
use Rattle.kv_model.specs.History.{Write, value_at}
use Rattle.kv_model.specs.Items.{SameValue, FollowsHistory, class_with}
use Rattle.kv_model.specs.Layout.{all_classes}
use Rattle.kv_model.specs.Pairwise.{Pairwise}
use Rattle.kv_model.specs.Reading.{slot_at}
use Rattle.kv_model.specs.Recovery.{AreKept, KeepsEach, RecoversPrefix}
use Rattle.kv_model.proofs.AgreementLemmas.{value-same}
use Rattle.kv_model.proofs.ContainsLemmas.{All-members}
use Rattle.kv_model.proofs.KeptLemmas.{kept-given}
use Rattle.kv_model.proofs.PairwiseLemmas.{All-map}
use Rattle.kv_parties.specs.Begun.{IsBefore}
use Rattle.kv_parties.specs.Rows.{row}
use Rattle.kv_parties.specs.Setting.{Setting}
use Rattle.kv_parties.proofs.Lists.{In, All-In, In-All, In-append, In-row-back}
use Rattle.kv_recover.specs.Found.{copy_of}
use Rattle.kv_recover.specs.Store.{HasOpened}
use Rattle.kv_recover.specs.declared.opening.Opened.{Opened}
use Rattle.kv_recover.proofs.EntryLemmas.{option_cases}
use Rattle.kv_recover.proofs.FreeSteps.{Told}
use Rattle.kv_slab.specs.Given.{Answer}
use Rattle.kv_slab.specs.View.{store_map}
use Rattle.kv_worker.specs.Worker.{WorkerView, start_of, value_told}
use Rattle.kv_worker_party.specs.Party.{BeginsWith}
use Rattle.kv_mesh.specs.Opening.{AreOpened, IsOpenedWith, OpenedStoresBegin}
use Rattle.kv_mesh.specs.Places.{IsAt}
use Rattle.kv_mesh.specs.Settled.{HaveBegun}
use Rattle.kv_mesh.specs.Started.{AreStores, floors, opened_of}
use Rattle.kv_mesh.proofs.FirstLemmas.{greatest-above}
use Rattle.kv_mesh.proofs.NewLemmas.{mapped-at}
use Rattle.kv_mesh.proofs.PlaceLemmas.{pick}

-- ---- what the store has is what was kept

same-itself : (told : Bool) (value : Option (List ℕ)) → SameValue told value value
same-itself told None = tt
same-itself told (Some value) = λ tells. refl

-- a key that has a value in the index has one
some-value : (entry : Option Entry) (value : Option (List ℕ)) → is_some value ≡ is_some entry
    → SameValue false (option_map (λ _. []) entry) value
some-value None None some = tt
some-value None (Some value) some = absurd (false≢true (sym some))
some-value (Some entry) None some = absurd (false≢true some)
some-value (Some entry) (Some value) some = λ tells. absurd (false≢true tells)

same-value : (tells : Bool) (answer : Answer) (entry : Option Entry) (value : Option (List ℕ))
    → (IsTrue tells → option_map (λ given. given.1) answer ≡ value)
    → is_some value ≡ is_some entry → SameValue tells (value_told tells answer entry) value
same-value true answer entry value told some =
    subst (SameValue true (option_map (λ given. given.1) answer)) (told refl)
    (same-itself true (option_map (λ given. given.1) answer))
same-value false answer entry value told some = some-value entry value some

module _ {D I : Type 0} (d : disks.Ghosts D) (i : indexes.Ghosts I) (told : Told d)
    (limits : Limits) (old : D) (number many floor : ℕ) (worker : WorkerView D I)
    (opened : HasOpened d i old number many limits worker.store worker.highest)
    (le : worker.highest ≤ floor) where
  abbrev writes : List Write
  writes = opened.kept.writes

  low : AllByRecursion (λ write. write.stamp ≤ floor) writes
  low = All-map (λ write. write.stamp ≤ worker.highest) (λ write. write.stamp ≤ floor) writes
      (λ write under. omega (arith, under, le)) opened.kept.stamps

  -- above the store's floor the writes have what they have there
  same : (key : List ℕ) → value_at writes worker.highest key ≡ value_at writes floor key
  same key = value-same writes (worker.highest + 1) worker.highest floor key
      (All-map (λ write. write.stamp ≤ worker.highest) (λ write. write.stamp < worker.highest + 1)
      writes (λ write under. omega (arith, under)) opened.kept.stamps)
      (omega arith) (omega (arith, le))

  follows : FollowsHistory d.tells writes floor (start_of d i worker.store)
  follows = record {
    value = λ key. subst (SameValue d.tells (value_told d.tells (store_map d i worker.store key)
        (finite.get (i.entries worker.store.index) key))) (same key)
        (same-value d.tells (store_map d i worker.store key)
        (finite.get (i.entries worker.store.index) key) (value_at writes worker.highest key)
        (λ tells. opened.kept.values tells key) (opened.kept.keys key));
    class = λ tells key. opened.kept.classes tells key ∙ ap (class_with all_classes key) (same key);
  }

  -- of each key of which an item is found one is kept
  keeps-each : IsTrue d.tells
      → KeepsEach (slot_at all_classes (d.seen worker.store.disk.disk)) number many
  keeps-each tells key copy found =
      let entry = finite.get (i.entries worker.store.index) key in elim (option_cases entry) [
        | inl none ↦ absurd ((opened.holds tells).none key none copy found)
        | inr some ↦
            let each = (opened.holds tells).each key some.0 some.1 in (copy_of some.0 each.0, each.1)
      ]

  -- the disk keeps the writes
  are-kept : IsTrue d.tells
      → AreKept all_classes (d.seen worker.store.disk.disk) number many writes
  are-kept tells =
      let kept = opened.kept.kept tells in
      let keeps = opened.keeps tells in
      record {
        distinct = kept.distinct;
        each = λ write has.
            let one = kept.each write has in (
              one.0,
              (keeps.kept write.key one.0).0 one.1,
              one.2,
              one.3,
            );
        all = λ key copy is. kept.all key copy ((keeps.kept key copy).1 is);
      }

  recovers : IsTrue d.tells → RecoversPrefix all_classes writes writes
      (d.seen worker.store.disk.disk) number many
  recovers tells = record {
    opens = (opened.keeps tells).opens (opened.opens tells);
    prefix = λ key owned. (
      floor,
      All-map (λ write. write.stamp ≤ floor) (λ write. write.key ≡ key → write.stamp ≤ floor) writes
          (λ write under is. under) low,
      kept-given all_classes (d.seen worker.store.disk.disk) number many writes floor key
          (are-kept tells) (keeps-each tells) low,
    );
  }

  begins-with : BeginsWith d i worker writes floor
  begins-with = record {
    open_ = opened.open_;
    below = low;
    follows = follows;
    recovers = λ image left.
        let now = worker.store.disk.disk in
        let tells : IsTrue d.tells = (told now (d.calls now) 0 0 (image 0 0) (left 0 0)).0 in
        subst₂ (λ a b. RecoversPrefix all_classes writes writes image a b)
        (sym opened.worker_is) (sym opened.workers_is)
        (subst (λ now_image. RecoversPrefix all_classes writes writes now_image number many)
        (sym (only_image (d.seen now) (d.leaves now (d.calls now)) image opened.durable left))
        (recovers tells));
  }

-- ---- what all stores have is one history

module _ {X : Type 0} (R : X → X → Type 0) where
  pairwise-append : (xs ys : List X) → Pairwise R xs → Pairwise R ys
      → ((x y : X) → In x xs → In y ys → R x y) → Pairwise R (xs ++ ys)
  pairwise-append [] ys first second across = second
  pairwise-append (x ∷ xs) ys first second across = (
    In-All (R x) (xs ++ ys) (λ y j. ⊎_elim (λ a. All-In (R x) y xs first.0 a)
        (λ b. across x y (inl refl) b) (In-append y xs ys j)),
    pairwise-append xs ys first.1 second (λ z y j k. across z y (inr j) k),
  )

  pairwise-each : (Q : X → X → Type 0) → ((x y : X) → Q x y → R x y) → (xs : List X)
      → Pairwise Q xs → Pairwise R xs
  pairwise-each Q f [] all = tt
  pairwise-each Q f (x ∷ xs) all =
      (In-All (R x) xs (λ y j. f x y (All-In (Q x) y xs all.0 j)), pairwise-each Q f xs all.1)

abbrev Differs : Write → Write → Type 0
Differs write other = write.key ≡ other.key → write.stamp ≢ other.stamp

module _ (setting : Setting) (before : ℕ → List Write) (some : 1 ≤ setting.workers)
    (distinct : (w : ℕ) → w < setting.workers
    → Pairwise (λ write other. write.key ≢ other.key) (before w))
    (owned : (w : ℕ) → w < setting.workers
    → AllByRecursion (λ write. owner_of write.key setting.workers ≡ w) (before w))
    (low : (w : ℕ) → w < setting.workers
    → AllByRecursion (λ write. write.stamp ≤ setting.floor) (before w)) where
  differ : (n : ℕ) → n ≤ setting.workers → Pairwise Differs (row n before)
  differ zero le = tt
  differ (suc n) le =
      let here : n < setting.workers = omega (arith, le) in
      pairwise-append Differs (row n before) (before n) (differ n (omega (arith, le)))
      (pairwise-each Differs (λ write other. write.key ≢ other.key) (λ x y ne e. absurd (ne e))
      (before n) (distinct n here))
      (λ x y j k same.
      let r = In-row-back x n before j in
      let lt : r.0 < setting.workers = omega (arith, r.1, le) in
      let his : owner_of x.key setting.workers ≡ r.0 =
      All-In (λ (z : Write). owner_of z.key setting.workers ≡ r.0) x (before r.0) (owned r.0 lt)
      r.2 in
      let hers : owner_of y.key setting.workers ≡ n =
      All-In (λ (z : Write). owner_of z.key setting.workers ≡ n) y (before n) (owned n here) k in
      let one : r.0 ≡ n = sym his ∙ (ap (λ key. owner_of key setting.workers) same ∙ hers) in
      absurd (omega (arith, r.1, one)))

  is-before : IsBefore setting before
  is-before = record {
    history = differ setting.workers (omega arith);
    low = In-All (λ (z : Write). z.stamp ≤ setting.floor) (row setting.workers before) (λ x j.
        let r = In-row-back x setting.workers before j in
        All-In (λ (z : Write). z.stamp ≤ setting.floor) x (before r.0) (low r.0 r.1) r.2);
    owned = owned;
    some_worker = some;
  }

-- ---- new parties

module _ {D I : Type 0} (d : disks.Ghosts D) (i : indexes.Ghosts I) (limits : Limits)
    (olds : ℕ → D) (before : ℕ → List Write) (stores : List (Opened D I))
    (are : AreOpened d i limits olds before stores) where
  -- parties can be made of the stores
  stores-fit : length stores ≤ 16 → AreStores d i stores
  stores-fit few = record {
    slots = limits.slots;
    each = λ w opened at. let has = (are w opened at).has in record {
      is_opened = record {
        open_ = has.open_;
        worker_is = subst₂ IsWorker (sym has.worker_is) (sym has.workers_is)
            (record { below = at.0; limit = few });
        spare = has.spare;
        stamps = has.stamps;
        floor_is = has.floor_is;
      };
      worker_is = has.worker_is;
      workers_are = has.workers_is;
      slots_are = ap (λ l. l.slots) has.limits_are;
    };
  }

  -- no floor is above the greatest
  floor-low : (start : ℕ) → start ≡ greatest (floors stores) + 1 → (w : ℕ) (opened : Opened D I)
      → IsAt stores w opened → opened.floor ≤ start - 1
  floor-low start first w opened at =
      let up = greatest-above stores w opened at.0 in
      omega (arith, up, first, ap (λ o. o.floor) at.1)

  -- the store of each worker
  module _ (told : Told d) (firsts : List (WorkerView D I)) (same : map opened_of firsts ≡ stores)
      (start : ℕ) (first : start ≡ greatest (floors stores) + 1) where
    have-begun : HaveBegun d i firsts start before
    have-begun w worker at =
        let there = mapped-at opened_of firsts stores same w worker at in
        let one = are w (opened_of worker) there in
        subst (λ b. BeginsWith d i worker b (start - 1)) one.writes_are
        (begins-with d i told limits (olds w) w (length stores) (start - 1) worker one.has
        (floor-low start first w (opened_of worker) there))

  -- its writes
  module _ (w : ℕ) (lt : w < length stores) where
    store : (o : Opened D I) × IsOpenedWith d i limits (olds w) w (length stores) (before w) o
        × IsAt stores w o
    store = let p = pick stores w lt in (p.0, are w p.0 p.1, p.1)

    their-distinct : Pairwise (λ write other. write.key ≢ other.key) (before w)
    their-distinct = subst (λ b. Pairwise (λ (write : Write) (other : Write). write.key ≢ other.key) b)
        store.1.writes_are store.1.has.kept.distinct

    their-owned : AllByRecursion (λ write. owner_of write.key (length stores) ≡ w) (before w)
    their-owned = subst (λ b. AllByRecursion (λ (write : Write). owner_of write.key (length stores)
        ≡ w) b) store.1.writes_are (All-members (λ (write : Write). owner_of write.key (length stores)
        ≡ w) store.1.has.kept.writes store.1.has.kept.owned)

    their-low : (start : ℕ) → start ≡ greatest (floors stores) + 1
        → AllByRecursion (λ write. write.stamp ≤ start - 1) (before w)
    their-low start first =
        let up = floor-low start first w store.0 store.2 in
        subst (λ b. AllByRecursion (λ (write : Write). write.stamp ≤ start - 1) b)
        store.1.writes_are (All-map (λ (write : Write). write.stamp ≤ store.0.floor)
        (λ (write : Write). write.stamp ≤ start - 1) store.1.has.kept.writes
        (λ write under. omega (arith, under, up)) store.1.has.kept.stamps)

pub stores-begin : {D I : Type 0} (d : disks.Ghosts D) (i : indexes.Ghosts I) → Told d
    → OpenedStoresBegin d i
stores-begin d i told = record {
  fit = λ limits olds before stores few are. stores-fit d i limits olds before stores are few;
  begin = λ limits olds before stores firsts start setting some are same first many floor. (
    have-begun d i limits olds before stores are told firsts same start first,
    is-before setting before (omega (arith, some, many))
        (λ w lt. their-distinct d i limits olds before stores are w (omega (arith, lt, many)))
        (λ w lt. subst (λ n. AllByRecursion (λ (write : Write). owner_of write.key n ≡ w)
        (before w)) (sym many) (their-owned d i limits olds before stores are w
        (omega (arith, lt, many))))
        (λ w lt. subst (λ n. AllByRecursion (λ (write : Write). write.stamp ≤ n) (before w))
        (sym floor) (their-low d i limits olds before stores are w (omega (arith, lt, many)) start
        first)),
  );
}
