-- What stands where all parties keep their promises.
use Rattle.std.proofs.Common.{◌≡◌, ℕ, ◌<◌, ◌≤◌, ◌^◌, List, [], ◌++◌, sym, ◌∙◌, subst, arith}
use Rattle.std.specs.Prelude.{min}
use Rattle.kv_model.proofs.PairwiseLemmas.{All-map}
use Rattle.std.proofs.Common.{inl, inr, ⊎_elim}
use Rattle.std.proofs.Props.{props}
use Rattle.kv_base.specs.Image.{Image}
use Rattle.kv_disk.specs.declared.disk.Disk as disks
use Rattle.kv_model.specs.Items.{SameValue}
use Rattle.kv_model.specs.Pairs.{Pair, pairs_in, counter_numbers, writes}
use Rattle.kv_parties.specs.Begun.{IsBefore, all_before}
use Rattle.kv_parties.specs.Causes.{KeepsCauses, IsLooked}
use Rattle.kv_parties.specs.Promises.{KeepsMap}
use Rattle.kv_parties.specs.Joined.{Parties, AllKeep, NonePassed, NoneWaits, Stands}
use Rattle.kv_parties.specs.Joined.{all_answered, all_pairs, IsAccounted}
use Rattle.kv_parties.specs.Recovered.{Recovers, LeavesPrefixes}
use Rattle.kv_parties.specs.Setting.{Setting}
use Rattle.kv_parties.specs.Workers.{done_pairs}
use Rattle.kv_parties.proofs.Agreeing.{Owns, Fits, agrees, value-same}
use Rattle.kv_parties.proofs.Causing.{causes_of, In-Contains}
use Rattle.kv_parties.proofs.Lists.{In, In-All}
use Rattle.kv_parties.proofs.Owned.{IsHere, IsRefusal}
use Rattle.kv_parties.proofs.Joining.{own, of_own, owns, all_fit, ordered_groups, sessions_fit}
use Rattle.kv_parties.proofs.Joining.{session_fits, counted_groups}
use Rattle.kv_parties.proofs.Meeting.{rings_of, courses_of, ranges_of, rings_keep, all_quiet}
use Rattle.kv_parties.proofs.Meeting.{same_history}
use Rattle.kv_parties.proofs.Recovering.{AreOwnAlso, all_own_also, recovers}

module _ {F D : Type 0} (d : disks.Ghosts D) (setting : Setting) (parties : Parties F D)
    (base : IsBefore setting parties.before) (keep : AllKeep d setting parties)
    (passed : NonePassed setting parties) where
  -- each worker's own pairs
  abbrev pub mine : ℕ → List Pair
  mine = own setting parties.before (rings_of parties) (ranges_of parties) (courses_of parties)
      (rings_keep d setting parties keep passed) base

  pub owned : Owns setting parties.before mine (ranges_of parties)
  owned = owns setting parties.before (rings_of parties) (ranges_of parties) (courses_of parties)
      (rings_keep d setting parties keep passed) base

  -- what a worker keeps beside its answers, over its own pairs
  record Keeps (w : ℕ) (pairs : List Pair) : Type 0 where
    batches : List (List Pair)
    same : pairs_in batches ≡ pairs
    causes : KeepsCauses setting (parties.before w) (parties.workers w).view.spent
        (d.faults (parties.workers w).first) (d.faults (parties.workers w).now)
        (parties.workers w).closed batches
    map_kept : KeepsMap setting (parties.before w ++ writes pairs) (parties.workers w).view
        (parties.workers w).closed (parties.workers w).store
    leaves : LeavesPrefixes d setting w (parties.workers w).first (parties.workers w).now
        (parties.before w) pairs

  keeps : (w : ℕ) → w < setting.workers → Keeps w (mine w)
  keeps w lt = of_own setting parties.before (rings_of parties) (ranges_of parties)
      (courses_of parties) (rings_keep d setting parties keep passed) base w (Keeps w) (λ less.
      let worker = keep.workers w less in
      let same = worker.same ∙ sym (same_history d setting parties keep passed w less) in
      record {
        batches = worker.batches;
        same = same;
        causes = worker.causes;
        map_kept = subst (λ pairs. KeepsMap setting (parties.before w ++ writes pairs)
            (parties.workers w).view (parties.workers w).closed (parties.workers w).store) same
            worker.map;
        leaves = subst (LeavesPrefixes d setting w (parties.workers w).first
            (parties.workers w).now (parties.before w)) same worker.leaves;
      }) lt

  stands_of : (pairs : List Pair) → Fits setting mine pairs → Stands d setting parties pairs
  stands_of pairs fits = record {
    right = agrees setting parties.before base mine (ranges_of parties) owned pairs fits;
    ordered = ordered_groups setting parties.before (rings_of parties) (ranges_of parties)
        (courses_of parties) (rings_keep d setting parties keep passed) base;
    counter = λ s lt. record {
      floor_is = All-map (λ number. min (parties.views s).start (2 ^ 62) ≤ number)
          (λ number. setting.floor < number) (counter_numbers (pairs_in (parties.groups s)))
          (λ number least. omega (arith, least, keep.started s lt, keep.limit))
          (keep.sessions s lt).looks.told;
      across = counted_groups setting parties.before (rings_of parties) (ranges_of parties)
          (courses_of parties) (rings_keep d setting parties keep passed) base s lt;
    };
    accounted = λ s lt. In-All (IsAccounted setting pairs) (pairs_in (parties.groups s)) (λ p i.
        ⊎_elim
        (λ (a : (w : ℕ) × (w < setting.workers) × In p (mine w)).
        ∣ inl (In-Contains p pairs (fits.all a.0 p a.1 a.2)) ∣₁)
        (λ (b : IsHere setting.layout p). ⊎_elim
        (λ (refused : IsRefusal setting.layout p). ∣ inr (inl refused.own) ∣₁)
        (λ (looked : IsLooked p). ∣ inr (inr looked) ∣₁) b)
        (session_fits setting parties.before (rings_of parties) (ranges_of parties)
        (courses_of parties) (rings_keep d setting parties keep passed) base s lt p i));
    causes = λ w lt. causes_of setting parties.before base mine (ranges_of parties) owned pairs fits
        w (parties.workers w).view.spent (d.faults (parties.workers w).first)
        (d.faults (parties.workers w).now) (parties.workers w).closed (keeps w lt).batches lt
        (keeps w lt).same (keeps w lt).causes;
    map = λ w lt open_ stamp later key is. subst (SameValue setting.told
        ((parties.workers w).store.value key)) (value-same setting parties.before base mine
        (ranges_of parties) owned pairs fits w stamp key lt is)
        (((keeps w lt).map_kept open_ stamp later).value key);
    leaves = λ w lt.
        let left = (keeps w lt).leaves in
        record {
          later = left.later;
          any_moment = λ moment from to image may. recovers setting parties.before base mine
              (ranges_of parties) owned pairs fits w image [] [] lt (λ x is i. absurd i)
              (left.any_moment moment from to image may);
          exit = λ image may. recovers setting parties.before base mine (ranges_of parties) owned
              pairs fits w image (mine w) pairs lt
              (all_own_also setting parties.before base mine (ranges_of parties) owned pairs fits w)
              (left.exit image may);
        };
  }

  pub answered_fit : Fits setting mine (all_answered setting parties)
  answered_fit = all_fit setting parties.before (rings_of parties) (ranges_of parties)
      (courses_of parties) (rings_keep d setting parties keep passed) base

  pub stands : Stands d setting parties (all_answered setting parties)
  stands = stands_of (all_answered setting parties) answered_fit

  -- each acknowledged write of a key of the worker's is one of its own
  acknowledged_own : (w : ℕ)
      → AreOwnAlso setting parties.before base mine (ranges_of parties) owned
      (all_answered setting parties) answered_fit w (mine w) (all_answered setting parties)
  acknowledged_own w = all_own_also setting parties.before base mine (ranges_of parties) owned
      (all_answered setting parties) answered_fit w

  pub sessions_stand : NoneWaits setting parties
      → Stands d setting parties (all_pairs setting parties)
  sessions_stand quiet = stands_of (all_pairs setting parties) (sessions_fit setting parties.before
      (rings_of parties) (ranges_of parties) (courses_of parties)
      (rings_keep d setting parties keep passed) base
      (all_quiet d setting parties keep passed quiet))

-- recovery of what was answered earlier
pub recovery : {F D : Type 0} (d : disks.Ghosts D) (setting : Setting)
    (earlier parties : Parties F D) → earlier.before ≡ parties.before
    → IsBefore setting parties.before → (kept : AllKeep d setting earlier)
    → NonePassed setting earlier → (keep : AllKeep d setting parties) → NonePassed setting parties
    → (w : ℕ) (image : Image) → w < setting.workers
    → ((lt : w < setting.workers) → Recovers setting w image (parties.before w)
    (done_pairs (kept.workers w lt).groups.history) (done_pairs (keep.workers w lt).groups.history))
    → Recovers setting w image (all_before setting parties.before) (all_answered setting earlier)
    (all_answered setting parties)
recovery d setting earlier parties e base kept none keep passed w image lt each =
    let base' : IsBefore setting earlier.before = subst (IsBefore setting) (sym e) base in
    let was : List Pair = mine d setting earlier base' kept none w in
    let is : List Pair = mine d setting parties base keep passed w in
    let own_each : Recovers setting w image (parties.before w) was is =
    of_own setting parties.before (rings_of parties) (ranges_of parties) (courses_of parties)
    (rings_keep d setting parties keep passed) base w
    (Recovers setting w image (parties.before w) was) (λ less.
    of_own setting earlier.before (rings_of earlier) (ranges_of earlier) (courses_of earlier)
    (rings_keep d setting earlier kept none) base' w
    (λ pairs. Recovers setting w image (parties.before w) pairs
    (done_pairs ((rings_keep d setting parties keep passed).workers w less).history)) (λ low.
    subst (λ pairs. Recovers setting w image (parties.before w) pairs
    (done_pairs ((rings_keep d setting parties keep passed).workers w less).history))
    (sym (same_history d setting earlier kept none w low))
    (subst (Recovers setting w image (parties.before w)
    (done_pairs (kept.workers w low).groups.history))
    (sym (same_history d setting parties keep passed w less)) (at low less))) lt) lt in
    recovers setting parties.before base (mine d setting parties base keep passed)
    (ranges_of parties) (owned d setting parties base keep passed) (all_answered setting parties)
    (answered_fit d setting parties base keep passed) w image was (all_answered setting earlier) lt
    (acknowledged_own d setting earlier base' kept none w) own_each
  where
    same-proof : (a b : w < setting.workers) → a ≡ b
    same-proof = hlevel props

    at : (low less : w < setting.workers) → Recovers setting w image (parties.before w)
        (done_pairs (kept.workers w low).groups.history)
        (done_pairs (keep.workers w less).groups.history)
    at low less = subst (λ (lt : w < setting.workers). Recovers setting w image (parties.before w)
        (done_pairs (kept.workers w low).groups.history)
        (done_pairs (keep.workers w lt).groups.history)) (same-proof low less) (each low)
