-- Recovery of a worker's disk, by the writes of all parties.
use Rattle.std.proofs.Common.{◌≡◌, ◌⊎◌, inl, inr, ⊎_elim, ℕ, ◌<◌, ◌≤◌, List, ◌++◌}
use Rattle.std.proofs.Common.{Some, refl, sym, ap, ◌∙◌, subst, arith}
use Rattle.std.proofs.Common.{append_assoc}
use Rattle.std.proofs.Math.Logic.{∥∥₁_map}
use Rattle.std.specs.Prelude.{option_and_then}
use Rattle.kv_base.specs.Image.{Image}
use Rattle.kv_base.specs.Partition.{owner_of}
use Rattle.kv_base.specs.declared.request.Request.{Request}
use Rattle.kv_base.specs.declared.reply.Reply.{Reply}
use Rattle.kv_base.specs.declared.reply.Reply.TheVariants.{Stored, Removed, Unsure}
use Rattle.kv_stamps.specs.declared.view.Range.{Range}
use Rattle.kv_model.specs.History.{Write, value_at}
use Rattle.kv_model.specs.Pairs.{Pair, writes, unsure_writes, key_of, stamp_of, acknowledged}
use Rattle.kv_model.specs.Pairs.{acknowledged_by, unsure_by}
use Rattle.kv_model.specs.Reading.{slot_at}
use Rattle.kv_model.specs.Recovery.{RecoversPrefix, HoldsAll, GivesValue}
use Rattle.kv_parties.specs.Setting.{Setting, IsOwned}
use Rattle.kv_parties.specs.Begun.{IsBefore, all_before}
use Rattle.kv_parties.specs.Causes.{all_writes}
use Rattle.kv_parties.specs.Recovered.{Recovers}
use Rattle.kv_parties.proofs.Lists.{In, In-left, In-right, In-append, All-In, In-All, In-filter_map}
use Rattle.kv_parties.proofs.Lists.{In-filter_map-back, In-row, In-row-back}
use Rattle.kv_parties.proofs.Histories.{from_some, latest-same}
use Rattle.kv_parties.proofs.Agreeing.{written-is, acknowledged-is, stamp-tells, history-tells}
use Rattle.kv_parties.proofs.Agreeing.{owner-of, Owns, Fits, one, from_worker, stamp_above}

-- the write is one of the pair's
abbrev pub IsOf : Pair → Write → Type 0
IsOf pair x = (acknowledged pair ≡ Some x) ⊎ (unsure_by pair.request pair.reply ≡ Some x)

unsure_by-is : (request : Request) (reply : Reply) (w : Write) → unsure_by request reply ≡ Some w
    → (stamp_of reply ≡ Some w.stamp) × (key_of request ≡ Some w.key)
unsure_by-is request (Unsure t) w e =
    let is = written-is request t w e in (ap Some (sym is.0), is.1)
unsure_by-is request reply w e = absurd (cc)

pub of-is : (pair : Pair) (w : Write) → IsOf pair w
    → (stamp_of pair.reply ≡ Some w.stamp) × (key_of pair.request ≡ Some w.key)
of-is pair w (inl e) = acknowledged-is pair w e
of-is pair w (inr e) = unsure_by-is pair.request pair.reply w e

never-both : (request : Request) (reply : Reply) (v u : Write)
    → acknowledged_by request reply ≡ Some v → unsure_by request reply ≡ Some u → v ≡ u
never-both request (Stored t) v u e f = absurd (cc)
never-both request (Removed t) v u e f = absurd (cc)
never-both request reply v u e f = absurd (cc)

of-one : (pair : Pair) (v u : Write) → IsOf pair v → IsOf pair u → v ≡ u
of-one pair v u (inl e) (inl f) = from_some v u (sym e ∙ f)
of-one pair v u (inl e) (inr f) = never-both pair.request pair.reply v u e f
of-one pair v u (inr e) (inl f) = sym (never-both pair.request pair.reply u v f e)
of-one pair v u (inr e) (inr f) = from_some v u (sym e ∙ f)

-- the writes of the pairs, acknowledged and unsure
abbrev pub left_by : List Pair → List Write
left_by pairs = writes pairs ++ unsure_writes pairs

pub left-In : (x : Write) (p : Pair) (pairs : List Pair) → IsOf p x → In p pairs
    → In x (left_by pairs)
left-In x p pairs (inl e) i =
    In-left x (writes pairs) (unsure_writes pairs) (In-filter_map acknowledged p x pairs e i)
left-In x p pairs (inr e) i =
    In-right x (writes pairs) (unsure_writes pairs)
    (In-filter_map (λ (q : Pair). unsure_by q.request q.reply) p x pairs e i)

pub In-left_by : (x : Write) (pairs : List Pair) → In x (left_by pairs)
    → (p : Pair) × IsOf p x × In p pairs
In-left_by x pairs i = ⊎_elim
    (λ (a : In x (writes pairs)).
    let m = In-filter_map-back acknowledged x pairs a in (m.0, inl m.1, m.2))
    (λ (b : In x (unsure_writes pairs)).
    let m = In-filter_map-back (λ (q : Pair). unsure_by q.request q.reply) x pairs b in
    (m.0, inr m.1, m.2))
    (In-append x (writes pairs) (unsure_writes pairs) i)

module _ (setting : Setting) (before : ℕ → List Write) (base : IsBefore setting before)
    (own : ℕ → List Pair) (ranges : ℕ → List Range) (owns : Owns setting before own ranges)
    (pairs : List Pair) (fits : Fits setting own pairs) where
  -- key and stamp tell the write among all
  tells : (v u : Write) → In v (all_before setting before ++ left_by pairs)
      → In u (all_before setting before ++ left_by pairs) → v.key ≡ u.key → v.stamp ≡ u.stamp → v ≡
      u
  tells v u i j k s =
      let old : (x : Write) → In x (all_before setting before) → x.stamp ≤ setting.floor =
      λ x h. All-In (λ (y : Write). y.stamp ≤ setting.floor) x (all_before setting before) base.low
      h in
      let new : (x : Write) → In x (left_by pairs) → setting.floor < x.stamp =
      λ x h. let m = In-left_by x pairs h in
      (stamp_above setting before base own ranges owns pairs fits m.0 x.stamp m.2 (of-is m.0 x
      m.1).0).0 in
      ⊎_elim
      (λ (a : In v (all_before setting before)). ⊎_elim
      (λ (b : In u (all_before setting before)).
      history-tells (all_before setting before) v u base.history a b k s)
      (λ (b : In u (left_by pairs)). let low = old v a in let high = new u b in
      absurd (omega (arith, low, high, s)))
      (In-append u (all_before setting before) (left_by pairs) j))
      (λ (a : In v (left_by pairs)). ⊎_elim
      (λ (b : In u (all_before setting before)). let low = old u b in let high = new v a in
      absurd (omega (arith, low, high, s)))
      (λ (b : In u (left_by pairs)).
      let m = In-left_by v pairs a in
      let n = In-left_by u pairs b in
      let same : m.0 ≡ n.0 = stamp-tells v.stamp pairs m.0 n.0
      (one setting before base own ranges owns pairs fits v.stamp) m.2 n.2
      (of-is m.0 v m.1).0 ((of-is n.0 u n.1).0 ∙ ap Some (sym s)) in
      of-one n.0 v u (subst (λ p. IsOf p v) same m.1) n.1)
      (In-append u (all_before setting before) (left_by pairs) j))
      (In-append v (all_before setting before) (left_by pairs) i)

  -- a pair with a write of the key is one of the owner's
  own-pair : (w : ℕ) (key : List ℕ) (x : Write) (p : Pair) → owner_of key setting.workers ≡ w
      → x.key ≡ key → IsOf p x → In p pairs → In p (own w)
  own-pair w key x p is k e i =
      let is_x = of-is p x e in
      let f = from_worker setting before base own ranges owns pairs fits p x.stamp i is_x.0 in
      let owned = All-In (λ (q : Pair). IsOwned setting.workers f.0 q.request) p (own f.0)
      (owns.owned f.0 f.1) f.2 in
      let his : owner_of x.key setting.workers ≡ f.0 =
      owner-of setting.workers f.0 p.request x.key owned is_x.1 in
      let same : f.0 ≡ w = sym his ∙ (ap (λ k. owner_of k setting.workers) k ∙ is) in
      subst (λ n. In p (own n)) same f.2

  -- and so is a write before
  own-before : (w : ℕ) (key : List ℕ) (x : Write) → owner_of key setting.workers ≡ w → x.key ≡ key
      → In x (all_before setting before) → In x (before w)
  own-before w key x is k i =
      let r = In-row-back x setting.workers before i in
      let his : owner_of x.key setting.workers ≡ r.0 =
      All-In (λ (y : Write). owner_of y.key setting.workers ≡ r.0) x (before r.0)
      (base.owned r.0 r.1) r.2 in
      subst (λ n. In x (before n)) (sym his ∙ (ap (λ k. owner_of k setting.workers) k ∙ is)) r.2

  -- a key has at each stamp what its owner's writes alone give it, the unsure ones among them
  value-left : (w t : ℕ) (key : List ℕ) → w < setting.workers → owner_of key setting.workers ≡ w
      → value_at (all_writes (before w) (own w)) t key
      ≡ value_at (all_writes (all_before setting before) pairs) t key
  value-left w t key lt is =
      ap (λ ws. value_at ws t key) (append_assoc (before w) (writes (own w)) (unsure_writes (own
      w)))
      ∙ (ap (λ o. option_and_then (λ (w : Write). w.value) o)
      (latest-same key t (before w ++ left_by (own w)) (all_before setting before ++ left_by pairs)
      (λ x k i. ⊎_elim
      (λ a. In-left x (all_before setting before) (left_by pairs)
      (In-row x setting.workers w before lt a))
      (λ (b : In x (left_by (own w))).
      let m = In-left_by x (own w) b in
      In-right x (all_before setting before) (left_by pairs)
      (left-In x m.0 pairs m.1 (fits.all w m.0 lt m.2)))
      (In-append x (before w) (left_by (own w)) i))
      (λ x k i. ⊎_elim
      (λ a. In-left x (before w) (left_by (own w)) (own-before w key x is k a))
      (λ (b : In x (left_by pairs)).
      let m = In-left_by x pairs b in
      In-right x (before w) (left_by (own w))
      (left-In x m.0 (own w) m.1 (own-pair w key x m.0 is k m.1 m.2)))
      (In-append x (all_before setting before) (left_by pairs) i))
      (λ v u i j kv ku s. tells v u i j (kv ∙ sym ku) s))
      ∙ ap (λ ws. value_at ws t key)
      (sym (append_assoc (all_before setting before) (writes pairs) (unsure_writes pairs))))

  -- each acknowledged write of a key of the worker's is one that its own pairs acknowledge
  abbrev pub AreOwnAlso : ℕ → List Pair → List Pair → Type 0
  AreOwnAlso w mine all = (x : Write) → owner_of x.key setting.workers ≡ w → In x (writes all)
      → In x (writes mine)

  pub all_own_also : (w : ℕ) → AreOwnAlso w (own w) pairs
  all_own_also w x is i =
      let m = In-filter_map-back acknowledged x pairs i in
      In-filter_map acknowledged m.0 x (own w) m.1 (own-pair w x.key x m.0 is refl (inl m.1) m.2)

  -- what holds all of the owner's acknowledged writes of the key holds all
  holds-left : (w s : ℕ) (key : List ℕ) (mine all : List Pair) → owner_of key setting.workers ≡ w
      → AreOwnAlso w mine all → HoldsAll (before w ++ writes mine) key s
      → HoldsAll (all_before setting before ++ writes all) key s
  holds-left w s key mine all is also holds = In-All _ _ (λ x i k.
      All-In (λ (y : Write). y.key ≡ key → y.stamp ≤ s) x _ holds (⊎_elim
      (λ a. In-left x (before w) (writes mine) (own-before w key x is k a))
      (λ b. In-right x (before w) (writes mine)
      (also x (ap (λ k. owner_of k setting.workers) k ∙ is) b))
      (In-append x (all_before setting before) (writes all) i)) k)

  recovers-so : (w : ℕ) (image : Image) (mine all : List Pair) → w < setting.workers
      → AreOwnAlso w mine all
      → RecoversPrefix setting.layout (all_writes (before w) (own w))
      (before w ++ writes mine) image w setting.workers
      → RecoversPrefix setting.layout (all_writes (all_before setting before) pairs)
      (all_before setting before ++ writes all) image w setting.workers
  recovers-so w image mine all lt also of_own = record {
    opens = of_own.opens;
    prefix = λ key is.
        let p = of_own.prefix key is in (
          p.0,
          holds-left w p.0 key mine all is also p.1,
          subst (GivesValue (slot_at setting.layout image) w setting.workers key)
              (value-left w p.0 key lt is) p.2,
        );
  }

  pub recovers : (w : ℕ) (image : Image) (mine all : List Pair) → w < setting.workers
      → AreOwnAlso w mine all → Recovers setting w image (before w) mine (own w)
      → Recovers setting w image (all_before setting before) all pairs
  recovers w image mine all lt also of_own = ∥∥₁_map of_own (recovers-so w image mine all lt also)
