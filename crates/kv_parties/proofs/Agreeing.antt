-- Pairs that are the workers' own agree with one plain map.
use Rattle.std.proofs.Common.{◌≡◌, ◌≢◌, ◌⊎◌, inl, inr, ⊎_elim, ℕ, ◌+◌, ◌-◌, ◌^◌, ◌<◌, ◌≤◌, List, []}
use Rattle.std.proofs.Common.{◌∷◌, ◌++◌, Option, None, Some, Bool, refl}
use Rattle.std.proofs.Common.{sym, ap, ◌∙◌, subst, arith}
use Rattle.std.specs.Prelude.{MatchOption, IsTrue, is_some, IsSomeAnd, option_and_then}
use Rattle.std.specs.List.{AllByRecursion, cons_option}
use Rattle.std.proofs.lemmas.Bool.Decides.{nat_tests}
use Rattle.kv_base.specs.declared.request.Request.{Request}
use Rattle.kv_base.specs.declared.request.Request.TheVariants.{Put, Get, Delete}
use Rattle.kv_base.specs.declared.reply.Reply.{Reply}
use Rattle.kv_base.specs.declared.reply.Reply.TheVariants.{Stored, Found, Missing, Removed, Absent}
use Rattle.kv_base.specs.Partition.{owner_of}
use Rattle.kv_stamps.specs.Ranges.{among}
use Rattle.kv_stamps.specs.declared.view.Range.{Range}
use Rattle.kv_model.specs.History.{Write, value_at}
use Rattle.kv_model.specs.Pairwise.{Pairwise}
use Rattle.kv_model.specs.Layout.{Layout}
use Rattle.kv_model.specs.Pairs.{Pair, writes, stamps, written, key_of, stamp_of, acknowledged}
use Rattle.kv_model.specs.Pairs.{acknowledged_by}
use Rattle.kv_model.specs.Agreement.{AgreesWithMap, IsAnswer, IsMapAnswer, IsRead}
use Rattle.kv_model.specs.Agreement.{refusal_of}
use Rattle.kv_parties.specs.Rows.{sum_below}
use Rattle.kv_parties.specs.Setting.{Setting, IsOwned}
use Rattle.kv_parties.specs.Begun.{IsBefore, all_before}
use Rattle.kv_parties.proofs.Lists.{In, count, In-left, In-right, In-append, All-In, In-All}
use Rattle.kv_parties.proofs.Lists.{In-filter_map, In-filter_map-back, In-row, In-row-back}
use Rattle.kv_parties.proofs.Lists.{count-In, apart-count, sum_below-le}
use Rattle.kv_parties.proofs.Owned.{IsHere, stampless, here_answers}
use Rattle.kv_parties.proofs.Histories.{from_some, latest-same}

-- an answer reads of the history what the request's key has
map_answer-same : (told : Bool) (layout : Layout) (h g : List Write) (request : Request)
    (reply : Reply) → ((t : ℕ) (key : List ℕ) → key_of request ≡ Some key
    → value_at h t key ≡ value_at g t key)
    → IsMapAnswer told layout h request reply → IsMapAnswer told layout g request reply
map_answer-same told layout h g (Get k) (Found t found) same a =
    subst (λ o. IsRead told o found) (same t k refl) a
map_answer-same told layout h g (Get k) (Missing t) same a = sym (same t k refl) ∙ a
map_answer-same told layout h g (Delete k) (Removed t) same a =
    subst (λ o. IsTrue (is_some o)) (same (t - 1) k refl) a
map_answer-same told layout h g (Delete k) (Absent t) same a = sym (same t k refl) ∙ a
map_answer-same told layout h g request reply same a = a

pub answer-same : (told : Bool) (layout : Layout) (h g : List Write) (request : Request)
    (reply : Reply) → ((t : ℕ) (key : List ℕ) → key_of request ≡ Some key
    → value_at h t key ≡ value_at g t key)
    → IsAnswer told layout h request reply → IsAnswer told layout g request reply
answer-same told layout h g request reply same a =
    (elim (refusal_of layout request) as (λ o.
    MatchOption o (IsMapAnswer told layout h request reply) (λ refusal. reply ≡ refusal)
    → MatchOption o (IsMapAnswer told layout g request reply) (λ refusal. reply ≡ refusal)) [
      | None ↦ λ m. map_answer-same told layout h g request reply same m
      | Some refusal ↦ λ r. r
    ]) a

-- what a request writes has its stamp and its key
pub written-is : (request : Request) (t : ℕ) (w : Write) → written request t ≡ Some w
    → (w.stamp ≡ t) × (key_of request ≡ Some w.key)
written-is (Put k v) t w e =
    let is = from_some (record { stamp = t; key = k; value = Some v }) w e in
    (ap (λ (x : Write). x.stamp) (sym is), ap (λ (x : Write). Some x.key) is)
written-is (Get k) t w e = absurd (cc)
written-is (Delete k) t w e =
    let is = from_some (record { stamp = t; key = k; value = None }) w e in
    (ap (λ (x : Write). x.stamp) (sym is), ap (λ (x : Write). Some x.key) is)
written-is request t w e = absurd (cc)

acknowledged_by-is : (request : Request) (reply : Reply) (w : Write)
    → acknowledged_by request reply ≡ Some w
    → (stamp_of reply ≡ Some w.stamp) × (key_of request ≡ Some w.key)
acknowledged_by-is request (Stored t) w e =
    let is = written-is request t w e in (ap Some (sym is.0), is.1)
acknowledged_by-is request (Removed t) w e =
    let is = written-is request t w e in (ap Some (sym is.0), is.1)
acknowledged_by-is request reply w e = absurd (cc)

-- a write that a pair acknowledges has the reply's stamp and the request's key
pub acknowledged-is : (pair : Pair) (w : Write) → acknowledged pair ≡ Some w
    → (stamp_of pair.reply ≡ Some w.stamp) × (key_of pair.request ≡ Some w.key)
acknowledged-is pair w e = acknowledged_by-is pair.request pair.reply w e

-- how often the pair has the stamp: once or never
abbrev pub hits : ℕ → Pair → ℕ
hits t pair = count t (cons_option (stamp_of pair.reply) [])

count-cons_option : (t : ℕ) (o : Option ℕ) (xs : List ℕ)
    → count t (cons_option o xs) ≡ count t (cons_option o []) + count t xs
count-cons_option t None xs = omega arith
count-cons_option t (Some x) xs = omega arith

pub count-stamps : (t : ℕ) (pair : Pair) (pairs : List Pair)
    → count t (stamps (pair ∷ pairs)) ≡ hits t pair + count t (stamps pairs)
count-stamps t pair pairs = count-cons_option t (stamp_of pair.reply) (stamps pairs)

pub hits-one : (t : ℕ) (pair : Pair) → stamp_of pair.reply ≡ Some t → hits t pair ≡ 1
hits-one t pair e = ap (λ o. count t (cons_option o [])) e ∙ (grind (arith, nat_tests))

pub hits-none : (t : ℕ) (pair : Pair) → stamp_of pair.reply ≡ None → hits t pair ≡ 0
hits-none t pair e = ap (λ o. count t (cons_option o [])) e

-- the weights of all pairs, added up
abbrev pub weigh : (Pair → ℕ) → List Pair → ℕ
weigh f [] = 0
weigh f (pair ∷ pairs) = f pair + weigh f pairs

pub weigh-append : (f : Pair → ℕ) (ps qs : List Pair) → weigh f (ps ++ qs) ≡ weigh f ps + weigh f qs
weigh-append f [] qs = omega arith
weigh-append f (p ∷ ps) qs = omega (arith, weigh-append f ps qs)

pub weigh-le : (f g : Pair → ℕ) (ps : List Pair) → ((p : Pair) → In p ps → f p ≤ g p)
    → weigh f ps ≤ weigh g ps
weigh-le f g [] h = omega arith
weigh-le f g (p ∷ ps) h =
    omega (arith, h p (inl refl), weigh-le f g ps (λ q i. h q (inr i)))

-- so often the stamp is among those of the pairs
pub weigh-stamps : (t : ℕ) (pairs : List Pair) → count t (stamps pairs) ≡ weigh (hits t) pairs
weigh-stamps t [] = refl
weigh-stamps t (pair ∷ pairs) = omega (arith, count-stamps t pair pairs, weigh-stamps t pairs)

pub stamp-In : (t : ℕ) (pair : Pair) (pairs : List Pair) → stamp_of pair.reply ≡ Some t
    → In pair pairs → In t (stamps pairs)
stamp-In t pair pairs e i = In-filter_map (λ (p : Pair). stamp_of p.reply) pair t pairs e i

-- where no stamp is there twice, a stamp tells its pair
pub stamp-tells : (t : ℕ) (pairs : List Pair) (p q : Pair) → count t (stamps pairs) ≤ 1 → In p pairs
    → In q pairs → stamp_of p.reply ≡ Some t → stamp_of q.reply ≡ Some t → p ≡ q
stamp-tells t [] p q one i j e f = absurd i
stamp-tells t (x ∷ pairs) p q one (inl i) (inl j) e f = sym i ∙ j
stamp-tells t (x ∷ pairs) p q one (inl i) (inr j) e f =
    let here : hits t x ≡ 1 = hits-one t x (ap (λ (y : Pair). stamp_of y.reply) i ∙ e) in
    let there : 1 ≤ count t (stamps pairs) = count-In t (stamps pairs) (stamp-In t q pairs f j) in
    absurd (omega (arith, count-stamps t x pairs, here, there, one))
stamp-tells t (x ∷ pairs) p q one (inr i) (inl j) e f =
    let here : hits t x ≡ 1 = hits-one t x (ap (λ (y : Pair). stamp_of y.reply) j ∙ f) in
    let there : 1 ≤ count t (stamps pairs) = count-In t (stamps pairs) (stamp-In t p pairs e i) in
    absurd (omega (arith, count-stamps t x pairs, here, there, one))
stamp-tells t (x ∷ pairs) p q one (inr i) (inr j) e f =
    stamp-tells t pairs p q (omega (arith, count-stamps t x pairs, one)) i j e f

-- in a history key and stamp tell the write
pub history-tells : (ws : List Write) (v u : Write)
    → Pairwise (λ write other. write.key ≡ other.key → write.stamp ≢ other.stamp) ws
    → In v ws → In u ws → v.key ≡ u.key → v.stamp ≡ u.stamp → v ≡ u
history-tells [] v u h i j k s = absurd i
history-tells (w ∷ ws) v u h (inl i) (inl j) k s = sym i ∙ j
history-tells (w ∷ ws) v u h (inl i) (inr j) k s =
    absurd (All-In (λ (x : Write). w.key ≡ x.key → w.stamp ≢ x.stamp) u ws h.0 j
    (ap (λ (x : Write). x.key) i ∙ k) (ap (λ (x : Write). x.stamp) i ∙ s))
history-tells (w ∷ ws) v u h (inr i) (inl j) k s =
    absurd (All-In (λ (x : Write). w.key ≡ x.key → w.stamp ≢ x.stamp) v ws h.0 i
    (ap (λ (x : Write). x.key) j ∙ sym k) (ap (λ (x : Write). x.stamp) j ∙ sym s))
history-tells (w ∷ ws) v u h (inr i) (inr j) k s = history-tells ws v u h.1 i j k s

-- whose key it is
pub owner-of : (workers worker : ℕ) (request : Request) (key : List ℕ) → IsOwned workers worker
    request
    → key_of request ≡ Some key → owner_of key workers ≡ worker
owner-of workers worker request key owned e =
    subst (λ o. IsSomeAnd o (λ k. owner_of k workers ≡ worker)) e owned

-- and it is about a key
pub owned-keyed : (workers worker : ℕ) (request : Request) → IsOwned workers worker request
    → (key : List ℕ) × (key_of request ≡ Some key)
owned-keyed workers worker request owned =
    (elim (key_of request) as (λ o. IsSomeAnd o (λ k. owner_of k workers ≡ worker)
    → (key : List ℕ) × (o ≡ Some key)) [
      | None ↦ λ h. absurd h
      | Some key ↦ λ h. (key, refl)
    ]) owned

-- each worker's own pairs: stamps of its ranges, keys that it owns, and right by its own writes
-- alone
pub record Owns (setting : Setting) (before : ℕ → List Write) (own : ℕ → List Pair)
    (ranges : ℕ → List Range) : Type 0 where
  pub counted : (w : ℕ) → w < setting.workers → (t : ℕ) → count t (stamps (own w)) ≤ among t (ranges
      w)
  pub replies : (w : ℕ) → w < setting.workers → AllByRecursion (λ pair. IsAnswer setting.told
      setting.layout (before w ++ writes (own w)) pair.request pair.reply) (own w)
  pub owned : (w : ℕ) → w < setting.workers
      → AllByRecursion (λ pair. IsOwned setting.workers w pair.request) (own w)
  pub apart : (t : ℕ) → sum_below setting.workers (λ w. among t (ranges w)) ≤ 1
  pub above : (w : ℕ) → w < setting.workers
      → AllByRecursion (λ t. (setting.floor < t) × (t < 2 ^ 62)) (stamps (own w))

-- a pair is one of a worker's, or one that its session answered itself, and each of a worker's is
-- there just as often as the workers have it
pub record Fits (setting : Setting) (own : ℕ → List Pair) (pairs : List Pair) : Type 0 where
  pub each : (p : Pair) → In p pairs → ((w : ℕ) × (w < setting.workers) × In p (own w))
      ⊎ IsHere setting.layout p
  pub all : (w : ℕ) (p : Pair) → w < setting.workers → In p (own w) → In p pairs
  pub weighs : (f : Pair → ℕ) → ((p : Pair) → IsHere setting.layout p → f p ≡ 0)
      → weigh f pairs ≤ sum_below setting.workers (λ w. weigh f (own w))
  pub holds : (f : Pair → ℕ) → sum_below setting.workers (λ w. weigh f (own w)) ≤ weigh f pairs

module _ (setting : Setting) (before : ℕ → List Write) (base : IsBefore setting before)
    (own : ℕ → List Pair) (ranges : ℕ → List Range) (owns : Owns setting before own ranges)
    (pairs : List Pair) (fits : Fits setting own pairs) where
  pub one : (t : ℕ) → count t (stamps pairs) ≤ 1
  one t = omega (
    arith,
    weigh-stamps t pairs,
    fits.weighs (hits t) (λ p here. hits-none t p (stampless setting.layout p here)),
    sum_below-le setting.workers (λ w. weigh (hits t) (own w)) (λ w. among t (ranges w))
        (λ w lt. omega (arith, weigh-stamps t (own w), owns.counted w lt t)),
    owns.apart t,
  )

  -- a pair with a stamp is a worker's
  pub from_worker : (p : Pair) (t : ℕ) → In p pairs → stamp_of p.reply ≡ Some t
      → (w : ℕ) × (w < setting.workers) × In p (own w)
  from_worker p t i e = ⊎_elim (λ a. a)
      (λ (b : IsHere setting.layout p).
      let none : None ≡ Some t = sym (stampless setting.layout p b) ∙ e in absurd (cc))
      (fits.each p i)

  pub stamp_above : (p : Pair) (t : ℕ) → In p pairs → stamp_of p.reply ≡ Some t
      → (setting.floor < t) × (t < 2 ^ 62)
  stamp_above p t i e =
      let f = from_worker p t i e in
      All-In (λ t. (setting.floor < t) × (t < 2 ^ 62)) t (stamps (own f.0)) (owns.above f.0 f.1)
      (stamp-In t p (own f.0) e f.2)

  all_above : (t : ℕ) → In t (stamps pairs) → (setting.floor < t) × (t < 2 ^ 62)
  all_above t i =
      let b = In-filter_map-back (λ (p : Pair). stamp_of p.reply) t pairs i in
      stamp_above b.0 t b.2 b.1

  -- key and stamp tell the write among all
  tells : (v u : Write) → In v ((all_before setting before) ++ writes pairs)
      → In u ((all_before setting before) ++ writes pairs) → v.key ≡ u.key → v.stamp ≡ u.stamp → v ≡
      u
  tells v u i j k s =
      let old : (x : Write) → In x (all_before setting before) → x.stamp ≤ setting.floor =
      λ x h. All-In (λ (y : Write). y.stamp ≤ setting.floor) x (all_before setting before) base.low
      h in
      let made : (x : Write) → In x (writes pairs) → (p : Pair) × (acknowledged p ≡ Some x) × In p
      pairs =
      λ x h. In-filter_map-back acknowledged x pairs h in
      let new : (x : Write) → In x (writes pairs) → setting.floor < x.stamp =
      λ x h. let m = made x h in (stamp_above m.0 x.stamp m.2 (acknowledged-is m.0 x m.1).0).0 in
      ⊎_elim
      (λ (a : In v (all_before setting before)). ⊎_elim
      (λ (b : In u (all_before setting before)).
      history-tells (all_before setting before) v u base.history a b k s)
      (λ (b : In u (writes pairs)). let low = old v a in let high = new u b in
      absurd (omega (arith, low, high, s)))
      (In-append u (all_before setting before) (writes pairs) j))
      (λ (a : In v (writes pairs)). ⊎_elim
      (λ (b : In u (all_before setting before)). let low = old u b in let high = new v a in
      absurd (omega (arith, low, high, s)))
      (λ (b : In u (writes pairs)).
      let m = made v a in
      let n = made u b in
      let same : m.0 ≡ n.0 = stamp-tells v.stamp pairs m.0 n.0 (one v.stamp) m.2 n.2
      (acknowledged-is m.0 v m.1).0 ((acknowledged-is n.0 u n.1).0 ∙ ap Some (sym s)) in
      from_some v u (sym m.1 ∙ (ap acknowledged same ∙ n.1)))
      (In-append u (all_before setting before) (writes pairs) j))
      (In-append v (all_before setting before) (writes pairs) i)

  -- a write of the key by a pair is one of its owner's
  own-write : (w : ℕ) (key : List ℕ) (x : Write) (p : Pair) → owner_of key setting.workers ≡ w
      → x.key ≡ key → acknowledged p ≡ Some x → In p pairs → In x (writes (own w))
  own-write w key x p is k e i =
      let is_x = acknowledged-is p x e in
      let f = from_worker p x.stamp i is_x.0 in
      let owned = All-In (λ (q : Pair). IsOwned setting.workers f.0 q.request) p (own f.0)
      (owns.owned f.0 f.1) f.2 in
      let his : owner_of x.key setting.workers ≡ f.0 =
      owner-of setting.workers f.0 p.request x.key owned is_x.1 in
      let same : f.0 ≡ w = sym his ∙ (ap (λ k. owner_of k setting.workers) k ∙ is) in
      In-filter_map acknowledged p x (own w) e (subst (λ n. In p (own n)) same f.2)

  -- a key has at each stamp what its owner's writes alone give it
  pub value-same : (w t : ℕ) (key : List ℕ) → w < setting.workers → owner_of key setting.workers ≡ w
      → value_at (before w ++ writes (own w)) t key
      ≡ value_at ((all_before setting before) ++ writes pairs) t key
  value-same w t key lt is =
      let mine : List Write = before w ++ writes (own w) in
      let all : List Write = (all_before setting before) ++ writes pairs in
      ap (λ o. option_and_then (λ (w : Write). w.value) o)
      (latest-same key t mine all
      (λ x k i. ⊎_elim
      (λ a. In-left x (all_before setting before) (writes pairs)
      (In-row x setting.workers w before lt a))
      (λ (b : In x (writes (own w))).
      let m = In-filter_map-back acknowledged x (own w) b in
      In-right x (all_before setting before) (writes pairs)
      (In-filter_map acknowledged m.0 x pairs m.1 (fits.all w m.0 lt m.2)))
      (In-append x (before w) (writes (own w)) i))
      (λ x k i. ⊎_elim
      (λ a.
      let r = In-row-back x setting.workers before a in
      let his : owner_of x.key setting.workers ≡ r.0 =
      All-In (λ (y : Write). owner_of y.key setting.workers ≡ r.0) x (before r.0)
      (base.owned r.0 r.1) r.2 in
      let same : r.0 ≡ w = sym his ∙ (ap (λ k. owner_of k setting.workers) k ∙ is) in
      In-left x (before w) (writes (own w)) (subst (λ n. In x (before n)) same r.2))
      (λ (b : In x (writes pairs)).
      let m = In-filter_map-back acknowledged x pairs b in
      In-right x (before w) (writes (own w)) (own-write w key x m.0 is k m.1 m.2))
      (In-append x (all_before setting before) (writes pairs) i))
      (λ v u i j kv ku s. tells v u i j (kv ∙ sym ku) s))

  pub agrees : AgreesWithMap setting.told setting.layout (all_before setting before) setting.floor
      pairs
  agrees = record {
    distinct = apart-count (stamps pairs) one;
    above = In-All _ (stamps pairs) all_above;
    fresh = In-All _ (stamps pairs) (λ t i. In-All _ (all_before setting before) (λ x j.
        let low : x.stamp ≤ setting.floor =
        All-In (λ (y : Write). y.stamp ≤ setting.floor) x (all_before setting before) base.low j
        in
        let high = all_above t i in
        omega (arith, low, high.0)));
    replies = In-All _ pairs (λ p i. ⊎_elim
        (λ (a : (w : ℕ) × (w < setting.workers) × In p (own w)).
        let right = All-In (λ (q : Pair). IsAnswer setting.told setting.layout
        (before a.0 ++ writes (own a.0)) q.request q.reply) p (own a.0) (owns.replies a.0 a.1)
        a.2 in
        let owned = All-In (λ (q : Pair). IsOwned setting.workers a.0 q.request) p (own a.0)
        (owns.owned a.0 a.1) a.2 in
        answer-same setting.told setting.layout (before a.0 ++ writes (own a.0))
        ((all_before setting before) ++ writes pairs) p.request p.reply
        (λ t key e. value-same a.0 t key a.1 (owner-of setting.workers a.0 p.request key owned e))
        right)
        (λ (b : IsHere setting.layout p). here_answers setting.told setting.layout
        ((all_before setting before) ++ writes pairs) p b)
        (fits.each p i));
  }
