-- Lemmas on tasks that are moved into a batch and back.
use Rattle.std.proofs.Common.{◌≡◌, ℕ, ◌+◌, ◌<◌, List, [], ◌∷◌, ◌++◌, map, length, take}
use Rattle.std.proofs.Common.{drop, get_or, set, sym, ap, ◌∙◌, arith, append_assoc}
use Rattle.std.proofs.lemmas.List.{take_more, drop_more, drop-set-lt, drop-drop, get_or-drop, drop-set}
use Rattle.std.proofs.lemmas.List.{map-append, length-map, get_or-map, take_at}
use Rattle.kv_ring.specs.declared.task.Task.{Task}
use Rattle.kv_groups.specs.Batched.{of_session}

-- lists that are the same from a place on are so there
same-at : {X : Type 0} (xs ys : List X) (i : ℕ) (d : X) → drop i xs ≡ drop i ys
    → get_or xs i d ≡ get_or ys i d
same-at xs ys i d e =
    let here : i + 0 ≡ i = omega arith in
    ap (λ n. get_or xs n d) (sym here) ∙ sym (get_or-drop i xs 0 d) ∙ ap (λ zs. get_or zs 0 d) e
    ∙ get_or-drop i ys 0 d ∙ ap (λ n. get_or ys n d) here

-- and so behind it
same-behind : {X : Type 0} (xs ys : List X) (i : ℕ) → drop i xs ≡ drop i ys
    → drop (i + 1) xs ≡ drop (i + 1) ys
same-behind xs ys i e = sym (drop-drop 1 i xs) ∙ ap (drop 1) e ∙ drop-drop 1 i ys

-- what stands behind a place that is written
pub rest-stays : {X : Type 0} (xs first : List X) (i : ℕ) (new : X) → drop i xs ≡ drop i first
    → drop (i + 1) (set xs i new) ≡ drop (i + 1) first
rest-stays xs first i new same =
    drop-set-lt (i + 1) xs i new (omega arith) ∙ same-behind xs first i same

-- one more task is moved
pub batch-more : (tasks first : List Task) (session i : ℕ) (start old new : List (ℕ × Task))
    (d : Task) → i < length first → drop i tasks ≡ drop i first
    → old ≡ start ++ of_session session (take i first)
    → new ≡ old ++ of_session session (get_or tasks i d ∷ [])
    → new ≡ start ++ of_session session (take (i + 1) first)
batch-more tasks first session i start old new d below same so_far more =
    let task : Task = get_or tasks i d in
    let tag : Task → ℕ × Task = λ t. (session, t) in
    let taken : take (i + 1) first ≡ take i first ++ task ∷ [] = take_more first i d below
    ∙ ap (λ t. take i first ++ t ∷ []) (sym (same-at tasks first i d same)) in
    more ∙ ap (λ all. all ++ of_session session (task ∷ [])) so_far
    ∙ append_assoc start (of_session session (take i first)) (of_session session (task ∷ []))
    ∙ ap (λ all. start ++ all) (sym (map-append tag (take i first) (task ∷ [])))
    ∙ ap (λ ts. start ++ of_session session ts) (sym taken)

-- one more task is moved back, from the last to the first
pub back-more : (tasks : List Task) (j : ℕ) (new d : Task)
    (front back old now : List (ℕ × Task)) → length back ≡ length tasks → j < length tasks
    → old ≡ front ++ take (j + 1) back
    → drop (j + 1) tasks ≡ drop (j + 1) (map (λ item. item.1) back)
    → ((items : List (ℕ × Task)) (item : ℕ × Task) → old ≡ items ++ item ∷ []
    → (now ≡ items) × (new ≡ item.1))
    → (now ≡ front ++ take j back)
    × (drop j (set tasks j new) ≡ drop j (map (λ item. item.1) back))
back-more tasks j new d front back old now many below is behind taken =
    let none : ℕ × Task = (0, d) in
    let item : ℕ × Task = get_or back j none in
    let task : ℕ × Task → Task = λ i. i.1 in
    let inside : j < length back = omega (arith, many, below) in
    let last : old ≡ (front ++ take j back) ++ item ∷ [] =
    is ∙ ap (λ ts. front ++ ts) (take_more back j none inside)
    ∙ sym (append_assoc front (take j back) (item ∷ [])) in
    let r = taken (front ++ take j back) item last in (
      r.0,
      drop-set tasks j new below
          ∙ ap (λ ts. new ∷ ts) behind
          ∙ ap (λ t. t ∷ drop (j + 1) (map task back)) (r.1
          ∙ sym (get_or-map task back j none d inside))
          ∙ sym (drop_more (map task back) j d (omega (arith, inside, length-map back task))),
    )

-- items that were lent, with those that were written in their place
pub lent-is : {X : Type 0} (items written : List X) → length written ≡ length items
    → take (length items) (written ++ drop (length written) items) ≡ written
lent-is items written e = take_at written (drop (length written) items) (length items) e
