-- Lemmas on the head page.
use Rattle.std.proofs.Common.{◌≡◌, ℕ, List, take, drop, get_or, sym, ap, ◌∙◌, arith}
use Rattle.std.proofs.lemmas.Nat.{from_le_bytes-to_le_bytes_2}
use Rattle.std.specs.Int.{w16, from_le_bytes}
use Rattle.kv_base.specs.Image.{zero_page}
use Rattle.kv_model.specs.Head.{IsHead, head_page}
use Rattle.kv_slot.specs.declared.head.HeadRead.TheVariants.{Head}

-- the worker stands in bytes 10 and 11 of its head
pub worker_in : (page : List ℕ) (worker workers : ℕ) → IsHead page worker workers
    → from_le_bytes w16 (take 2 (drop 10 page)) ≡ worker
unfolding head_page
worker_in page worker workers head =
    ap (λ bytes. from_le_bytes w16 (take 2 (drop 10 bytes))) head.page_is
    ∙ from_le_bytes-to_le_bytes_2 worker (omega (
      arith,
      head.worker_is.below,
      head.worker_is.limit,
    ))

-- the number of workers stands in bytes 12 and 13
pub workers_in : (page : List ℕ) (worker workers : ℕ) → IsHead page worker workers
    → from_le_bytes w16 (take 2 (drop 12 page)) ≡ workers
unfolding head_page
workers_in page worker workers head =
    ap (λ bytes. from_le_bytes w16 (take 2 (drop 12 bytes))) head.page_is
    ∙ from_le_bytes-to_le_bytes_2 workers (omega (arith, head.worker_is.limit))

-- a page of zeros is no head
pub zeros_no_head : (page : List ℕ) (worker workers : ℕ) → page ≡ zero_page
    → IsHead page worker workers → ⊥
unfolding head_page zero_page
zeros_no_head page worker workers zeros head =
    let first : ◌≡◌ {A = ℕ} 0 0x4b = ap (λ bytes. get_or bytes 0 0) (sym zeros ∙ head.page_is) in
    omega arith

-- a head says what its fields say
pub head_says : (page : List ℕ) (a b worker workers : ℕ)
    → a ≡ from_le_bytes w16 (take 2 (drop 10 page)) → b ≡ from_le_bytes w16 (take 2 (drop 12 page))
    → IsHead page worker workers → Head a b ≡ Head worker workers
head_says page a b worker workers a_is b_is head =
    ap (λ n. Head n b) (a_is ∙ worker_in page worker workers head)
    ∙ ap (Head worker) (b_is ∙ workers_in page worker workers head)

-- a page that is no head by its fields is none
pub no_head : (page : List ℕ) (a b worker workers : ℕ)
    → a ≡ from_le_bytes w16 (take 2 (drop 10 page)) → b ≡ from_le_bytes w16 (take 2 (drop 12 page))
    → (IsHead page a b → ⊥) → IsHead page worker workers → ⊥
no_head page a b worker workers a_is b_is none head =
    none (rw (a_is, b_is, worker_in page worker workers head, workers_in page worker workers head)
    head)
