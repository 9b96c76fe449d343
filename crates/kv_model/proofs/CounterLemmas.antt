-- Lemmas on what a session notes, and what it is told of the counter.
use Rattle.std.proofs.Common.{◌≡◌, ℕ, List, [], ◌∷◌, ◌++◌, Option, None, refl, sym, ap, ◌∙◌}
use Rattle.std.proofs.Common.{IsSome, true≢false, append-nil, Bool, true, false, cond}
use Rattle.std.proofs.Common.{◌<◌, ◌≤◌, ◌^◌, arith}
use Rattle.std.specs.Prelude.{nat_lt}
use Rattle.std.proofs.lemmas.Bool.Decides.{nat_tests}
use Rattle.std.specs.List.{AllByRecursion, cons_option}
use Rattle.kv_base.specs.declared.request.Request.{Request}
use Rattle.kv_base.specs.declared.request.Request.TheVariants.{Put, Get, Delete, Flush, After}
use Rattle.kv_base.specs.declared.reply.Reply.{Reply}
use Rattle.kv_base.specs.declared.reply.Reply.TheVariants.{Noted, Ahead}
use Rattle.kv_model.specs.Pairs.{Pair, key_of, noted_by, counter_by, stamps, noted_stamps, seen_in}
use Rattle.kv_model.specs.Pairs.{counter_numbers}
use Rattle.kv_model.specs.Agreement.{IsCounterAnswer, counter_reply}

-- a request about a key notes no stamp
pub keyed-notes : (request : Request) (reply : Reply) → IsSome (key_of request)
    → noted_by request reply ≡ None
keyed-notes (Put key value) reply keyed = refl
keyed-notes (Get key) reply keyed = refl
keyed-notes (Delete key) reply keyed = refl
keyed-notes Flush reply keyed = absurd (true≢false (sym keyed))
keyed-notes (After stamp) reply keyed = absurd (true≢false (sym keyed))

-- and is told nothing of the counter
pub keyed-counts : (request : Request) (reply : Reply) → IsSome (key_of request)
    → counter_by request reply ≡ None
keyed-counts (Put key value) reply keyed = refl
keyed-counts (Get key) reply keyed = refl
keyed-counts (Delete key) reply keyed = refl
keyed-counts Flush reply keyed = absurd (true≢false (sym keyed))
keyed-counts (After stamp) reply keyed = absurd (true≢false (sym keyed))

-- the request is about a key
abbrev pub IsKeyed : Pair → Type 0
IsKeyed pair = IsSome (key_of pair.request)

-- so pairs about keys note no stamps
pub keyed-noted : (pairs : List Pair) → AllByRecursion IsKeyed pairs → noted_stamps pairs ≡ []
keyed-noted [] all = refl
keyed-noted (pair ∷ pairs) all =
    ap (λ (o : Option ℕ). cons_option o (noted_stamps pairs))
    (keyed-notes pair.request pair.reply all.0) ∙ keyed-noted pairs all.1

-- and what is seen by them are their stamps
pub keyed-seen : (pairs : List Pair) → AllByRecursion IsKeyed pairs → seen_in pairs ≡ stamps pairs
keyed-seen pairs all =
    ap (λ (noted : List ℕ). stamps pairs ++ noted) (keyed-noted pairs all)
    ∙ append-nil (stamps pairs)

-- and they are told nothing of the counter
pub keyed-numbers : (pairs : List Pair) → AllByRecursion IsKeyed pairs → counter_numbers pairs ≡ []
keyed-numbers [] all = refl
keyed-numbers (pair ∷ pairs) all =
    ap (λ (o : Option ℕ). cons_option o (counter_numbers pairs))
    (keyed-counts pair.request pair.reply all.0) ∙ keyed-numbers pairs all.1

-- what a reply by the counter, which is no more than 2 ^ 62, has
pub counter_reply-is : (stamp number : ℕ) → number ≤ 2 ^ 62
    → IsCounterAnswer stamp (counter_reply stamp number)
counter_reply-is stamp number most = by (nat_lt stamp number) refl
  where
    by : (less : Bool) → nat_lt stamp number ≡ less
        → IsCounterAnswer stamp (cond less Noted (Ahead number))
    by true e =
        let below : stamp < number = grind (arith, nat_tests) in
        omega (arith, below, most)
    by false e =
        let reached : number ≤ stamp = grind (arith, nat_tests) in
        (reached, most)
