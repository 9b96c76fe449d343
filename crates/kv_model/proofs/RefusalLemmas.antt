-- Lemmas on pairs with refusals among them.
use Rattle.std.proofs.Common.{◌≡◌, ℕ, inl, inr, Bool, List, [], ◌∷◌, Option, None, Some, refl, ap}
use Rattle.std.proofs.Common.{sym, ◌∙◌, subst, filter_map}
use Rattle.std.specs.List.{AllByRecursion, cons_option}
use Rattle.kv_base.specs.declared.request.Request.{Request}
use Rattle.kv_base.specs.declared.reply.Reply.{Reply}
use Rattle.kv_base.specs.declared.reply.Reply.TheVariants.{Stored, Removed, Unsure}
use Rattle.kv_model.specs.History.{Write}
use Rattle.kv_model.specs.Layout.{Layout}
use Rattle.kv_model.specs.Pairs.{Pair, acknowledged_by, unsure_by, stamp_of}
use Rattle.kv_model.specs.Agreement.{IsAnswer, WithRefusals}

no-stamp : (stamp : ℕ) → Some stamp ≡ None → ⊥
no-stamp stamp e = cc

-- a reply without a stamp acknowledges nothing
pub stampless-acknowledges : (request : Request) (reply : Reply) → stamp_of reply ≡ None
    → acknowledged_by request reply ≡ None
stampless-acknowledges request (Stored stamp) none = absurd (no-stamp stamp none)
stampless-acknowledges request (Removed stamp) none = absurd (no-stamp stamp none)
stampless-acknowledges request reply none = refl

-- and leaves nothing unsure
pub stampless-unsure : (request : Request) (reply : Reply) → stamp_of reply ≡ None
    → unsure_by request reply ≡ None
stampless-unsure request (Unsure stamp) none = absurd (no-stamp stamp none)
stampless-unsure request reply none = refl

-- what pairs without a stamp don't give, the kept ones give alone
pub kept-gives : {Y : Type 0} (f : Pair → Option Y) (told : Bool) (layout : Layout)
    → ((pair : Pair) → stamp_of pair.reply ≡ None → f pair ≡ None) → (group kept : List Pair)
    → WithRefusals told layout kept group → filter_map f group ≡ filter_map f kept
kept-gives f told layout none [] kept among = ap (filter_map f) (sym among)
kept-gives f told layout none (pair ∷ group) kept (inl refused) =
    ap (λ o. cons_option o (filter_map f group)) (none pair refused.0.stampless)
    ∙ kept-gives f told layout none group kept refused.1
kept-gives f told layout none (pair ∷ group) kept (inr stays) =
    ap (cons_option (f pair)) (kept-gives f told layout none group stays.0 stays.2)
    ∙ ap (filter_map f) (sym stays.1)

-- where the kept replies are the map's, all are
pub refusals-answer : (told : Bool) (layout : Layout) (history : List Write)
    (group kept : List Pair) → WithRefusals told layout kept group
    → AllByRecursion (λ pair. IsAnswer told layout history pair.request pair.reply) kept
    → AllByRecursion (λ pair. IsAnswer told layout history pair.request pair.reply) group
refusals-answer told layout history [] kept among all = tt
refusals-answer told layout history (pair ∷ group) kept (inl refused) all =
    (refused.0.answer history, refusals-answer told layout history group kept refused.1 all)
refusals-answer told layout history (pair ∷ group) kept (inr stays) all =
    let first = subst (AllByRecursion (λ p. IsAnswer told layout history p.request p.reply)) stays.1
    all in
    (first.0, refusals-answer told layout history group stays.0 stays.2 first.1)
