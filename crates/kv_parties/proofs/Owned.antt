-- Pairs that a session answers itself.
use Rattle.std.proofs.Common.{◌≡◌, ◌⊎◌, inl, inr, ℕ, List, Option, None, Some, Bool, true, false}
use Rattle.std.proofs.Common.{refl, sym}
use Rattle.std.proofs.Common.{subst, length, cond}
use Rattle.std.specs.Prelude.{IsSome, MatchOption, is_some}
use Rattle.kv_base.specs.declared.request.Request.{Request}
use Rattle.kv_base.specs.declared.request.Request.TheVariants.{Put, Get, Delete, Flush, After}
use Rattle.kv_base.specs.declared.reply.Reply.{Reply}
use Rattle.kv_base.specs.declared.reply.Reply.TheVariants.{BadKey, TooLarge, NoMemory}
use Rattle.kv_base.specs.declared.reply.Reply.TheVariants.{Noted, Ahead}
use Rattle.kv_model.specs.Agreement.{IsAnswer, IsMapAnswer, refusal_of}
use Rattle.kv_model.specs.History.{Write}
use Rattle.kv_model.specs.Layout.{Layout, is_key_length, class_of}
use Rattle.kv_model.specs.Pairs.{Pair, key_of, stamp_of}
use Rattle.kv_model.proofs.PairwiseLemmas.{All-map}
use Rattle.std.specs.List.{AllByRecursion}
use Rattle.kv_parties.specs.Causes.{IsOwn, IsCounterReply, IsLooked}
use Rattle.kv_parties.specs.Sessions.{Handled, IsHandled, Exchange, IsExchange}
use Rattle.kv_parties.proofs.Histories.{from_some}

-- the pair is about a key, and its session refuses it itself
pub record IsRefusal (layout : Layout) (pair : Pair) : Type 0 where
  pub keyed : IsSome (key_of pair.request)
  pub own : IsOwn layout pair

-- its session answers the pair itself: it refuses it, or it looks at the counter
abbrev pub IsHere : Layout → Pair → Type 0
IsHere layout pair = IsRefusal layout pair ⊎ IsLooked pair

-- a fact on both replies of the counter is one on the reply to an After
looks : (P : Reply → Type 0) → P Noted → ((n : ℕ) → P (Ahead n)) → (request : Request)
    (reply : Reply) → IsCounterReply request reply → P reply
looks P noted ahead (After s) Noted l = noted
looks P noted ahead (After s) (Ahead n) l = ahead n
looks P noted ahead (After s) reply l = absurd l
looks P noted ahead (Put k v) reply l = absurd l
looks P noted ahead (Get k) reply l = absurd l
looks P noted ahead (Delete k) reply l = absurd l
looks P noted ahead Flush reply l = absurd l

-- a fact on the replies of refusals by size, on NoMemory and on those of the counter is one on such
-- a pair's reply
pub refuses : (P : Reply → Type 0) → P BadKey → P TooLarge → P NoMemory → P Noted
    → ((n : ℕ) → P (Ahead n)) → (layout : Layout) (pair : Pair) → IsHere layout pair → P pair.reply
refuses P bad large memory noted ahead layout pair (inr looked) =
    looks P noted ahead pair.request pair.reply looked
refuses P bad large memory noted ahead layout pair (inl refused) =
    go (refusal_of layout pair.request) (λ r e. sized pair.request r e) refused.own
  where
    sized : (request : Request) (r : Reply) → refusal_of layout request ≡ Some r → P r
    sized (Put k v) r =
        elim (is_key_length layout (length k)) as (λ b. cond b
        (cond (is_some (class_of layout (length k) (length v))) None (Some TooLarge)) (Some BadKey)
        ≡ Some r → P r) [
          | true ↦ elim (is_some (class_of layout (length k) (length v))) as (λ b.
              cond b None (Some TooLarge) ≡ Some r → P r) [
                | true ↦ λ e. absurd (cc)
                | false ↦ λ e. subst P (from_some TooLarge r e) large
              ]
          | false ↦ λ e. subst P (from_some BadKey r e) bad
        ]
    sized (Get k) r =
        elim (is_key_length layout (length k)) as (λ b. cond b None (Some BadKey) ≡ Some r → P r) [
          | true ↦ λ e. absurd (cc)
          | false ↦ λ e. subst P (from_some BadKey r e) bad
        ]
    sized (Delete k) r =
        elim (is_key_length layout (length k)) as (λ b. cond b None (Some BadKey) ≡ Some r → P r) [
          | true ↦ λ e. absurd (cc)
          | false ↦ λ e. subst P (from_some BadKey r e) bad
        ]
    sized Flush r = λ e. absurd (cc)
    sized (After s) r = λ e. absurd (cc)

    go : (o : Option Reply) → ((r : Reply) → o ≡ Some r → P r)
        → MatchOption o (pair.reply ≡ NoMemory) (λ refusal. pair.reply ≡ refusal) → P pair.reply
    go None h e = subst P (sym e) memory
    go (Some r) h e = subst P (sym e) (h r refl)

-- its reply carries no stamp
pub stampless : (layout : Layout) (pair : Pair) → IsHere layout pair → stamp_of pair.reply ≡ None
stampless layout pair here =
    refuses (λ reply. stamp_of reply ≡ None) refl refl refl refl (λ n. refl) layout pair here

no_memory : (told : Bool) (layout : Layout) (history : List Write) (request : Request)
    (reply : Reply) → IsSome (key_of request) → reply ≡ NoMemory
    → IsMapAnswer told layout history request reply
no_memory told layout history (Put k v) reply some e =
    subst (λ r. IsMapAnswer told layout history (Put k v) r) (sym e) tt
no_memory told layout history (Get k) reply some e =
    subst (λ r. IsMapAnswer told layout history (Get k) r) (sym e) tt
no_memory told layout history (Delete k) reply some e =
    subst (λ r. IsMapAnswer told layout history (Delete k) r) (sym e) tt
no_memory told layout history Flush reply some e = absurd (cc)
no_memory told layout history (After s) reply some e = absurd (cc)

looked-answers : (told : Bool) (layout : Layout) (history : List Write) (request : Request)
    (reply : Reply) → IsCounterReply request reply → IsAnswer told layout history request reply
looked-answers told layout history (After s) reply l = l
looked-answers told layout history (Put k v) reply l = absurd l
looked-answers told layout history (Get k) reply l = absurd l
looked-answers told layout history (Delete k) reply l = absurd l
looked-answers told layout history Flush reply l = absurd l

-- it answers the request whatever the history is
pub here_answers : (told : Bool) (layout : Layout) (history : List Write) (pair : Pair)
    → IsHere layout pair → IsAnswer told layout history pair.request pair.reply
here_answers told layout history pair (inr looked) =
    looked-answers told layout history pair.request pair.reply looked
here_answers told layout history pair (inl refused) =
    go (refusal_of layout pair.request) refused.own
  where
    go : (o : Option Reply)
        → MatchOption o (pair.reply ≡ NoMemory) (λ refusal. pair.reply ≡ refusal)
        → MatchOption o (IsMapAnswer told layout history pair.request pair.reply)
        (λ refusal. pair.reply ≡ refusal)
    go None e = no_memory told layout history pair.request pair.reply refused.keyed e
    go (Some r) e = e

-- a pair of a session that is about a key where a worker answered it, and else the session's own
pub record IsGiven (layout : Layout) (handled : Handled) : Type 0 where
  pub keyed : handled.routed ≡ true → IsSome (key_of handled.pair.request)
  pub here : handled.routed ≡ false → IsHere layout handled.pair

-- each pair of an exchange is such a one
pub given : (layout : Layout) (exchange : Exchange) → IsExchange layout exchange
    → AllByRecursion (IsGiven layout) exchange.handled
given layout exchange (inl all) =
    All-map (IsHandled layout) (IsGiven layout) exchange.handled
    (λ handled is. record {
      keyed = λ e. is.keyed;
      here = λ e. inl (record { keyed = is.keyed; own = is.own e });
    }) all
given layout exchange (inr look) =
    subst (λ (all : List Handled). AllByRecursion (IsGiven layout) all) (sym look.alone)
    (record { keyed = λ e. absurd (cc); here = λ e. inr look.answer }, tt)

pub all_given : (layout : Layout) (exchanges : List Exchange)
    → AllByRecursion (IsExchange layout) exchanges
    → AllByRecursion (λ exchange. AllByRecursion (IsGiven layout) exchange.handled) exchanges
all_given layout exchanges all =
    All-map (IsExchange layout) (λ (x : Exchange). AllByRecursion (IsGiven layout) x.handled)
    exchanges (given layout) all
