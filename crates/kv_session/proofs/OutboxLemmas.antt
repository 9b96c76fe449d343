-- Lemmas on the loops over a session's outbox.
use Rattle.std.proofs.Common.{◌≡◌, ℕ, ◌+◌, ◌<◌, ◌≤◌, true, List, [], ◌∷◌, ◌++◌}
use Rattle.std.proofs.Common.{length, map, reverse, Option, Some, IsSome, refl, sym, ap}
use Rattle.std.proofs.Common.{subst, ◌∙◌, arith}
use Rattle.std.proofs.Common.{append_assoc, length-append}
use Rattle.std.specs.List.{AllByRecursion, IsLastAndRest}
use Rattle.kv_base.specs.declared.reply.Reply.{Reply}
use Rattle.kv_base.specs.Reserved.{Reserved}
use Rattle.kv_base.specs.Stream.{Takes}
use Rattle.kv_base.proofs.StreamLemmas.{Takes-trans}
use Rattle.kv_model.specs.Frames.{HasReplyFrame}
use Rattle.kv_ring.specs.declared.task.Task.{Task}
use Rattle.kv_session.specs.Outgoing.{Framed, HoldsFrames, AddsFrame, HaveGone}
use Rattle.kv_session.specs.Tasks.{HaveReplies}
use Rattle.kv_session.proofs.OutgoingLemmas.{HoldsFrames-more, HoldsFrames-length}
use Rattle.kv_session.proofs.OutgoingLemmas.{HaveGone-trans, All-behind}
use Rattle.kv_session.proofs.OutgoingLemmas.{reverse-last}

-- ---- frames of the last replies

-- the frames of the last replies stand in the buffer, from the last one on, and these are left
pub record FramesUpTo (replies left : List Reply) (framed : Framed) : Type 0 where
  pub first : List Reply
  pub holds : HoldsFrames framed first
  pub parts : reverse replies ≡ first ++ reverse left
  pub have : AllByRecursion HasReplyFrame (reverse left)
  pub counted : length first + length left ≡ length replies

module _ (replies left earlier : List Reply) (old new : Framed) (reply : Reply)
    (p : FramesUpTo replies left old) (last : IsLastAndRest left reply earlier) where
  reversed : reverse left ≡ reply ∷ reverse earlier
  reversed = ap (λ (rs : List Reply). reverse rs) last.0 ∙ reverse-last earlier reply

  -- and its end has a place
  pub last_fits : length replies ≤ 65 → length old.ends < 65
  last_fits few = omega (
    arith,
    HoldsFrames-length old p.first p.holds,
    p.counted,
    few,
    last.1,
  )

  -- its frame was added
  pub FramesUpTo-more : AddsFrame true old new reply → FramesUpTo replies earlier new
  FramesUpTo-more adds = record {
    first = p.first ++ reply ∷ [];
    holds = HoldsFrames-more old new p.first reply p.holds adds;
    parts = p.parts ∙ ap (λ (rs : List Reply). p.first ++ rs) reversed
        ∙ sym (append_assoc p.first (reply ∷ []) (reverse earlier));
    have = (subst (λ (rs : List Reply). AllByRecursion HasReplyFrame rs) reversed p.have).1;
    counted = omega (arith, p.counted, last.1, length-append p.first (reply ∷ []));
  }

-- ---- replies of tasks

-- the last task has the last reply
record HasLast (tasks : List Task) (task : Task) (replies : List Reply) : Type 0 where
  pub rest : List Reply
  pub reply : Reply
  pub parts : replies ≡ rest ++ reply ∷ []
  pub has : task.reply ≡ Some reply
  pub others : HaveReplies tasks rest

-- equal lists have equal first elements and equal others
heads : {X : Type 0} (x y : X) (xs ys : List X) → x ∷ xs ≡ y ∷ ys → x ≡ y
heads x y xs ys e = cc

tails : {X : Type 0} (x y : X) (xs ys : List X) → x ∷ xs ≡ y ∷ ys → xs ≡ ys
tails x y xs ys e = cc

both : {X : Type 0} (x y : X) (xs ys : List X) → x ≡ y → xs ≡ ys → x ∷ xs ≡ y ∷ ys
both x y xs ys e f = cc

last_reply : (tasks : List Task) (task : Task) (replies : List Reply)
    → HaveReplies (tasks ++ task ∷ []) replies → HasLast tasks task replies
last_reply [] task [] are = absurd cc
last_reply [] task (reply ∷ []) are = record {
  rest = [];
  reply = reply;
  parts = refl;
  has = heads task.reply (Some reply) [] [] are;
  others = refl;
}
last_reply [] task (reply ∷ second ∷ replies) are =
    let none = tails task.reply (Some reply) [] (Some second ∷ map (λ r. Some r) replies) are in
    absurd cc
last_reply (first ∷ tasks) task [] are = absurd cc
last_reply (first ∷ tasks) task (reply ∷ replies) are =
    let behind : List (Option Reply) = map (λ (t : Task). t.reply) (tasks ++ task ∷ []) in
    let wanted : List (Option Reply) = map (λ (r : Reply). Some r) replies in
    let next = last_reply tasks task replies
    (tails first.reply (Some reply) behind wanted are) in
    record {
      rest = reply ∷ next.rest;
      reply = next.reply;
      parts = ap (λ (rs : List Reply). reply ∷ rs) next.parts;
      has = next.has;
      others = both first.reply (Some reply) (map (λ (t : Task). t.reply) tasks)
          (map (λ (r : Reply). Some r) next.rest)
          (heads first.reply (Some reply) behind wanted are) next.others;
    }

-- the replies of the tasks that were taken off the list stand before the others
pub record TakesReplies (before now : Reserved Task) (box loaded : Reserved Reply) : Type 0 where
  pub replies : (replies : List Reply) → HaveReplies before.items replies → (rest : List Reply)
      × HaveReplies now.items rest × (rest ++ loaded.items ≡ replies ++ box.items)
  pub spare : loaded.spare + length before.items ≡ box.spare + length now.items
  pub given_back : now.spare + length now.items ≡ before.spare + length before.items

module _ (before now left : Reserved Task) (box loaded new : Reserved Reply) (task : Task)
    (p : TakesReplies before now box loaded) (off : now.items ≡ left.items ++ task ∷ []) where
  -- the last task has a reply
  pub last_replied : (replies : List Reply) → HaveReplies before.items replies → IsSome task.reply
  last_replied replies are =
      let at = p.replies replies are in
      let last = last_reply left.items task at.0
      (subst (λ (tasks : List Task). HaveReplies tasks at.0) off at.1) in
      subst (λ (reply : Option Reply). IsSome reply) (sym last.has) refl

  -- which stands first now
  pub TakesReplies-more : (reply : Reply) → task.reply ≡ Some reply
      → new.items ≡ reply ∷ loaded.items → new.spare + 1 ≡ loaded.spare
      → left.spare ≡ now.spare + 1 → TakesReplies before left box new
  TakesReplies-more reply is items spare given_back = record {
    replies = λ replies are.
        let at = p.replies replies are in
        let last = last_reply left.items task at.0
        (subst (λ (tasks : List Task). HaveReplies tasks at.0) off at.1) in
        let same : last.reply ≡ reply = cc (last.has, is) in (
          last.rest,
          last.others,
          ap (λ (rs : List Reply). last.rest ++ rs) items
              ∙ ap (λ (r : Reply). last.rest ++ r ∷ loaded.items) (sym same)
              ∙ sym (append_assoc last.rest (last.reply ∷ []) loaded.items)
              ∙ ap (λ (rs : List Reply). rs ++ loaded.items) (sym last.parts) ∙ at.2,
        );
    spare = omega (
      arith,
      p.spare,
      spare,
      ap (λ (tasks : List Task). length tasks) off,
      length-append left.items (task ∷ []),
    );
    given_back = omega (
      arith,
      p.given_back,
      given_back,
      ap (λ (tasks : List Task). length tasks) off,
      length-append left.items (task ∷ []),
    );
  }

-- no replies are those of no tasks
none_wanted : (rest : List Reply) → HaveReplies [] rest → rest ≡ []
none_wanted [] are = refl
none_wanted (reply ∷ rest) are = absurd cc

-- a list with no element is empty
nothing_in : {X : Type 0} (xs : List X) → (0 < length xs → ⊥) → xs ≡ []
nothing_in [] none = refl
nothing_in (x ∷ xs) none = absurd (none (omega arith))

-- all tasks were taken off
pub takes-all : (before now : Reserved Task) (box loaded : Reserved Reply)
    → TakesReplies before now box loaded → (0 < length now.items → ⊥) → (replies : List Reply)
    → HaveReplies before.items replies → loaded.items ≡ replies ++ box.items
takes-all before now box loaded p none replies are =
    let at = p.replies replies are in
    let empty = none_wanted at.0 (subst (λ (tasks : List Task). HaveReplies tasks at.0)
    (nothing_in now.items none) at.1) in
    ap (λ (rs : List Reply). rs ++ loaded.items) (sym empty) ∙ at.2

-- ---- sending

-- the first replies went out whole, these are left, and no fault was counted
pub record SendsUpTo {Si : Type 0} (held : Si → Option (List ℕ)) (faults : Si → ℕ) (sink now : Si)
    (replies left : Reserved Reply) : Type 0 where
  pub given : List ℕ
  pub took : Takes (held sink) (held now) given
  pub gone : HaveGone replies.items given left.items
  pub calm : faults now ≡ faults sink
  pub spare : left.spare + length left.items ≡ replies.spare + length replies.items

module _ {Si : Type 0} (held : Si → Option (List ℕ)) (faults : Si → ℕ) (sink now : Si)
    (replies left : Reserved Reply) (p : SendsUpTo held faults sink now replies left) where
  -- those that are left have frames
  pub left_have : AllByRecursion HasReplyFrame replies.items
      → AllByRecursion HasReplyFrame left.items
  left_have have =
      All-behind HasReplyFrame p.gone.out left.items
      (subst (λ (rs : List Reply). AllByRecursion HasReplyFrame rs) p.gone.parts have)

  -- more went out
  pub SendsUpTo-more : (new : Si) (rest : Reserved Reply) (next : List ℕ)
      → Takes (held now) (held new) next → HaveGone left.items next rest.items
      → faults new ≡ faults now → rest.spare + length rest.items ≡ left.spare + length left.items
      → SendsUpTo held faults sink new replies rest
  SendsUpTo-more new rest next took gone calm spare = record {
    given = p.given ++ next;
    took = Takes-trans (held sink) (held now) (held new) p.given next p.took took;
    gone = HaveGone-trans replies.items left.items rest.items p.given next p.gone gone;
    calm = calm ∙ p.calm;
    spare = spare ∙ p.spare;
  }
