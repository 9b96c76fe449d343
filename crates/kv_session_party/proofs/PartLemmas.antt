-- Replies that go into frames, and tasks that have them.
use Rattle.std.proofs.Common.{◌≡◌, ℕ, suc, ◌<◌, ◌^◌, List, [], ◌∷◌, length, nat_eq}
use Rattle.std.proofs.Common.{true, refl, ap, ◌∙◌, arith}
use Rattle.std.specs.Prelude.{nat_le, IfSome}
use Rattle.std.specs.List.{AllByRecursion}
use Rattle.std.proofs.lemmas.Bool.Decides.{nat_tests}
use Rattle.kv_base.specs.declared.reply.Reply.{Reply}
use Rattle.kv_base.specs.declared.reply.Reply.TheVariants.{Stored, Found, Missing, Removed, Absent}
use Rattle.kv_base.specs.declared.reply.Reply.TheVariants.{BadKey, TooLarge, Full, NoMemory}
use Rattle.kv_base.specs.declared.reply.Reply.TheVariants.{DiskFault, Unsure, Closed, StampsSpent}
use Rattle.kv_base.specs.declared.reply.Reply.TheVariants.{Malformed, Noted, Ahead}
use Rattle.kv_model.specs.Frames.{HasReplyFrame}
use Rattle.kv_model.specs.Pairs.{stamp_of}
use Rattle.kv_ring.specs.declared.task.Task.{Task}
use Rattle.kv_parties.specs.Messages.{IsReplied}
use Rattle.kv_session_party.specs.Parts.{is_stamp, is_good, has_reply, have_replies, answers_all}
use Rattle.kv_session_party.specs.Parts.{replies_in}
use Rattle.kv_session_party.proofs.MergeLemmas.{replies-more}
use Rattle.kv_session_party.proofs.TakingLemmas.{and-both, le-true, lt-true}

-- a reply that goes into a frame, with such a stamp, is a good one
good-all : (reply : Reply) → HasReplyFrame reply → IfSome (stamp_of reply) (λ s. s < 2 ^ 62)
    → is_good reply ≡ true
good-all (Stored stamp) framed low = lt-true stamp (2 ^ 62) low
good-all (Found stamp value) framed low =
    let size = framed.size in
    and-both (is_stamp stamp) (nat_le (length value) 65991) (lt-true stamp (2 ^ 62) low)
    (le-true (length value) 65991 (omega (arith, size)))
good-all (Missing stamp) framed low = lt-true stamp (2 ^ 62) low
good-all (Removed stamp) framed low = lt-true stamp (2 ^ 62) low
good-all (Absent stamp) framed low = lt-true stamp (2 ^ 62) low
good-all BadKey framed low = refl
good-all TooLarge framed low = refl
good-all (Full class) framed low = refl
good-all NoMemory framed low = refl
good-all DiskFault framed low = refl
good-all (Unsure stamp) framed low = lt-true stamp (2 ^ 62) low
good-all Closed framed low = refl
good-all (StampsSpent number) framed low = refl
good-all (Malformed offset) framed low = refl
good-all Noted framed low = refl
good-all (Ahead number) framed low = refl

-- such a task has a reply, which is a good one
pub has-reply : (task : Task) → IsReplied task → has_reply task.reply ≡ true
has-reply task is = ap has_reply is.is ∙ good-all is.reply is.framed is.stamp

have-all : (items : List Task) → AllByRecursion IsReplied items → have_replies items ≡ true
have-all [] all = refl
have-all (item ∷ items) all = and-both (has_reply item.reply) (have_replies items)
    (has-reply item all.0) (have-all items all.1)

eq-true : (m n : ℕ) → m ≡ n → nat_eq m n ≡ true
eq-true m n e = grind (arith, nat_tests)

-- as many tasks, each with its reply, are taken
pub replied-all : (count : ℕ) (items : List Task) → length items ≡ count
    → AllByRecursion IsReplied items → answers_all count items ≡ true
replied-all count items size all = and-both (nat_eq (length items) count) (have_replies items)
    (eq-true (length items) count size) (have-all items all)

-- there is a reply for each
pub replies-length : (items : List Task) → AllByRecursion IsReplied items
    → length (replies_in items) ≡ length items
replies-length [] all = refl
replies-length (item ∷ items) all =
    ap length (replies-more item items all.0.reply all.0.is)
    ∙ ap suc (replies-length items all.1)
