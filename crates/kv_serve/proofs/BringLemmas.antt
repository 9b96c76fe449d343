-- All that a command took comes back.
use Rattle.std.proofs.Common.{◌≡◌, inl, inr, ℕ, List, [], length}
use Rattle.std.proofs.Common.{refl, sym, ◌∙◌, arith}
use Rattle.kv_site.specs.Held.{Held}
use Rattle.kv_serve.specs.Taken.{AreHome, AreLent, BringsAll, GivesDisks, GivesSessions}
use Rattle.kv_serve.specs.Taken.{ReturnsSessions, SessionsKept, TookDisks, TookSessions}
use Rattle.kv_serve.proofs.EndsLemmas.{gives-all-sessions, gives-no-session, took-no-session}
use Rattle.kv_serve.proofs.PlaceLemmas.{at-or-past}

module _ {In Out Pages : Type 0} where
  -- ends and disks that were taken and given back
  pub brings-all : (before between held given after : Held In Out Pages) (folder : List ℕ)
      (olds news : List Pages) (ends ends' : List (In × Out)) → TookDisks before between folder olds
      → TookSessions between held ends → length news ≡ length olds → length ends' ≡ length ends
      → (AreLent held (length ends') → GivesSessions held given ends')
      → (AreHome given folder (length news) → GivesDisks given after folder news)
      → BringsAll before after folder olds news ends ends'
  brings-all before between held given after folder olds news ends ends' took lent same also gives
      back =
      let sessions = gives (λ n below. lent.lent n (omega (arith, below, also))) in
      let disks = back (λ w below. sessions.disks.homes w ∙ lent.disks.homes w
      ∙ took.home w (omega (arith, below, same))) in
      record {
        disks = record {
          was = took.was;
          back = disks.back;
          others = λ other w not.
              disks.others other w (λ is below. not is (omega (arith, below, same)))
              ∙ sessions.disks.held other w ∙ lent.disks.held other w ∙ took.others other w not;
        };
        sessions = record {
          was = λ n pair at. sym (took.sessions.held n) ∙ lent.was n pair at;
          back = λ n pair at. disks.sessions.held n ∙ sessions.back n pair at;
          others = λ n past. disks.sessions.held n
              ∙ sessions.others n (omega (arith, past, also)) ∙ lent.others n past
              ∙ took.sessions.held n;
        };
        report = disks.report.held ∙ sessions.report.held ∙ lent.report.held ∙ took.report.held;
      }

  -- where the ends came back as they were taken, all sessions are held as before
  pub sessions-kept : (before after : Held In Out Pages) (ends : List (In × Out))
      → ReturnsSessions before after ends ends → SessionsKept before after
  sessions-kept before after ends returns n = elim (at-or-past ends n) [
    | inl at ↦ returns.back n at.0 at.1 ∙ sym (returns.was n at.0 at.1)
    | inr past ↦ returns.others n past
  ]

  -- the same where no ends were taken
  pub brings-disks : (before held after : Held In Out Pages) (folder : List ℕ)
      (olds news : List Pages) → TookDisks before held folder olds → length news ≡ length olds
      → (AreHome held folder (length news) → GivesDisks held after folder news)
      → BringsAll before after folder olds news [] []
  brings-disks before held after folder olds news took same back =
      brings-all before held held held after folder olds news [] [] took (took-no-session held) same
      refl (λ lent. gives-all-sessions held held [] [] refl (gives-no-session held [])) back
