-- The ends so far are taken, and the others have room.
use Rattle.std.proofs.Common.{◌≡◌, ◌≤◌, IsTrue, length, vec_capacity}
use Rattle.kv_serve.specs.Taken.{TookSessions}
use Rattle.kv_serve.proofs.sessions.take_sessions.Given as goal

abbrev pub invariant-loop-session : goal.invariant-loop-session
invariant-loop-session g l = record {
  took : IsTrue g.S.Site.tells → TookSessions (g.S.Site.holds l.initial.site)
      (g.S.Site.holds l.site) l.ends.items;
  count : l.session ≡ length l.ends.items;
  room : length l.names ≤ vec_capacity l.ends;
  calm : g.S.Site.faults l.site ≡ g.S.Site.faults l.initial.site;
}
