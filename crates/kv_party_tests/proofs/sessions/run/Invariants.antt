use Rattle.std.proofs.Common.{◌≡◌, ◌≤◌, [], None}
use Rattle.kv_party_tests.proofs.sessions.run.Given as goal

abbrev pub invariant-loop : goal.invariant-loop
invariant-loop l = record {
  no_tasks : l.tasks.items ≡ [];
  tasks_room : 64 ≤ l.tasks.spare;
  no_others : l.others.items ≡ [];
  others_room : 64 ≤ l.others.spare;
  reads : l.session.closing ≡ None;
  told : l.session.after ≡ None;
  goes_on : l.session.ending ≡ None;
}
