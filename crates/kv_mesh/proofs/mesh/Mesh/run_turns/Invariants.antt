-- what the parties became since the call
use Rattle.std.proofs.Common.{◌≡◌, ℕ, [], ◌∷◌}
use Rattle.kv_mesh.specs.Moves.{Become, TurnsParty}
use Rattle.kv_mesh.proofs.mesh.Mesh.run_turns.Given as goal

abbrev pub invariant-loop-number : goal.invariant-loop-number
invariant-loop-number g l = record {
  became : Become l.initial.self.all.workers.items l.initial.self.all.sessions.items
      l.initial.self.all.start l.self.all.workers.items l.self.all.sessions.items
      l.self.all.start;
  none : l.number-index ≡ 0 → (l.self.all.workers.items ≡ l.initial.self.all.workers.items)
      × (l.self.all.sessions.items ≡ l.initial.self.all.sessions.items);
  one : (number : ℕ) → l.schedule ≡ number ∷ [] → l.number-index ≡ 1 → TurnsParty number
      l.initial.self.all.workers.items l.initial.self.all.sessions.items
      l.self.all.workers.items l.self.all.sessions.items;
}
