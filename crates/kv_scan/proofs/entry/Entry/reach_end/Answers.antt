use Rattle.std.proofs.Common.{refl}
use Rattle.kv_scan.proofs.EntryLemmas.{ends_by}
use Rattle.kv_scan.proofs.entry.Entry.reach_end.Goals as goal

-- Nothing that is owed depends on it.
pub returns-clause-owes : goal.returns-clause-owes
returns-clause-owes g c = ends_by _ c.args.self.now _ c.self.view_is refl
