use Rattle.std.proofs.Common.{sym, ap, ◌∙◌}
use Rattle.kv_index.specs.Entries.{Indexed}
use Rattle.kv_tree.proofs.MapLemmas.{nothing_found, nothing_removed}
use Rattle.kv_tree.proofs.tree.TreeIndexIndex.remove.Goals as goal

pub returns-in_default-clause-value : goal.returns-in_default-clause-value
returns-in_default-clause-value c =
    sym (nothing_found c.self.inside.nodes _ c.self.view_is c.in_default.is c.args.key.now)

pub returns-in_default-clause-rest : goal.returns-in_default-clause-rest
returns-in_default-clause-rest c =
    ap (λ (i : Indexed). i.entries) c.self.view_is
    ∙ sym (nothing_removed c.self.inside.nodes _ c.self.view_is c.in_default.is c.args.key.now)
