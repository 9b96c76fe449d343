-- No entry is counted.
use Rattle.kv_recover.proofs.CountLemmas.{counted-none}
use Rattle.kv_recover.proofs.items.Items.new.Goals as goal

pub returns-clause-counted : goal.returns-clause-counted
returns-clause-counted g c = counted-none (g.I.Index.entries c.args.index) c.requires.none
