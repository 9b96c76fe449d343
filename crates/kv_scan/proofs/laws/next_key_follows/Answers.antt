use Rattle.kv_scan.proofs.KeyLemmas.{next_follows}
use Rattle.kv_scan.proofs.laws.next_key_follows.Goals as goal

pub returns : goal.returns
returns c = next_follows
