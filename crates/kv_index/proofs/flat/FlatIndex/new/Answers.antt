-- the map of no pairs is empty
use Rattle.std.proofs.Common.{refl}
use Rattle.std.specs.FinMap.{empty_of_len}
use Rattle.kv_index.proofs.EntriesLemmas.{len_is}
use Rattle.kv_index.proofs.flat.FlatIndex.new.Goals as goal

pub returns-clause-none : goal.returns-clause-none
returns-clause-none c = rw c.new.ensures.items (empty_of_len _ (len_is _ refl))
