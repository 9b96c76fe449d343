-- Each side computes to the same bytes.
use Rattle.std.proofs.Common.{refl}
use Rattle.kv_model.specs.Slots.{read_small}
use Rattle.kv_model.specs.SlotBytes.{item_bytes, tombstone_bytes}
use Rattle.kv_model.specs.Head.{head_page}
use Rattle.kv_model_tests.proofs.model.slots_read_as_they_are_written.Goals as goal

pub returns-clause-item : goal.returns-clause-item
unfolding item_bytes
returns-clause-item c = refl

pub returns-clause-read : goal.returns-clause-read
unfolding read_small
returns-clause-read c = refl

pub returns-clause-other_class : goal.returns-clause-other_class
unfolding read_small
returns-clause-other_class c = refl

pub returns-clause-tombstone : goal.returns-clause-tombstone
unfolding tombstone_bytes
returns-clause-tombstone c = refl

pub returns-clause-read_tombstone : goal.returns-clause-read_tombstone
unfolding read_small
returns-clause-read_tombstone c = refl

pub returns-clause-head : goal.returns-clause-head
unfolding head_page
returns-clause-head c = refl
