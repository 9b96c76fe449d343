-- by the kinds of messages
use Rattle.kv_worker_party.proofs.DueLemmas.{due-taken}
use Rattle.kv_worker_party.proofs.laws.due_messages_are_taken.Goals as goal

pub returns : goal.returns
returns g c = λ worker workers message takes. due-taken worker workers message takes
