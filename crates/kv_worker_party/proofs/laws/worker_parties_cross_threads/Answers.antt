-- the lemma on the row
use denote.Exit.{no}
use denote.Param.Send.{param_send, arg_send}
use Rattle.kv_worker_party.proofs.CrossLemmas.{party-send}
use Rattle.kv_worker_party.proofs.laws.worker_parties_cross_threads.Goals as goal

pub is_send-requires-send-T : goal.is_send-requires-send-T
is_send-requires-send-T g c κs within = param_send 0 _ (arg_send _ no _ (party-send _ _ _ g.D.Disk
    g.I.Index c.type_bounds.send-D c.type_bounds.send-I c.type_bounds.send-F))
