use denote.Exit.{no}
use denote.Param.Send.{param_send, arg_send}
use Rattle.kv_session_party.proofs.CrossLemmas.{party-send}
use Rattle.kv_session_party.proofs.laws.session_parties_cross_threads.Goals as goal

pub is_send-requires-send-T : goal.is_send-requires-send-T
is_send-requires-send-T g c κs within = param_send 0 _ (arg_send _ no _ (party-send _ _ _
    g.So.Source g.Si.Sink c.type_bounds.send-So c.type_bounds.send-Si c.type_bounds.send-F))
