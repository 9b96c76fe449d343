-- What parties give back when they stop.
use Rattle.kv_session.specs.Session.{SessionState}
use Rattle.kv_session.specs.declared.ending.SessionParts.{SessionParts}

-- the source and the sink of the session, and how it ended, if it has
abbrev pub parts_of : {So Si : Type 0} → SessionState So Si → SessionParts So Si
parts_of session = record {
  source = session.source;
  sink = session.sink;
  ending = session.ending;
}
