-- one party more is taken apart
use Rattle.std.proofs.Common.{◌∷◌, [], ◌++◌, ap, ◌∙◌, arith}
use Rattle.kv_session_party.specs.declared.party.SessionParty.{SessionParty}
use Rattle.kv_mesh.specs.Started.{ends_of}
use Rattle.kv_mesh.proofs.MadeLemmas.{moved-all, moved-more, none-of}
use Rattle.kv_mesh.proofs.start_sessions.give_sessions_back.Goals as goal

pub loop-party-preserved : goal.loop-party-preserved
loop-party-preserved g c =
    let inv = c.loop-party.invariant in
    let Party = SessionParty g.row.So.Denot g.row.Si.Denot g.row.F.Denot g.So.Source g.Si.Sink in
    record {
      items = moved-more (λ (party : Party). ends_of party.session) c.loop-party.ends.items
          c.push_within.new.items.items c.loop-party.parties.items c.pop.new.self.items
          c.in-Some.party c.in-Some.ensures.items (c.push_within.ensures.items
          ∙ ap (λ o. c.loop-party.ends.items ++ o ∷ []) c.source_and_sink.ensures) ∙ inv.items;
      room = omega (
        arith,
        inv.room,
        c.in-Some.ensures.cases,
        c.push_within.ensures.len,
        c.push_within.ensures.capacity,
      );
    }

pub returns : goal.returns
returns g c =
    let Party = SessionParty g.row.So.Denot g.row.Si.Denot g.row.F.Denot g.So.Source g.Si.Sink in
    moved-all (λ (party : Party). ends_of party.session) c.loop-party.ends.items _
    c.loop-party.parties.items (none-of c.loop-party.parties.items
    (omega (arith, c.in_default.ensures.cases, c.loop-party.parties.ok)))
    c.loop-party.invariant.items
