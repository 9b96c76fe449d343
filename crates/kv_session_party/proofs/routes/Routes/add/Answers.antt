use Rattle.std.proofs.Common.{subst}
use Rattle.kv_session_party.specs.Routes.{RoutesState}
use Rattle.kv_session_party.proofs.RouteLemmas.{RoutesOne, routes-put, ok-then}
use Rattle.kv_session_party.proofs.routes.Routes.add.Goals as goal

pub returns-clause-routed : goal.returns-clause-routed
returns-clause-routed c =
    let before : RoutesState =
    record { places = c.self.inside.places.items; parts = c.self.inside.parts.items } in
    let later : RoutesState = record {
      places = c.append.new.self.items;
      parts = c.place_task-place.new.parts.items;
    } in
    subst (λ (s : RoutesState). RoutesOne c.args.task s later) c.self.view_is
    (routes-put c.args.task before later c.place_task-place.result c.requires.routable
    c.place_task-place.ensures (ok-then _ _ _ c.unwrap.ensures c.append.ensures.ok))
