-- the next session
use Rattle.std.proofs.Common.{rules, ◌≡◌, List, [], ◌∷◌, ◌++◌, length, map}
use Rattle.std.proofs.Common.{refl, sym, ap, ◌∙◌, arith, append_assoc, length-append}
use Rattle.std.proofs.lemmas.List.{map-append}
use Rattle.std.specs.Option.{option_map}
use Rattle.kv_stamps.specs.Seats.{Seat}
use Rattle.kv_session_party.specs.declared.party.SessionParty.{SessionParty}
use Rattle.kv_mesh.specs.Finished.{parts_of}
use Rattle.kv_mesh.specs.Joining.{joined_from}
use Rattle.kv_mesh.proofs.JoiningLemmas.{joined-more}
use Rattle.kv_mesh.proofs.LoopLemmas.{all-seen, at-behind, map-more, none-left, parts-same}
use Rattle.kv_mesh.proofs.hand_out.hand_out_sessions.Goals as goal

pub loop-party-init : goal.loop-party-init
loop-party-init g c = record {
  parts = search rules;
  sessions = none-left c.args.room.items c.requires.room.empty;
  room = omega (arith, c.requires.room.room);
  counter = c.requires.others;
  view = refl;
}

pub unwrap-requires : goal.unwrap-requires
unwrap-requires g c =
    let inv = c.loop-party.invariant in
    let xs = c.loop-party.yielded in
    let x = c.in-Some.party in
    let next : c.loop-party.party-iterator.rest.items ≡ x ∷ c.next.new.self.rest.items =
    search rules in
    let all : xs ++ x ∷ c.next.new.self.rest.items ≡ c.args.parties.items =
    ap (λ zs. xs ++ zs) (sym next) ∙ inv.parts in
    let at = at-behind xs x c.next.new.self.rest.items c.args.parties.items all in
    c.append.ensures.room (omega (arith, inv.room, at.0))

pub join_next-requires : goal.join_next-requires
join_next-requires g c =
    let inv = c.loop-party.invariant in
    let xs = c.loop-party.yielded in
    let x = c.in-Some.party in
    let next : c.loop-party.party-iterator.rest.items ≡ x ∷ c.next.new.self.rest.items =
    search rules in
    let all : xs ++ x ∷ c.next.new.self.rest.items ≡ c.args.parties.items =
    ap (λ zs. xs ++ zs) (sym next) ∙ inv.parts in
    record {
      joined = inv.counter;
      seat = ap (λ (s : Seat). s.counter) c.into_parts-source.ensures.4
          ∙ c.requires.draw (length xs) x
          (at-behind xs x c.next.new.self.rest.items c.args.parties.items all);
    }

pub loop-party-preserved : goal.loop-party-preserved
loop-party-preserved g c =
    let Party = SessionParty g.row.So.Denot g.row.Si.Denot g.row.F.Denot g.So.Source g.Si.Sink in
    let inv = c.loop-party.invariant in
    let xs = c.loop-party.yielded in
    let x = c.in-Some.party in
    let next : c.loop-party.party-iterator.rest.items ≡ x ∷ c.next.new.self.rest.items =
    search rules in
    let items = (rw c.unwrap.ensures at c.append.ensures.ok) in
    let spare = (rw c.unwrap.ensures at c.append.ensures.spare) in
    let o = option_map (λ (all : Seat). all.view) c.args.others in
    record {
      parts = append_assoc xs (x ∷ []) c.next.new.self.rest.items
          ∙ (ap (λ zs. xs ++ zs) (sym next) ∙ inv.parts);
      sessions = map-more (λ (p : Party). parts_of p.session) xs x
          c.loop-party.sessions.items _ _ inv.sessions items
          (parts-same _ _ _ _ _ _ c.into_parts-source.ensures.0 c.into_parts-source.ensures.1
          c.into_parts-source.ensures.2);
      room = omega (arith, inv.room, spare, length-append xs (x ∷ []));
      counter = c.join_next.ensures.counter;
      view = joined-more o (option_map (λ (all : Seat). all.view) c.loop-party.joined)
          (map (λ (p : Party). p.seat) xs) c.join_next.result.view
          c.into_parts-source.result.seat x.seat inv.view c.join_next.ensures.view
          c.into_parts-source.ensures.4
          ∙ ap (joined_from o) (sym (map-append (λ (p : Party). p.seat) xs
          (x ∷ [])));
    }

pub returns-clause-sessions : goal.returns-clause-sessions
returns-clause-sessions g c =
    let Party = SessionParty g.row.So.Denot g.row.Si.Denot g.row.F.Denot g.So.Source g.Si.Sink in
    let inv = c.loop-party.invariant in
    inv.sessions ∙ ap (map (λ (p : Party). parts_of p.session))
    (all-seen c.loop-party.yielded c.loop-party.party-iterator.rest.items c.args.parties.items
    inv.parts (search rules))

pub returns-clause-view : goal.returns-clause-view
returns-clause-view g c =
    let Party = SessionParty g.row.So.Denot g.row.Si.Denot g.row.F.Denot g.So.Source g.Si.Sink in
    let inv = c.loop-party.invariant in
    inv.view ∙ ap (λ (ps : List (Party)). joined_from
    (option_map (λ (all : Seat). all.view) c.args.others) (map (λ (p : Party). p.seat) ps))
    (all-seen c.loop-party.yielded c.loop-party.party-iterator.rest.items c.args.parties.items
    inv.parts (search rules))
