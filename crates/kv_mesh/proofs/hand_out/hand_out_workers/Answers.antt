-- the next worker
use Rattle.std.proofs.Common.{rules, ◌≡◌, List, [], ◌∷◌, ◌++◌, length, map, None}
use Rattle.std.proofs.Common.{refl, sym, ap, ◌∙◌, arith, append_assoc, length-append}
use Rattle.std.proofs.lemmas.List.{map-append}
use Rattle.std.specs.Option.{option_map}
use Rattle.kv_stamps.specs.Seats.{Seat}
use Rattle.kv_worker_party.specs.declared.party.WorkerParty.{WorkerParty}
use Rattle.kv_mesh.specs.Joining.{joined_from}
use Rattle.kv_mesh.proofs.JoiningLemmas.{joined-more}
use Rattle.kv_mesh.proofs.LoopLemmas.{all-seen, at-behind, map-more, none-left}
use Rattle.kv_mesh.proofs.hand_out.hand_out_workers.Goals as goal

pub loop-party-init : goal.loop-party-init
loop-party-init g c = record {
  parts = search rules;
  workers = none-left c.args.room.items c.requires.room.empty;
  room = omega (arith, c.requires.room.room);
  counter = tt;
  view = refl;
}

pub unwrap-requires : goal.unwrap-requires
unwrap-requires g c =
    let inv = c.loop-party.invariant in
    let xs = c.loop-party.yielded in
    let x = c.in-Some.party in
    let next : c.loop-party.party-iterator.rest.items ≡ x ∷ c.next.new.self.rest.items =
    search rules in
    let all : xs ++ x ∷ c.next.new.self.rest.items ≡ c.args.parties.items =
    ap (λ zs. xs ++ zs) (sym next) ∙ inv.parts in
    let at = at-behind xs x c.next.new.self.rest.items c.args.parties.items all in
    c.append.ensures.room (omega (arith, inv.room, at.0))

pub join_next-requires : goal.join_next-requires
join_next-requires g c =
    let inv = c.loop-party.invariant in
    let xs = c.loop-party.yielded in
    let x = c.in-Some.party in
    let next : c.loop-party.party-iterator.rest.items ≡ x ∷ c.next.new.self.rest.items =
    search rules in
    let all : xs ++ x ∷ c.next.new.self.rest.items ≡ c.args.parties.items =
    ap (λ zs. xs ++ zs) (sym next) ∙ inv.parts in
    record {
      joined = inv.counter;
      seat = ap (λ (s : Seat). s.counter) c.into_parts-worker.ensures.2
          ∙ c.requires.draw (length xs) x
          (at-behind xs x c.next.new.self.rest.items c.args.parties.items all);
    }

pub loop-party-preserved : goal.loop-party-preserved
loop-party-preserved g c =
    let Party = WorkerParty g.row.D.Denot g.row.I.Denot g.row.F.Denot g.D.Disk g.I.Index in
    let inv = c.loop-party.invariant in
    let xs = c.loop-party.yielded in
    let x = c.in-Some.party in
    let next : c.loop-party.party-iterator.rest.items ≡ x ∷ c.next.new.self.rest.items =
    search rules in
    let items = (rw c.unwrap.ensures at c.append.ensures.ok) in
    let spare = (rw c.unwrap.ensures at c.append.ensures.spare) in
    record {
      parts = append_assoc xs (x ∷ []) c.next.new.self.rest.items
          ∙ (ap (λ zs. xs ++ zs) (sym next) ∙ inv.parts);
      workers = map-more (λ (p : Party). p.worker) xs x
          c.loop-party.workers.items _ _ inv.workers items c.into_parts-worker.ensures.0;
      room = omega (arith, inv.room, spare, length-append xs (x ∷ []));
      counter = c.join_next.ensures.counter;
      view = joined-more None (option_map (λ (all : Seat). all.view) c.loop-party.joined)
          (map (λ (p : Party). p.seat) xs) c.join_next.result.view
          c.into_parts-worker.result.seat x.seat inv.view c.join_next.ensures.view
          c.into_parts-worker.ensures.2
          ∙ ap (joined_from None) (sym (map-append (λ (p : Party). p.seat) xs
          (x ∷ [])));
    }

pub returns-clause-workers : goal.returns-clause-workers
returns-clause-workers g c =
    let Party = WorkerParty g.row.D.Denot g.row.I.Denot g.row.F.Denot g.D.Disk g.I.Index in
    let inv = c.loop-party.invariant in
    inv.workers ∙ ap (map (λ (p : Party). p.worker))
    (all-seen c.loop-party.yielded c.loop-party.party-iterator.rest.items c.args.parties.items
    inv.parts (search rules))

pub returns-clause-view : goal.returns-clause-view
returns-clause-view g c =
    let Party = WorkerParty g.row.D.Denot g.row.I.Denot g.row.F.Denot g.D.Disk g.I.Index in
    let inv = c.loop-party.invariant in
    inv.view ∙ ap (λ (ps : List (Party)). joined_from None
    (map (λ (p : Party). p.seat) ps))
    (all-seen c.loop-party.yielded c.loop-party.party-iterator.rest.items c.args.parties.items
    inv.parts (search rules))
