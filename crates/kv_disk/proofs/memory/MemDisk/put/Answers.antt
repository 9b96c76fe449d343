-- The page is held, and reads as the write leaves it.
use Rattle.std.proofs.Common.{◌≡◌, ◌<◌, ◌≤◌, true, false, List, length, IsNone, inl, inr, refl, sym}
use Rattle.std.proofs.Common.{◌∙◌, subst, arith}
use Rattle.std.proofs.lemmas.Bool.{true≢false, false≢true}
use Rattle.std.proofs.lemmas.List.{length-set}
use Rattle.kv_disk.specs.declared.call.Spot.{Spot}
use Rattle.kv_disk.specs.declared.call.Call.{Call}
use Rattle.kv_disk.specs.declared.call.Call.TheVariants.{Write}
use Rattle.kv_disk.specs.Replay.{place_in, left_in}
use Rattle.kv_disk.specs.Memory.{is_full, spots_of}
use Rattle.kv_disk.proofs.MemoryLemmas.{noted-counted, noted-within, noted-fits, write-replayed}
use Rattle.kv_disk.proofs.MemoryLemmas.{failed-seen, done-seen, spots-now, is_full-false}
use Rattle.kv_disk.proofs.memory.MemDisk.put.Goals as goal

pub invariant_of-self-then-has : goal.invariant_of-self-then-has
invariant_of-self-then-has c =
    let was = c.self.inside in
    let is = c.self.invariant in
    let call : Call =
    Write (record {
      file = c.args.file;
      page = c.args.page;
      content = c.args.content.now;
      done = false;
    }) in
    let within : length was.log.items < was.call_room =
    omega (arith, c.if-len-self.false, c.len.ensures, was.log.ok.0) in
    let longer = noted-within was.log.items c.note-then-has.new.log.items was.call_room call
    c.note-then-has.ensures.items within in
    record {
      rooms = record {
        for_start = is.rooms.for_start;
        for_spots = omega (
          arith,
          is.rooms.for_spots,
          c.hold.ensures.spots_room,
        );
        for_contents = omega (
          arith,
          is.rooms.for_contents,
          c.hold.ensures.contents_room,
        );
        for_calls = omega (
          arith,
          is.rooms.for_calls,
          c.note-then-has.ensures.capacity,
        );
      };
      counted = rw c.saturating_add-self-inside.ensures (noted-counted was.log.items
          c.note-then-has.new.log.items was.call_room was.calls call c.note-then-has.ensures.items
          (omega arith) is.counted);
      replayed = rw longer (write-replayed was.start.items was.spots.items c.hold.new.spots.items
          was.contents.items c.hold.new.contents.items was.log.items c.args.file c.args.page
          c.args.content.now false is.replayed c.in-Some.ensures.held c.hold.ensures.as_many
          (λ f p. c.hold.ensures.reads f p ∙ is.replayed.reads f p
          ∙ sym (failed-seen f p c.args.file c.args.page c.args.content.now
          (left_in was.start.items was.log.items f p))));
      fits = noted-fits was.start.items was.log.items c.note-then-has.new.log.items was.call_room
          call c.note-then-has.ensures.items c.requires is.fits;
    }

pub returns-then-has-clause-writes : goal.returns-then-has-clause-writes
returns-then-has-clause-writes c =
    let was = c.self.inside in
    let are : spots_of c.args.self.now ≡ was.spots.items =
    rw (← c.self.view_is) (spots-now was.start.items was.spots.items was.contents.items
    was.log.items was.calls was.call_room c.self.invariant.replayed
    c.self.invariant.counted) in
    let same_room : c.args.self.now.page_room ≡ was.page_room = rw (← c.self.view_is) refl in
    let room : is_full c.args.self.now c.args.file c.args.page ≡ false =
    is_full-false c.args.self.now was.spots.items c.args.file c.args.page are
    (λ full. true≢false (c.in-Some.ensures.none.1 (rw same_room at full))) in
    record {
      failed = (
        λ _. inr (inr (rw (← c.self.view_is, ← c.saturating_add-self-inside.ensures)
            (c.has.ensures.0 c.if-has.true))),
        λ _. refl,
      );
      kept = rw room (rw (← c.self.view_is) (record {
        log = c.note-then-has.ensures.items;
        pages = refl;
        page_room = refl;
        call_room = refl;
        failing = refl;
        calls = c.saturating_add-self-inside.ensures;
        faults = c.saturating_add-self-inside-then-has.ensures;
      }));
    }

pub invariant_of-self-2 : goal.invariant_of-self-2
invariant_of-self-2 c =
    let was = c.self.inside in
    let is = c.self.invariant in
    let call : Call =
    Write (record {
      file = c.args.file;
      page = c.args.page;
      content = c.args.content.now;
      done = true;
    }) in
    let within : length was.log.items < was.call_room =
    omega (arith, c.if-len-self.false, c.len.ensures, was.log.ok.0) in
    let longer = noted-within was.log.items c.note-2.new.log.items was.call_room call
    c.note-2.ensures.items within in
    record {
      rooms = record {
        for_start = is.rooms.for_start;
        for_spots = omega (
          arith,
          is.rooms.for_spots,
          c.hold.ensures.spots_room,
        );
        for_contents = omega (
          arith,
          is.rooms.for_contents,
          c.hold.ensures.contents_room,
        );
        for_calls = omega (
          arith,
          is.rooms.for_calls,
          c.note-2.ensures.capacity,
        );
      };
      counted = rw c.saturating_add-self-inside.ensures (noted-counted was.log.items
          c.note-2.new.log.items was.call_room was.calls call c.note-2.ensures.items (omega arith)
          is.counted);
      replayed = rw longer (write-replayed was.start.items was.spots.items c.hold.new.spots.items
          was.contents.items _ was.log.items c.args.file c.args.page c.args.content.now true
          is.replayed c.in-Some.ensures.held (length-set c.hold.new.contents.items c.in-Some.place
          c.args.content.now ∙ c.hold.ensures.as_many)
          (λ f p. done-seen f p c.args.file c.args.page c.in-Some.place c.args.content.now
          c.hold.new.spots.items c.hold.new.contents.items
          (left_in was.start.items was.log.items f p) c.in-Some.ensures.place
          c.hold.ensures.as_many (c.hold.ensures.reads f p ∙ is.replayed.reads f p)));
      fits = noted-fits was.start.items was.log.items c.note-2.new.log.items was.call_room call
          c.note-2.ensures.items c.requires is.fits;
    }

pub returns-clause-writes : goal.returns-clause-writes
returns-clause-writes c =
    let was = c.self.inside in
    let are : spots_of c.args.self.now ≡ was.spots.items =
    rw (← c.self.view_is) (spots-now was.start.items was.spots.items was.contents.items
    was.log.items was.calls was.call_room c.self.invariant.replayed
    c.self.invariant.counted) in
    let same_room : c.args.self.now.page_room ≡ was.page_room = rw (← c.self.view_is) refl in
    let no_place = λ (full : IsNone (place_in was.spots.items c.args.file c.args.page)
    × (c.args.self.now.page_room ≤ length was.spots.items)). true≢false
    (c.in-Some.ensures.none.1 (rw same_room at full)) in
    let room : is_full c.args.self.now c.args.file c.args.page ≡ false =
    is_full-false c.args.self.now was.spots.items c.args.file c.args.page are no_place in
    let within : c.args.self.now.call_room ≤ length c.args.self.now.log
    → ⊥ = rw (← c.self.view_is) (λ past. omega (
      arith,
      c.if-len-self.false,
      c.len.ensures,
      was.log.ok.0,
      past,
    )) in
    record {
      failed = (
        λ failed. absurd (false≢true failed),
        λ why. elim why [
          | inl past ↦ absurd (within past)
          | inr other ↦ elim other [
            | inl full ↦
                let Q : List Spot → Type 0 = λ s.
                IsNone (place_in s c.args.file c.args.page)
                × (c.args.self.now.page_room ≤ length s) in
                absurd (no_place (subst Q are full))
            | inr listed ↦
                absurd (true≢false
                (sym (c.has.ensures.1 (rw (c.saturating_add-self-inside.ensures)
                (rw (← c.self.view_is) at listed))) ∙ c.if-has.false))
          ]
        ],
      );
      kept = rw room (rw (← c.self.view_is) (record {
        log = c.note-2.ensures.items;
        pages = refl;
        page_room = refl;
        call_room = refl;
        failing = refl;
        calls = c.saturating_add-self-inside.ensures;
        faults = refl;
      }));
    }
