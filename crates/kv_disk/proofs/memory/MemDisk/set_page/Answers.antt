-- The page stands at its place with its content, before the first call.
use Rattle.std.proofs.Common.{◌≡◌, ◌++◌, ◌∷◌, [], Some, None, length, map, set, inl, inr, sym, ◌∙◌}
use Rattle.std.proofs.Common.{ap, arith}
use Rattle.std.proofs.lemmas.List.{length-map}
use Rattle.std.proofs.lemmas.List.Elements.{All-set, All-push}
use Rattle.kv_disk.specs.declared.call.Held.{Held}
use Rattle.kv_disk.specs.Replay.{place_in, spot, spot_of, held_with, put_at, spots_in, SpotFits}
use Rattle.kv_base.proofs.ImageLemmas.{same_image}
use Rattle.kv_disk.proofs.MemoryLemmas.{put-replayed, put-image, put_cases, no_calls}
use Rattle.kv_disk.proofs.memory.MemDisk.set_page.Goals as goal

pub invariant_of-self-then-place-len : goal.invariant_of-self-then-place-len
invariant_of-self-then-place-len c =
    let was = c.self.inside in
    let is = c.self.invariant in
    let held : Held = held_with (spot c.args.file c.args.page) c.args.content.now in
    let unused : was.calls ≡ 0 = rw (← c.self.view_is) at c.requires.unused in
    let empty = no_calls was.log.items was.calls was.call_room is.counted unused in
    let were : was.spots.items ≡ map spot_of was.start.items = is.replayed.held
    ∙ ap (spots_in was.start.items) empty in
    let as_long : length was.spots.items ≡ length was.start.items = ap length were
    ∙ length-map was.start.items spot_of in
    let at : place_in (map spot_of was.start.items) c.args.file c.args.page ≡ Some c.in-Some.place =
    elim (put_cases was.spots.items c.hold.new.spots.items c.args.file c.args.page
    c.in-Some.place c.in-Some.ensures.held c.in-Some.ensures.place) [
      | inl there ↦ ap (λ s. place_in s c.args.file c.args.page) (sym were) ∙ there.1
      | inr new ↦ absurd (omega (
        arith,
        new.0,
        as_long,
        c.if-place-len.true,
        c.len.ensures,
        was.start.ok.0,
      ))
    ] in
    record {
      rooms = record {
        for_start = is.rooms.for_start;
        for_spots = omega (
          arith,
          is.rooms.for_spots,
          c.hold.ensures.spots_room,
        );
        for_contents = omega (
          arith,
          is.rooms.for_contents,
          c.hold.ensures.contents_room,
        );
        for_calls = is.rooms.for_calls;
      };
      counted = is.counted;
      replayed = put-replayed was.start.items (set was.start.items c.in-Some.place held)
          was.spots.items c.hold.new.spots.items was.contents.items c.hold.new.contents.items
          was.log.items c.args.file c.args.page c.in-Some.place c.args.content.now
          is.replayed empty c.in-Some.ensures.held c.in-Some.ensures.place c.hold.ensures.as_many
          c.hold.ensures.reads (ap (put_at was.start.items held) (sym at));
      fits = record {
        pages = All-set (λ h. SpotFits (spot_of h)) was.start.items c.in-Some.place
            held c.requires.page is.fits.pages;
        calls = is.fits.calls;
      };
    }

pub invariant_of-self-else-place-len : goal.invariant_of-self-else-place-len
invariant_of-self-else-place-len c =
    let was = c.self.inside in
    let is = c.self.invariant in
    let held : Held = held_with (spot c.args.file c.args.page) c.args.content.now in
    let unused : was.calls ≡ 0 = rw (← c.self.view_is) at c.requires.unused in
    let empty = no_calls was.log.items was.calls was.call_room is.counted unused in
    let were : was.spots.items ≡ map spot_of was.start.items = is.replayed.held
    ∙ ap (spots_in was.start.items) empty in
    let as_long : length was.spots.items ≡ length was.start.items = ap length were
    ∙ length-map was.start.items spot_of in
    let pushed : c.push.new.self.items ≡ was.start.items ++ held ∷ [] =
    rw c.unwrap.ensures at c.push.ensures.items in
    let at : place_in (map spot_of was.start.items) c.args.file c.args.page ≡ None =
    elim (put_cases was.spots.items c.hold.new.spots.items c.args.file c.args.page
    c.in-Some.place c.in-Some.ensures.held c.in-Some.ensures.place) [
      | inl there ↦ absurd (omega (
        arith,
        there.0,
        as_long,
        c.if-place-len.false,
        c.len.ensures,
        was.start.ok.0,
      ))
      | inr new ↦ ap (λ s. place_in s c.args.file c.args.page) (sym were) ∙ new.1
    ] in
    record {
      rooms = record {
        for_start = omega (arith, is.rooms.for_start, c.push.ensures.capacity);
        for_spots = omega (arith, is.rooms.for_spots, c.hold.ensures.spots_room);
        for_contents = omega (arith, is.rooms.for_contents, c.hold.ensures.contents_room);
        for_calls = is.rooms.for_calls;
      };
      counted = is.counted;
      replayed = put-replayed was.start.items c.push.new.self.items was.spots.items
          c.hold.new.spots.items was.contents.items c.hold.new.contents.items was.log.items
          c.args.file c.args.page c.in-Some.place c.args.content.now
          is.replayed empty c.in-Some.ensures.held c.in-Some.ensures.place c.hold.ensures.as_many
          c.hold.ensures.reads (pushed ∙ ap (put_at was.start.items held) (sym at));
      fits = record {
        pages = rw pushed (All-push (λ h. SpotFits (spot_of h)) was.start.items held
            is.fits.pages c.requires.page);
        calls = is.fits.calls;
      };
    }

pub returns-then-place-len-clause-written : goal.returns-then-place-len-clause-written
returns-then-place-len-clause-written c _ =
    let was = c.self.inside in
    let is = c.self.invariant in
    let held : Held = held_with (spot c.args.file c.args.page) c.args.content.now in
    let unused : was.calls ≡ 0 = rw (← c.self.view_is) at c.requires.unused in
    let empty = no_calls was.log.items was.calls was.call_room is.counted unused in
    let were : was.spots.items ≡ map spot_of was.start.items = is.replayed.held
    ∙ ap (spots_in was.start.items) empty in
    let as_long : length was.spots.items ≡ length was.start.items = ap length were
    ∙ length-map was.start.items spot_of in
    let at : place_in (map spot_of was.start.items) c.args.file c.args.page ≡ Some c.in-Some.place =
    elim (put_cases was.spots.items c.hold.new.spots.items c.args.file c.args.page
    c.in-Some.place c.in-Some.ensures.held c.in-Some.ensures.place) [
      | inl there ↦ ap (λ s. place_in s c.args.file c.args.page) (sym were) ∙ there.1
      | inr new ↦ absurd (omega (
        arith,
        new.0,
        as_long,
        c.if-place-len.true,
        c.len.ensures,
        was.start.ok.0,
      ))
    ] in
    rw (← c.self.view_is)
    (same_image _ _ (λ f p. put-image was.start.items (set was.start.items c.in-Some.place held)
    was.log.items was.calls c.args.file c.args.page f p c.args.content.now empty
    (ap (put_at was.start.items held) (sym at))))

pub returns-else-place-len-clause-written : goal.returns-else-place-len-clause-written
returns-else-place-len-clause-written c _ =
    let was = c.self.inside in
    let is = c.self.invariant in
    let held : Held = held_with (spot c.args.file c.args.page) c.args.content.now in
    let unused : was.calls ≡ 0 = rw (← c.self.view_is) at c.requires.unused in
    let empty = no_calls was.log.items was.calls was.call_room is.counted unused in
    let were : was.spots.items ≡ map spot_of was.start.items = is.replayed.held
    ∙ ap (spots_in was.start.items) empty in
    let as_long : length was.spots.items ≡ length was.start.items = ap length were
    ∙ length-map was.start.items spot_of in
    let pushed : c.push.new.self.items ≡ was.start.items ++ held ∷ [] =
    rw c.unwrap.ensures at c.push.ensures.items in
    let at : place_in (map spot_of was.start.items) c.args.file c.args.page ≡ None =
    elim (put_cases was.spots.items c.hold.new.spots.items c.args.file c.args.page
    c.in-Some.place c.in-Some.ensures.held c.in-Some.ensures.place) [
      | inl there ↦ absurd (omega (
        arith,
        there.0,
        as_long,
        c.if-place-len.false,
        c.len.ensures,
        was.start.ok.0,
      ))
      | inr new ↦ ap (λ s. place_in s c.args.file c.args.page) (sym were) ∙ new.1
    ] in
    rw (← c.self.view_is) (same_image _ _ (λ f p. put-image was.start.items c.push.new.self.items
    was.log.items was.calls c.args.file c.args.page f p c.args.content.now empty (pushed
    ∙ ap (put_at was.start.items held) (sym at))))
