-- The call is kept where there is room, and changes what is read of no page.
use Rattle.std.proofs.Common.{inl, inr, refl, arith}
use Rattle.kv_disk.specs.declared.call.Call.TheVariants.{Idle}
use Rattle.kv_disk.proofs.MemoryLemmas.{noted-counted, noted-replayed, noted-fits, no_write-fits}
use Rattle.kv_disk.proofs.memory.MemDisk.make.Goals as goal
use Rattle.kv_disk.proofs.memory.MemDisk.make.Goals.{then-len-self-via-then-len-self}
use Rattle.kv_disk.proofs.memory.MemDisk.make.Goals.{then-len-self-via-else-len-self+then-has}

pub invariant_of-self : goal.invariant_of-self
invariant_of-self c =
    let was = c.self.inside in
    let is = c.self.invariant in
    record {
      rooms = record {
        for_start = is.rooms.for_start;
        for_spots = is.rooms.for_spots;
        for_contents = is.rooms.for_contents;
        for_calls = omega (
          arith,
          is.rooms.for_calls,
          c.note.ensures.capacity,
        );
      };
      counted = rw c.saturating_add-self-inside.ensures (noted-counted was.log.items
          c.note.new.log.items was.call_room was.calls Idle c.note.ensures.items (omega arith)
          is.counted);
      replayed = noted-replayed was.start.items was.spots.items was.contents.items was.log.items
          c.note.new.log.items was.call_room Idle c.note.ensures.items tt is.replayed;
      fits = noted-fits was.start.items was.log.items c.note.new.log.items was.call_room Idle
          c.note.ensures.items tt is.fits;
    }

pub returns-then-len-self-clause-failed : goal.returns-then-len-self-clause-failed
returns-then-len-self-clause-failed c = (
  λ _. rw (← c.self.view_is) (elim c.then-len-self.branch [
    | then-len-self-via-then-len-self w ↦
        inl (omega (arith, w.if-len-self.true, c.len.ensures, c.self.inside.log.ok.0))
    | then-len-self-via-else-len-self+then-has w ↦
        inr (rw (← c.saturating_add-self-inside.ensures) (w.has.ensures.0 w.if-has.true))
  ]),
  λ _. refl,
)

pub invariant_of-self-2 : goal.invariant_of-self-2
invariant_of-self-2 c =
    let was = c.self.inside in
    let is = c.self.invariant in
    record {
      rooms = record {
        for_start = is.rooms.for_start;
        for_spots = is.rooms.for_spots;
        for_contents = is.rooms.for_contents;
        for_calls = omega (
          arith,
          is.rooms.for_calls,
          c.note-2.ensures.capacity,
        );
      };
      counted = rw c.saturating_add-self-inside.ensures (noted-counted was.log.items
          c.note-2.new.log.items was.call_room was.calls c.args.call c.note-2.ensures.items
          (omega arith) is.counted);
      replayed = noted-replayed was.start.items was.spots.items was.contents.items was.log.items
          c.note-2.new.log.items was.call_room c.args.call c.note-2.ensures.items c.requires
          is.replayed;
      fits = noted-fits was.start.items was.log.items c.note-2.new.log.items was.call_room
          c.args.call c.note-2.ensures.items (no_write-fits c.args.call c.requires) is.fits;
    }
