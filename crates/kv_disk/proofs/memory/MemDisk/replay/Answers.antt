-- The pages that are left are held with their contents, and no call is kept.
use Rattle.std.proofs.Common.{◌≡◌, ℕ, List, take, map, All, arith}
use Rattle.kv_disk.specs.declared.call.Spot.{Spot}
use Rattle.kv_disk.specs.declared.call.Call.{Call}
use Rattle.kv_disk.specs.Replay.{spots_in, settled_in, chosen_in, held_with, SpotFits}
use Rattle.kv_disk.proofs.MemoryLemmas.{crash-replayed, crash-fits, spots-fit_some}
use Rattle.kv_disk.proofs.memory.MemDisk.replay.Goals as goal

pub invariant_of-result : goal.invariant_of-result
invariant_of-result c =
    let was = c.self.inside in
    let log : List Call = take c.min.result was.log.items in
    let choose : Spot → List ℕ = λ s. chosen_in was.start.items log c.args.choice.now s.file
    s.page in
    let spots_are : c.in_ok-spots.spots.items ≡ spots_in was.start.items log =
    rw (c.deref-2.ensures.value, c.deref.ensures.value) at c.in_ok-spots.ensures.items in
    let settled : c.in_ok-start.start.items ≡ settled_in was.start.items log c.args.choice.now =
    rw (c.deref-5.ensures.value, c.deref.ensures.value) at c.in_ok-start.ensures.items in
    let pages_are : c.in_ok-start.start.items ≡ map (λ s. held_with s (choose s))
    c.in_ok-spots.spots.items = rw spots_are settled in
    let contents_are = rw (c.deref-8.ensures.value) at c.in_ok-contents.ensures.items in
    let fit : All SpotFits c.in_ok-spots.spots.items =
    rw spots_are (spots-fit_some was.start.items was.log.items c.min.result
    c.self.invariant.fits) in
    record {
      rooms = record {
        for_start = c.in_ok-start.ensures.capacity;
        for_spots = c.in_ok-spots.ensures.capacity;
        for_contents = c.in_ok-contents.ensures.capacity;
        for_calls = omega (
          arith,
          c.in_ok-with_capacity.ensures.exact,
        );
      };
      counted = rw c.in_ok-with_capacity.ensures.items (omega arith);
      replayed = crash-replayed choose c.in_ok-start.start.items c.in_ok-spots.spots.items
          c.in_ok-contents.contents.items c.in_ok-with_capacity.field-0.items pages_are contents_are
          c.in_ok-with_capacity.ensures.items;
      fits = crash-fits choose c.in_ok-start.start.items c.in_ok-spots.spots.items
          c.in_ok-with_capacity.field-0.items pages_are c.in_ok-with_capacity.ensures.items fit;
    }
