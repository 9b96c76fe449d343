-- Past the longest page of a file none is held.
use Rattle.std.proofs.Common.{◌≡◌, None, ◌∙◌, ap, All}
use Rattle.kv_disk.specs.Plain.{content_at}
use Rattle.kv_disk.specs.Replay.{place_in, length_in, SpotFits}
use Rattle.kv_disk.proofs.MemoryLemmas.{reads-now, spots-fit}
use Rattle.kv_disk.proofs.SpotLemmas.{length-absent}
use Rattle.kv_disk.proofs.memory.MemDisk.longest.Goals as goal

pub length_of-requires : goal.length_of-requires
length_of-requires c =
    let was = c.self.inside in
    let fit : All SpotFits was.spots.items =
    spots-fit was.start.items was.spots.items was.contents.items was.log.items
    c.self.invariant.replayed c.self.invariant.fits in
    rw c.deref.ensures.value fit

pub returns-clause-rest : goal.returns-clause-rest
returns-clause-rest c p le =
    let was = c.self.inside in
    let is : c.length_of.result ≡ length_in was.spots.items c.args.file =
    rw c.deref.ensures.value at c.length_of.ensures in
    let absent : place_in was.spots.items c.args.file p ≡ None =
    length-absent was.spots.items c.args.file p (rw is at le) in
    rw (← c.self.view_is) (reads-now was.start.items was.spots.items was.contents.items
    was.log.items was.calls was.call_room c.args.file p c.self.invariant.replayed
    c.self.invariant.counted ∙ ap (content_at was.contents.items) absent)
