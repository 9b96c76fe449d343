-- A page that isn't held reads as zeros.
use Rattle.std.proofs.Common.{◌≡◌, None, sym, ◌∙◌, ap}
use Rattle.kv_base.specs.Image.{zero_page}
use Rattle.kv_disk.specs.Plain.{content_at}
use Rattle.kv_disk.specs.Replay.{place_in}
use Rattle.kv_disk.proofs.MemoryLemmas.{reads-now}
use Rattle.kv_disk.proofs.memory.MemDisk.content.Goals as goal

pub returns-in-None : goal.returns-in-None
unfolding zero_page
returns-in-None c =
    let was = c.self.inside in
    let found = rw c.deref.ensures.value at c.find.ensures in
    let absent : place_in was.spots.items c.args.file c.args.page ≡ None = sym found
    ∙ c.in-None.is in
    rw (← c.self.view_is) (sym (reads-now was.start.items was.spots.items was.contents.items
    was.log.items was.calls was.call_room c.args.file c.args.page c.self.invariant.replayed
    c.self.invariant.counted ∙ ap (content_at was.contents.items) absent))
